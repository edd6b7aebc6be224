use Rattle.std.proofs.Common.{◌∙◌, ap}
use Rattle.cics_enqueue.specs.Table.{given_back}
use Rattle.cics_enqueue.proofs.Tables.{own_key, read_back}
use Rattle.cics_enqueue.proofs.enqueues.Enqueues.let_go.Goals as goal
use Rattle.cics_enqueue.proofs.enqueues.Enqueues.let_go.Goals.{in-Ok, in-Err}

pub let_go_key-requires : goal.let_go_key-requires
let_go_key-requires c = record { key = own_key c.args.resource.now c.set_resource.new.key c.in-Ok.ensures.set }

pub returns : goal.returns
returns c = elim c.match-set_resource.branch [
  | in-Ok w ↦ w.self-is ∙ w.let_go_key.ensures ∙ ap (λ q. given_back c.args.self.now q c.args.unit) (read_back c.args.resource.now c.set_resource.new.key w.in-Ok.ensures.set)
  | in-Err w ↦ w.self-is ∙ w.let_go_keyless.ensures
]
