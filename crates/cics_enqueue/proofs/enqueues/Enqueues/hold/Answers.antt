use Rattle.std.proofs.Common.{◌∙◌, ap}
use Rattle.std.specs.Prelude.{is_some, if◌then◌else◌}
use Rattle.cics_enqueue.specs.Table.{held_at, taken}
use Rattle.cics_enqueue.proofs.Tables.{own_key, read_back, hold_taken, hold_undone}
use Rattle.cics_enqueue.proofs.enqueues.Enqueues.hold.Goals as goal

pub take_free-held-requires : goal.take_free-held-requires
take_free-held-requires c = record { key = own_key c.args.resource.now c.set_resource.new.key c.in_ok-set_resource.ensures.set }

pub returns-clause-taken : goal.returns-clause-taken
returns-clause-taken c =
    let t = c.args.self.now in
    let o = c.in_ok-held.field-0 in
    let back = read_back c.args.resource.now c.set_resource.new.key c.in_ok-set_resource.ensures.set in
    hold_taken t c.take_free-held.new.self c.args.resource.now c.args.unit o c.take_free-held.ensures.in_order c.requires.free c.requires.plain
    (c.in_ok-held.ensures.held ∙ ap (λ q. held_at q t) back) (c.in_ok-held.ensures.table ∙ ap (λ q. if is_some o then t else taken t q c.args.unit) back)

-- what was free is so again
pub returns-clause-undone : goal.returns-clause-undone
returns-clause-undone c =
    let t = c.args.self.now in
    let o = c.in_ok-held.field-0 in
    let back = read_back c.args.resource.now c.set_resource.new.key c.in_ok-set_resource.ensures.set in
    hold_undone t c.take_free-held.new.self c.args.resource.now c.args.unit o c.is_none.result c.take_free-held.ensures.in_order
    (c.in_ok-held.ensures.held ∙ ap (λ q. held_at q t) back) (c.in_ok-held.ensures.table ∙ ap (λ q. if is_some o then t else taken t q c.args.unit) back) c.is_none.ensures
