use Rattle.std.proofs.Common.{◌∙◌, ◌<◌, ◌≤◌, sym, ap, subst, Some}
use Rattle.std.specs.Prelude.{option_map}
use Rattle.std.proofs.lemmas.Option.{slice_get_past}
use Rattle.cics_dispatch.specs.Machine.Blockers.{label_at}
use Rattle.cics_dispatch.specs.Machine.Machine.{Task}
use Rattle.cics_dispatch.proofs.dispatcher.Dispatcher.label_at.Goals as goal

pub get-requires : goal.get-requires
get-requires c = subst (λ n. c.args.number < n) c.len.ensures.length c.if-number-len.true

pub returns-then-number-len : goal.returns-then-number-len
returns-then-number-len c =
    ap Some c.label.ensures ∙ ap (option_map (λ (t : Task). t.label)) (sym c.get.ensures) ∙ ap (λ v. label_at v.machine.tasks c.args.number) c.self.view_is

pub returns-else-number-len : goal.returns-else-number-len
returns-else-number-len c =
    let past = slice_get_past c.self.inside.tasks c.args.number (subst (λ n. n ≤ c.args.number) c.len.ensures.length c.if-number-len.false) in
    ap (option_map (λ (t : Task). t.label)) (sym past) ∙ ap (λ v. label_at v.machine.tasks c.args.number) c.self.view_is
