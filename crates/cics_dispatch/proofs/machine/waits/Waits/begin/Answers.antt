use Rattle.std.proofs.Common.{Some, ◌∙◌, ◌++◌, ◌∷◌, [], ap, sym, subst}
use Rattle.std.specs.HashMap.{spare}
use Rattle.cics_names.specs.KeyedLaws.{pointwise-is_same}
use Rattle.cics_dispatch.specs.Machine.Machine.{is_waiting}
use Rattle.cics_dispatch.specs.Machine.Waits.{AreNumbered}
use Rattle.cics_dispatch.specs.declared.machine.waits.Wait.{Wait}
use Rattle.cics_dispatch.proofs.OfMachine.WaitTable.{pushed, led_anew, made_room}
use Rattle.cics_dispatch.proofs.machine.waits.Waits.begin.Goals as goal

pub invariant_of-self-2 : goal.invariant_of-self-2
invariant_of-self-2 c =
    let es = c.self.inside.rows.entries in
    let updated = made_room (spare c.reserve.new.self) c.reserve.result c.insert.result (sym c.is_err.ensures.value ∙ c.if-is_err.false) c.reserve.ensures.ok c.insert.ensures.succeeds c.insert.ensures.updates in
    subst (λ rows. AreNumbered rows c.insert.new.self.entries) (sym c.in_ok-add.ensures.ok)
    (subst (λ (w : Wait). AreNumbered (es ++ (c.in-Some.number, record { label = w.label; command = w.command; op = w.op; since = w.since }) ∷ []) c.insert.new.self.entries) (sym c.in_ok-wait.ensures.ok)
    (pushed c.in-Some.number (record { label = c.args.label; command = c.args.command; op = c.args.op; since = c.args.since }) es c.self.inside.numbers.entries c.insert.new.self.entries c.self.invariant
    (ap (λ ws. is_waiting ws c.args.label) c.self.view_is ∙ c.requires) c.in-Some.ensures
    (led_anew _ pointwise-is_same c.args.label (Some c.in-Some.number) c.self.inside.numbers.entries c.reserve.new.self.entries c.insert.new.self.entries c.reserve.ensures.entries updated.0)))
