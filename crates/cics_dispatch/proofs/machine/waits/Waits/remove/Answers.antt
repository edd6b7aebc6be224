use Rattle.std.proofs.Common.{◌≡◌, Some, None, ◌∙◌, ap, sym, subst, refl}
use Rattle.std.specs.Map.{values_of}
use Rattle.cics_names.specs.KeyedLaws.{pointwise-is_same}
use Rattle.cics_dispatch.specs.Machine.Machine.{not_waiting}
use Rattle.cics_dispatch.specs.Machine.Waits.{wait_number, AreNumbered}
use Rattle.cics_dispatch.proofs.OfMachine.WaitTable.{looked_up, led_anew, wait_of-lookup, wait_of-some, removed, removed-kept, removed-none}
use Rattle.cics_dispatch.proofs.machine.waits.Waits.remove.Goals as goal

pub returns-in_default : goal.returns-in_default
returns-in_default c =
    let es = c.self.inside.rows.entries in
    let label = c.args.label.now in
    let none : wait_number es label ≡ None = sym (looked_up _ pointwise-is_same label es c.self.inside.numbers.entries c.self.invariant) ∙ sym c.in_default.ensures.value in
    sym (removed-none es label none) ∙ ap (λ ws. not_waiting ws label) c.self.view_is

pub unreachable-requires : goal.unreachable-requires
unreachable-requires c =
    let es = c.self.inside.rows.entries in
    let numbers = c.self.inside.numbers.entries in
    let label = c.args.label.now in
    let found : wait_number es label ≡ Some c.in-Some.number = sym (looked_up _ pointwise-is_same label es numbers c.self.invariant) ∙ sym c.in-Some.ensures.value in
    wait_of-some es label c.in-Some.number found (sym (wait_of-lookup es label c.in-Some.number c.self.invariant.rising found) ∙ sym c.in_default-remove.ensures.value)

pub invariant_of-self-2 : goal.invariant_of-self-2
invariant_of-self-2 c =
    let es = c.self.inside.rows.entries in
    let numbers = c.self.inside.numbers.entries in
    let label = c.args.label.now in
    let found : wait_number es label ≡ Some c.in-Some.number = sym (looked_up _ pointwise-is_same label es numbers c.self.invariant) ∙ sym c.in-Some.ensures.value in
    subst (λ rows. AreNumbered rows c.swap_remove.new.self.entries) (sym c.in-Some-remove.ensures.entries)
    (removed-kept label c.in-Some.number es numbers c.swap_remove.new.self.entries c.self.invariant found
    (led_anew _ pointwise-is_same label None numbers numbers c.swap_remove.new.self.entries refl c.in-Some.ensures.updates.0))

pub returns : goal.returns
returns c =
    let es = c.self.inside.rows.entries in
    let numbers = c.self.inside.numbers.entries in
    let label = c.args.label.now in
    let found : wait_number es label ≡ Some c.in-Some.number = sym (looked_up _ pointwise-is_same label es numbers c.self.invariant) ∙ sym c.in-Some.ensures.value in
    ap values_of c.in-Some-remove.ensures.entries
    ∙ removed label c.in-Some.number es numbers c.swap_remove.new.self.entries c.self.invariant found
    (led_anew _ pointwise-is_same label None numbers numbers c.swap_remove.new.self.entries refl c.in-Some.ensures.updates.0)
    ∙ ap (λ ws. not_waiting ws label) c.self.view_is
