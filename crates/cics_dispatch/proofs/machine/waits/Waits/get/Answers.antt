use Rattle.std.proofs.Common.{◌∙◌, ap, sym, subst}
use Rattle.std.specs.Option.{option_copied}
use Rattle.cics_names.specs.KeyedLaws.{pointwise-is_same}
use Rattle.cics_dispatch.specs.Machine.Waits.{wait_of, AreApart}
use Rattle.cics_dispatch.proofs.OfMachine.WaitTable.{looked_up, wait_of-none, wait_of-lookup}
use Rattle.cics_dispatch.proofs.OfMachine.Looks.{apart_rows}
use Rattle.cics_dispatch.proofs.machine.waits.Waits.get.Goals as goal

pub returns-in_err-number-clause-wait : goal.returns-in_err-number-clause-wait
returns-in_err-number-clause-wait c =
    let es = c.self.inside.rows.entries in
    let label = c.args.label.now in
    ap option_copied c.from_residual.ensures
    ∙ sym (wait_of-none es label (sym (looked_up _ pointwise-is_same label es c.self.inside.numbers.entries c.self.invariant) ∙ sym c.in_err-number.ensures.value))
    ∙ ap (λ ws. wait_of ws label) c.self.view_is

pub returns-in_err-number-clause-once : goal.returns-in_err-number-clause-once
returns-in_err-number-clause-once c = subst AreApart c.self.view_is (apart_rows c.self.inside.rows.entries c.self.invariant.once)

pub returns-clause-wait : goal.returns-clause-wait
returns-clause-wait c =
    let es = c.self.inside.rows.entries in
    let label = c.args.label.now in
    c.get-2.ensures.value
    ∙ wait_of-lookup es label c.in_ok-number.number.now c.self.invariant.rising (sym (looked_up _ pointwise-is_same label es c.self.inside.numbers.entries c.self.invariant) ∙ sym c.in_ok-number.ensures.value)
    ∙ ap (λ ws. wait_of ws label) c.self.view_is

pub returns-clause-once : goal.returns-clause-once
returns-clause-once c = subst AreApart c.self.view_is (apart_rows c.self.inside.rows.entries c.self.invariant.once)
