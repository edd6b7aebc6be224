use Rattle.std.proofs.Common.{◌∙◌, ◌≡◌, ap, sym, subst, is_some, ℕ, List, [], ◌∷◌, length, false, refl, arith}
use Rattle.std.specs.Map.{values_of}
use Rattle.cics_names.specs.Keyed.{Bytes}
use Rattle.cics_names.specs.KeyedLaws.{pointwise-is_same}
use Rattle.cics_dispatch.specs.Machine.Machine.{is_waiting, Suspended}
use Rattle.cics_dispatch.specs.Machine.Waits.{AreApart}
use Rattle.cics_dispatch.proofs.OfMachine.Looks.{apart_rows}
use Rattle.cics_dispatch.proofs.OfMachine.WaitTable.{looked_up, is_waiting-number}
use Rattle.cics_dispatch.proofs.machine.waits.Waits.is_waiting.Goals as goal

-- if none waits, none of a label does
none_waits : (es : List (ℕ × Suspended)) (label : Bytes) → length es ≡ 0 → false ≡ is_waiting (values_of es) label
none_waits [] label none = refl
none_waits (e ∷ es) label none = absurd (omega arith)

pub returns-then-len-eq0-clause-waiting : goal.returns-then-len-eq0-clause-waiting
returns-then-len-eq0-clause-waiting c =
    none_waits c.self.inside.rows.entries c.args.label.now (sym c.len.ensures.len ∙ c.if-len-eq0.true)
    ∙ ap (λ ws. is_waiting ws c.args.label.now) c.self.view_is

pub returns-then-len-eq0-clause-once : goal.returns-then-len-eq0-clause-once
returns-then-len-eq0-clause-once c = subst AreApart c.self.view_is (apart_rows c.self.inside.rows.entries c.self.invariant.once)

pub returns-clause-waiting : goal.returns-clause-waiting
returns-clause-waiting c =
    let es = c.self.inside.rows.entries in
    let label = c.args.label.now in
    c.contains_key.ensures ∙ ap is_some (looked_up _ pointwise-is_same label es c.self.inside.numbers.entries c.self.invariant)
    ∙ sym (is_waiting-number es label) ∙ ap (λ ws. is_waiting ws label) c.self.view_is

pub returns-clause-once : goal.returns-clause-once
returns-clause-once c = subst AreApart c.self.view_is (apart_rows c.self.inside.rows.entries c.self.invariant.once)
