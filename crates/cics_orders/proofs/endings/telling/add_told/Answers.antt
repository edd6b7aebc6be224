use Rattle.std.proofs.Common.{arith, ◌≡◌, ◌≤◌, ◌∙◌, ℕ, zero, suc, min, List, [], ◌∷◌, ◌++◌, length, drop, refl, ap, sym, append-nil}
use Rattle.cics_names.specs.Keyed.{Bytes}
use Rattle.cics_dispatch.specs.declared.machine.outcomes.Outcome.{Outcome}
use Rattle.cics_orders.specs.Plans.Taking.{NumberedLine}
use Rattle.cics_orders.specs.Endings.Telling.{told_parts}
use Rattle.cics_orders.proofs.endings.telling.add_told.Goals as goal

-- nothing is told of lines that were not answered
none_told : (label : Bytes) (lines : List NumberedLine) → told_parts label lines [] ≡ []
none_told label [] = refl
none_told label (x ∷ lines) = refl

-- behind the last line that was answered nothing is told
told_end : (label : Bytes) (lines : List NumberedLine) (told : List Outcome) (i : ℕ) → min (length lines) (length told) ≤ i → told_parts label (drop i lines) (drop i told) ≡ []
told_end label [] told zero far = refl
told_end label [] told (suc i) far = refl
told_end label (x ∷ lines) [] zero far = refl
told_end label (x ∷ lines) [] (suc i) far = none_told label (drop i lines)
told_end label (x ∷ lines) (o ∷ told) zero far = absurd (omega (arith, far))
told_end label (x ∷ lines) (o ∷ told) (suc i) far = told_end label lines told i (omega (arith, far))

pub returns : goal.returns
returns c =
    let label = c.args.label.now in
    let lines = c.as_slice-lines.result.now in
    let told = c.as_slice-told.result.now in
    let old = c.args.parts.now in
    let end = told_end label lines told c.loop-i.i (omega (arith, c.loop-i-test.false, c.min-i-end.ensures)) in
    sym (append-nil c.loop-i.parts) ∙ ap (λ r. c.loop-i.parts ++ r) (sym end) ∙ c.loop-i.invariant
    ∙ ap (λ x. old ++ told_parts label x told) c.as_slice-lines.ensures ∙ ap (λ x. old ++ told_parts label c.args.lane.now.lines x) c.as_slice-told.ensures
