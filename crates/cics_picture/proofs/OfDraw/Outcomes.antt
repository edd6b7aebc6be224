-- The fill of a bar tells the outcome of its unit.
use Rattle.std.proofs.Common.{◌≡◌, ℕ, List, map, refl, ap, sym, ◌∙◌, arith, get_or, Option, Some, None}
use Rattle.std.proofs.lemmas.Option.{slice_get-map}
use Rattle.std.specs.Prelude.{◌↔◌, option_map, unwrap_or, slice_get}
use Rattle.cics_history.specs.Headline.{outcome_of}
use Rattle.cics_history.specs.declared.ops.UnitState.{UnitState}
use Rattle.cics_history.specs.declared.ops.UnitState.TheVariants.{Open, Committed, BackedOut}
use Rattle.cics_picture.specs.declared.bars.Bar.{Bar}
use Rattle.cics_picture.specs.declared.bars.Fill.TheVariants.{Open as OpenFill}
use Rattle.cics_picture.specs.Elements.{field}
use Rattle.cics_picture.specs.Bars.{fill_of as fill_among, fill_class, bar_of, bar_text, filled, hollow}
use Rattle.cics_picture.specs.Draw.Standings.{fill_of}

-- the last letter of the class of a bar's text
abbrev letter : List ℕ → ℕ
letter text = get_or text 14 0

filled-by : (s : UnitState) (b : Bar) → (bar_of (fill_class (fill_of s)) b ≡ filled b) ↔ (s ≡ Committed)
unfolding field
filled-by Committed b = (λ e. refl, λ e. refl)
filled-by Open b = (λ e. let other : 111 ≡ 102 = ap letter e in absurd (omega arith), λ e. cc)
filled-by BackedOut b = (λ e. let other : 104 ≡ 102 = ap letter e in absurd (omega arith), λ e. cc)

hollow-by : (s : UnitState) (b : Bar) → (bar_of (fill_class (fill_of s)) b ≡ hollow b) ↔ (s ≡ BackedOut)
unfolding field
hollow-by BackedOut b = (λ e. refl, λ e. refl)
hollow-by Open b = (λ e. let other : 111 ≡ 104 = ap letter e in absurd (omega arith), λ e. cc)
hollow-by Committed b = (λ e. let other : 102 ≡ 104 = ap letter e in absurd (omega arith), λ e. cc)

-- a unit's bar is filled by its outcome
by-outcome : (outcomes : List UnitState) (unit : ℕ) → fill_among (map fill_of outcomes) unit ≡ fill_of (outcome_of outcomes unit)
by-outcome outcomes unit = ap (λ o. unwrap_or o OpenFill) (slice_get-map fill_of outcomes unit) ∙ either (slice_get outcomes unit)
  where
    either : (o : Option UnitState) → unwrap_or (option_map fill_of o) OpenFill ≡ fill_of (unwrap_or o Open)
    either None = refl
    either (Some s) = refl

module _ (outcomes : List UnitState) (b : Bar) where
  same : bar_text (map fill_of outcomes) b ≡ bar_of (fill_class (fill_of (outcome_of outcomes b.unit))) b
  same = ap (λ fill. bar_of (fill_class fill) b) (by-outcome outcomes b.unit)

  pub filled-told : (bar_text (map fill_of outcomes) b ≡ filled b) ↔ (outcome_of outcomes b.unit ≡ Committed)
  filled-told = let by = filled-by (outcome_of outcomes b.unit) b in (λ e. by.0 (sym same ∙ e), λ e. same ∙ by.1 e)

  pub hollow-told : (bar_text (map fill_of outcomes) b ≡ hollow b) ↔ (outcome_of outcomes b.unit ≡ BackedOut)
  hollow-told = let by = hollow-by (outcome_of outcomes b.unit) b in (λ e. by.0 (sym same ∙ e), λ e. same ∙ by.1 e)
