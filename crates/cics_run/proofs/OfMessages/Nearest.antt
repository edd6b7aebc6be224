-- The first near one of some names is one before the last, or else the last.
use Rattle.std.proofs.Common.{◌≡◌, ℕ, Bool, true, if◌then◌else◌, Option, Some, None, ◌∷◌, [], ◌++◌, ap, sym, ◌∙◌}
use Rattle.std.proofs.lemmas.List.Sums.{fold-append}
use Rattle.cics_names.specs.Keyed.{Bytes, Map}
use Rattle.cics_run.specs.Messages.Nearest.{is_near, or_near, first_near}

near-step : {X : Type 0} (places : ℕ) (name : Bytes) (names : Map X) (e : Bytes × X)
    → first_near places name (names ++ e ∷ []) ≡ or_near places name (first_near places name names) e
near-step places name names e = fold-append (or_near places name) None names (e ∷ [])

-- the last one, if none before it is near
pub near-found : {X : Type 0} (places : ℕ) (name : Bytes) (names : Map X) (e : Bytes × X) (nearest : Option Bytes) → nearest ≡ first_near places name names
    → nearest ≡ None → is_near places name e.0 ≡ true → Some e.0 ≡ first_near places name (names ++ e ∷ [])
near-found places name names e nearest at none near =
    sym (near-step places name names e ∙ ap (λ found. or_near places name found e) (sym at ∙ none) ∙ ap (λ (b : Bool). if b then Some e.0 else None) near)
