-- How the units stand, after one begins and after one ends.
use Rattle.std.proofs.Common.{◌≡◌, ◌≢◌, ℕ, Option, Some, None, List, [], ◌∷◌, ◌++◌, refl, sym, ◌∙◌, suc, zero}
use Rattle.std.specs.Prelude.{slice_set}
use Rattle.std.proofs.lemmas.Option.{unwrap_or-slice_get}
use Rattle.std.proofs.lemmas.List.{get_or-set_other}
use Rattle.cics_history.specs.Headline.{outcome_of}
use Rattle.cics_history.specs.Execution.{outcomes_with}
use Rattle.cics_history.specs.Isolation.{Outcomes}
use Rattle.cics_history.specs.declared.ops.UnitState.{UnitState}
use Rattle.cics_history.specs.declared.ops.UnitState.TheVariants.{Open}

-- a unit that begins changes no outcome
pub outcome_of-push : (outs : List UnitState) (n : ℕ) → outcome_of (outs ++ Open ∷ []) n ≡ outcome_of outs n
outcome_of-push [] zero = refl
outcome_of-push [] (suc n) = refl
outcome_of-push (x ∷ outs) zero = refl
outcome_of-push (x ∷ outs) (suc n) = outcome_of-push outs n

pub outcome_of-with : (u : Option ℕ) (outs : List UnitState) (n : ℕ) →
    outcome_of (outcomes_with u outs) n ≡ outcome_of outs n
outcome_of-with None outs n = outcome_of-push outs n
outcome_of-with (Some u) outs n = refl

-- outcomes that are alike of each unit are the same
pub same_function : (f g : Outcomes) → ((n : ℕ) → f n ≡ g n) → f ≡ g
same_function f g h = λ i n. h n i

-- so the outcomes stay where one begins, or none
pub same_outcomes : (u : Option ℕ) (outs : List UnitState) →
    outcome_of outs ≡ outcome_of (outcomes_with u outs)
same_outcomes u outs =
    same_function (outcome_of outs) (outcome_of (outcomes_with u outs))
    (λ n. sym (outcome_of-with u outs n))

-- and one that ends changes no other
pub outcome_of-set : (outs : List UnitState) (u n : ℕ) (oc : UnitState) → n ≢ u →
    outcome_of (slice_set outs u oc) n ≡ outcome_of outs n
outcome_of-set outs u n oc other =
    unwrap_or-slice_get (slice_set outs u oc) n Open
    ∙ (get_or-set_other outs u n oc Open other ∙ sym (unwrap_or-slice_get outs n Open))
