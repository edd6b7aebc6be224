-- A change without a lost update is up to date.
use Rattle.std.proofs.Common.{◌≡◌, ◌≤◌, true, Some, List, [], length, get_or, ap, subst, arith}
use Rattle.std.specs.List.{Contains, flat_map}
use Rattle.std.proofs.lemmas.Grind.{common_steps}
use Rattle.std.proofs.lemmas.List.Folds.{length-flat_map-take}
use Rattle.cics_run.specs.declared.reads.found.Lost.{Lost}
use Rattle.cics_run.specs.declared.reads.steps.Cell.{Cell}
use Rattle.cics_run.specs.declared.reads.steps.Step.{Step}
use Rattle.cics_run.specs.Reads.Steps.{cells_of, is_view}
use Rattle.cics_run.specs.Reads.Past.{mark_of}
use Rattle.cics_run.specs.Reads.Findings.{replaced, replaced_at}
use Rattle.cics_run.specs.Reads.Laws.{KnowsWhatItReplaces}

-- what one cell adds to a list without elements
none_at : (f : Cell → List Lost) (xs : List Cell) (x : Cell) → flat_map f xs ≡ [] → Contains xs x → length (f x) ≡ 0
none_at f xs x none (k, below, is) =
    let most : length (f (get_or xs k x)) ≤ length (flat_map f xs) = omega (arith, length-flat_map-take f xs k x below)
    in let here : length (f x) ≤ length (flat_map f xs) = subst (λ (y : Cell). length (f y) ≤ length (flat_map f xs)) is most
    in omega (arith, ap length none)

-- a look before the last change is told
told_if : (d r c : Step) → is_view r.act ≡ true → length (replaced d (Some r) (Some (mark_of c))) ≡ 0 → c.moment.at ≤ r.moment.at
told_if d r c view none = grind (arith, common_steps)

pub knows_what_it_replaces : KnowsWhatItReplaces
knows_what_it_replaces run d adds none x r c among looked view changed =
    let all : flat_map (replaced_at run d) (cells_of d) ≡ [] = rw adds at none
    in let here : length (replaced_at run d x) ≡ 0 = none_at (replaced_at run d) (cells_of d) x all among
    in told_if d r c view (rw (looked, changed) at here)
