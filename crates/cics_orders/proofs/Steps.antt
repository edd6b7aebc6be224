-- A lane gives its next line.
use Rattle.std.proofs.Common.{◌≡◌, ◌<◌, ℕ, length, Option, None, Some, Result, refl, ap}
use Rattle.std.specs.Prelude.{slice_get, option_map, option_and_then}
use Rattle.std.proofs.lemmas.Option.{slice_get_within}
use Rattle.cics_script.specs.Lines.{line}
use Rattle.cics_script.specs.declared.lines.Line.{Line}
use Rattle.cics_script.specs.declared.faults.LineFault.{LineFault}
use Rattle.cics_orders.specs.Plans.Taking.{NumberedLine}
use Rattle.cics_orders.specs.Giving.{State, said_at, next_said, asked, after_asked, counted, given_line, given_by, given}
use Rattle.cics_orders.specs.declared.lanes.Lane.{Lane}

-- a lane without a line left gives none
pub gives_none : (s : State) (l : ℕ) → next_said s.lanes l ≡ None → given s l ≡ s
unfolding given
gives_none s l none = by (slice_get s.lanes l) none
  where
    more : (x : Lane) (o : Option NumberedLine) → option_map (λ next. line next.1) o ≡ None → given_line s l x o ≡ s
    more x None none = refl
    more x (Some next) none = cc

    by : (o : Option Lane) → option_and_then (λ lane. said_at lane.lines lane.given) o ≡ None → given_by s l o ≡ s
    by None none = refl
    by (Some x) none = more x (slice_get x.lines x.given) none

-- a lane with a line left gives it
pub gives : (s : State) (l : ℕ) (says : Result Line LineFault) → next_said s.lanes l ≡ Some says →
    (lane : Lane) × (slice_get s.lanes l ≡ Some lane) × (lane.given < length lane.lines) × (given s l ≡ after_asked (counted s l lane) (asked says))
unfolding given
gives s l says is = by (slice_get s.lanes l) refl is
  where
    more : (x : Lane) (o : Option NumberedLine) → slice_get x.lines x.given ≡ o → option_map (λ next. line next.1) o ≡ Some says →
        (x.given < length x.lines) × (given_line s l x o ≡ after_asked (counted s l x) (asked says))
    more x None at is = cc
    more x (Some next) at is =
        let same : line next.1 ≡ says = cc in
        (slice_get_within x.lines x.given next at, ap (λ r. after_asked (counted s l x) (asked r)) same)

    by : (o : Option Lane) → slice_get s.lanes l ≡ o → option_and_then (λ lane. said_at lane.lines lane.given) o ≡ Some says →
        (lane : Lane) × (o ≡ Some lane) × (lane.given < length lane.lines) × (given_by s l o ≡ after_asked (counted s l lane) (asked says))
    by None at is = cc
    by (Some x) at is = let found = more x (slice_get x.lines x.given) refl is in (x, refl, found.0, found.1)
