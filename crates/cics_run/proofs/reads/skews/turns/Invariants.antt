use Rattle.std.proofs.Common.{◌≡◌, take, reverse}
use Rattle.std.specs.Prelude.{map}
use Rattle.std.specs.List.{filter}
use Rattle.cics_run.specs.Reads.Skews.{turn_at, begins}
use Rattle.cics_run.proofs.reads.skews.turns.Given as goal

abbrev pub invariant-loop-step : goal.invariant-loop-step
invariant-loop-step l = l.found ≡ map (λ s. turn_at l.past s.moment) (filter begins (take l.step-index (reverse l.past)))
