use Rattle.std.proofs.Common.{◌≡◌, take}
use Rattle.cics_history.specs.Headline.{kept, replay}
use Rattle.cics_history.specs.State.{initial_store}
use Rattle.cics_units.proofs.replay.replay.replayed.Given as goal

-- the entries that were passed are replayed
abbrev pub invariant-loop-entry : goal.invariant-loop-entry
invariant-loop-entry l = l.store ≡ replay (initial_store l.opening) (kept l.opening (take l.entry-index l.trace) l.outcomes)
