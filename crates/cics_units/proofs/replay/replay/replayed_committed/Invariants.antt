use Rattle.std.proofs.Common.{◌≡◌, [], take}
use Rattle.cics_history.specs.Headline.{outcome_of}
use Rattle.cics_history.specs.Isolation.{store_by}
use Rattle.cics_history.specs.Serial.{are_backed_out_but}
use Rattle.cics_units.proofs.replay.replay.replayed_committed.Given as goal

-- the entries that were passed are replayed
abbrev pub invariant-loop-entry : goal.invariant-loop-entry
invariant-loop-entry l = l.store ≡ store_by l.opening (are_backed_out_but [] (outcome_of l.outcomes)) (take l.entry-index l.trace)
