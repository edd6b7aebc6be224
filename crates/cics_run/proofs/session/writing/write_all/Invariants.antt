use Rattle.std.proofs.Common.{◌≤◌, ◌-◌, length, take}
use Rattle.std.specs.Io.KnownBytes.{Appends}
use Rattle.cics_run.specs.Session.Streams.{Rises}
use Rattle.cics_run.proofs.session.writing.write_all.Given as goal

abbrev pub invariant-loop-at : goal.invariant-loop-at
invariant-loop-at g l = (l.at ≤ length l.bytes) × Appends (g.K.Sink.contents l.fn.sink) (g.K.Sink.contents l.sink) (take l.at l.bytes)
    × Rises (g.K.Sink.failed l.fn.sink) (g.K.Sink.failed l.sink) 0

abbrev pub decreases-loop-at : goal.decreases-loop-at
decreases-loop-at g l = length l.bytes - l.at
