use Rattle.std.proofs.Common.{◌≡◌, ◌+◌, length}
use Rattle.std.specs.Io.KnownBytes.{Consumes}
use Rattle.cics_run.specs.Session.Streams.{Rises, RisesAtMost}
use Rattle.cics_run.specs.declared.session.running.TheConstants.{MOST_SCRIPT_BYTES, CHUNK}
use Rattle.cics_run.proofs.reading.scripts.read_script.Given as goal

abbrev pub invariant-reads : goal.invariant-reads
invariant-reads g l = Consumes (g.S.Source.remaining l.fn.source) (g.S.Source.remaining l.source) l.script.items
    × (length l.script.items + l.room ≡ MOST_SCRIPT_BYTES) × (length l.buffer ≡ CHUNK)
    × RisesAtMost (g.S.Source.asked l.fn.source) (g.S.Source.asked l.source) (length l.script.items)
    × Rises (g.S.Source.failed l.fn.source) (g.S.Source.failed l.source) 0

abbrev pub decreases-reads : goal.decreases-reads
decreases-reads g l = l.room
