use Rattle.std.proofs.Common.{◌≡◌, ℕ, List, [], ◌+◌, ◌≤◌, length}
use Rattle.std.specs.Io.KnownBytes.{Consumes}
use Rattle.cics_run.specs.Session.Standing.{Stands}
use Rattle.cics_run.specs.Session.Streams.{Rises}
use Rattle.cics_run.specs.declared.session.running.TheConstants.{MOST_SCRIPT_BYTES, CHUNK}
use Rattle.cics_run.specs.Session.Wanted.{form_of}
use Rattle.cics_run.proofs.session.running.run_over.Given as goal

abbrev pub invariant-reads : goal.invariant-reads
invariant-reads g l = (bytes : List ℕ) × Consumes (g.S.Source.remaining l.fn.source) (g.S.Source.remaining l.source) bytes
    × Stands (form_of l.fn.wanted) bytes (g.K.Sink.contents l.fn.sink) (g.K.Sink.contents l.sink) l.session × (l.session.journal.text.items ≡ [])
    × (((reads : ℕ) × Rises (g.S.Source.asked l.fn.source) (g.S.Source.asked l.source) reads × (reads ≤ length bytes))
    × Rises (g.S.Source.failed l.fn.source) (g.S.Source.failed l.source) 0
    × Rises (g.K.Sink.failed l.fn.sink) (g.K.Sink.failed l.sink) 0)
    × (length bytes + l.room ≡ MOST_SCRIPT_BYTES) × (length l.buffer ≡ CHUNK)

abbrev pub decreases-reads : goal.decreases-reads
decreases-reads g l = l.room
