use Rattle.std.proofs.Common.{◌≡◌, ◌++◌, ◌+◌, ◌≤◌, ℕ, List, Option, length}
use Rattle.cics_run.specs.Session.Running.{Form}
use Rattle.cics_run.specs.Session.Standing.{Stands}
use Rattle.cics_run.specs.Session.Streams.{Rises}
use Rattle.cics_run.proofs.session.session.Session.feed.Given as goal

-- some bytes came before the rest, and the session stands behind them
abbrev pub invariant-lines : goal.invariant-lines
invariant-lines g l = (done : List ℕ) × (done ++ l.rest ≡ l.chunk)
    × (l.self.number + length l.rest ≤ l.fn.self.number + length l.chunk)
    × Rises (g.K.Sink.failed l.fn.sink) (g.K.Sink.failed l.sink) 0
    × ((form : Form) (bytes : List ℕ) (before : Option (List ℕ)) → Stands form bytes before (g.K.Sink.contents l.fn.sink) l.fn.self
    → Stands form (bytes ++ done) before (g.K.Sink.contents l.sink) l.self)

abbrev pub decreases-lines : goal.decreases-lines
decreases-lines g l = length l.rest
