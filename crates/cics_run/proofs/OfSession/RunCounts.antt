-- What is counted of the reads and writes of a run, at its answers.
use Rattle.std.proofs.Common.{◌≡◌, ℕ, ◌+◌, ◌≤◌, arith, Option}
use Rattle.std.specs.Prelude.{Result, Ok, Err}
use Rattle.cics_run.specs.Session.Streams.{Rises, RisesAtMost, failures}
use Rattle.cics_run.specs.Session.Printing.{stopped_writes}
use Rattle.cics_run.specs.Session.Running.{read_failures, write_failures}
use Rattle.cics_run.specs.Session.Standing.{fault_of, ended}
use Rattle.cics_run.specs.declared.session.running.Status.{Status}
use Rattle.cics_run.specs.declared.session.writing.Stop.{Stop}
use Rattle.cics_run.specs.declared.session.writing.Stop.TheVariants as stops
use Rattle.cics_run.proofs.OfSession.Counting.{rises-first, rises-rises, rises-within}

-- a read more, of which each before gave a byte
pub asked-within : (a b c : Option ℕ) (reads count room : ℕ) → Rises a b reads → reads ≤ count → count + room ≡ 16777216 → Rises b c 1 → RisesAtMost a c 16777217
asked-within a b c reads count room p few whole q = rises-within a c (reads + 1) 16777217 (rises-rises a b c reads 1 p q) (omega (arith, few, whole))

-- a run that printing stopped: no read failed, and of the writes the last, if that is why
pub stop-reads : (a b c : Option ℕ) (stop : Stop) → Rises a b 0 → Rises b c 0 → Rises a c (read_failures (fault_of stop))
stop-reads a b c stops.NoMemory p q = rises-first a b c 0 p q
stop-reads a b c stops.WriteFault p q = rises-first a b c 0 p q

pub stop-writes : (A : Type 0) (a b c : Option ℕ) (stop : Stop) → Rises a b 0 → Rises b c (stopped_writes {A = A} (Err stop)) → Rises a c (write_failures (fault_of stop))
stop-writes A a b c stops.NoMemory p q = rises-first a b c 0 p q
stop-writes A a b c stops.WriteFault p q = rises-first a b c 1 p q

-- the same of a run that came to the input's end
pub ended-reads : (a b c : Option ℕ) (answer : Result Status Stop) → Rises a b 0 → Rises b c 0 → Rises a c (failures read_failures (ended answer))
ended-reads a b c (Ok status) p q = rises-first a b c 0 p q
ended-reads a b c (Err stop) p q = stop-reads a b c stop p q

pub ended-writes : (a b c : Option ℕ) (answer : Result Status Stop) → Rises a b 0 → Rises b c (stopped_writes answer) → Rises a c (failures write_failures (ended answer))
ended-writes a b c (Ok status) p q = rises-first a b c 0 p q
ended-writes a b c (Err stop) p q = stop-writes Status a b c stop p q
