-- What is counted of reads and writes, which line is kept, and what is written of no picture.
use Rattle.std.proofs.Common.{◌≡◌, ℕ, Bool, true, false, List, refl, Option, Ok, Err}
use Rattle.std.specs.Io.KnownBytes.{Consumes, IsAtEnd}
use Rattle.cics_run.specs.Session.Running.{is_faulty, read_failures, write_failures}
use Rattle.cics_run.specs.Session.Streams.{Rises}
use Rattle.cics_run.specs.declared.session.running.RunFault.{RunFault}
use Rattle.cics_run.specs.declared.session.running.RunFault.TheVariants as faults
use Rattle.cics_run.specs.declared.session.session.Session.{Session}
use Rattle.cics_run.proofs.OfSession.Counting.{rises-nothing}
use Rattle.cics_run.proofs.OfSession.Known.{appends-nothing}
use Rattle.cics_picture.specs.declared.drawing.Undrawn.{Undrawn}
use Rattle.cics_picture.specs.declared.drawing.Undrawn.TheVariants as undrawns
use Rattle.cics_run.specs.Reading.Reads.{StopsBehind}
use Rattle.cics_picture.specs.Draw.Pictures.{KeepsLast, KeepsFault, HasTooMany, Answers, failures_of, undrawn, run_status}

-- reading writes nothing
pub reads-unwritten : (a : Option ℕ) (bytes : List ℕ) (fault : RunFault) → StopsBehind bytes fault → Rises a a (write_failures fault)
reads-unwritten a bytes faults.InputTooLong stops = rises-nothing a
reads-unwritten a bytes faults.ReadFault stops = rises-nothing a
reads-unwritten a bytes faults.NoMemory stops = rises-nothing a
reads-unwritten a bytes faults.WriteFault stops = absurd stops

-- drawing reads and writes nothing
pub undrawn-read : (e : Undrawn) → failures_of read_failures (undrawn e) ≡ 0
undrawn-read undrawns.NoMemory = refl
undrawn-read undrawns.TooManyRows = refl

pub undrawn-written : (e : Undrawn) → failures_of write_failures (undrawn e) ≡ 0
undrawn-written undrawns.NoMemory = refl
undrawn-written undrawns.TooManyRows = refl

-- the line with the fault is kept
pub kept-read : (input rest : Option (List ℕ)) (bytes : List ℕ) (s : Session) (fault : Bool) → Consumes input rest bytes → is_faulty bytes ≡ fault → KeepsLast bytes s fault → KeepsFault input rest s (Ok (run_status fault))
kept-read input rest bytes s true read faulty kept = (bytes, read, faulty, kept)
kept-read input rest bytes s false read faulty kept = tt

-- without a picture nothing is written
pub undrawn-answers : (bytes : List ℕ) (rest now : Option (List ℕ)) (e : Undrawn) → IsAtEnd rest → (e ≡ undrawns.TooManyRows → HasTooMany bytes) → Answers bytes rest now now (Err (undrawn e))
undrawn-answers bytes rest now undrawns.NoMemory ended over = appends-nothing now
undrawn-answers bytes rest now undrawns.TooManyRows ended over = (ended, over refl, appends-nothing now)
