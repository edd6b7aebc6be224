-- A script that is read whole.
use Rattle.std.specs.Prelude.{◌≡◌, ℕ, ◌+◌, ◌≤◌, List, length, Option, Result, Ok, Err}
use Rattle.std.specs.Io.KnownBytes.{Consumes, IsAtEnd}
use Rattle.cics_run.specs.Session.Running.{most_bytes}
use Rattle.cics_run.specs.declared.session.running.RunFault.{RunFault}
use Rattle.cics_run.specs.declared.session.running.RunFault.TheVariants as faults

-- What was read when reading stopped: more than a script may have, or a part of what there is.
-- Reading never fails to write.
abbrev pub StopsBehind : List ℕ → RunFault → Type 0
StopsBehind bytes faults.InputTooLong = length bytes ≡ most_bytes + 1
StopsBehind bytes faults.ReadFault = length bytes ≤ most_bytes
StopsBehind bytes faults.NoMemory = length bytes ≤ most_bytes + 1
StopsBehind bytes faults.WriteFault = ⊥

-- a script was read to its end, or reading stopped
abbrev pub Reads : Option (List ℕ) → Option (List ℕ) → List ℕ → Result (Unit {0}) RunFault → Type 0
Reads input rest script (Ok _) = Consumes input rest script × IsAtEnd rest × (length script ≤ most_bytes)
Reads input rest script (Err fault) = (bytes : List ℕ) × Consumes input rest bytes × StopsBehind bytes fault
