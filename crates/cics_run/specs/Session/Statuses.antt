-- The exit statuses of the program.
use Rattle.std.specs.Prelude.{ℕ, Bool, true, Result, Ok, Err}
use Rattle.cics_run.specs.declared.session.running.Status.{Status}
use Rattle.cics_run.specs.declared.session.running.Status.TheVariants as status
use Rattle.cics_run.specs.declared.session.running.RunFault.{RunFault}
use Rattle.cics_run.specs.declared.session.running.RunFault.TheVariants as faults

-- the exit status that tells the answer of a run; 2 tells bad arguments, and then there is no run
abbrev pub status_of : Result Status RunFault → ℕ
status_of (Ok status.Done) = 0
status_of (Ok status.LineFault) = 1
status_of (Err faults.NoMemory) = 3
status_of (Err faults.ReadFault) = 4
status_of (Err faults.WriteFault) = 4
status_of (Err faults.InputTooLong) = 4

-- the exit status of a strict run, if something is amiss or not
abbrev pub strict_status_of : Result Status RunFault → Bool → ℕ
strict_status_of (Ok status.Done) true = 5
strict_status_of result amiss = status_of result
