-- The fault of a script that is taken apart is that of its plain run.
use Rattle.std.specs.Prelude.{◌≡◌, ℕ, List, Some, None, Result, Ok, Err}
use Rattle.cics_names.specs.Keyed.{Bytes}
use Rattle.cics_run.specs.Session.Running.{Played, play}
use Rattle.cics_orders.specs.Plans.Taking.{Taken, initial_taken, taken_apart}
use Rattle.cics_orders.specs.declared.plans.plans.ScriptFault.{ScriptFault}
use Rattle.cics_orders.specs.Report.Reporting.{as_fault}

-- a script that is taken apart has no fault in its plain run; another has this fault there, at the
-- last line that is run
abbrev pub HasFaultOf : Played → Result Taken (ℕ × ScriptFault) → Type 0
HasFaultOf p (Ok t) = p.fault ≡ None
HasFaultOf p (Err (number, f)) = (p.number ≡ number) × (p.fault ≡ Some (as_fault f))

-- every script, taken apart line by line, has the fault of its plain run or none, as that run
abbrev pub FaultsAreThoseOfRuns : Type 0
FaultsAreThoseOfRuns = (lines : List Bytes) → HasFaultOf (play lines) (taken_apart initial_taken 1 lines)
