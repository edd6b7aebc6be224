-- What is written of the orders of a script.
use Rattle.std.specs.Prelude.{◌≡◌, ℕ, ◌+◌, ◌≤◌, Bool, true, false, List, [], ◌++◌, length, Option, Some, None, Result, Ok, Err}
use Rattle.std.specs.Io.KnownBytes.{Appends, Consumes, IsAtEnd}
use Rattle.cics_run.specs.Session.Lines.{all_lines}
use Rattle.cics_run.specs.Session.Running.{most_bytes}
use Rattle.cics_run.specs.Session.Printing.{AppendsFront}
use Rattle.cics_run.specs.declared.session.running.Orders.{Orders}
use Rattle.cics_run.specs.declared.session.running.RunFault.{RunFault}
use Rattle.cics_run.specs.declared.session.running.RunFault.TheVariants as faults
use Rattle.cics_orders.specs.Plans.Taking.{initial_taken, taken_apart, planned}
use Rattle.cics_orders.specs.declared.plans.plans.Planned.{Planned}
use Rattle.cics_orders.specs.declared.plans.plans.ScriptFault.{ScriptFault}
use Rattle.cics_orders.specs.declared.search.exploring.Report.{Report}
use Rattle.cics_orders.specs.Report.Amiss.{first_amiss}
use Rattle.cics_orders.specs.declared.report.amiss.AmissEnding.{AmissEnding}
use Rattle.cics_orders.specs.Report.Reporting.{fault_text, report_text, script_at}
use Rattle.cics_orders.specs.Command.Surveys.{IsSurvey}
use Rattle.cics_orders.specs.declared.command.surveys.Survey.{Survey}
use Rattle.cics_orders.specs.declared.command.running.Surveyed.{Surveyed}
use Rattle.cics_orders.specs.declared.command.running.Surveyed.TheVariants as surveyed

-- strictly, the first ending that is amiss, if one is
abbrev pub amiss_of : Bool → Option AmissEnding → Surveyed
amiss_of true (Some ending) = surveyed.Amiss ending
amiss_of is_strict ending = surveyed.Done

-- how a script was told that is there: strictly, what is amiss, if something is. Else there are so
-- many endings, and at least so many if orders were left out.
abbrev pub status_of : Report → Bool → Bool → Surveyed
status_of r is_strict false = surveyed.NoEnding (length r.endings) r.is_whole
status_of r is_strict true = amiss_of is_strict (first_amiss r)

-- the script of an ending stands behind what was there, if there is one
abbrev pub WritesEnding : Report → Bool → Option (List ℕ) → List ℕ → List ℕ → Surveyed → Type 0
WritesEnding r is_strict None before now status = (now ≡ before) × (status ≡ status_of r is_strict false)
WritesEnding r is_strict (Some text) before now status = (now ≡ before ++ text) × (status ≡ status_of r is_strict true)

-- what is wanted of a survey stands behind what was there: the report, or the script of an ending
abbrev pub Writes : Orders → Survey → List ℕ → List ℕ → Surveyed → Type 0
Writes w s before now status = by w.ending where
  by : Option ℕ → Type 0
  by None = (now ≡ before ++ report_text s.planned w s.report) × (status ≡ status_of s.report w.strict true)
  by (Some k) = WritesEnding s.report w.strict (script_at s.planned.plan s.report k) before now status

-- a text is what is wanted of the orders of a script that was taken apart, or the line of its fault
abbrev pub IsPrintedOf : Result Planned (ℕ × ScriptFault) → Orders → List ℕ → Surveyed → Type 0
IsPrintedOf (Ok p) w text status = (s : Survey) × IsSurvey (Ok p) w (Ok s) × Writes w s [] text status
IsPrintedOf (Err (number, fault)) w text status = (text ≡ fault_text number fault) × (status ≡ surveyed.LineFault)

-- a text is what is wanted of the orders of a script
abbrev pub IsPrinted : List ℕ → Orders → List ℕ → Surveyed → Type 0
IsPrinted script w text status = IsPrintedOf (planned (taken_apart initial_taken 1 (all_lines script))) w text status

-- What stands in the sink at each answer, where bytes are the bytes that were read:
-- - without a fault: the whole text;
-- - WriteFault: a first part of the text;
-- - every other one: nothing more than before.
abbrev pub Answers : Orders → List ℕ → Option (List ℕ) → Option (List ℕ) → Option (List ℕ) → Result Surveyed RunFault → Type 0
Answers w bytes rest old new (Ok status) = IsAtEnd rest × (text : List ℕ) × IsPrinted bytes w text status × Appends old new text
Answers w bytes rest old new (Err faults.InputTooLong) = (length bytes ≡ most_bytes + 1) × Appends old new []
Answers w bytes rest old new (Err faults.ReadFault) = Appends old new []
Answers w bytes rest old new (Err faults.NoMemory) = Appends old new []
Answers w bytes rest old new (Err faults.WriteFault) =
    IsAtEnd rest × (text : List ℕ) × (status : Surveyed) × IsPrinted bytes w text status × AppendsFront old new text

-- some bytes were read, not too many, and what was written is what they call for
abbrev pub Surveys : Orders → Option (List ℕ) → Option (List ℕ) → Option (List ℕ) → Option (List ℕ) → Result Surveyed RunFault → Type 0
Surveys w input rest old new result = (bytes : List ℕ) × Consumes input rest bytes × (length bytes ≤ most_bytes + 1) × Answers w bytes rest old new result
