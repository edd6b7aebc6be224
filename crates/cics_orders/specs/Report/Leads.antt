-- The script of an order leads where the order does.
use Rattle.std.specs.Prelude.{◌≡◌, ◌<◌, ◌^◌, ℕ, Bool, List, [], ◌∷◌, length, None, Result, Ok}
use Rattle.std.specs.List.{fold}
use Rattle.cics_names.specs.Keyed.{Bytes}
use Rattle.cics_dispatch.specs.Machine.Machine.{Machine}
use Rattle.cics_dispatch.specs.Machine.Events.{played}
use Rattle.cics_dispatch.specs.declared.machine.events.Request.TheVariants as request
use Rattle.cics_script.specs.Lines.{line}
use Rattle.cics_script.specs.declared.lines.Line.{Line}
use Rattle.cics_script.specs.declared.lines.Line.TheVariants.{Attach, Issue}
use Rattle.cics_script.specs.declared.faults.LineFault.{LineFault}
use Rattle.cics_run.specs.Stage.Stages.{region_at, region_of}
use Rattle.cics_run.specs.Session.Lines.{all_lines}
use Rattle.cics_run.specs.Session.Running.{Played, next, start}
use Rattle.cics_orders.specs.Space.Orders.{after, IsWay}
use Rattle.cics_orders.specs.Space.Endings.{Reported}
use Rattle.cics_orders.specs.declared.search.exploring.Report.{Report}
use Rattle.cics_orders.specs.Plans.Taking.{initial_taken, taken_apart, planned}
use Rattle.cics_orders.specs.declared.plans.plans.Planned.{Planned}
use Rattle.cics_orders.specs.Accepts.{IsNotRefused}
use Rattle.cics_orders.specs.Giving.{lanes, initial_state}
use Rattle.cics_orders.specs.Report.Parts.{mark, mark_in}
use Rattle.cics_orders.specs.Report.Reporting.{script_text}

-- the machine of a run's region, or that of its definitions
abbrev pub machine_of : Played → Machine
machine_of p = (region_of p.stage).machine

-- A machine refuses no line of a task: neither its ATTACH nor a command. Of other lines nothing is
-- said: a CLOCK may go back, and behind a SHUTDOWN the lines of the clock are refused.
abbrev pub AcceptsLine : Machine → Result Line LineFault → Type 0
AcceptsLine m (Ok (Attach label transaction dtimout)) = IsNotRefused (played m (request.Attach label transaction dtimout)).event
AcceptsLine m (Ok (Issue label command)) = IsNotRefused (played m (request.Issue label command)).event
AcceptsLine m _ = Unit {0}

-- a run goes on with these lines, and refuses no line of a task
abbrev pub AcceptsLines : Played → List Bytes → Type 0
AcceptsLines p [] = Unit {0}
AcceptsLines p (bytes ∷ lines) = AcceptsLine (machine_of p) (line bytes) × AcceptsLines (next p bytes) lines

-- a run goes on with these lines: it has no fault, refuses no line of a task, and comes to the
-- region of a machine
pub record LeadsTo (p : Played) (m : Machine) (lines : List Bytes) : Type 0 where
  pub fault : (fold next p lines).fault ≡ None
  pub accepts : AcceptsLines p lines
  pub region : region_of (fold next p lines).stage ≡ region_at m

-- the numbers of a title are below 2^128, and its mark is one that endings have
pub record IsTitled (r : Report) (k : ℕ) (e : Reported) : Type 0 where
  pub number : k < 2 ^ 128
  pub endings : length r.endings < 2 ^ 128
  pub orders : e.orders < 2 ^ 128
  pub serial : e.serial < 2 ^ 128
  pub mark : (b : Bool) × (mark_in e.ending ≡ mark b)

-- A script is taken apart without a fault. Each lane of an order may give when its line comes. The
-- title's numbers are below 2^128, and its mark is one that endings have. Then the plain run of the
-- order's script leads where the order does.
abbrev pub ScriptsLeadThere : Type 0
ScriptsLeadThere =
    (script : List Bytes) (p : Planned) (r : Report) (k : ℕ) (e : Reported) → planned (taken_apart initial_taken 1 script) ≡ Ok p →
    IsWay lanes (initial_state p.plan) e.order → IsTitled r k e →
    LeadsTo start (after lanes (initial_state p.plan) e.order).machine (all_lines (script_text p.plan r k e))
