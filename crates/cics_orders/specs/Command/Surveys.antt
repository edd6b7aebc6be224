-- What is returned of the orders of a script.
use Rattle.std.specs.Prelude.{◌≡◌, ◌≤◌, ℕ, true, false, option_map, Result, Ok, Err}
use Rattle.cics_run.specs.declared.session.running.Orders.{Orders}
use Rattle.cics_orders.specs.Search.Levels.{state_count}
use Rattle.cics_orders.specs.Search.Reports.{IsReport}
use Rattle.cics_orders.specs.declared.search.exploring.Report.{Report}
use Rattle.cics_orders.specs.declared.plans.plans.Plan.{Plan}
use Rattle.cics_orders.specs.declared.plans.plans.Planned.{Planned}
use Rattle.cics_orders.specs.declared.plans.plans.ScriptFault.{ScriptFault}
use Rattle.cics_orders.specs.Giving.{lanes, initial_state, line_count}
use Rattle.cics_orders.specs.AsWritten.{as_written}
use Rattle.cics_orders.specs.Stamps.{state_stamp}
use Rattle.cics_orders.specs.Turns.{breaks}
use Rattle.cics_orders.specs.Endings.Telling.{parts_at}
use Rattle.cics_orders.specs.declared.command.surveys.Survey.{Survey}

-- A report on the orders of a plan. It has all of them if at most as many states as the limit have
-- a lane that may give. It has all serial ones if this holds of the states of their search.
-- And it tells the ending that the order as written leads to.
pub record IsReportOf (p : Plan) (w : Orders) (r : Report) : Type 0 where
  pub report : IsReport lanes (parts_at w.told) breaks (line_count p) (initial_state p) r
  pub within : state_count lanes breaks (state_stamp w.told) false (initial_state p) (line_count p) ≤ w.limit → r.is_whole ≡ true
  pub written : r.written ≡ option_map (parts_at w.told) (as_written (initial_state p))
  pub serial_within : state_count lanes breaks (state_stamp w.told) true (initial_state p) (line_count p) ≤ w.limit → r.has_all_serial ≡ true

-- the fault of a script, or what it was taken apart into, with the report on its orders
abbrev pub IsSurvey : Result Planned (ℕ × ScriptFault) → Orders → Result Survey (ℕ × ScriptFault) → Type 0
IsSurvey (Ok p) w (Ok s) = (s.planned ≡ p) × IsReportOf p.plan w s.report
IsSurvey (Err f) w (Err g) = g ≡ f
IsSurvey _ w _ = ⊥
