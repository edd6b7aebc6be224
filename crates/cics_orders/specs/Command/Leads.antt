-- The script that is written of an ending leads to that ending.
use Rattle.std.specs.Prelude.{◌≡◌, ◌<◌, ◌^◌, ℕ, Bool, List, length, Some, Ok}
use Rattle.cics_names.specs.Keyed.{Bytes}
use Rattle.cics_run.specs.Session.Lines.{all_lines}
use Rattle.cics_run.specs.Session.Running.{start}
use Rattle.cics_run.specs.declared.session.running.Orders.{Orders}
use Rattle.cics_orders.specs.Space.Orders.{after}
use Rattle.cics_orders.specs.Space.Endings.{Reported}
use Rattle.cics_orders.specs.declared.search.exploring.Report.{Report}
use Rattle.cics_orders.specs.Plans.Taking.{initial_taken, taken_apart, planned}
use Rattle.cics_orders.specs.declared.plans.plans.Plan.{Plan}
use Rattle.cics_orders.specs.declared.plans.plans.Planned.{Planned}
use Rattle.cics_orders.specs.Giving.{lanes, initial_state}
use Rattle.cics_orders.specs.Report.Reporting.{ending_at, script_at}
use Rattle.cics_orders.specs.Report.Leads.{LeadsTo}
use Rattle.cics_orders.specs.Endings.Telling.{parts_at}
use Rattle.cics_orders.specs.Command.Surveys.{IsReportOf}

-- A text is a script of an ending. The ending tells the state after its order. The plain run has no
-- fault, refuses no line of a task, and comes to the region of that state.
pub record LeadsToEnding (p : Plan) (with_told : Bool) (e : Reported) (text : List ℕ) : Type 0 where
  pub told : e.ending ≡ parts_at with_told (after lanes (initial_state p) e.order)
  pub leads : LeadsTo start (after lanes (initial_state p) e.order).machine (all_lines text)

-- If a script is taken apart without a fault and its orders are reported on, the script of each
-- ending leads to it. A vector holds the endings, so there are fewer than 2^128.
abbrev pub EndingScriptsLeadThere : Type 0
EndingScriptsLeadThere =
    (script : List Bytes) (p : Planned) (w : Orders) (r : Report) (k : ℕ) (e : Reported) (text : List ℕ) →
    planned (taken_apart initial_taken 1 script) ≡ Ok p → IsReportOf p.plan w r → length r.endings < 2 ^ 128 →
    ending_at r.endings k ≡ Some e → script_at p.plan r k ≡ Some text → LeadsToEnding p.plan w.told e text
