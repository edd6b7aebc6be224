-- What the reads of an order saw and missed.
use Rattle.std.specs.Prelude.{ℕ, List}
use Rattle.std.specs.List.{fold}
use Rattle.cics_run.specs.Reads.Watched.{Watched, nothing_watched, amiss_text, watcher_sight}
use Rattle.cics_run.specs.Reads.Watching.{watched_in}
use Rattle.cics_run.specs.Stage.Seen.{after_step}
use Rattle.cics_run.specs.Stage.Stages.{step, initial_stage}
use Rattle.cics_run.specs.declared.stage.stage.Stage.{Stage}
use Rattle.cics_orders.specs.Plans.Taking.{NumberedLine}
use Rattle.cics_orders.specs.Report.Along.{lines_along}
use Rattle.cics_orders.specs.Space.Orders.{Order}
use Rattle.cics_orders.specs.declared.plans.plans.Plan.{Plan}
use Rattle.cics_orders.specs.declared.plans.plans.TaskPlan.{TaskPlan}
use Rattle.cics_orders.specs.declared.report.findings.Watch.{Watch}

-- A run whose steps are noted: its stage, and what was noted.
pub record Run : Type 0 where
  pub stage : Stage
  pub watched : Watched

-- before the first line
abbrev pub initial_run : Run
initial_run = record { stage = initial_stage; watched = nothing_watched }

-- one line more, with its number in the whole script
abbrev pub with_line : Run → NumberedLine → Run
with_line r line =
    let s = step r.stage line.1 in
    record { stage = s.stage; watched = after_step watcher_sight line.0 r.watched s }

-- a task is attached
abbrev pub with_attach : Run → TaskPlan → Run
with_attach r task = with_line r task.attach

-- the run of an order: the lines that define and attach, and behind them those of the order
abbrev pub watched_along : Plan → Order → Run
watched_along p o = fold with_line (fold with_attach (fold with_line initial_run p.definitions) p.tasks) (lines_along p o)

-- what its reads saw and missed, of that what is amiss
abbrev pub amiss_along : Plan → Order → List ℕ
amiss_along p o = amiss_text (watched_along p o).watched

-- what a run in the program holds of that
abbrev pub watch_of : Watch → Run
watch_of w = record { stage = w.stage; watched = watched_in w.watcher }
