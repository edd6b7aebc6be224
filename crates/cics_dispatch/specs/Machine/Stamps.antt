-- The stamp of a region, which tells all of its future: what can follow, and how each order ends.
use Rattle.std.specs.Prelude.{ℕ, List, ◌++◌}
use Rattle.cics_names.specs.Keyed.{Bytes}
use Rattle.cics_names.specs.Stamps.{number_stamp, flag_stamp, text_stamp, option_stamp, list_stamp}
use Rattle.cics_browse.specs.Positions.{Position}
use Rattle.cics_browse.specs.Stamps.{position_stamp}
use Rattle.cics_history.specs.State.{UnitsState}
use Rattle.cics_history.specs.Stamps.{op_stamp, unit_stamp, shared_stamp}
use Rattle.cics_dispatch.specs.Machine.Machine.{Task, Suspended, Machine}

-- the stamp of a browse is that of its file's name and of its position
abbrev pub browse_stamp : Bytes × Position → List ℕ
browse_stamp b = text_stamp b.0 ++ position_stamp b.1

-- the stamp of a task: its label, how long it may wait, whether it has ended, its unit, and its
-- browses
unfoldable pub task_stamp : UnitsState → Task → List ℕ
task_stamp s t =
    text_stamp t.label
    ++ (number_stamp t.dtimout
    ++ (flag_stamp t.has_ended
    ++ (option_stamp (unit_stamp s) t.unit ++ list_stamp browse_stamp t.browses)))

-- the stamp of a waiting command: its task's label, the clock when the wait began, and the updating
-- command that it asks for. The whole command is not in it
unfoldable pub wait_stamp : Suspended → List ℕ
wait_stamp w = text_stamp w.label ++ (number_stamp w.since ++ option_stamp op_stamp w.op)

-- the stamp of a region: its tasks, its waiting commands, its clock, whether it is shut down, and
-- what its units share
unfoldable pub region_stamp : Machine → List ℕ
region_stamp m =
    list_stamp (task_stamp m.units) m.tasks
    ++ (list_stamp wait_stamp m.waiting
    ++ (number_stamp m.clock ++ (flag_stamp m.is_down ++ shared_stamp m.units)))
