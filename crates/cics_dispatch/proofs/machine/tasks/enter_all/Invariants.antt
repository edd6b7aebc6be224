use Rattle.std.proofs.Common.{◌≤◌}
use Rattle.std.specs.Map.{values_of}
use Rattle.indexmap.specs.IndexMap.{index_map_len}
use Rattle.cics_dispatch.specs.Machine.Tasks.{HasRoomForUnits}
use Rattle.cics_dispatch.proofs.OfMachine.TaskOwners.{AreEntered}
use Rattle.cics_dispatch.proofs.machine.tasks.enter_all.Given as goal

-- the units of the tasks that were passed are entered, each once, and there is room for the others
abbrev pub invariant-loop-at : goal.invariant-loop-at
invariant-loop-at l = record {
  entered : AreEntered l.at (values_of l.rows.entries) l.owners.entries;
  few : index_map_len l.owners ≤ l.at;
  room : HasRoomForUnits (values_of l.rows.entries) l.owners;
}
