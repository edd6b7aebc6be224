use Rattle.std.proofs.Common.{◌≡◌, ◌+◌, ◌≤◌, ◌<◌, ℕ, length, [], None, Some}
use Rattle.std.specs.Prelude.{drop, slice_get}
use Rattle.cics_dispatch.specs.Machine.Machine.{Task}
use Rattle.cics_dispatch.specs.Machine.Shutdown.{units_of, all_ended}
use Rattle.cics_dispatch.specs.Machine.Calls.{KeepsRegion}
use Rattle.cics_dispatch.proofs.dispatcher.Dispatcher.end_tasks.Given as goal

-- the tasks that were passed have ended and have no unit; what comes of the others is what comes of
-- all
abbrev pub invariant-loop-at : goal.invariant-loop-at
invariant-loop-at l = record {
  alone : l.self.machine.waiting ≡ [];
  long : length l.self.machine.tasks ≡ length l.fn.self.machine.tasks;
  rest : all_ended l.self.machine (drop l.at l.self.machine.tasks) ≡ all_ended l.fn.self.machine l.fn.self.machine.tasks;
  count : l.count + units_of (drop l.at l.self.machine.tasks) ≡ units_of l.fn.self.machine.tasks;
  few : l.count ≤ l.at;
  none : (i : ℕ) (t : Task) → i < l.at → slice_get l.self.machine.tasks i ≡ Some t → t.unit ≡ None;
  kept : KeepsRegion l.fn.self l.self;
}
