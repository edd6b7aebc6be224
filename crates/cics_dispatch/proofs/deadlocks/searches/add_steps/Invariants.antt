use Rattle.std.proofs.Common.{◌≡◌, drop, length}
use Rattle.cics_dispatch.specs.Deadlocks.Searches.{with_steps}
use Rattle.cics_dispatch.specs.Deadlocks.Marks.{AreMarks}
use Rattle.cics_dispatch.proofs.deadlocks.searches.add_steps.Given as goal

-- what was found so far leads, by the steps that are left, to what all steps find
abbrev pub invariant-loop-task : goal.invariant-loop-task
invariant-loop-task l = record {
  rest : with_steps (length l.fn.marks) l.next.from l.found.items (drop l.task-index l.next.steps.now) ≡ with_steps (length l.fn.marks) l.next.from l.fn.found.items l.next.steps.now;
  marks : AreMarks l.marks l.own l.found.items;
}
