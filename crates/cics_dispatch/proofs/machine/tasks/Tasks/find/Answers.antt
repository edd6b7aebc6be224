use Rattle.cics_names.specs.KeyedLaws.{pointwise-is_same}
use Rattle.cics_dispatch.proofs.OfMachine.TaskTable.{task_at-lookup, found_at, found_none}
use Rattle.cics_dispatch.proofs.machine.tasks.Tasks.find.Goals as goal

pub returns-clause-task : goal.returns-clause-task
returns-clause-task c =
    found_at c.args.self.now c.args.label.now _ _ c.get_index_of.result c.self.view_is
    (task_at-lookup _ pointwise-is_same c.args.label.now c.self.inside.rows.entries c.self.invariant.0.labelled) c.get_index_of.ensures.value

pub returns-clause-none : goal.returns-clause-none
returns-clause-none c =
    found_none c.args.self.now c.args.label.now _ _ c.get_index_of.result c.self.view_is
    (task_at-lookup _ pointwise-is_same c.args.label.now c.self.inside.rows.entries c.self.invariant.0.labelled) c.get_index_of.ensures.found
