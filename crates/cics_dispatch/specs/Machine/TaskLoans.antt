-- The browses of a task, lent to be changed.
use Rattle.std.specs.Borrow.{Lends, MutBor, Fml}
use Rattle.cics_names.specs.Keyed.{Map}
use Rattle.cics_browse.specs.Positions.{Position}
use Rattle.cics_dispatch.specs.Machine.Machine.{Task, with_browses}
use Rattle.cics_dispatch.specs.contracts.machine.browses.Browses.{the_row as the_browses_row}
use Rattle.cics_dispatch.specs.contracts.machine.task.Task.{the_row}

-- after the loan the task has the browses that were left
abbrev pub LendsBrowses : MutBor Task → MutBor (Map Position) → Fml
LendsBrowses task lent = Lends the_row the_browses_row task lent (with_browses task.now)
