-- The browses of the task at an index, lent to be changed.
use Rattle.std.specs.Prelude.{ℕ, Option, Some, None, List, slice_get}
use Rattle.std.specs.Borrow.{Lends, MutBor, Fml}
use Rattle.cics_names.specs.Keyed.{Map}
use Rattle.cics_browse.specs.Positions.{Position}
use Rattle.cics_dispatch.specs.Machine.Machine.{Task, replaced, with_browses}
use Rattle.cics_dispatch.specs.contracts.machine.browses.Browses.{the_row as the_browses_row}
use Rattle.cics_dispatch.specs.contracts.machine.tasks.Tasks.{the_row}

-- the tasks with other browses of one of them, if there is one
abbrev pub with_browses_of : List Task → Map Position → Option Task → List Task
with_browses_of ts browses None = ts
with_browses_of ts browses (Some t) = replaced ts (with_browses t browses)

-- the tasks with other browses of the one at an index
abbrev pub with_browses_at : List Task → ℕ → Map Position → List Task
with_browses_at ts at browses = with_browses_of ts browses (slice_get ts at)

-- after the loan the task at the index has the browses that were left
abbrev pub LendsBrowsesAt : MutBor (List Task) → ℕ → MutBor (Map Position) → Fml
LendsBrowsesAt tasks at lent = Lends the_row the_browses_row tasks lent (with_browses_at tasks.now at)
