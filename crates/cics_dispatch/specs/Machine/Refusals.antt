-- The numbers of the refusals of events.
use Rattle.std.specs.Prelude.{ℕ}
use Rattle.cics_dispatch.specs.declared.machine.outcomes.Refused.{Refused}
use Rattle.cics_dispatch.specs.declared.machine.outcomes.Refused.TheVariants.{NoMemory, NoTask, TaskWaiting, TaskEnded, DuplicateLabel, ClockBack, RegionDown}

-- the number of a refusal
abbrev pub refusal_number : Refused → ℕ
refusal_number NoMemory = 1
refusal_number NoTask = 2
refusal_number TaskWaiting = 3
refusal_number TaskEnded = 4
refusal_number DuplicateLabel = 5
refusal_number ClockBack = 6
refusal_number RegionDown = 7
