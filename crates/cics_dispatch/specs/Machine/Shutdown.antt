-- SHUTDOWN IMMEDIATE: no command waits any more, and every task ends and its unit of work is backed
-- out, in the order of attach. From then on ATTACH, a command, the clock and another SHUTDOWN are
-- refused.
use Rattle.std.specs.Prelude.{ℕ, suc, Bool, true, not, ◌&&◌, if◌then◌else◌, Option, Some, None, Result, Ok, Err, List, [], ◌∷◌}
use Rattle.cics_history.specs.declared.ops.UnitState.TheVariants.{BackedOut}
use Rattle.cics_dispatch.specs.Machine.Machine.{Machine, RegionValue, Task, with_waiting, unit_closed}
use Rattle.cics_dispatch.specs.Machine.Steps.{Stepped}
use Rattle.cics_dispatch.specs.Machine.Answers.{IsStep}
use Rattle.cics_dispatch.specs.declared.machine.outcomes.Refused.{Refused}
use Rattle.cics_dispatch.specs.declared.machine.outcomes.Refused.TheVariants.{RegionDown}

-- an event of a region that is shut down is refused, before all other checks
abbrev pub unless_down : {X : Type 0} → Machine → Stepped (Result X Refused) → Stepped (Result X Refused)
unless_down m s = if m.is_down then record { outcome = Err RegionDown; machine = m } else s

-- a call of a region returns its event's step, and may return NoMemory only if wants; once the
-- region is shut down, it returns RegionDown
abbrev pub IsRegionStep : {X : Type 0} → Bool → RegionValue → Stepped (Result X Refused) → Result X Refused → RegionValue → Type 0
IsRegionStep wants old s result new = IsStep (not old.machine.is_down && wants) old (unless_down old.machine s) result new

-- one more, if there is a unit
abbrev pub one_if : Option ℕ → ℕ → ℕ
one_if None n = n
one_if (Some u) n = suc n

-- how many of these tasks have a unit
abbrev pub units_of : List Task → ℕ
units_of [] = 0
units_of (t ∷ ts) = one_if t.unit (units_of ts)

-- each of these tasks ends, and its unit is backed out
abbrev pub all_ended : Machine → List Task → Machine
all_ended m [] = m
all_ended m (t ∷ ts) = all_ended (unit_closed m t BackedOut true) ts

-- the region is shut down, and the call returns how many units were backed out
abbrev pub shut_down : Machine → Stepped (Result ℕ Refused)
shut_down m = record { outcome = Ok (units_of m.tasks); machine = record (all_ended (with_waiting m []) m.tasks) { is_down = true } }
