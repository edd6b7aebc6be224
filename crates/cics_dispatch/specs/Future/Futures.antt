-- Two regions that have the same future: from now on their tasks are told the same. The numbers of
-- their units may differ, and so may their histories.
use Rattle.std.specs.Prelude.{◌≡◌, ℕ, ◌==◌, Bool, false, ◌&&◌, if◌then◌else◌, Option, Some, None, option_map, filter, map, nat_lt, List, [], ◌∷◌}
use Rattle.std.specs.List.{list_any}
use Rattle.cics_names.specs.Keyed.{Bytes, is_below}
use Rattle.cics_history.specs.declared.ops.Op.{Op}
use Rattle.cics_history.specs.declared.ops.UnitState.TheVariants.{BackedOut}
use Rattle.cics_history.specs.State.{UnitsState, UpdateRead, EnqCount, Store, initial_store}
use Rattle.cics_history.specs.Headline.{outcome_of, is_open}
use Rattle.cics_history.specs.Cells.{IsCanonical}
use Rattle.cics_history.specs.Isolation.{Outcomes, store_by, IsSound}
use Rattle.cics_history.specs.Serial.{done_by, IsInOrder}
use Rattle.cics_dispatch.specs.Machine.Machine.{Machine, Task, label_of, with_waiting}
use Rattle.cics_dispatch.specs.Machine.Blockers.{unit_of}
use Rattle.cics_dispatch.specs.Machine.KeptTasks.{AreTasksKept}
use Rattle.cics_dispatch.specs.Machine.OwnedUnits.{AreUnitsOwned}
use Rattle.cics_dispatch.specs.Machine.Steps.{Stepped}

-- ---- What a unit has, whatever its number is

-- the rows of a unit, without its number
abbrev pub rows_of : {X : Type 0} → (X → ℕ) → (X → X) → ℕ → List X → List X
rows_of unit unnumbered u rows = map unnumbered (filter (λ r. unit r == u) rows)

-- whose an update read is
abbrev pub reader : UpdateRead → ℕ
reader r = r.unit

-- an update read of no unit
abbrev pub any_read : UpdateRead → UpdateRead
any_read r = record { unit = 0; file = r.file; key = r.key }

-- whose a count is
abbrev pub counter : EnqCount → ℕ
counter c = c.unit

-- a count of no unit
abbrev pub any_count : EnqCount → EnqCount
any_count c = record { value = c.value; unit = 0; count = c.count }

-- what an open unit has: its commands on recoverable files and queues that were answered NORMAL, in
-- their order, its update reads and its counts
pub record Own : Type 0 where
  pub ops : List Op
  pub reads : List UpdateRead
  pub counts : List EnqCount

-- what a unit has; without a unit there is nothing
abbrev pub own_by : UnitsState → Option ℕ → Own
own_by s None = record { ops = []; reads = []; counts = [] }
own_by s (Some u) = record {
  ops = map (λ e. e.op) (done_by s.opening s.trace u);
  reads = rows_of reader any_read u s.reads;
  counts = rows_of counter any_count u s.counts;
}

-- what the unit of a label's task has
abbrev pub own : Machine → Bytes → Own
own m label = own_by m.units (unit_of m label)

-- ---- Tasks and endings

-- a task without the number of its unit
abbrev pub unnumbered : Task → Task
unnumbered t = record t { unit = option_map (λ u. 0) t.unit }

-- the outcomes if the open units of the tasks with these labels are backed out
abbrev pub ending : Machine → (Bytes → Bool) → Outcomes
ending m gone = λ u.
    if is_open (outcome_of m.units.outcomes u) && gone (label_of m.tasks u) then BackedOut
    else outcome_of m.units.outcomes u

-- and the files and queues then
abbrev pub store_if : Machine → (Bytes → Bool) → Store
store_if m gone = store_by m.units.opening (ending m gone) m.units.trace

-- The regions are alike: in their openings, tasks, NEXT cursors, waits, clock and shutdown, but not
-- in the numbers of units. The units of the same tasks have the same. Files and queues hold the
-- same, whichever tasks' units are backed out.
pub record AreAlike (m n : Machine) : Type 0 where
  pub opening : m.units.opening ≡ n.units.opening
  pub tasks : map unnumbered m.tasks ≡ map unnumbered n.tasks
  pub own : (label : Bytes) → own m label ≡ own n label
  pub stores : (gone : Bytes → Bool) → store_if m gone ≡ store_if n gone
  pub next : m.units.next ≡ n.units.next
  pub waiting : m.waiting ≡ n.waiting
  pub clock : m.clock ≡ n.clock
  pub down : m.is_down ≡ n.is_down

-- ---- What every step of a region keeps

-- no row stands behind one that it comes before
abbrev pub AreRising : {X : Type 0} → (X → X → Bool) → List X → Type 0
AreRising before [] = Unit {0}
AreRising before (x ∷ xs) = (list_any (λ y. before y x) xs ≡ false) × AreRising before xs

-- an update read is of an earlier unit
abbrev pub is_earlier : UpdateRead → UpdateRead → Bool
is_earlier r x = nat_lt r.unit x.unit

-- a count is of a smaller value
abbrev pub is_lower : EnqCount → EnqCount → Bool
is_lower c d = is_below c.value d.value

-- what was loaded is in order, open units are kept apart, and those that committed are in their
-- order; so are the rows
pub record AreUnitsSteady (s : UnitsState) : Type 0 where
  pub canonical : IsCanonical (initial_store s.opening)
  pub sound : IsSound s
  pub order : IsInOrder s
  pub reads : AreRising is_earlier s.reads
  pub counts : AreRising is_lower s.counts

-- the units are steady, and each open unit is that of one task, whatever commands wait
pub record IsSteady (m : Machine) : Type 0 where
  pub units : AreUnitsSteady m.units
  pub tasks : AreTasksKept (with_waiting m [])
  pub owned : AreUnitsOwned m

-- ---- The same future

-- two regions have the same future
pub record HaveSameFuture (m n : Machine) : Type 0 where
  pub first : IsSteady m
  pub second : IsSteady n
  pub alike : AreAlike m n

-- two steps answer the same, and leave regions that have the same future
pub record AreSameSteps {X : Type 0} (s t : Stepped X) : Type 0 where
  pub outcome : s.outcome ≡ t.outcome
  pub machine : HaveSameFuture s.machine t.machine
