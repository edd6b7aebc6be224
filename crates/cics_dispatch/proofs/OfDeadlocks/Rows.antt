-- Worked examples: tasks of a region that wait for each other's values, and the deadlocks that are told.
use Rattle.std.specs.Prelude.{◌≡◌, ℕ, true, false, [], ◌∷◌, refl}
use Rattle.cics_names.specs.Keyed.{Bytes}
use Rattle.cics_names.specs.declared.commands.Verb.TheVariants.{Enq}
use Rattle.cics_history.specs.Openings.{initial_opening}
use Rattle.cics_dispatch.specs.Machine.Machine.{Machine, initial_region}
use Rattle.cics_dispatch.specs.Machine.Steps.{attached, issued}
use Rattle.cics_dispatch.specs.Machine.Blockers.{blockers_of}
use Rattle.cics_dispatch.specs.Deadlocks.Searches.{circles, led_back}
use Rattle.cics_dispatch.specs.Deadlocks.Deadlocks.{deadlocks, in_deadlock}

-- the labels T1, T2, T3
abbrev t1 : Bytes
t1 = 0xE3 ∷ 0xF1 ∷ 0x40 ∷ 0x40 ∷ 0x40 ∷ 0x40 ∷ 0x40 ∷ 0x40 ∷ []

abbrev t2 : Bytes
t2 = 0xE3 ∷ 0xF2 ∷ 0x40 ∷ 0x40 ∷ 0x40 ∷ 0x40 ∷ 0x40 ∷ 0x40 ∷ []

abbrev t3 : Bytes
t3 = 0xE3 ∷ 0xF3 ∷ 0x40 ∷ 0x40 ∷ 0x40 ∷ 0x40 ∷ 0x40 ∷ 0x40 ∷ []

-- a task is attached
abbrev with : Machine → Bytes → Machine
with m label = (attached m label 0).machine

-- a task enqueues on a value of one byte, or waits for it
abbrev enq : Machine → Bytes → ℕ → Machine
enq m label value = (issued m label (record { verb = Enq (value ∷ []) 1 false; resp = false })).machine

-- T1 has taken 1, T2 has taken 2, and T3 has taken 3
abbrev began : Machine
began = enq (enq (enq (with (with (with (initial_region initial_opening) t1) t2) t3) t1 1) t2 2) t3 3

-- T1 asks for 2, and T2 for 1
abbrev two : Machine
two = enq (enq began t1 2) t2 1

-- T3 asks for 2 before them: it waits for T2, and isn't one of them
abbrev behind : Machine
behind = enq (enq (enq began t3 2) t1 2) t2 1

-- T1 asks for 3, T3 for 2, T2 for 1
abbrev three : Machine
three = enq (enq (enq began t1 3) t3 2) t2 1

-- nobody waits
none_yet : deadlocks began ≡ []
none_yet = refl

-- T1 waits for T2, which goes on
chain : deadlocks (enq began t1 2) ≡ []
chain = refl

-- two tasks
pair : deadlocks two ≡ (t1 ∷ t2 ∷ []) ∷ []
pair = refl

-- a third one that waits for them isn't in it
third_waits : deadlocks behind ≡ (t1 ∷ t2 ∷ []) ∷ []
third_waits = refl

-- three tasks, from the first on in the order of their waits
all_three : deadlocks three ≡ (t1 ∷ t3 ∷ t2 ∷ []) ∷ []
all_three = refl

-- it is blocked by one of them, and isn't in the deadlock
blocked : blockers_of behind t3 ≡ t2 ∷ []
blocked = refl

two_alone : in_deadlock behind ≡ true ∷ true ∷ false ∷ []
two_alone = refl

-- ---- Graphs: at each number those that the task waits for

-- two circles, in the order of their first tasks, and a task that waits for one of them: 0 and 3, 1 alone behind 2, 2 and 4
both_circles : circles ((3 ∷ []) ∷ (2 ∷ []) ∷ (4 ∷ []) ∷ (0 ∷ []) ∷ (2 ∷ []) ∷ [] ∷ []) ≡ (0 ∷ 3 ∷ []) ∷ (2 ∷ 4 ∷ []) ∷ []
both_circles = refl

-- one blocker of 2 does nothing more, and the other one waits for it
second_blocker : circles ([] ∷ (2 ∷ []) ∷ (0 ∷ 1 ∷ []) ∷ []) ≡ (1 ∷ 2 ∷ []) ∷ []
second_blocker = refl

-- two circles with one task in both are one deadlock: the circle of 1 is told
shared_task : circles ((1 ∷ 2 ∷ []) ∷ (0 ∷ []) ∷ (0 ∷ []) ∷ []) ≡ (0 ∷ 1 ∷ []) ∷ []
shared_task = refl

all_in_it : led_back ((1 ∷ 2 ∷ []) ∷ (0 ∷ []) ∷ (0 ∷ []) ∷ []) ≡ true ∷ true ∷ true ∷ []
all_in_it = refl

-- the first task is in a circle of three alone
long_way : circles ((1 ∷ []) ∷ (2 ∷ []) ∷ (0 ∷ 1 ∷ []) ∷ []) ≡ (0 ∷ 1 ∷ 2 ∷ []) ∷ []
long_way = refl

-- the shorter way, though it is over a later task
short_way : circles ((1 ∷ 2 ∷ []) ∷ (2 ∷ []) ∷ (0 ∷ []) ∷ []) ≡ (0 ∷ 2 ∷ []) ∷ []
short_way = refl

-- of two ways of one length the one over the earlier task
earlier_way : circles ((1 ∷ 2 ∷ []) ∷ (0 ∷ []) ∷ (0 ∷ []) ∷ []) ≡ (0 ∷ 1 ∷ []) ∷ []
earlier_way = refl
