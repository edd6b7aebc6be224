-- Worked rows.
use Rattle.std.proofs.Common.{◌≡◌, ℕ, List, [], ◌∷◌, map, refl, Option, Some, None, false, length, slice_get}
use lib.Chars.{codes}
use Rattle.cics_names.specs.Ebcdic.{code_of}
use Rattle.cics_names.specs.Keyed.{Bytes}
use Rattle.cics_dispatch.specs.Machine.Machine.{records_in}
use Rattle.cics_dispatch.specs.declared.machine.outcomes.Outcome.{Outcome}
use Rattle.cics_dispatch.specs.declared.machine.outcomes.Outcome.TheVariants.{Replied}
use Rattle.cics_orders.specs.Space.Orders.{Order, orders, after, is_serial_order, serial_orders}
use Rattle.cics_orders.specs.Plans.Defining.{defined_by}
use Rattle.cics_orders.specs.Giving.{lanes, initial_state, given, happening, with_task}
use Rattle.cics_orders.specs.Turns.{breaks}
use Rattle.cics_dispatch.specs.Machine.Events.{turn, drained_within}
use Rattle.cics_orders.specs.declared.plans.plans.Plan.{Plan}
use Rattle.cics_orders.specs.declared.lanes.Lane.{Lane}

abbrev t1 : Bytes
t1 = 0xE3 ∷ 0xF1 ∷ 0x40 ∷ 0x40 ∷ 0x40 ∷ 0x40 ∷ 0x40 ∷ 0x40 ∷ []

abbrev t2 : Bytes
t2 = 0xE3 ∷ 0xF2 ∷ 0x40 ∷ 0x40 ∷ 0x40 ∷ 0x40 ∷ 0x40 ∷ 0x40 ∷ []

-- two tasks enqueue upon two values, each in the other's order
abbrev deadlock : Plan
deadlock = record {
  definitions = [];
  tasks =
      record { label = t1; transaction = []; dtimout = 0; attach = (1, []); lines = (3, codes "T1 EXEC CICS ENQ RESOURCE('A') LENGTH(1)") ∷ (4, codes "T1 EXEC CICS ENQ RESOURCE('B') LENGTH(1)") ∷ [] }
      ∷ record { label = t2; transaction = []; dtimout = 0; attach = (2, []); lines = (5, codes "T2 EXEC CICS ENQ RESOURCE('B') LENGTH(1)") ∷ (6, codes "T2 EXEC CICS ENQ RESOURCE('A') LENGTH(1)") ∷ [] }
      ∷ [];
  clock = [];
  written = [];
}

-- The orders of a deadlock. If a task has both values, the other waits for its first. Else each
-- waits for the other.
deadlock_orders : orders lanes 4 (initial_state deadlock) ≡
    (0 ∷ 0 ∷ 1 ∷ []) ∷ (0 ∷ 1 ∷ 0 ∷ 1 ∷ []) ∷ (0 ∷ 1 ∷ 1 ∷ 0 ∷ []) ∷ (1 ∷ 0 ∷ 0 ∷ 1 ∷ []) ∷ (1 ∷ 0 ∷ 1 ∷ 0 ∷ []) ∷ (1 ∷ 1 ∷ 0 ∷ []) ∷ []
unfolding initial_state given happening turn drained_within defined_by with_task code_of breaks
deadlock_orders = refl

-- two tasks look at a record, and each then writes what it made of what it saw
abbrev k : ℕ
k = 0xD2

abbrev a_file : Bytes
a_file = 0xC1 ∷ 0x40 ∷ 0x40 ∷ 0x40 ∷ 0x40 ∷ 0x40 ∷ 0x40 ∷ 0x40 ∷ []

-- the second task looks while the first one is at it
abbrev between : Order
between = 0 ∷ 1 ∷ 0 ∷ 0 ∷ 0 ∷ 1 ∷ 1 ∷ 1 ∷ []

abbrev lost_update : Plan
lost_update = record {
  definitions = (1, codes "DEFINE FILE('A') KEYLENGTH(1) RECOVERABLE") ∷ (2, codes "LOAD FILE('A') FROM('K0')") ∷ [];
  tasks =
      record {
        label = t1;
        transaction = [];
        dtimout = 0;
        attach = (3, []);
        lines =
            (5, codes "T1 EXEC CICS READ FILE('A') RIDFLD('K')") ∷ (6, codes "T1 EXEC CICS READ FILE('A') RIDFLD('K') UPDATE")
            ∷ (7, codes "T1 EXEC CICS REWRITE FILE('A') FROM('K1')") ∷ (8, codes "T1 EXEC CICS RETURN") ∷ [];
      }
      ∷ record {
        label = t2;
        transaction = [];
        dtimout = 0;
        attach = (4, []);
        lines =
            (9, codes "T2 EXEC CICS READ FILE('A') RIDFLD('K')") ∷ (10, codes "T2 EXEC CICS READ FILE('A') RIDFLD('K') UPDATE")
            ∷ (11, codes "T2 EXEC CICS REWRITE FILE('A') FROM('K2')") ∷ (12, codes "T2 EXEC CICS RETURN") ∷ [];
      }
      ∷ [];
  clock = [];
  written = [];
}

-- the contents that a task was told
abbrev seen : Option Lane → List (Option Bytes)
seen None = []
seen (Some lane) = map content lane.told where
  content : Outcome → Option Bytes
  content (Replied reply) = reply.content
  content _ = None

-- Both saw the record as it was loaded, and the second wrote over what the first wrote: the order
-- is not serial.
lost : (records_in (after lanes (initial_state lost_update) between).machine a_file ≡ (k ∷ [], k ∷ 0xF2 ∷ []) ∷ [])
    × (is_serial_order lanes breaks (initial_state lost_update) between ≡ false)
    × (seen (slice_get (after lanes (initial_state lost_update) between).lanes 0) ≡ Some (k ∷ 0xF0 ∷ []) ∷ Some (k ∷ 0xF0 ∷ []) ∷ None ∷ None ∷ [])
    × (seen (slice_get (after lanes (initial_state lost_update) between).lanes 1) ≡ Some (k ∷ 0xF0 ∷ []) ∷ Some (k ∷ 0xF1 ∷ []) ∷ None ∷ None ∷ [])
unfolding initial_state given happening turn drained_within defined_by with_task code_of breaks
lost = (refl, refl, refl, refl)

-- There are as many orders as there are ways to put the lines of the second task between those of
-- the first, except that it may have to wait.
how_many : length (orders lanes 8 (initial_state lost_update)) ≡ 24
unfolding initial_state given happening turn drained_within defined_by with_task code_of breaks
how_many = refl

-- Those of them are serial in which a task is done before the other begins.
serial_ones : serial_orders lanes breaks 8 (initial_state lost_update) ≡ (0 ∷ 0 ∷ 0 ∷ 0 ∷ 1 ∷ 1 ∷ 1 ∷ 1 ∷ []) ∷ (1 ∷ 1 ∷ 1 ∷ 1 ∷ 0 ∷ 0 ∷ 0 ∷ 0 ∷ []) ∷ []
unfolding initial_state given happening turn drained_within defined_by with_task code_of breaks
serial_ones = refl
