-- Worked rows: the orders of four scripts as written.
use Rattle.std.proofs.Common.{◌≡◌, ℕ, List, [], ◌∷◌, ◌++◌, refl, Option, Some, None, Result, Ok, Err}
use lib.Chars.{codes}
use Rattle.cics_names.specs.Ebcdic.{code_of}
use Rattle.cics_names.specs.Keyed.{Bytes}
use Rattle.cics_dispatch.specs.Machine.Events.{turn, drained_within}
use Rattle.cics_orders.specs.Space.Orders.{Order}
use Rattle.cics_orders.specs.Plans.Defining.{defined_by}
use Rattle.cics_orders.specs.Plans.Taking.{initial_taken, taken_apart, planned}
use Rattle.cics_orders.specs.declared.plans.plans.Planned.{Planned}
use Rattle.cics_orders.specs.declared.plans.plans.ScriptFault.{ScriptFault}
use Rattle.cics_orders.specs.Giving.{initial_state, given, happening, with_task}
use Rattle.cics_orders.specs.AsWritten.{written}

-- two records, and two tasks
abbrev opening : List Bytes
opening =
    codes "DEFINE FILE('F') KEYLENGTH(1) RECOVERABLE"
    ∷ codes "LOAD FILE('F') FROM('A')"
    ∷ codes "LOAD FILE('F') FROM('B')"
    ∷ codes "ATTACH T1 TRANSID('T')"
    ∷ codes "ATTACH T2 TRANSID('T')"
    ∷ []

-- the order as written of a script that was taken apart
abbrev of_plan : Result Planned (ℕ × ScriptFault) → Option Order
of_plan (Ok p) = written (initial_state p.plan) p.plan.written
of_plan (Err fault) = None

-- the order as written of these lines behind the opening
abbrev order_of : List Bytes → Option Order
order_of lines = of_plan (planned (taken_apart initial_taken 1 (opening ++ lines)))

-- A deadlock. The plain run refuses both RETURN, and neither is in an order then.
of_deadlock : order_of
    (codes "T1 EXEC CICS DELETE FILE('F') RIDFLD('A')"
    ∷ codes "T2 EXEC CICS DELETE FILE('F') RIDFLD('B')"
    ∷ codes "T1 EXEC CICS DELETE FILE('F') RIDFLD('B')"
    ∷ codes "T2 EXEC CICS DELETE FILE('F') RIDFLD('A')"
    ∷ codes "T1 EXEC CICS RETURN"
    ∷ codes "T2 EXEC CICS RETURN" ∷ [])
    ≡ Some (0 ∷ 1 ∷ 0 ∷ 1 ∷ [])
unfolding written taken_apart defined_by initial_state given happening turn drained_within with_task code_of
of_deadlock = refl

-- T2's RETURN is refused, as T2 waits. It may give it at the end.
but_for_a_wait : order_of
    (codes "T1 EXEC CICS DELETE FILE('F') RIDFLD('A')"
    ∷ codes "T2 EXEC CICS READ FILE('F') RIDFLD('A') UPDATE RESP(R)"
    ∷ codes "T2 EXEC CICS RETURN"
    ∷ codes "T1 EXEC CICS RETURN" ∷ [])
    ≡ None
unfolding written taken_apart defined_by initial_state given happening turn drained_within with_task code_of
but_for_a_wait = refl

-- T2's RETURN is refused, and T2 gives a line behind it. An order would have the RETURN there.
by_chance : order_of
    (codes "T1 EXEC CICS READ FILE('F') RIDFLD('A') UPDATE"
    ∷ codes "T2 EXEC CICS READ FILE('F') RIDFLD('A') UPDATE RESP(R)"
    ∷ codes "T2 EXEC CICS RETURN"
    ∷ codes "T1 EXEC CICS RETURN"
    ∷ codes "T2 EXEC CICS SYNCPOINT ROLLBACK" ∷ [])
    ≡ None
unfolding written taken_apart defined_by initial_state given happening turn drained_within with_task code_of
by_chance = refl

-- a command before its task, and behind the end of that, is in no order
past_refusals : order_of
    (codes "T3 EXEC CICS RETURN"
    ∷ codes "T1 EXEC CICS RETURN"
    ∷ codes "T1 EXEC CICS RETURN"
    ∷ codes "CLOCK 5"
    ∷ codes "T2 EXEC CICS RETURN" ∷ [])
    ≡ Some (0 ∷ 2 ∷ 1 ∷ [])
unfolding written taken_apart defined_by initial_state given happening turn drained_within with_task code_of
past_refusals = refl
