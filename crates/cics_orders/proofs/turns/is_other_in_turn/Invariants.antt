use Rattle.std.proofs.Common.{◌≡◌, ◌==◌, not}
use Rattle.std.specs.List.{list_any}
use Rattle.cics_orders.specs.Space.Orders.{numbered_from}
use Rattle.cics_orders.specs.Turns.{is_in_turn}
use Rattle.cics_orders.proofs.turns.is_other_in_turn.Given as goal

-- the task of no other lane before this one is within a turn
abbrev pub invariant-loop-i : goal.invariant-loop-i
invariant-loop-i l =
    list_any (λ k. not (k == l.number)) (numbered_from (is_in_turn l.region.machine) l.lanes l.i) ≡ list_any (λ k. not (k == l.number)) (numbered_from (is_in_turn l.region.machine) l.lanes 0)
