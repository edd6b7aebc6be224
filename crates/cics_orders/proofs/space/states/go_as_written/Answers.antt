use Rattle.std.proofs.Common.{◌≡◌, ◌∙◌, ℕ, [], ◌≤◌, List, length, Bool, true, false, not, Option, None, Some, option_map, ap, sym, subst}
use Rattle.std.specs.Prelude.{if◌then◌else◌, is_some}
use Rattle.std.proofs.lemmas.List.{drop_all}
use Rattle.cics_orders.specs.Space.Orders.{after, is_none_left, IsFirst}
use Rattle.cics_orders.specs.Plans.Taking.{WrittenLine}
use Rattle.cics_orders.specs.Giving.{State, lanes, givers}
use Rattle.cics_orders.specs.AsWritten.{written, written_to}
use Rattle.cics_orders.proofs.space.states.go_as_written.Goals as goal

-- behind the last line there is an order if no lane may give
ended : (s : State) (giver : Option ℕ) (b : Bool) → IsFirst giver (givers s 0) → is_some giver ≡ not b → written_to s [] ≡ (if b then Some s else None)
unfolding written
ended s None true none is = ap (λ ls. option_map (λ o. after lanes s o) (if is_none_left ls then Some [] else None)) none
ended s (Some l) false (more, first) is = ap (λ ls. option_map (λ o. after lanes s o) (if is_none_left ls then Some [] else None)) first
ended s None false none is = cc
ended s (Some l) true first is = cc

pub returns : goal.returns
returns c =
    let inv = c.loop-i.invariant in
    let lines : c.written-i-end.result.now ≡ c.loop-i.walk.plan.written
    = c.written-i-end.ensures ∙ ap (λ (s : State). s.plan.written) c.in_ok-restart.ensures ∙ sym (ap (λ p. p.written) inv.plan) in
    let none = drop_all c.loop-i.i c.loop-i.walk.plan.written (subst (λ (ls : List WrittenLine). length ls ≤ c.loop-i.i) lines c.loop-i-test.false) in
    sym inv.rest ∙ ap (written_to c.loop-i.walk) none
    ∙ ended c.loop-i.walk c.first_giver.result c.is_none.result c.first_giver.ensures c.is_none.ensures
