use Rattle.std.proofs.Common.{◌≡◌, ◌∙◌, ℕ, List, Option, ap, sym, eq-eqb, ne_eqb}
use Rattle.std.specs.Prelude.{slice_get, option_and_then}
use Rattle.cics_orders.specs.Plans.Taking.{WrittenLine}
use Rattle.cics_orders.specs.Giving.{State, given}
use Rattle.cics_orders.specs.AsWritten.{lane_of, line_ready, next_number, written_to}
use Rattle.cics_orders.specs.declared.lanes.Lane.{Lane}
use Rattle.cics_orders.proofs.AsWritten.{passes, takes, stops}
use Rattle.cics_orders.proofs.OrderLaws.{plan_stays}
use Rattle.cics_orders.proofs.walks.Walker.follow.Goals as goal

-- the number that was found is that of the lane's next line
found : (was s : State) (line : WrittenLine) (l : ℕ) (xs : List Lane) (n : Option ℕ) → was ≡ s → l ≡ lane_of was.plan line.0 → xs ≡ was.lanes →
    n ≡ option_and_then (line_ready was.machine) (slice_get xs l) → next_number s (lane_of s.plan line.0) ≡ n
found was s line l xs n view lane items is =
    sym (is ∙ (λ i. option_and_then (line_ready was.machine) (slice_get (items i) (lane i))) ∙ ap (λ (t : State). next_number t (lane_of t.plan line.0)) view)

-- the lane gives the line
pub returns-in_ok-give-in-Some-clause-written : goal.returns-in_ok-give-in-Some-clause-written
returns-in_ok-give-in-Some-clause-written c = λ rest.
    let s = c.args.self.now in
    let next = found _ s c.args.line c.lane_of-lane.result c.as_slice.result.now c.next_number.result c.self.view_is c.lane_of-lane.ensures c.as_slice.ensures.value c.next_number.ensures in
    let lane = c.lane_of-lane.ensures ∙ ap (λ (t : State). lane_of t.plan c.args.line.0) c.self.view_is in
    takes s c.args.line rest c.in-Some.next (next ∙ c.in-Some.is) (eq-eqb c.in-Some.next c.args.line.1 c.if-next-number.true)
    ∙ ap (λ t. written_to t rest) (sym (c.in_ok-give-in-Some.ensures ∙ ap (given s) lane))

pub returns-in_ok-give-in-Some-clause-plan : goal.returns-in_ok-give-in-Some-clause-plan
returns-in_ok-give-in-Some-clause-plan c = ap (λ (s : State). s.plan) c.in_ok-give-in-Some.ensures ∙ plan_stays c.args.self.now c.lane_of-lane.result

-- the lane gives another line first
pub returns-in-Some-2-clause-written : goal.returns-in-Some-2-clause-written
returns-in-Some-2-clause-written c = λ rest.
    let s = c.args.self.now in
    let next = found _ s c.args.line c.lane_of-lane.result c.as_slice.result.now c.next_number.result c.self.view_is c.lane_of-lane.ensures c.as_slice.ensures.value c.next_number.ensures in
    stops s c.args.line rest c.in-Some.next (next ∙ c.in-Some.is) (ne_eqb c.in-Some.next c.args.line.1 c.if-next-number.false)

-- the lane may not give
pub returns-in-None-clause-written : goal.returns-in-None-clause-written
returns-in-None-clause-written c = λ rest.
    let s = c.args.self.now in
    let next = found _ s c.args.line c.lane_of-lane.result c.as_slice.result.now c.next_number.result c.self.view_is c.lane_of-lane.ensures c.as_slice.ensures.value c.next_number.ensures in
    passes s c.args.line rest (next ∙ c.in-None.is)
