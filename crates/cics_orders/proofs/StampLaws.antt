-- States of one stamp go on alike: the same lanes may give, their lines lead to states of one stamp
-- again, the endings are told the same, and the same lanes break a turn.
use Rattle.std.proofs.Common.{◌≡◌, ℕ, Bool, true, false, not, ◌&&◌, List, map, Option, None, Some, option_map, refl, ap, sym, ◌∙◌}
use Rattle.std.proofs.lemmas.Option.{slice_get-map}
use Rattle.std.specs.Prelude.{if◌then◌else◌, ◌==◌, slice_get, option_and_then}
use Rattle.std.specs.List.{list_any}
use Rattle.cics_dispatch.proofs.OfFuture.Stamped.{alike_stamps}
use Rattle.cics_orders.specs.Space.Orders.{Order, after, IsWay, AreStampedAlike}
use Rattle.cics_orders.specs.Endings.Telling.{parts_at}
use Rattle.cics_orders.specs.Plans.Proper.{is_proper, proper}
use Rattle.cics_orders.specs.Plans.Taking.{empty_plan}
use Rattle.cics_orders.specs.declared.plans.plans.Plan.{Plan}
use Rattle.cics_orders.specs.Giving.{State, said_at, next_said, given, lanes, frame, initial_lanes, initial_machine, initial_state, initial_of}
use Rattle.cics_orders.specs.Same.{SameState}
use Rattle.cics_orders.specs.Stamps.{seen, state_stamp}
use Rattle.cics_orders.specs.Turns.{interrupts, breaks}
use Rattle.cics_orders.specs.declared.lanes.Lane.{Lane}
use Rattle.cics_orders.proofs.GivenLanes.{initial_is}
use Rattle.cics_orders.proofs.OfEndings.Alike.{parts_alike}
use Rattle.cics_orders.proofs.OrderLaws.{plan_stays}
use Rattle.cics_orders.proofs.SameSteps.{given_alike, givers_alike, stamps_alike}
use Rattle.cics_orders.proofs.Seen.{turns_same}
use Rattle.cics_orders.proofs.SplitStates.{same_after}

-- ---- The initial state

proper_by : (p : Plan) (b : Bool) → is_proper p ≡ b → is_proper (if b then p else empty_plan) ≡ true
proper_by p true is = is
proper_by p false is = refl

-- the proper plan that stands for a plan is proper
pub proper_is : (p : Plan) → is_proper (proper p) ≡ true
proper_is p = proper_by p (is_proper p) refl

-- a proper plan stays
pub proper_stays : (p : Plan) → is_proper p ≡ true → proper p ≡ p
proper_stays p is = ap (λ b. if b then p else empty_plan) is

-- the orders of a proper plan start in its initial state
pub initial_of_is : (p : Plan) → is_proper p ≡ true → initial_state (proper p) ≡ record { plan = p; machine = initial_machine p; lanes = map frame (initial_lanes p) }
initial_of_is p is = ap initial_state (proper_stays p is) ∙ initial_is p

-- a line that is given doesn't change the initial state
pub given_initial : (s : State) (l : ℕ) → initial_of (given s l) ≡ initial_of s
given_initial s l = ap (λ p. initial_state (proper p)) (plan_stays s l)

-- the initial state of the initial state is itself
pub initial_initial : (s : State) → initial_of (initial_of s) ≡ initial_of s
unfolding initial_state
initial_initial s = ap initial_state (proper_stays (proper s.plan) (proper_is s.plan))

-- ---- States of one stamp

module _ (told : Bool) (s t : State) (same : SameState told s t) where
  next_seen : (xs : List Lane) (l : ℕ) → next_said (map (seen told) xs) l ≡ next_said xs l
  next_seen xs l = ap (option_and_then (λ lane. said_at lane.lines lane.given)) (slice_get-map (seen told) xs l) ∙ by (slice_get xs l)
    where
      by : (o : Option Lane) → option_and_then (λ lane. said_at lane.lines lane.given) (option_map (seen told) o) ≡ option_and_then (λ lane. said_at lane.lines lane.given) o
      by None = refl
      by (Some x) = refl

  breaks_same : (l : ℕ) → breaks s l ≡ breaks t l
  unfolding breaks
  breaks_same l =
      let next = sym (next_seen s.lanes l) ∙ ap (λ xs. next_said xs l) same.lanes ∙ next_seen t.lanes l in
      λ i. interrupts (next i) && list_any (λ k. not (k == l)) (turns_same told s.machine t.machine same.machine s.lanes t.lanes 0 same.lanes i)

-- two ways from the initial state that lead to states of one stamp go on alike
pub stamps_tell : (told : Bool) (s : State) (o q : Order) → IsWay lanes (initial_of s) o → IsWay lanes (initial_of s) q →
    state_stamp told (after lanes (initial_of s) o) ≡ state_stamp told (after lanes (initial_of s) q) →
    AreStampedAlike lanes (parts_at told) breaks (state_stamp told) (after lanes (initial_of s) o) (after lanes (initial_of s) q)
stamps_tell told s o q way_o way_q e =
    let x = after lanes (initial_of s) o in
    let y = after lanes (initial_of s) q in
    let same = same_after told (proper s.plan) (proper_is s.plan) o q way_o way_q e in
    record {
      givers = givers_alike told x y 0 same;
      next = λ l one. stamps_alike told alike_stamps (given x l) (given y l) (given_alike told x y l same);
      ends = parts_alike told x y same;
      broken = λ l one. breaks_same told x y same l;
    }
