use Rattle.std.proofs.Common.{Bool, ◌≡◌, ◌∙◌, ◌+◌, ◌++◌, ◌∷◌, [], ap, sym, suc, arith, drop, map, get_or, ℕ}
use Rattle.std.specs.Str.{bytes_eq}
use Rattle.std.specs.Vec.Iter.{into_iter_items}
use Rattle.cics_orders.specs.Space.Orders.{after}
use Rattle.cics_orders.specs.Space.Groups.{added}
use Rattle.cics_orders.specs.Space.States.{led_joined, reached}
use Rattle.cics_orders.specs.Search.Levels.{entry}
use Rattle.cics_orders.specs.declared.space.states.Led.{Led}
use Rattle.cics_orders.specs.declared.space.states.Reached.{Reached}
use Rattle.cics_orders.proofs.OfSearch.Following.{added_more, lane_next}
use Rattle.cics_orders.specs.Giving.{lanes, initial_of}
use Rattle.cics_orders.specs.Stamps.{state_stamp}
use Rattle.cics_orders.specs.Turns.{breaks}
use Rattle.cics_orders.proofs.search.exploring.Search.follow.Goals as goal

-- what a lane more leads to is added
pub loop-reached-preserved : goal.loop-reached-preserved
loop-reached-preserved c =
    let told : Bool = c.args.self.now.scope.told in
    let b = c.args.self.now.scope.is_serial in
    let led : Led = c.args.entry.1 in
    let x = after lanes (initial_of c.args.walk.now) led.first in
    let ls = led.lanes in
    let i = c.loop-reached.at in
    let to : ℕ → Reached = λ k. reached lanes breaks (state_stamp told) b (lanes.given x k) in
    let reached = c.in-Some.reached in
    let next = lane_next to ls i reached (into_iter_items c.next.new.self) (sym c.in-Some.ensures.steps.0 ∙ c.loop-reached.invariant.left) in
    let made : Led = record { first = led.first ++ get_or ls i 0 ∷ []; lanes = reached.lanes; has_ended = reached.has_ended; count = led.count } in
    let one : suc i ≡ i + 1 = omega arith in
    record {
      left = next.2 ∙ ap (λ n. map to (drop n ls)) one;
      next = added_more bytes_eq led_joined (λ k. entry lanes breaks (state_stamp told) b (led.first ++ k ∷ []) led.count (lanes.given x k)) ls i
          c.args.next.now.entries c.loop-reached.next.entries c.add_led.new.level.entries reached.stamp made next.0 c.loop-reached.invariant.next
          (λ j. ((next.1 j).stamp, record { first = led.first ++ get_or ls i 0 ∷ []; lanes = (next.1 j).lanes; has_ended = (next.1 j).has_ended; count = led.count }))
          (c.in_ok-add_led.ensures ∙ (λ j. added bytes_eq led_joined c.loop-reached.next.entries reached.stamp (record {
            first = led.first ++ get_or (c.as_slice.ensures j) i 0 ∷ [];
            lanes = reached.lanes;
            has_ended = reached.has_ended;
            count = led.count;
          })));
    }
