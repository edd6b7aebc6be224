use Rattle.std.proofs.Common.{Bool, ◌≡◌, ◌∙◌, ◌<◌, ◌≤◌, ◌+◌, ◌++◌, ◌∷◌, [], ap, sym, arith, length, get_or, take, List, ℕ, subst, refl, None}
use Rattle.std.proofs.lemmas.List.{length_push, length-map, take_all}
use Rattle.cics_orders.specs.Space.Orders.{after}
use Rattle.cics_orders.specs.Space.States.{lanes_of, reached}
use Rattle.cics_orders.specs.Search.Ahead.{all_reached, IsKnown, IsMet}
use Rattle.cics_orders.specs.declared.space.states.Reached.{Reached}
use Rattle.cics_orders.proofs.OfSearch.Advancing.{known_put, known_first, front_more, met_more}
use Rattle.cics_orders.proofs.OfSearch.Following.{given_there}
use Rattle.cics_orders.specs.Giving.{lanes, initial_of}
use Rattle.cics_orders.specs.Stamps.{state_stamp}
use Rattle.cics_orders.specs.Turns.{breaks}
use Rattle.cics_orders.specs.Endings.Telling.{parts_at}
use Rattle.cics_orders.proofs.StampLaws.{stamps_tell, given_initial, initial_initial}
use Rattle.cics_orders.proofs.search.ahead.lead_on.Goals as goal

-- what is known of the entry's stamp is taken
pub loop-i-init : goal.loop-i-init
loop-i-init c =
    let told : Bool = c.args.scope.told in
    let t = c.args.walk.now in
    let s = initial_of t in
    let b = c.args.scope.is_serial in
    let e = c.requires.entry in
    record {
      initial = refl;
      known = known_put lanes breaks (state_stamp told) (parts_at told) b s (stamps_tell told t) c.args.known.now.entries c.take-states.new.known.entries c.args.entry.now.0 None c.requires.known
          c.take-states.ensures.taken.0 tt;
      count = sym c.len-i.ensures;
      states = known_first lanes breaks (state_stamp told) (parts_at told) b s (stamps_tell told t) c.args.known.now.entries c.args.entry.now.0 c.take-states.result c.requires.known
          c.take-states.ensures.found c.args.entry.now.1.first e.way (sym e.stamped);
    }

-- the walk is at the state that a lane more leads to
pub go_on-requires-clause-met : goal.go_on-requires-clause-met
go_on-requires-clause-met c =
    let told : Bool = c.args.scope.told in
    let t = c.args.walk.now in
    let s = initial_of t in
    let b = c.args.scope.is_serial in
    let x = after lanes s c.args.entry.now.1.first in
    let ls = c.as_slice-lanes.result.now in
    let lane = get_or ls c.loop-i.i 0 in
    let led = given_there lanes initial_of given_initial initial_initial t c.loop-i.walk c.go_to.new.walk c.give.new.self c.args.entry.now.1.first lane
    (c.in_ok-go_to.ensures ∙ ap (after lanes (initial_of c.loop-i.walk)) c.as_slice.ensures) c.loop-i.invariant.initial c.in_ok-give.ensures in
    let given : c.give.new.self ≡ lanes.given x lane = led.0 in
    let begun : initial_of c.give.new.self ≡ s = led.1 in
    subst (λ z. IsMet lanes z c.give.new.self) (sym begun)
    (met_more lanes breaks (state_stamp told) (parts_at told) b s (stamps_tell told t) x c.give.new.self c.loop-i.i ls (c.args.entry.now.1.first, c.requires.entry.way, refl)
    (c.as_slice-lanes.ensures ∙ c.requires.entry.lanes_there) (omega arith) given)

pub go_on-requires-clause-known : goal.go_on-requires-clause-known
go_on-requires-clause-known c =
    let told : Bool = c.args.scope.told in
    let t = c.args.walk.now in
    let s = initial_of t in
    let b = c.args.scope.is_serial in
    let x = after lanes s c.args.entry.now.1.first in
    let lane = get_or c.as_slice-lanes.result.now c.loop-i.i 0 in
    let led = given_there lanes initial_of given_initial initial_initial t c.loop-i.walk c.go_to.new.walk c.give.new.self c.args.entry.now.1.first lane
    (c.in_ok-go_to.ensures ∙ ap (after lanes (initial_of c.loop-i.walk)) c.as_slice.ensures) c.loop-i.invariant.initial c.in_ok-give.ensures in
    let given : c.give.new.self ≡ lanes.given x lane = led.0 in
    let begun : initial_of c.give.new.self ≡ s = led.1 in
    subst (λ z. IsKnown lanes breaks (state_stamp told) b z c.loop-i.known.entries) (sym begun) c.loop-i.invariant.known

-- the state that a lane more leads to is there
pub loop-i-preserved : goal.loop-i-preserved
loop-i-preserved c =
    let told : Bool = c.args.scope.told in
    let t = c.args.walk.now in
    let s = initial_of t in
    let b = c.args.scope.is_serial in
    let x = after lanes s c.args.entry.now.1.first in
    let inv = c.loop-i.invariant in
    let states = c.loop-i.states in
    let ls = c.as_slice-lanes.result.now in
    let lane = get_or ls c.loop-i.i 0 in
    let led = given_there lanes initial_of given_initial initial_initial t c.loop-i.walk c.go_to.new.walk c.give.new.self c.args.entry.now.1.first lane
    (c.in_ok-go_to.ensures ∙ ap (after lanes (initial_of c.loop-i.walk)) c.as_slice.ensures) c.loop-i.invariant.initial c.in_ok-give.ensures in
    let given : c.give.new.self ≡ lanes.given x lane = led.0 in
    let begun : initial_of c.give.new.self ≡ s = led.1 in
    let next : ℕ → Reached = λ l. reached lanes breaks (state_stamp told) b (lanes.given x l) in
    let are : ls ≡ lanes_of lanes breaks b x = c.as_slice-lanes.ensures ∙ c.requires.entry.lanes_there in
    let short : length states < length ls = omega (arith, inv.count) in
    let more : c.push.new.self ≡ states ++ next (get_or (lanes_of lanes breaks b x) (length states) 0) ∷ []
    = c.in_ok-push.ensures.ok
    ∙ ap (λ r. states ++ r ∷ []) (c.in_ok-there.ensures ∙ ap (reached lanes breaks (state_stamp told) b) given ∙ ap next (λ i. get_or (are i) (sym inv.count i) 0)) in
    record {
      initial = c.in_ok-go_on.ensures.initial ∙ begun;
      known = subst (λ z. IsKnown lanes breaks (state_stamp told) b z c.go_on.new.known.entries) begun c.in_ok-go_on.ensures.known;
      count = ap length more ∙ length_push states _ ∙ ap (λ n. n + 1) inv.count;
      states = subst (λ (rs : List Reached). rs ≡ take (length rs) (all_reached lanes breaks (state_stamp told) b x)) (sym more)
          (front_more next (lanes_of lanes breaks b x) states (subst (λ (ks : List ℕ). length states < length ks) are short) inv.states);
    }

-- all lanes have led on
pub returns-clause-states : goal.returns-clause-states
returns-clause-states c =
    let told : Bool = c.args.scope.told in
    let b = c.args.scope.is_serial in
    let x = after lanes (initial_of c.args.walk.now) c.args.entry.now.1.first in
    let all = all_reached lanes breaks (state_stamp told) b x in
    let are : c.as_slice-lanes.result.now ≡ lanes_of lanes breaks b x = c.as_slice-lanes.ensures ∙ c.requires.entry.lanes_there in
    let size : length all ≡ length c.as_slice-lanes.result.now = length-map (lanes_of lanes breaks b x) (λ l. reached lanes breaks (state_stamp told) b (lanes.given x l)) ∙ ap length (sym are) in
    let past : length all ≤ length c.loop-i.states = omega (arith, size, c.loop-i.invariant.count) in
    c.loop-i.invariant.states ∙ take_all (length c.loop-i.states) all past
