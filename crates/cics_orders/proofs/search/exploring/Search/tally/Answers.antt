use Rattle.std.proofs.Common.{Bool, ◌≡◌, ◌∙◌, map, ap, sym}
use Rattle.cics_orders.specs.Space.Orders.{after}
use Rattle.cics_orders.specs.Space.Endings.{are_same}
use Rattle.cics_orders.specs.Space.Groups.{added, added_all}
use Rattle.cics_orders.specs.Search.Levels.{tallied}
use Rattle.cics_orders.specs.Space.Tallies.{tally_joined}
use Rattle.cics_orders.proofs.OfSearch.Following.{initial_after}
use Rattle.cics_orders.specs.Giving.{lanes, initial_of}
use Rattle.cics_orders.specs.Endings.Telling.{parts_at}
use Rattle.cics_orders.proofs.StampLaws.{given_initial, initial_initial}
use Rattle.cics_orders.proofs.search.exploring.Search.tally.Goals as goal

-- an entry more is told
pub loop-led-preserved : goal.loop-led-preserved
loop-led-preserved c =
    let told : Bool = c.args.self.now.scope.told in
    let s = initial_of c.args.walk.now in
    let b = c.args.self.now.scope.is_serial in
    let led = c.in-Some.led in
    let inv = c.loop-led.invariant in
    let met = c.loop-led.met.entries in
    let back = c.in_ok-go_to.ensures ∙ ap (after lanes (initial_of c.loop-led.walk)) c.as_slice.ensures ∙ ap (λ t. after lanes t led.first) inv.initial in
    let parts = c.new-parts.ensures ∙ c.in_ok-parts.ensures ∙ ap (parts_at told) back in
    let tally = c.new.ensures in
    let made : c.new.result ≡ (tallied lanes (parts_at told) b s (c.in-Some.field-0-0, led)).1 = λ i. record { order = tally.order i; orders = tally.orders i; serial = tally.serial i } in
    record {
      initial = ap initial_of back ∙ initial_after lanes initial_of given_initial s led.first ∙ initial_initial c.args.walk.now;
      met =
          ap (λ m. added_all are_same tally_joined m (map (tallied lanes (parts_at told) b s) c.next.new.self))
          (c.in_ok-add.ensures ∙ (λ i. added are_same tally_joined met (parts i) (made i)))
          ∙ ap (λ es. added_all are_same tally_joined met (map (tallied lanes (parts_at told) b s) es)) (sym c.in-Some.ensures.steps)
          ∙ inv.met;
    }
