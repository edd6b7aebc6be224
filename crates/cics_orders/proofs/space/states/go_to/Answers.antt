use Rattle.std.proofs.Common.{◌∙◌, ap, sym, get_or, take}
use Rattle.std.proofs.lemmas.List.{take_more}
use Rattle.cics_orders.specs.Space.Orders.{after}
use Rattle.cics_orders.specs.Giving.{given, lanes, initial_of}
use Rattle.cics_orders.proofs.OfSpace.OrdersLaws.{after-append}
use Rattle.cics_orders.proofs.space.states.go_to.Goals as goal

-- a line more is given
pub loop-i-preserved : goal.loop-i-preserved
loop-i-preserved c =
    let s = initial_of c.args.walk.now in
    let o = c.args.order.now in
    let i = c.loop-i.i in
    c.in_ok-give.ensures ∙ ap (λ t. given t (get_or o i 0)) c.loop-i.invariant
    ∙ sym (after-append lanes s (take i o) (get_or o i 0)) ∙ ap (after lanes s) (sym (take_more o i 0 c.loop-i-test.true))
