use Rattle.std.proofs.Common.{◌≡◌, ◌==◌, ◌&&◌, ◌∙◌, not, true, ap, sym}
use Rattle.std.specs.List.{list_any}
use Rattle.cics_orders.specs.Space.Orders.{numbered_from}
use Rattle.cics_orders.specs.Giving.{State, next_said}
use Rattle.cics_orders.specs.Turns.{is_in_turn, interrupts, turns, breaks}
use Rattle.cics_orders.proofs.walks.Walker.breaks_turn.Goals as goal

-- the line interrupts turns
pub returns-then-interrupts : goal.returns-then-interrupts
unfolding breaks
returns-then-interrupts c =
    let inside = c.self.inside in
    let was : State = record { plan = inside.plan; machine = inside.region.machine; lanes = inside.lanes.items } in
    let l = c.args.number in
    let next : interrupts (next_said was.lanes l) ≡ true
    = ap (λ xs. interrupts (next_said xs l)) (sym c.as_slice-lanes.ensures.value) ∙ ap interrupts (sym c.next_said.ensures) ∙ sym c.interrupts.ensures ∙ c.if-interrupts.true in
    c.is_other_in_turn.ensures ∙ ap (λ xs. list_any (λ k. not (k == l)) (numbered_from (is_in_turn was.machine) xs 0)) c.as_slice-lanes.ensures.value
    ∙ ap (λ b. b && list_any (λ k. not (k == l)) (turns was)) (sym next) ∙ ap (λ s. breaks s l) c.self.view_is
