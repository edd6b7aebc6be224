use Rattle.std.proofs.Common.{◌≡◌, ◌<◌, ◌∙◌, true, false, List, length, ap, sym, subst}
use Rattle.cics_dispatch.specs.Machine.Machine.{Machine}
use Rattle.cics_dispatch.specs.Machine.Events.{Drained, played, drained}
use Rattle.cics_dispatch.proofs.OfMachine.Draining.{turn_fewer, drained_turn, drained_none}
use Rattle.cics_dispatch.specs.declared.machine.events.Event.{Event}
use Rattle.cics_dispatch.specs.declared.machine.events.Request.{Request}
use Rattle.cics_orders.specs.Giving.{told_by, told_all, happening}
use Rattle.cics_orders.specs.Playing.{Takes}
use Rattle.cics_orders.specs.declared.lanes.Lane.{Lane}
use Rattle.cics_orders.proofs.playing.play.Goals as goal

-- what a request leads to is its event, and what happens behind it
first : (m new : Machine) (r : Request) (e : Event) (xs ys : List Lane) → e ≡ (played m r).event → new ≡ (played m r).machine → ys ≡ told_by xs e →
    ((drained new).machine ≡ (happening m r).machine) × (told_all ys (drained new).turns ≡ told_all xs (happening m r).turns)
unfolding happening
first m new r e xs ys event left told =
    (ap (λ n. (drained n).machine) left, (λ i. told_all (told i) (drained (left i)).turns) ∙ ap (λ e. told_all (told_by xs e) (drained (played m r).machine).turns) event)

-- a turn more
more : (m new : Machine) (xs ys : List Lane) → Takes m new xs ys true →
    (length new.waiting < length m.waiting) × ((drained new).machine ≡ (drained m).machine) × (told_all ys (drained new).turns ≡ told_all xs (drained m).turns)
more m new xs ys (t, turn, left, told) =
    let all = drained_turn m t turn in (
      subst (λ (n : Machine). length n.waiting < length m.waiting) (sym left) (turn_fewer m t turn),
      ap (λ n. (drained n).machine) left ∙ sym (ap (λ (d : Drained). d.machine) all),
      (λ i. told_all (told i) (drained (left i)).turns) ∙ sym (ap (λ (d : Drained). told_all xs d.turns) all),
    )

-- the request is played
pub loop-init : goal.loop-init
loop-init c =
    let all = first c.args.region.now.machine c.play.new.self.machine c.args.request c.in_ok-event.event c.args.lanes.now.items c.hear.new.lanes.items
    c.in_ok-event.ensures.played.0 c.in_ok-event.ensures.played.1 c.in_ok-hear.ensures in
    record { machine = all.0; told = all.1 }

-- each turn ends the wait of a command
pub loop-smaller : goal.loop-smaller
loop-smaller c =
    let taken : Takes c.loop.region.machine c.drain_once.new.region.machine c.loop.lanes.items c.drain_once.new.lanes.items true = rw c.if-branch.true at c.in_ok-drain_once.ensures in
    (more c.loop.region.machine c.drain_once.new.region.machine c.loop.lanes.items c.drain_once.new.lanes.items taken).0

-- a turn was taken
pub loop-preserved : goal.loop-preserved
loop-preserved c =
    let taken : Takes c.loop.region.machine c.drain_once.new.region.machine c.loop.lanes.items c.drain_once.new.lanes.items true = rw c.if-branch.true at c.in_ok-drain_once.ensures in
    let all = more c.loop.region.machine c.drain_once.new.region.machine c.loop.lanes.items c.drain_once.new.lanes.items taken in
    record { machine = all.1 ∙ c.loop.invariant.machine; told = all.2 ∙ c.loop.invariant.told }

-- all were taken
pub returns : goal.returns
returns c =
    let now = c.loop.region.machine in
    let none : Takes now c.drain_once.new.region.machine c.loop.lanes.items c.drain_once.new.lanes.items false = rw c.if-branch.false at c.in_ok-drain_once.ensures in
    let all = drained_none now none.0 in
    record {
      machine = none.1 ∙ sym (ap (λ (d : Drained). d.machine) all) ∙ c.loop.invariant.machine;
      told = none.2 ∙ sym (ap (λ (d : Drained). told_all c.loop.lanes.items d.turns) all) ∙ c.loop.invariant.told;
    }
