use Rattle.std.proofs.Common.{sym, ◌∙◌, subst}
use Rattle.cics_dispatch.specs.Machine.Events.{IsTurn}
use Rattle.cics_run.proofs.OfStage.Draining.{region_is, turn_seen, none_seen}
use Rattle.cics_run.proofs.stage.draining.take_turns.Goals as goal

pub loop-event-preserved : goal.loop-event-preserved
loop-event-preserved g c =
    let m = c.loop-event.region.machine in
    let next = c.drain_step.new.self.machine in
    let took = subst (λ o. IsTurn m o next) c.in-Some.is c.in_ok-event.ensures.turn in
    let more = turn_seen g.O.Observer.sight c.args.number m next c.in-Some.event _ _ took c.in_ok-show.ensures in
    record { machine = more.0 ∙ c.loop-event.invariant.machine; seen = more.1 ∙ c.loop-event.invariant.seen }

pub loop-event-smaller : goal.loop-event-smaller
loop-event-smaller g c =
    let m = c.loop-event.region.machine in
    let next = c.drain_step.new.self.machine in
    let took = subst (λ o. IsTurn m o next) c.in-Some.is c.in_ok-event.ensures.turn in
    (turn_seen g.O.Observer.sight c.args.number m next c.in-Some.event _ _ took c.in_ok-show.ensures).2

pub returns-clause-region : goal.returns-clause-region
returns-clause-region g c =
    let m = c.loop-event.region.machine in
    let rest = subst (λ o. IsTurn m o c.drain_step.new.self.machine) c.in_default.is c.in_ok-event.ensures.turn in
    let all = none_seen g.O.Observer.sight c.args.number m (g.O.Observer.seen c.loop-event.observer) rest.0 in
    region_is c.drain_step.new.self _ c.in_ok-event.ensures.headline (rest.1 ∙ sym all.0 ∙ c.loop-event.invariant.machine)

pub returns-clause-seen : goal.returns-clause-seen
returns-clause-seen g c =
    let m = c.loop-event.region.machine in
    let rest = subst (λ o. IsTurn m o c.drain_step.new.self.machine) c.in_default.is c.in_ok-event.ensures.turn in
    let all = none_seen g.O.Observer.sight c.args.number m (g.O.Observer.seen c.loop-event.observer) rest.0 in
    sym all.1 ∙ c.loop-event.invariant.seen
