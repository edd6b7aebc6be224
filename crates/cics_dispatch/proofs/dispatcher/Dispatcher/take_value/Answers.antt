use Rattle.std.proofs.Common.{refl, ◌∙◌, sym, ap, subst, None, Ok}
use Rattle.std.specs.Prelude.{take}
use Rattle.std.proofs.lemmas.Option.{slice_get_within}
use Rattle.cics_dispatch.specs.Machine.Regions.{region_of, IsRegionKept}
use Rattle.cics_dispatch.specs.Machine.Calls.{IsAttempt, going_on}
use Rattle.cics_history.specs.Execution.{IfEnqMustWait, IsOpenOrNone, IsOpenUnit}
use Rattle.cics_dispatch.specs.Machine.Machine.{with_unit}
use Rattle.cics_dispatch.specs.Machine.Steps.{other_command}
use Rattle.cics_dispatch.specs.Machine.Waking.{awaited_by}
use Rattle.cics_dispatch.specs.declared.machine.outcomes.Attempt.TheVariants.{Told, MustWait}
use Rattle.cics_dispatch.proofs.OfMachine.KeptTasks.{acting_or_none}
use Rattle.cics_dispatch.proofs.OfMachine.Ready.{value_ready, only_enq}
use Rattle.cics_dispatch.proofs.OfMachine.RegionSteps.{then_told, placed_within, one_task, seen_awake}
use Rattle.cics_dispatch.proofs.OfMachine.RegionEnqueuing.{first_fit, enqueues, enq_awaited, waits_same, full_kept, full_step, owner_free, owner_there, taken_kept, taken_step}
use Rattle.cics_dispatch.proofs.dispatcher.Dispatcher.take_value.Goals as goal

pub unreachable-requires : goal.unreachable-requires
unreachable-requires c = only_enq c.args.self.now.machine c.args.at c.args.command.now.verb c.requires.within (λ value n nosuspend is. c.in_default.not-Enq value n nosuspend is) c.requires.ready

pub slice_bounds-enq-end : goal.slice_bounds-enq-end
slice_bounds-enq-end c =
    let fits = value_ready c.args.self.now.machine c.args.at c.args.command.now.verb c.in-Enq.resource c.in-Enq.length c.in-Enq.nosuspend c.requires.within c.in-Enq.is c.requires.ready in
    (first_fit c.in-Enq.length c.in-Enq.resource c.bytes.result.now c.bytes.ensures fits).0

pub enq-requires-clause-most : goal.enq-requires-clause-most
enq-requires-clause-most c =
    let fits = value_ready c.args.self.now.machine c.args.at c.args.command.now.verb c.in-Enq.resource c.in-Enq.length c.in-Enq.nosuspend c.requires.within c.in-Enq.is c.requires.ready in
    (first_fit c.in-Enq.length c.in-Enq.resource c.bytes.result.now c.bytes.ensures fits).1

pub invariant_of-self-in-MustWait : goal.invariant_of-self-in-MustWait
invariant_of-self-in-MustWait c =
    let tried = enqueues c.self.inside.units c.enq.new.self c.get.result.now c.unit-unit.result c.in-Enq.length c.in-Enq.resource c.bytes.result.now c.in_ok-holder.field-0
    c.unit-unit.ensures c.bytes.ensures c.in_ok-holder.ensures.state c.in_ok-holder.ensures.done in
    subst IsRegionKept (sym (waits_same c.self.invariant c.args.at c.get.result.now c.get.ensures tried c.enq.ensures.headline c.enq.ensures.serializable c.in-MustWait.holder c.in-MustWait.is)) c.self.invariant

pub returns-in-MustWait : goal.returns-in-MustWait
returns-in-MustWait c =
    let u = c.self.inside in
    let t = c.get.result.now in
    let holder = c.in-MustWait.holder in
    let tried = enqueues c.self.inside.units c.enq.new.self c.get.result.now c.unit-unit.result c.in-Enq.length c.in-Enq.resource c.bytes.result.now c.in_ok-holder.field-0
    c.unit-unit.ensures c.bytes.ensures c.in_ok-holder.ensures.state c.in_ok-holder.ensures.done in
    record {
      attempt = subst (λ v. IsAttempt v c.args.at c.args.command.now None (Ok (MustWait holder None)) (region_of c.enq.new.self u.tasks u.waits u.clock u.is_down)) c.self.view_is (
        (
          λ s other. (λ i. awaited_by u.units.state (one_task u.tasks c.args.at other c.get.ensures i).unit (c.in-Enq.is i) None)
              ∙ enq_awaited u.units.state t.unit (take c.in-Enq.length c.in-Enq.resource) holder (tried.comes_to ∙ c.in-MustWait.is),
          refl,
        ),
        (
          subst (λ d. IfEnqMustWait d (IsOpenUnit u.units.state)) c.in-MustWait.is c.in_ok-holder.ensures.holder_open,
          waits_same c.self.invariant c.args.at t c.get.ensures tried c.enq.ensures.headline c.enq.ensures.serializable holder c.in-MustWait.is,
        ),
      );
    }

pub invariant_of-self-in-CountFull : goal.invariant_of-self-in-CountFull
invariant_of-self-in-CountFull c =
    let tried = enqueues c.self.inside.units c.enq.new.self c.get.result.now c.unit-unit.result c.in-Enq.length c.in-Enq.resource c.bytes.result.now c.in_ok-holder.field-0
    c.unit-unit.ensures c.bytes.ensures c.in_ok-holder.ensures.state c.in_ok-holder.ensures.done in
    full_kept c.self.invariant c.args.at c.get.result.now c.get.ensures tried c.enq.ensures.headline c.enq.ensures.serializable c.in-CountFull.is

pub returns-in-CountFull : goal.returns-in-CountFull
returns-in-CountFull c =
    let u = c.self.inside in
    let t = c.get.result.now in
    let command = c.args.command.now in
    let m = (region_of u.units u.tasks u.waits u.clock u.is_down).machine in
    let tried = enqueues c.self.inside.units c.enq.new.self c.get.result.now c.unit-unit.result c.in-Enq.length c.in-Enq.resource c.bytes.result.now c.in_ok-holder.field-0
    c.unit-unit.ensures c.bytes.ensures c.in_ok-holder.ensures.state c.in_ok-holder.ensures.done in
    record {
      attempt = subst (λ v. IsAttempt v c.args.at command None (Ok (Told c.answer.result)) c.answer.new.self) c.self.view_is
          (then_told c.args.at t t command.resp c.plain_reply-reply.result (going_on m command None) c.get.ensures c.get.ensures
          (full_kept c.self.invariant c.args.at t c.get.ensures tried c.enq.ensures.headline c.enq.ensures.serializable c.in-CountFull.is)
          (full_step c.self.invariant c.args.at t c.get.ensures tried c.enq.ensures.headline c.enq.ensures.serializable c.in-CountFull.is command c.plain_reply-reply.result c.plain_reply-reply.ensures
          ∙ ap (other_command m t command) (sym c.in-Enq.is)) c.answer.ensures.step);
    }

pub own_unit-requires-clause-free : goal.own_unit-requires-clause-free
own_unit-requires-clause-free c = λ s there none.
    let tried = enqueues c.self.inside.units c.enq.new.self c.get.result.now c.unit-unit.result c.in-Enq.length c.in-Enq.resource c.bytes.result.now c.in_ok-holder.field-0
    c.unit-unit.ensures c.bytes.ensures c.in_ok-holder.ensures.state c.in_ok-holder.ensures.done in
    owner_free c.self.invariant c.args.at c.get.result.now c.get.ensures tried c.enq.ensures.headline c.enq.ensures.serializable c.in-Taken.unit c.in-Taken.is
    (ap (λ x. x.unit) (one_task c.self.inside.tasks c.args.at c.get.ensures there) ∙ none)

pub invariant_of-self-in-Taken : goal.invariant_of-self-in-Taken
invariant_of-self-in-Taken c =
    let t = c.get.result.now in
    let tried = enqueues c.self.inside.units c.enq.new.self c.get.result.now c.unit-unit.result c.in-Enq.length c.in-Enq.resource c.bytes.result.now c.in_ok-holder.field-0
    c.unit-unit.ensures c.bytes.ensures c.in_ok-holder.ensures.state c.in_ok-holder.ensures.done in
    taken_kept c.self.invariant c.args.at t c.get.ensures tried c.enq.ensures.headline c.enq.ensures.serializable c.in-Taken.unit c.in-Taken.is c.own_unit.new.self (c.own_unit.ensures t c.get.ensures)
    (seen_awake c.args.at c.self.view_is c.requires.awake t c.get.ensures)

pub answer-requires-in-Taken : goal.answer-requires-in-Taken
answer-requires-in-Taken c =
    let t = c.get.result.now in
    let tried = enqueues c.self.inside.units c.enq.new.self c.get.result.now c.unit-unit.result c.in-Enq.length c.in-Enq.resource c.bytes.result.now c.in_ok-holder.field-0
    c.unit-unit.ensures c.bytes.ensures c.in_ok-holder.ensures.state c.in_ok-holder.ensures.done in
    record {
      within = placed_within c.own_unit.new.self c.args.at (with_unit t c.in-Taken.unit)
          (owner_there c.self.invariant c.args.at t c.get.ensures tried c.enq.ensures.headline c.enq.ensures.serializable c.in-Taken.unit c.in-Taken.is c.own_unit.new.self (c.own_unit.ensures t c.get.ensures));
    }

pub returns-in-Taken : goal.returns-in-Taken
returns-in-Taken c =
    let u = c.self.inside in
    let t = c.get.result.now in
    let unit = c.in-Taken.unit in
    let command = c.args.command.now in
    let m = (region_of u.units u.tasks u.waits u.clock u.is_down).machine in
    let owned = c.own_unit.ensures t c.get.ensures in
    let tried = enqueues c.self.inside.units c.enq.new.self c.get.result.now c.unit-unit.result c.in-Enq.length c.in-Enq.resource c.bytes.result.now c.in_ok-holder.field-0
    c.unit-unit.ensures c.bytes.ensures c.in_ok-holder.ensures.state c.in_ok-holder.ensures.done in
    record {
      attempt = subst (λ v. IsAttempt v c.args.at command None (Ok (Told c.answer-in-Taken.result)) c.answer-in-Taken.new.self) c.self.view_is
          (then_told c.args.at t (with_unit t unit) command.resp c.plain_reply-reply-in-Taken.result (going_on m command None) c.get.ensures
          (owner_there c.self.invariant c.args.at t c.get.ensures tried c.enq.ensures.headline c.enq.ensures.serializable unit c.in-Taken.is c.own_unit.new.self owned)
          (taken_kept c.self.invariant c.args.at t c.get.ensures tried c.enq.ensures.headline c.enq.ensures.serializable unit c.in-Taken.is c.own_unit.new.self owned
          (seen_awake c.args.at c.self.view_is c.requires.awake t c.get.ensures))
          (taken_step c.self.invariant c.args.at t c.get.ensures tried c.enq.ensures.headline c.enq.ensures.serializable unit c.in-Taken.is c.own_unit.new.self owned command c.plain_reply-reply-in-Taken.result
          c.plain_reply-reply-in-Taken.ensures ∙ ap (other_command m t command) (sym c.in-Enq.is)) c.answer-in-Taken.ensures.step);
    }

pub enq-requires-clause-is_open : goal.enq-requires-clause-is_open
enq-requires-clause-is_open c =
    let u = c.self.inside in
    subst (IsOpenOrNone u.units.state) (sym c.unit-unit.ensures) (acting_or_none (region_of u.units u.tasks u.waits u.clock u.is_down).machine c.args.at c.get.result.now c.self.invariant.tasks c.get.ensures)

pub invariant_of-self : goal.invariant_of-self
invariant_of-self c =
    let u = c.self.inside in
    subst (λ units. IsRegionKept (region_of units u.tasks u.waits u.clock u.is_down)) (sym c.in_err-holder.ensures.err) c.self.invariant

pub own_unit-requires-clause-within : goal.own_unit-requires-clause-within
own_unit-requires-clause-within c = slice_get_within c.self.inside.tasks c.args.at c.get.result.now c.get.ensures
