use Rattle.std.proofs.Common.{◌∙◌, sym, ap, subst, Some, Ok}
use Rattle.std.proofs.lemmas.Option.{slice_get_within}
use Rattle.cics_dispatch.specs.Machine.Regions.{region_of, IsRegionKept}
use Rattle.cics_dispatch.specs.Machine.Calls.{HasReady, IsAttempt, going_on}
use Rattle.cics_history.specs.Execution.{execution, IfMustWait, IsOpenOrNone, IsOpenUnit}
use Rattle.cics_history.specs.Holding.{awaited}
use Rattle.cics_units.specs.Submitting.{as_done, IsBackIfItWaits}
use Rattle.cics_dispatch.specs.Machine.Machine.{with_unit}
use Rattle.cics_dispatch.specs.declared.machine.outcomes.Attempt.TheVariants.{Told, MustWait}
use Rattle.cics_dispatch.proofs.OfMachine.KeptTasks.{acting_or_none}
use Rattle.cics_dispatch.proofs.OfMachine.RegionSteps.{then_told, executes, waits_same, acts_in, holder_awaited, acted_kept, acted_step, owner_free, owner_there, placed_within, one_task, seen_awake}
use Rattle.cics_dispatch.proofs.dispatcher.Dispatcher.execute.Goals as goal

pub submit-requires-clause-ready : goal.submit-requires-clause-ready
submit-requires-clause-ready c =
    rw c.unit-unit.ensures (subst (λ v. HasReady v.machine c.args.at c.args.command.now.verb (Some c.args.op)) (sym c.self.view_is) c.requires.ready c.get.result.now c.get.ensures)

pub invariant_of-self-in-MustWait : goal.invariant_of-self-in-MustWait
invariant_of-self-in-MustWait c =
    let tried = executes c.self.inside.units c.submit.new.self c.get.result.now c.unit-unit.result c.args.op (as_done c.in_ok-holder.field-0)
    c.unit-unit.ensures c.in_ok-holder.ensures.state c.in_ok-holder.ensures.done in
    subst IsRegionKept (sym (waits_same c.self.invariant c.args.at c.get.result.now c.get.ensures tried c.submit.ensures.headline c.submit.ensures.serializable c.in-MustWait.holder (ap as_done c.in-MustWait.is))) c.self.invariant

pub returns-in-MustWait : goal.returns-in-MustWait
returns-in-MustWait c =
    let u = c.self.inside in
    let t = c.get.result.now in
    let holder = c.in-MustWait.holder in
    let tried = executes c.self.inside.units c.submit.new.self c.get.result.now c.unit-unit.result c.args.op (as_done c.in_ok-holder.field-0)
    c.unit-unit.ensures c.in_ok-holder.ensures.state c.in_ok-holder.ensures.done in
    record {
      attempt = λ verb alike. subst (λ v. IsAttempt v c.args.at (record c.args.command.now { verb = verb }) (Some c.args.op) (Ok (MustWait holder (Some c.in-MustWait.op))) (region_of c.submit.new.self u.tasks u.waits u.clock u.is_down)) c.self.view_is (
        (
          λ s other. ap (λ x. awaited u.units.state x.unit c.args.op) (one_task u.tasks c.args.at other c.get.ensures)
              ∙ holder_awaited u.units.state t.unit c.args.op holder (tried.comes_to ∙ ap as_done c.in-MustWait.is),
          ap Some (subst (IsBackIfItWaits c.args.op) c.in-MustWait.is c.in_ok-holder.ensures.back),
        ),
        (
          subst (λ d. IfMustWait (as_done d) (IsOpenUnit u.units.state)) c.in-MustWait.is c.in_ok-holder.ensures.holder_open,
          waits_same c.self.invariant c.args.at t c.get.ensures tried c.submit.ensures.headline c.submit.ensures.serializable holder (ap as_done c.in-MustWait.is),
        ),
      );
    }

pub own_unit-requires-clause-free : goal.own_unit-requires-clause-free
own_unit-requires-clause-free c = λ s there none.
    let tried = executes c.self.inside.units c.submit.new.self c.get.result.now c.unit-unit.result c.args.op (as_done c.in_ok-holder.field-0)
    c.unit-unit.ensures c.in_ok-holder.ensures.state c.in_ok-holder.ensures.done in
    owner_free c.self.invariant c.args.at c.get.result.now c.get.ensures tried c.submit.ensures.headline c.submit.ensures.serializable c.in-Answered.unit c.in-Answered.answer (ap as_done c.in-Answered.is)
    (ap (λ x. x.unit) (one_task c.self.inside.tasks c.args.at c.get.ensures there) ∙ none)

pub invariant_of-self-in-Answered : goal.invariant_of-self-in-Answered
invariant_of-self-in-Answered c =
    let t = c.get.result.now in
    let tried = executes c.self.inside.units c.submit.new.self c.get.result.now c.unit-unit.result c.args.op (as_done c.in_ok-holder.field-0)
    c.unit-unit.ensures c.in_ok-holder.ensures.state c.in_ok-holder.ensures.done in
    acted_kept c.self.invariant c.args.at t c.get.ensures tried c.submit.ensures.headline c.submit.ensures.serializable c.in-Answered.unit c.in-Answered.answer (ap as_done c.in-Answered.is) c.own_unit.new.self
    (c.own_unit.ensures t c.get.ensures) (seen_awake c.args.at c.self.view_is c.requires.awake t c.get.ensures)

pub answer-requires : goal.answer-requires
answer-requires c =
    let t = c.get.result.now in
    let tried = executes c.self.inside.units c.submit.new.self c.get.result.now c.unit-unit.result c.args.op (as_done c.in_ok-holder.field-0)
    c.unit-unit.ensures c.in_ok-holder.ensures.state c.in_ok-holder.ensures.done in
    record {
      within = placed_within c.own_unit.new.self c.args.at (with_unit t c.in-Answered.unit)
          (owner_there c.self.invariant c.args.at t c.get.ensures tried c.submit.ensures.headline c.submit.ensures.serializable c.in-Answered.unit c.in-Answered.answer (ap as_done c.in-Answered.is) c.own_unit.new.self
          (c.own_unit.ensures t c.get.ensures));
    }

pub returns-in-Answered : goal.returns-in-Answered
returns-in-Answered c =
    let u = c.self.inside in
    let t = c.get.result.now in
    let unit = c.in-Answered.unit in
    let a = c.in-Answered.answer in
    let acts = ap as_done c.in-Answered.is in
    let command = c.args.command.now in
    let owned = c.own_unit.ensures t c.get.ensures in
    let tried = executes c.self.inside.units c.submit.new.self c.get.result.now c.unit-unit.result c.args.op (as_done c.in_ok-holder.field-0)
    c.unit-unit.ensures c.in_ok-holder.ensures.state c.in_ok-holder.ensures.done in
    record {
      attempt = λ verb alike. let told = record command { verb = verb } in
          subst (λ v. IsAttempt v c.args.at told (Some c.args.op) (Ok (Told c.answer.result)) c.answer.new.self) c.self.view_is
          (then_told c.args.at t (with_unit t unit) command.resp c.reply_of_answer-reply.result
          (going_on (region_of u.units u.tasks u.waits u.clock u.is_down).machine told (Some c.args.op)) c.get.ensures
          (owner_there c.self.invariant c.args.at t c.get.ensures tried c.submit.ensures.headline c.submit.ensures.serializable unit a acts c.own_unit.new.self owned)
          (acted_kept c.self.invariant c.args.at t c.get.ensures tried c.submit.ensures.headline c.submit.ensures.serializable unit a acts c.own_unit.new.self owned
          (seen_awake c.args.at c.self.view_is c.requires.awake t c.get.ensures))
          (acted_step c.self.invariant c.args.at t c.get.ensures tried c.submit.ensures.headline c.submit.ensures.serializable unit a acts c.own_unit.new.self owned told c.reply_of_answer-reply.result
          (c.reply_of_answer-reply.ensures ∙ alike a)) c.answer.ensures.step);
    }

pub submit-requires-clause-is_open : goal.submit-requires-clause-is_open
submit-requires-clause-is_open c =
    let u = c.self.inside in
    subst (IsOpenOrNone u.units.state) (sym c.unit-unit.ensures) (acting_or_none (region_of u.units u.tasks u.waits u.clock u.is_down).machine c.args.at c.get.result.now c.self.invariant.tasks c.get.ensures)

pub invariant_of-self : goal.invariant_of-self
invariant_of-self c =
    let u = c.self.inside in
    subst (λ units. IsRegionKept (region_of units u.tasks u.waits u.clock u.is_down)) (sym c.in_err-holder.ensures.err) c.self.invariant

pub own_unit-requires-clause-within : goal.own_unit-requires-clause-within
own_unit-requires-clause-within c = slice_get_within c.self.inside.tasks c.args.at c.get.result.now c.get.ensures

pub own_unit-requires-clause-own : goal.own_unit-requires-clause-own
own_unit-requires-clause-own c = λ t unit there owns.
    let s = c.self.inside.units.state in
    let tried = executes c.self.inside.units c.submit.new.self c.get.result.now c.unit-unit.result c.args.op (as_done c.in_ok-holder.field-0)
    c.unit-unit.ensures c.in_ok-holder.ensures.state c.in_ok-holder.ensures.done in
    let own = ap (λ x. x.unit) (one_task c.self.inside.tasks c.args.at c.get.ensures there) ∙ owns in
    acts_in s (Some unit) c.args.op c.in-Answered.unit c.in-Answered.answer (ap (λ o. execution s o c.args.op) (sym own) ∙ tried.comes_to ∙ ap as_done c.in-Answered.is)
