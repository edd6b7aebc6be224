use Rattle.std.proofs.Common.{◌∙◌, sym, ap, subst, length, Ok}
use Rattle.cics_history.specs.Execution.{IsOpenUnit}
use Rattle.std.proofs.lemmas.Bool.{and_from, lt-ltb}
use Rattle.std.specs.Prelude.{◌++◌, ◌∷◌, [], unwrap_or}
use Rattle.cics_dispatch.specs.Machine.Regions.{region_of}
use Rattle.cics_dispatch.specs.Machine.Machine.{is_waiting, with_waiting}
use Rattle.cics_dispatch.specs.Machine.Steps.{with_outcome, answered, made_to_wait}
use Rattle.cics_dispatch.specs.Machine.Calls.{HasReady, IsStepOrRefused, waiting_for}
use Rattle.cics_dispatch.specs.declared.machine.outcomes.Outcome.TheVariants.{Waiting}
use Rattle.cics_dispatch.proofs.OfMachine.KeptTasks.{begins_now, kept_suspended}
use Rattle.cics_dispatch.proofs.OfMachine.OwnedUnits.{owned_suspended}
use Rattle.cics_dispatch.proofs.OfMachine.RegionSteps.{kept_as, one_task, seen_awake, told_as, refused_as_was}
use Rattle.cics_dispatch.proofs.dispatcher.Dispatcher.make_wait.Goals as goal

pub returns-in-Some : goal.returns-in-Some
returns-in-Some c =
    let m = c.args.self.now.machine in
    let k = c.args.command in
    let busy = sym c.in-Some.is ∙ c.busy_condition.ensures in
    record {
      step = told_as c.args.at (λ t. answered m t k.resp c.plain_reply.result) (waiting_for m k c.args.op c.args.holder)
          (λ t there. ap (answered m t k.resp) c.plain_reply.ensures ∙ ap (made_to_wait m t k c.args.op c.args.holder) busy) c.answer.ensures.step;
    }

pub invariant_of-self-2 : goal.invariant_of-self-2
invariant_of-self-2 c =
    let u = c.self.inside in
    let m = (region_of u.units u.tasks u.waits u.clock u.is_down).machine in
    let t = c.get.result.now in
    let ready = subst (λ v. HasReady v.machine c.args.at c.args.command.verb c.args.op) (sym c.self.view_is) c.requires.ready t c.get.ensures in
    let began = c.in_ok-begin.ensures.ok ∙ ap (λ l. u.waits ++ begins_now l m c.args.command c.args.op ∷ []) c.label-label.ensures in
    kept_as (region_of u.units u.tasks c.begin.new.self u.clock u.is_down) (with_waiting m (m.waiting ++ begins_now t.label m c.args.command c.args.op ∷ []))
    (λ i. record m { waiting = began i }) (kept_suspended m c.args.at t c.args.command c.args.op c.self.invariant.tasks c.get.ensures ready)
    (owned_suspended m _ c.self.invariant.owned) (record { headline = c.self.invariant.headline.headline }) (record { serializable = c.self.invariant.serializable.serializable })

pub invariant_of-self : goal.invariant_of-self
invariant_of-self c =
    let u = c.self.inside in
    let m = (region_of u.units u.tasks u.waits u.clock u.is_down).machine in
    kept_as (region_of u.units u.tasks c.begin.new.self u.clock u.is_down) m (λ i. record m { waiting = c.in_err-begin.ensures.err i })
    c.self.invariant.tasks c.self.invariant.owned (record { headline = c.self.invariant.headline.headline }) (record { serializable = c.self.invariant.serializable.serializable })

pub returns : goal.returns
returns c =
    let u = c.self.inside in
    let m = (region_of u.units u.tasks u.waits u.clock u.is_down).machine in
    let t = c.get.result.now in
    let command = c.args.command in
    let op = c.args.op in
    let new = region_of u.units u.tasks c.begin.new.self u.clock u.is_down in
    let ready = subst (λ v. HasReady v.machine c.args.at command.verb op) (sym c.self.view_is) c.requires.ready t c.get.ensures in
    let began = c.in_ok-begin.ensures.ok ∙ ap (λ l. u.waits ++ begins_now l m command op ∷ []) c.label-label.ensures in
    let owner = sym (ap (λ o. unwrap_or o []) c.in-Some-label_of.is) ∙ c.label_of.ensures.label in
    let busy = sym c.in_default.is ∙ c.busy_condition.ensures in
    record {
      step = subst (λ v. IsStepOrRefused v c.args.at (waiting_for v.machine command op c.args.holder) (Ok (Waiting c.in-Some-label_of.owner)) new) c.self.view_is (
        (λ s other. (λ i. with_outcome (Waiting (owner i)) (with_waiting m (began i)))
            ∙ (λ i. made_to_wait m (one_task u.tasks c.args.at c.get.ensures other i) command op c.args.holder (busy i))),
        λ was. kept_as new (with_waiting m (m.waiting ++ begins_now t.label m command op ∷ [])) (λ i. record m { waiting = began i })
            (kept_suspended m c.args.at t command op c.self.invariant.tasks c.get.ensures ready) (owned_suspended m _ c.self.invariant.owned) (record { headline = c.self.invariant.headline.headline }) (record { serializable = c.self.invariant.serializable.serializable }),
      );
    }

pub unreachable-requires : goal.unreachable-requires
unreachable-requires c =
    let holder = c.args.holder in
    let is_open = subst (λ v. IsOpenUnit v.machine.units holder) (sym c.self.view_is) c.requires.is_open in
    c.self.invariant.owned.owned holder (and_from _ _ (lt-ltb holder (length c.self.inside.units.state.outcomes) is_open.0) is_open.1) c.in_default-label_of.ensures.none

pub begin-requires : goal.begin-requires
begin-requires c = ap (is_waiting c.self.inside.waits) c.label-label.ensures ∙ seen_awake c.args.at c.self.view_is c.requires.awake c.get.result.now c.get.ensures

pub returns-in_err-begin : goal.returns-in_err-begin
returns-in_err-begin c =
    let u = c.self.inside in
    record {
      step = refused_as_was c.args.self.now _ c.from_residual.result c.args.at (waiting_for c.args.self.now.machine c.args.command c.args.op c.args.holder) c.from_residual.ensures.0
          ((λ i. region_of u.units u.tasks (c.in_err-begin.ensures.err i) u.clock u.is_down) ∙ c.self.view_is);
    }
