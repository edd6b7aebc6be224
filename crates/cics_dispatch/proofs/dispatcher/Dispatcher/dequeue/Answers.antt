use Rattle.std.proofs.Common.{◌∙◌, sym, ap, subst}
use Rattle.cics_history.specs.Execution.{IsOpenOrNone}
use Rattle.cics_names.specs.declared.conditions.Condition.TheVariants.{Normal}
use Rattle.cics_dispatch.specs.Machine.Regions.{region_of}
use Rattle.cics_dispatch.specs.Machine.Replies.{plain}
use Rattle.cics_dispatch.specs.Machine.Steps.{answered, dequeued, units_dequeued}
use Rattle.cics_dispatch.proofs.OfMachine.KeptTasks.{acting_or_none}
use Rattle.cics_dispatch.proofs.OfMachine.RegionSteps.{seen_awake, seen_step, then_told}
use Rattle.cics_dispatch.proofs.OfMachine.RegionEnqueuing.{dequeued_kept, dequeue_answered}
use Rattle.cics_dispatch.proofs.dispatcher.Dispatcher.dequeue.Goals as goal

pub invariant_of-self : goal.invariant_of-self
invariant_of-self c =
    let u = c.self.inside in
    let t = c.get.result.now in
    let there = c.get.ensures in
    dequeued_kept c.self.invariant c.args.at t there c.args.value.now c.free_value.new.units
    (c.free_value.ensures.state ∙ ap (λ o. units_dequeued u.units.state o c.args.value.now) c.unit-unit.ensures)
    (seen_awake c.args.at c.self.view_is c.requires.awake t there) c.free_value.ensures.promised

pub returns : goal.returns
returns c =
    let u = c.self.inside in
    let t = c.get.result.now in
    let there = c.get.ensures in
    let value = c.args.value.now in
    let state = c.free_value.ensures.state ∙ ap (λ o. units_dequeued u.units.state o value) c.unit-unit.ensures in
    record {
      step = seen_step c.args.at (λ m s. answered (dequeued m s.unit value) s c.args.resp (plain Normal)) c.self.view_is
          (then_told c.args.at t t c.args.resp c.plain_reply.result _ there there
          (dequeued_kept c.self.invariant c.args.at t there value c.free_value.new.units state (seen_awake c.args.at c.self.view_is c.requires.awake t there) c.free_value.ensures.promised)
          (dequeue_answered c.self.invariant c.args.at t there value c.free_value.new.units state c.args.resp c.plain_reply.result c.plain_reply.ensures) c.answer.ensures.step);
    }

pub free_value-requires-clause-is_open : goal.free_value-requires-clause-is_open
free_value-requires-clause-is_open c =
    let u = c.self.inside in
    subst (IsOpenOrNone u.units.state) (sym c.unit-unit.ensures) (acting_or_none (region_of u.units u.tasks u.waits u.clock u.is_down).machine c.args.at c.get.result.now c.self.invariant.tasks c.get.ensures)
