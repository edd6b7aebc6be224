use Rattle.std.proofs.Common.{◌∙◌, sym, ap, subst}
use Rattle.cics_history.specs.Execution.{IsOpenOrNone}
use Rattle.cics_dispatch.specs.Machine.Regions.{region_of}
use Rattle.cics_names.specs.declared.conditions.Condition.TheVariants.{Normal}
use Rattle.cics_dispatch.specs.Machine.Replies.{plain}
use Rattle.cics_dispatch.specs.Machine.Steps.{answered, unlocked}
use Rattle.cics_dispatch.proofs.OfMachine.KeptTasks.{acting_or_none}
use Rattle.cics_dispatch.proofs.OfMachine.RegionSteps.{seen_awake, seen_step, then_told}
use Rattle.cics_dispatch.proofs.OfMachine.RegionBrowses.{unlocked_kept, unlock_answered}
use Rattle.cics_dispatch.proofs.dispatcher.Dispatcher.unlock.Goals as goal

pub invariant_of-self : goal.invariant_of-self
invariant_of-self c =
    let u = c.self.inside in
    let m = (region_of u.units u.tasks u.waits u.clock u.is_down).machine in
    let t = c.get.result.now in
    let there = c.get.ensures in
    unlocked_kept c.self.invariant c.args.at t there c.unlock_file.new.units c.args.name.now (seen_awake c.args.at c.self.view_is c.requires.awake t there)
    (c.unlock_file.ensures.state m ∙ ap (λ o. unlocked m o c.args.name.now) c.unit-unit.ensures) c.unlock_file.ensures.promised

pub returns : goal.returns
returns c =
    let u = c.self.inside in
    let m = (region_of u.units u.tasks u.waits u.clock u.is_down).machine in
    let t = c.get.result.now in
    let there = c.get.ensures in
    let name = c.args.name.now in
    let state = c.unlock_file.ensures.state m ∙ ap (λ o. unlocked m o name) c.unit-unit.ensures in
    record {
      step = seen_step c.args.at (λ m s. answered (unlocked m s.unit name) s c.args.resp (plain Normal)) c.self.view_is
          (then_told c.args.at t t c.args.resp c.plain_reply.result _ there there
          (unlocked_kept c.self.invariant c.args.at t there c.unlock_file.new.units name (seen_awake c.args.at c.self.view_is c.requires.awake t there) state c.unlock_file.ensures.promised)
          (unlock_answered c.self.invariant c.args.at t there c.unlock_file.new.units name c.args.resp c.plain_reply.result state c.plain_reply.ensures) c.answer.ensures.step);
    }

pub unlock_file-requires-clause-is_open : goal.unlock_file-requires-clause-is_open
unlock_file-requires-clause-is_open c =
    let u = c.self.inside in
    subst (IsOpenOrNone u.units.state) (sym c.unit-unit.ensures) (acting_or_none (region_of u.units u.tasks u.waits u.clock u.is_down).machine c.args.at c.get.result.now c.self.invariant.tasks c.get.ensures)
