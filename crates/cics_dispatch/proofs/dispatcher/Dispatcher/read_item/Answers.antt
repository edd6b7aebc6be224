use Rattle.std.proofs.Common.{◌<◌, ◌∙◌, sym, ap, subst, length}
use Rattle.std.specs.Prelude.{option_map}
use Rattle.cics_names.specs.Commands.{length_of}
use Rattle.cics_history.specs.Execution.{item_asked}
use Rattle.cics_dispatch.specs.Machine.Calls.{reading_item}
use Rattle.cics_dispatch.specs.Machine.Regions.{region_of, IsRegionKept}
use Rattle.cics_dispatch.specs.Machine.Steps.{answered, reply_with}
use Rattle.cics_dispatch.specs.declared.machine.outcomes.Number.TheVariants.{Item}
use Rattle.cics_dispatch.proofs.OfMachine.RegionSteps.{seen_task, seen_awake, seen_step, then_told, refused_as_was}
use Rattle.cics_dispatch.proofs.OfMachine.RegionQueues.{item_read_machine, item_read_kept}
use Rattle.cics_dispatch.proofs.dispatcher.Dispatcher.read_item.Goals as goal

pub invariant_of-self-2 : goal.invariant_of-self-2
invariant_of-self-2 c =
    let u = c.self.inside in
    let q = c.args.queue.now in
    seen_task c.args.at c.self.view_is c.requires.within (λ t there.
    item_read_kept c.self.invariant c.args.at t there q (item_asked u.units.state q c.args.item) c.read_ts.new.self c.in_ok-answer.ensures.state
    (seen_awake c.args.at c.self.view_is c.requires.awake t there) c.in_ok-answer.ensures.headline c.in_ok-answer.ensures.serializable)

pub returns : goal.returns
returns c =
    let u = c.self.inside in
    let m = (region_of u.units u.tasks u.waits u.clock u.is_down).machine in
    let q = c.args.queue.now in
    let asked = item_asked u.units.state q c.args.item in
    record {
      step = seen_task c.args.at c.self.view_is c.requires.within (λ t there.
          let told = c.reply_of_item.ensures ∙ ap (λ n. reply_with n (option_map (λ k. Item k) c.in_ok-answer.answer.number) c.in_ok-answer.answer) c.length-limit.ensures
          ∙ ap (λ a. reply_with (length_of c.args.command.now.verb) (option_map (λ k. Item k) a.number) a) c.in_ok-answer.ensures.answer in
          let machine = item_read_machine c.self.invariant c.args.at t there q asked c.read_ts.new.self c.in_ok-answer.ensures.state in
          seen_step c.args.at (λ k. reading_item k c.args.command.now.resp q (length_of c.args.command.now.verb) c.args.item) c.self.view_is
          (then_told c.args.at t t c.args.command.now.resp c.reply_of_item.result (reading_item m c.args.command.now.resp q (length_of c.args.command.now.verb) c.args.item) there there
          (item_read_kept c.self.invariant c.args.at t there q asked c.read_ts.new.self c.in_ok-answer.ensures.state
          (seen_awake c.args.at c.self.view_is c.requires.awake t there) c.in_ok-answer.ensures.headline c.in_ok-answer.ensures.serializable)
          (λ i. answered (machine i) t c.args.command.now.resp (told i)) c.answer.ensures.step));
    }

pub invariant_of-self : goal.invariant_of-self
invariant_of-self c =
    let u = c.self.inside in
    subst (λ units. IsRegionKept (region_of units u.tasks u.waits u.clock u.is_down)) (sym c.in_err-answer.ensures.err) c.self.invariant

pub returns-in_err-answer : goal.returns-in_err-answer
returns-in_err-answer c =
    let u = c.self.inside in
    let command = c.args.command.now in
    record {
      step = refused_as_was c.args.self.now _ c.from_residual.result c.args.at (reading_item c.args.self.now.machine command.resp c.args.queue.now (length_of command.verb) c.args.item) c.from_residual.ensures.0
          ((λ i. region_of (c.in_err-answer.ensures.err i) u.tasks u.waits u.clock u.is_down) ∙ c.self.view_is);
    }

pub answer-requires : goal.answer-requires
answer-requires c = record { within = subst (λ v. c.args.at < length v.machine.tasks) (sym c.self.view_is) c.requires.within }
