use Rattle.std.proofs.Common.{◌∙◌, ap}
use Rattle.cics_names.specs.Keyed.{without}
use Rattle.cics_names.specs.declared.conditions.Condition.TheVariants.{Normal}
use Rattle.cics_dispatch.specs.Machine.Replies.{plain}
use Rattle.cics_dispatch.specs.Machine.Steps.{browse_ended}
use Rattle.cics_dispatch.proofs.OfMachine.RegionBrowses.{owner_within, browses_kept, then_told_so, end_answered}
use Rattle.cics_dispatch.proofs.OfMachine.RegionSteps.{seen_task, seen_awake, seen_step}
use Rattle.cics_dispatch.proofs.dispatcher.Dispatcher.end_browse.Goals as goal

pub invariant_of-self : goal.invariant_of-self
invariant_of-self c = seen_task c.args.at c.self.view_is c.requires.within (λ t there.
    browses_kept c.self.invariant c.args.at t there c.end.new.self (seen_awake c.args.at c.self.view_is c.requires.awake t there))

pub answer-requires : goal.answer-requires
answer-requires c = record {
  within = seen_task c.args.at c.self.view_is c.requires.within (λ t there. owner_within c.self.invariant c.args.at t there c.end.new.self);
}

pub returns : goal.returns
returns c = record {
  step = seen_step c.args.at (λ m s. browse_ended m s c.args.resp c.args.name.now) c.self.view_is (seen_task c.args.at c.self.view_is c.requires.within (λ t there.
      let ended = c.end.ensures ∙ ap (without c.args.name.now) (c.browses_mut.ensures.browses t there) in
      then_told_so c.self.invariant c.args.at t there c.end.new.self c.args.resp c.plain_reply.result (plain Normal) _ (seen_awake c.args.at c.self.view_is c.requires.awake t there)
      c.plain_reply.ensures (end_answered c.self.invariant c.args.at t there c.args.resp c.args.name.now c.end.new.self ended) c.answer.ensures.step));
}
