use Rattle.std.specs.Prelude.{is_some}
use Rattle.cics_dispatch.specs.Machine.Machine.{definition_of}
use Rattle.std.proofs.Common.{◌≡◌, ◌∙◌, ap, sym, subst, true}
use Rattle.cics_names.specs.Keyed.{with_value}
use Rattle.cics_names.specs.declared.conditions.Condition.TheVariants.{Normal}
use Rattle.cics_dispatch.specs.Machine.Regions.{region_of}
use Rattle.cics_dispatch.specs.Machine.Replies.{plain}
use Rattle.cics_dispatch.specs.Machine.Steps.{answered, started}
use Rattle.cics_dispatch.proofs.OfMachine.RegionBrowses.{never_none, owner_within, browses_kept, same_browses, own_records, then_told_so, started_there, not_started}
use Rattle.cics_dispatch.proofs.OfMachine.RegionSteps.{seen_task, seen_awake, seen_step, told_as, refused_as_was}
use Rattle.cics_dispatch.proofs.dispatcher.Dispatcher.start_browse.Goals as goal

pub returns-in_default-start : goal.returns-in_default-start
returns-in_default-start c =
    let u = c.self.inside in
    let m = (region_of u.units u.tasks u.waits u.clock u.is_down).machine in
    let records = c.in-Some.file.now.records in
    record {
      step = seen_step c.args.at (λ k s. started k s c.args.resp c.args.name c.args.start.key c.args.start.generic c.args.start.equal) c.self.view_is
          (told_as c.args.at (λ s. answered m s c.args.resp c.plain_reply.result) (λ s. started m s c.args.resp c.args.name c.args.start.key c.args.start.generic c.args.start.equal)
          (λ t there. ap (answered m t c.args.resp) c.plain_reply.ensures ∙ not_started c.self.invariant c.args.at t there c.args.resp c.args.name c.args.start.key c.args.start.generic c.args.start.equal records
          (own_records c.self.invariant c.args.at t there c.args.name records c.in-Some.ensures.records) (sym c.in_default-start.is ∙ c.start.ensures))
          (seen_step c.args.at (λ k s. answered k s c.args.resp c.plain_reply.result) (sym c.self.view_is) c.answer.ensures.step));
    }

pub invariant_of-self : goal.invariant_of-self
invariant_of-self c = seen_task c.args.at c.self.view_is c.requires.within (λ t there.
    browses_kept c.self.invariant c.args.at t there c.put.new.self (seen_awake c.args.at c.self.view_is c.requires.awake t there))

pub returns-in_err-put : goal.returns-in_err-put
returns-in_err-put c = record {
  step = seen_task c.args.at c.self.view_is c.requires.within (λ t there.
      refused_as_was c.args.self.now _ c.from_residual.result c.args.at (λ s. started c.args.self.now.machine s c.args.resp c.args.name c.args.start.key c.args.start.generic c.args.start.equal)
      c.from_residual.ensures.0
      (same_browses c.self.invariant c.args.at t there c.put.new.self (c.in_err-put.ensures.err ∙ c.browses_mut.ensures.browses t there) ∙ c.self.view_is));
}

pub invariant_of-self-2 : goal.invariant_of-self-2
invariant_of-self-2 c = seen_task c.args.at c.self.view_is c.requires.within (λ t there.
    browses_kept c.self.invariant c.args.at t there c.put.new.self (seen_awake c.args.at c.self.view_is c.requires.awake t there))

pub answer-requires-2 : goal.answer-requires-2
answer-requires-2 c = record {
  within = seen_task c.args.at c.self.view_is c.requires.within (λ t there. owner_within c.self.invariant c.args.at t there c.put.new.self);
}

pub returns : goal.returns
returns c = record {
  step = seen_step c.args.at (λ m s. started m s c.args.resp c.args.name c.args.start.key c.args.start.generic c.args.start.equal) c.self.view_is (seen_task c.args.at c.self.view_is c.requires.within (λ t there.
      let browse = c.in-Some-start.browse in
      let records = c.in-Some.file.now.records in
      then_told_so c.self.invariant c.args.at t there c.put.new.self c.args.resp c.plain_reply-2.result (plain Normal) _ (seen_awake c.args.at c.self.view_is c.requires.awake t there)
      c.plain_reply-2.ensures
      (started_there c.self.invariant c.args.at t there c.args.resp c.args.name c.args.start.key c.args.start.generic c.args.start.equal records
      (own_records c.self.invariant c.args.at t there c.args.name records c.in-Some.ensures.records) browse c.put.new.self (sym c.in-Some-start.is ∙ c.start.ensures)
      (c.in_ok-put.ensures.ok ∙ ap (with_value c.args.name browse) (c.browses_mut.ensures.browses t there))) c.answer-2.ensures.step));
}

pub unreachable-requires : goal.unreachable-requires
unreachable-requires c = never_none _ (subst (λ v. is_some (definition_of v.machine c.args.name) ≡ true) (sym c.self.view_is) c.requires.there) (sym c.in_default.ensures.definition)
