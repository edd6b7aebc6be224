use Rattle.std.specs.Prelude.{is_some}
use Rattle.cics_dispatch.specs.Machine.Machine.{definition_of}
use Rattle.std.proofs.Common.{◌≡◌, ◌∙◌, ap, sym, subst, true}
use Rattle.std.specs.Option.{option_copied_mut}
use Rattle.cics_names.specs.Keyed.{value_at}
use Rattle.cics_dispatch.specs.Machine.Replies.{plain}
use Rattle.cics_dispatch.specs.Machine.Steps.{reset}
use Rattle.cics_dispatch.proofs.OfMachine.RegionBrowses.{never_none, lent, owner_within, browses_kept, own_records, then_told_so, reset_answered}
use Rattle.cics_dispatch.proofs.OfMachine.RegionSteps.{seen_task, seen_awake, seen_browse, seen_step}
use Rattle.cics_dispatch.proofs.dispatcher.Dispatcher.reset_browse.Goals as goal

pub unreachable-requires-in_default-get_mut : goal.unreachable-requires-in_default-get_mut
unreachable-requires-in_default-get_mut c = seen_task c.args.at c.self.view_is c.requires.within (λ t there.
    never_none (value_at c.args.name.now t.browses) (seen_browse c.args.at c.args.name.now c.self.view_is c.requires.browsing t there)
    (sym (ap option_copied_mut c.in_default-get_mut.is) ∙ c.get_mut.ensures.browse ∙ ap (value_at c.args.name.now) (c.browses_mut.ensures.browses t there)))

pub invariant_of-self : goal.invariant_of-self
invariant_of-self c = seen_task c.args.at c.self.view_is c.requires.within (λ t there.
    browses_kept c.self.invariant c.args.at t there (c.get_mut.follows.lender c.reset-condition.new.self) (seen_awake c.args.at c.self.view_is c.requires.awake t there))

pub answer-requires : goal.answer-requires
answer-requires c = record {
  within = seen_task c.args.at c.self.view_is c.requires.within (λ t there. owner_within c.self.invariant c.args.at t there (c.get_mut.follows.lender c.reset-condition.new.self));
}

pub returns : goal.returns
returns c = record {
  step = seen_step c.args.at (λ m s. reset m s c.args.resp c.args.name.now c.args.start.key c.args.start.generic c.args.start.equal (value_at c.args.name.now s.browses)) c.self.view_is
      (seen_task c.args.at c.self.view_is c.requires.within (λ t there.
      let left = c.get_mut.follows.lender c.reset-condition.new.self in
      let records = c.in-Some.file.now.records in
      let browse = lent t c.args.name.now c.browses_mut.result.now c.in-Some-get_mut.browse.now c.reset-condition.new.self left (c.browses_mut.ensures.browses t there)
      c.in-Some-get_mut.ensures.browse (c.get_mut.follows.holds c.reset-condition.new.self) in
      then_told_so c.self.invariant c.args.at t there left c.args.resp c.plain_reply.result (plain c.reset-condition.result) _ (seen_awake c.args.at c.self.view_is c.requires.awake t there)
      c.plain_reply.ensures
      (reset_answered c.self.invariant c.args.at t there c.args.resp c.args.name.now browse records (own_records c.self.invariant c.args.at t there c.args.name.now records c.in-Some.ensures.records)
      c.args.start.key c.args.start.generic c.args.start.equal c.reset-condition.result c.reset-condition.ensures.condition c.reset-condition.ensures.position) c.answer.ensures.step));
}

pub unreachable-requires : goal.unreachable-requires
unreachable-requires c = never_none _ (subst (λ v. is_some (definition_of v.machine c.args.name.now) ≡ true) (sym c.self.view_is) c.requires.there) (sym c.in_default.ensures.definition)
