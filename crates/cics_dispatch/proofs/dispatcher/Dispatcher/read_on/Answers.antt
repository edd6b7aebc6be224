use Rattle.std.specs.Prelude.{is_some}
use Rattle.cics_dispatch.specs.Machine.Machine.{definition_of}
use Rattle.std.proofs.Common.{◌≡◌, ◌∙◌, ap, sym, subst, true}
use Rattle.std.specs.Option.{option_copied_mut}
use Rattle.cics_names.specs.Commands.{length_of}
use Rattle.cics_names.specs.Keyed.{value_at}
use Rattle.cics_dispatch.specs.Machine.Calls.{reading_on}
use Rattle.cics_dispatch.specs.Machine.Replies.{cut}
use Rattle.cics_dispatch.specs.Machine.Steps.{browse_reply}
use Rattle.cics_dispatch.proofs.OfMachine.RegionBrowses.{never_none, lent, owner_within, browses_kept, same_browses, own_records, then_told_so, read_answered}
use Rattle.cics_dispatch.proofs.OfMachine.RegionSteps.{seen_task, seen_awake, seen_browse, seen_step, refused_as_was}
use Rattle.cics_dispatch.proofs.dispatcher.Dispatcher.read_on.Goals as goal

pub unreachable-requires-in_default-get_mut : goal.unreachable-requires-in_default-get_mut
unreachable-requires-in_default-get_mut c = seen_task c.args.at c.self.view_is c.requires.within (λ t there.
    never_none (value_at c.args.name t.browses) (seen_browse c.args.at c.args.name c.self.view_is c.requires.browsing t there)
    (sym (ap option_copied_mut c.in_default-get_mut.is) ∙ c.get_mut.ensures.browse ∙ ap (value_at c.args.name) (c.browses_mut.ensures.browses t there)))

pub invariant_of-self : goal.invariant_of-self
invariant_of-self c = seen_task c.args.at c.self.view_is c.requires.within (λ t there.
    browses_kept c.self.invariant c.args.at t there (c.get_mut.follows.lender c.read_on.new.browse) (seen_awake c.args.at c.self.view_is c.requires.awake t there))

pub returns-in_err-browsed : goal.returns-in_err-browsed
returns-in_err-browsed c = record {
  step = seen_task c.args.at c.self.view_is c.requires.within (λ t there.
      let left = c.get_mut.follows.lender c.read_on.new.browse in
      let browse = lent t c.args.name c.browses_mut.result.now c.in-Some-get_mut.browse.now c.read_on.new.browse left (c.browses_mut.ensures.browses t there)
      c.in-Some-get_mut.ensures.browse (c.get_mut.follows.holds c.read_on.new.browse) in
      refused_as_was c.args.self.now _ c.from_residual.result c.args.at (reading_on c.args.self.now.machine c.args.command.now.resp c.args.name (length_of c.args.command.now.verb) c.args.direction) c.from_residual.ensures.0
      (same_browses c.self.invariant c.args.at t there left (browse.same c.in_err-browsed.ensures.err) ∙ c.self.view_is));
}

pub invariant_of-self-2 : goal.invariant_of-self-2
invariant_of-self-2 c = seen_task c.args.at c.self.view_is c.requires.within (λ t there.
    browses_kept c.self.invariant c.args.at t there (c.get_mut.follows.lender c.read_on.new.browse) (seen_awake c.args.at c.self.view_is c.requires.awake t there))

pub answer-requires : goal.answer-requires
answer-requires c = record {
  within = seen_task c.args.at c.self.view_is c.requires.within (λ t there. owner_within c.self.invariant c.args.at t there (c.get_mut.follows.lender c.read_on.new.browse));
}

pub returns : goal.returns
returns c = record {
  step = seen_step c.args.at (λ m. reading_on m c.args.command.now.resp c.args.name (length_of c.args.command.now.verb) c.args.direction) c.self.view_is (seen_task c.args.at c.self.view_is c.requires.within (λ t there.
      let left = c.get_mut.follows.lender c.read_on.new.browse in
      let records = c.in-Some.file.now.records in
      let browse = lent t c.args.name c.browses_mut.result.now c.in-Some-get_mut.browse.now c.read_on.new.browse left (c.browses_mut.ensures.browses t there)
      c.in-Some-get_mut.ensures.browse (c.get_mut.follows.holds c.read_on.new.browse) in
      then_told_so c.self.invariant c.args.at t there left c.args.command.now.resp c.reply_of_browsed.result (cut (length_of c.args.command.now.verb) (browse_reply c.in_ok-browsed.browsed)) _
      (seen_awake c.args.at c.self.view_is c.requires.awake t there) (c.reply_of_browsed.ensures ∙ ap (λ n. cut n (browse_reply c.in_ok-browsed.browsed)) c.length-limit.ensures)
      (read_answered c.self.invariant c.args.at t there c.args.command.now.resp c.args.name browse records (own_records c.self.invariant c.args.at t there c.args.name records c.in-Some.ensures.records)
      (length_of c.args.command.now.verb) c.args.direction c.in_ok-browsed.browsed c.in_ok-browsed.ensures.reply c.in_ok-browsed.ensures.position) c.answer.ensures.step));
}

pub unreachable-requires : goal.unreachable-requires
unreachable-requires c = never_none _ (subst (λ v. is_some (definition_of v.machine c.args.name) ≡ true) (sym c.self.view_is) c.requires.there) (sym c.in_default.ensures.definition)
