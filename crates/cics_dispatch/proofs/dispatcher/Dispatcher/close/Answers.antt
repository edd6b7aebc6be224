use Rattle.std.proofs.Common.{◌∙◌, sym, ap, subst}
use Rattle.cics_history.specs.Execution.{IsOpenOrNone}
use Rattle.cics_dispatch.specs.Machine.Machine.{units_after, state_after}
use Rattle.cics_dispatch.specs.Machine.Regions.{region_of}
use Rattle.cics_dispatch.proofs.OfMachine.KeptTasks.{acting_or_none}
use Rattle.cics_dispatch.proofs.OfMachine.RegionSteps.{seen_task, closed_step}
use Rattle.cics_dispatch.proofs.dispatcher.Dispatcher.close.Goals as goal

pub commit-requires : goal.commit-requires
commit-requires c =
    let u = c.self.inside in
    let m = (region_of u.units u.tasks u.waits u.clock u.is_down).machine in
    record {
      is_open = seen_task c.args.at c.self.view_is c.requires.within (λ t there.
          subst (IsOpenOrNone u.units.state) (sym (c.close_unit.ensures.unit t there) ∙ c.in-Some.is) (acting_or_none m c.args.at t c.self.invariant.tasks there));
    }

pub back_out-requires : goal.back_out-requires
back_out-requires c =
    let u = c.self.inside in
    let m = (region_of u.units u.tasks u.waits u.clock u.is_down).machine in
    record {
      is_open = seen_task c.args.at c.self.view_is c.requires.within (λ t there.
          subst (IsOpenOrNone u.units.state) (sym (c.close_unit.ensures.unit t there) ∙ c.in-Some.is) (acting_or_none m c.args.at t c.self.invariant.tasks there));
    }

pub invariant_of-self : goal.invariant_of-self
invariant_of-self c =
    (closed_step c.self.invariant c.args.at c.self.view_is c.requires.within c.requires.awake c.self.inside.units c.close_unit.new.self c.args.ending c.args.has_ended
    (λ t there. ap (λ o. units_after c.self.inside.units.state o (state_after c.args.ending)) (sym c.in_default.is ∙ c.close_unit.ensures.unit t there))
    c.close_unit.ensures.task (c.self.invariant.headline.headline, c.self.invariant.serializable.serializable)).0

pub returns-in_default : goal.returns-in_default
returns-in_default c =
    let closed = closed_step c.self.invariant c.args.at c.self.view_is c.requires.within c.requires.awake c.self.inside.units c.close_unit.new.self c.args.ending c.args.has_ended
    (λ t there. ap (λ o. units_after c.self.inside.units.state o (state_after c.args.ending)) (sym c.in_default.is ∙ c.close_unit.ensures.unit t there))
    c.close_unit.ensures.task (c.self.invariant.headline.headline, c.self.invariant.serializable.serializable) in
    record { machine = closed.1; kept = λ was. closed.0 }

pub invariant_of-self-in-Commit : goal.invariant_of-self-in-Commit
invariant_of-self-in-Commit c =
    (closed_step c.self.invariant c.args.at c.self.view_is c.requires.within c.requires.awake c.commit.new.self c.close_unit.new.self c.args.ending c.args.has_ended
    (λ t there. c.commit.ensures.state ∙ (λ i. units_after c.self.inside.units.state ((sym c.in-Some.is ∙ c.close_unit.ensures.unit t there) i) (state_after (sym c.in-Commit.is i))))
    c.close_unit.ensures.task (c.commit.ensures.headline, c.commit.ensures.serializable)).0

pub returns-in-Commit : goal.returns-in-Commit
returns-in-Commit c =
    let closed = closed_step c.self.invariant c.args.at c.self.view_is c.requires.within c.requires.awake c.commit.new.self c.close_unit.new.self c.args.ending c.args.has_ended
    (λ t there. c.commit.ensures.state ∙ (λ i. units_after c.self.inside.units.state ((sym c.in-Some.is ∙ c.close_unit.ensures.unit t there) i) (state_after (sym c.in-Commit.is i))))
    c.close_unit.ensures.task (c.commit.ensures.headline, c.commit.ensures.serializable) in
    record { machine = closed.1; kept = λ was. closed.0 }

pub invariant_of-self-in-Backout : goal.invariant_of-self-in-Backout
invariant_of-self-in-Backout c =
    (closed_step c.self.invariant c.args.at c.self.view_is c.requires.within c.requires.awake c.back_out.new.self c.close_unit.new.self c.args.ending c.args.has_ended
    (λ t there. c.back_out.ensures.state ∙ (λ i. units_after c.self.inside.units.state ((sym c.in-Some.is ∙ c.close_unit.ensures.unit t there) i) (state_after (sym c.in-Backout.is i))))
    c.close_unit.ensures.task (c.back_out.ensures.headline, c.back_out.ensures.serializable)).0

pub returns-in-Backout : goal.returns-in-Backout
returns-in-Backout c =
    let closed = closed_step c.self.invariant c.args.at c.self.view_is c.requires.within c.requires.awake c.back_out.new.self c.close_unit.new.self c.args.ending c.args.has_ended
    (λ t there. c.back_out.ensures.state ∙ (λ i. units_after c.self.inside.units.state ((sym c.in-Some.is ∙ c.close_unit.ensures.unit t there) i) (state_after (sym c.in-Backout.is i))))
    c.close_unit.ensures.task (c.back_out.ensures.headline, c.back_out.ensures.serializable) in
    record { machine = closed.1; kept = λ was. closed.0 }
