use Rattle.std.proofs.Common.{◌≡◌, ◌∙◌, sym, ap, subst, refl, true}
use Rattle.std.specs.Prelude.{is_some, slice_get}
use Rattle.cics_dispatch.specs.Machine.Calls.{reading}
use Rattle.cics_dispatch.specs.Machine.Machine.{definition_of, records_in}
use Rattle.cics_dispatch.specs.Machine.Replies.{read_told}
use Rattle.cics_dispatch.specs.Machine.Steps.{answered}
use Rattle.cics_dispatch.proofs.OfMachine.RegionBrowses.{never_none, own_records}
use Rattle.cics_dispatch.proofs.OfMachine.RegionSteps.{told_as, refused_as_was}
use Rattle.cics_dispatch.proofs.dispatcher.Dispatcher.read.Goals as goal

pub unreachable-requires : goal.unreachable-requires
unreachable-requires c = never_none _ (subst (λ v. is_some (definition_of v.machine c.args.name.now) ≡ true) (sym c.self.view_is) c.requires.there) (sym c.in_default.ensures.definition)

pub returns-in_err-reply : goal.returns-in_err-reply
returns-in_err-reply c = record {
  step = refused_as_was c.args.self.now c.args.self.now c.from_residual.result c.args.at (reading c.args.self.now.machine c.args.name.now c.args.command.now) c.from_residual.ensures.0 refl;
}

pub answer-requires : goal.answer-requires
answer-requires c = record { within = c.requires.within }

pub returns : goal.returns
returns c =
    let m = c.args.self.now.machine in
    let command = c.args.command.now in
    let records = c.in-Some.file.now.records in
    record {
      step = told_as c.args.at (λ t. answered m t command.resp c.in_ok-reply.reply) (reading m c.args.name.now command)
          (λ t there. ap (answered m t command.resp) (c.in_ok-reply.ensures
          ∙ ap (λ rs. read_told rs command.verb) (own_records c.self.invariant c.args.at t (ap (λ v. slice_get v.machine.tasks c.args.at) c.self.view_is ∙ there) c.args.name.now records c.in-Some.ensures.records
          ∙ ap (λ v. records_in v.machine c.args.name.now) c.self.view_is))) c.answer.ensures.step;
    }
