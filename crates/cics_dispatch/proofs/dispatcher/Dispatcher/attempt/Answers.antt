use Rattle.std.proofs.Common.{◌∙◌, sym, ap, refl, Some, None}
use Rattle.std.specs.Option.{option_copied}
use Rattle.cics_dispatch.proofs.OfMachine.RegionSteps.{ready_again, attempt_again}
use Rattle.cics_dispatch.proofs.dispatcher.Dispatcher.attempt.Goals as goal

pub execute-requires-clause-ready : goal.execute-requires-clause-ready
execute-requires-clause-ready c =
    ready_again c.args.at c.args.wait.now.command c.command.result.now c.args.wait.now.op (Some c.in_ok-copy-in-Some.field-0) c.command.ensures
    (sym c.op.ensures ∙ ap option_copied c.in-Some.is ∙ ap Some (sym c.in_ok-copy-in-Some.ensures)) c.args.self.now.machine c.requires.ready

pub returns-in_ok-copy-in-Some : goal.returns-in_ok-copy-in-Some
returns-in_ok-copy-in-Some c = record {
  attempt = attempt_again c.args.at c.args.wait.now.command c.command.result.now c.args.wait.now.op (Some c.in_ok-copy-in-Some.field-0) c.command.ensures
      (sym c.op.ensures ∙ ap option_copied c.in-Some.is ∙ ap Some (sym c.in_ok-copy-in-Some.ensures)) c.args.self.now c.execute.result c.execute.new.self (c.execute.ensures.attempt c.command.result.now.verb (λ a. refl));
}

pub take_value-requires-clause-ready : goal.take_value-requires-clause-ready
take_value-requires-clause-ready c =
    ready_again c.args.at c.args.wait.now.command c.command-in-None.result.now c.args.wait.now.op None c.command-in-None.ensures
    (sym c.op.ensures ∙ ap option_copied c.in-None.is) c.args.self.now.machine c.requires.ready

pub returns-in-None : goal.returns-in-None
returns-in-None c = record {
  attempt = attempt_again c.args.at c.args.wait.now.command c.command-in-None.result.now c.args.wait.now.op None c.command-in-None.ensures
      (sym c.op.ensures ∙ ap option_copied c.in-None.is) c.args.self.now c.take_value.result c.take_value.new.self c.take_value.ensures.attempt;
}
