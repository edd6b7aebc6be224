use Rattle.std.proofs.Common.{◌≡◌, ◌∙◌, ap, is_some, sym, subst, refl, true, false, Option, None, Some, Ok, Err}
use Rattle.std.specs.Prelude.{IsTrue}
use Rattle.cics_history.specs.declared.ops.Op.{Op}
use Rattle.cics_dispatch.specs.Machine.Answers.{is_growing}
use Rattle.cics_dispatch.specs.Machine.Checks.{reason_of}
use Rattle.cics_dispatch.specs.Machine.Replies.{plain}
use Rattle.cics_dispatch.specs.Machine.Calls.{OfTask, HasReady, IsAttempt, IsStepOf, IsStepOrRefused, KeepsRegion, MayPerform, going_on, waiting_for}
use Rattle.cics_dispatch.specs.Machine.Emptied.{AreToldAlike, refilled, whole}
use Rattle.cics_dispatch.specs.Machine.Steps.{answered, asked_op, op_of}
use Rattle.cics_dispatch.proofs.OfMachine.Emptied.{told_refilled}
use Rattle.cics_dispatch.proofs.OfMachine.Ready.{ready_to}
use Rattle.cics_dispatch.proofs.OfMachine.RegionSteps.{tried_told, tried_waits, waits_for, wait_within, wait_awake, wait_ready, wait_open, wait_told}
use Rattle.cics_dispatch.proofs.OfMachine.RegionPerforming.{IsIssuedTo, IsPassed, copied_some, op_grows, issued_to, issued_waiting, issued_told, told_reason, passed, step_made, step_refused}
use Rattle.cics_dispatch.proofs.dispatcher.Dispatcher.issue.Goals as goal
use Rattle.cics_dispatch.proofs.dispatcher.Dispatcher.issue.Goals.{After-failed_check, In_ok-op, In-Some-2, In_ok-outcome, In-MustWait, In_ok-command-in-MustWait}

-- the task that the command is issued to
to : (c : After-failed_check) → IsIssuedTo c.args.self.now.machine c.args.label c.args.at c.get.result.now false
to c =
    issued_to c.args.self.now c.args.label c.args.at c.get.result.now false c.self.view_is c.requires.task c.get.ensures
    (sym c.has_ended.ensures ∙ c.if-has_ended.false) (sym c.is_waiting.ensures.waiting ∙ c.if-is_waiting.false)

-- its checks have passed
passes : (c : After-failed_check) → c.failed_check.result ≡ None → IsPassed c.args.self.now.machine c.args.label c.args.command c.args.at c.get.result.now
passes c = passed c.args.self.now.machine c.args.label c.args.command c.args.at c.get.result.now c.failed_check.result (to c) c.failed_check.ensures.reason c.failed_check.ensures.short

-- it asks for what was taken out of it
asks : (c : In_ok-op) (o : Option Op) → c.in_ok-op.field-0 ≡ o → OfTask c.args.self.now.machine.tasks c.args.at (λ s. op_of c.args.self.now.machine s c.args.command.verb ≡ o)
asks c o is = λ s here. sym (c.in_ok-op.ensures.op ∙ ap (λ a. asked_op a c.args.command.verb) (c.open_key-open_key.ensures.key s here)) ∙ is

-- with that it is whole
back : (c : In_ok-op) (o : Option Op) → c.in_ok-op.field-0 ≡ o → refilled c.take_op.new.verb o ≡ c.args.command.verb
back c o is = ap (refilled c.take_op.new.verb) (sym is) ∙ c.in_ok-op.ensures.back

-- that is executed, or has to wait
tried : (c : In_ok-outcome) → IsAttempt c.args.self.now c.args.at c.args.command (Some c.in-Some-2.op) (Ok c.in_ok-outcome.field-0) c.execute.new.self
tried c =
    let whole_again = ap (refilled c.take_op.new.verb) (sym c.in-Some-2.is) ∙ c.in_ok-op.ensures.back in
    c.in_ok-outcome.ensures.attempt c.args.command.verb (subst (AreToldAlike c.take_op.new.verb) whole_again (told_refilled c.take_op.new.verb c.in-Some-2.op))

pub returns-then-is_waiting-clause-step : goal.returns-then-is_waiting-clause-step
returns-then-is_waiting-clause-step c =
    let here = issued_to c.args.self.now c.args.label c.args.at c.get.result.now true c.self.view_is c.requires.task c.get.ensures
    (sym c.has_ended.ensures ∙ c.if-has_ended.false) (sym c.is_waiting.ensures.waiting ∙ c.if-is_waiting.true) in
    (issued_waiting c.args.self.now.machine c.args.label c.args.command c.get.result.now here.of_label here.goes_on here.waiting, refl)

-- ---- A check fails

pub returns-in-Some : goal.returns-in-Some
returns-in-Some c =
    let m = c.args.self.now.machine in
    let t = c.get.result.now in
    let here = to (goal.at.returns-in-Some c).After-failed_check in
    let fails : OfTask m.tasks c.args.at (λ s. reason_of m s c.args.command.verb ≡ Some c.in-Some.failed) = λ s there. sym (c.failed_check.ensures.reason s there) ∙ c.in-Some.is in
    record {
      step = issued_told m c.args.label c.args.command c.args.at t (Some c.in-Some.failed) c.answer.result c.answer.new.self.machine here
          (fails t here.there) (c.answer.ensures.step.0 t here.there ∙ ap (answered m t c.args.command.resp) (c.plain_reply.ensures ∙ ap plain c.condition.ensures));
      reason = told_reason m c.args.label c.args.command.verb c.args.at t (Some c.in-Some.failed) here (fails t here.there);
      kept = c.answer.ensures.step.1;
    }

-- ---- The checks pass

pub returns-in_err-op-clause-step : goal.returns-in_err-op-clause-step
returns-in_err-op-clause-step c =
    let p = passes (goal.at.returns-in_err-op-clause-step c).After-failed_check c.in_default.is in
    step_refused c.args.self.now c.args.label c.args.command c.args.at c.get.result.now p c.from_residual.result _ c.from_residual.ensures (c.in_err-op.ensures.growing) (refl)

pub returns-in_err-op-clause-kept : goal.returns-in_err-op-clause-kept
returns-in_err-op-clause-kept c =
    subst (KeepsRegion c.args.self.now) (sym (refl)) (λ was. was)

pub perform_on_file-requires-clause-may : goal.perform_on_file-requires-clause-may
perform_on_file-requires-clause-may c =
    let p = passes (goal.at.perform_on_file-requires-clause-may c).After-failed_check c.in_default.is in
    subst (MayPerform c.args.self.now.machine c.args.at) (sym (back (goal.at.perform_on_file-requires-clause-may c).In_ok-op None c.in_default-2.is)) p.may

pub perform_on_file-requires-clause-named : goal.perform_on_file-requires-clause-named
perform_on_file-requires-clause-named c =
    ap is_some (sym c.file.ensures) ∙ copied_some c.file.result ∙ sym c.is_some.ensures ∙ c.if-is_some.true

pub returns-then-is_some : goal.returns-then-is_some
returns-then-is_some c =
    let p = passes (goal.at.returns-then-is_some c).After-failed_check c.in_default.is in
    let step : IsStepOf c.args.self.now c.args.at (going_on c.args.self.now.machine c.args.command None) c.in_ok-perform_on_file.field-0 c.perform_on_file.new.self = subst (λ v. IsStepOrRefused c.args.self.now c.args.at (going_on c.args.self.now.machine (record c.args.command { verb = v }) None) (Ok c.in_ok-perform_on_file.field-0) c.perform_on_file.new.self) (back (goal.at.returns-then-is_some c).In_ok-op None c.in_default-2.is) c.in_ok-perform_on_file.ensures.step in
    record {
      step = step_made c.args.self.now c.args.label c.args.command c.args.at c.get.result.now p None (asks (goal.at.returns-then-is_some c).In_ok-op None c.in_default-2.is c.get.result.now p.to.there) c.in_ok-perform_on_file.field-0 c.perform_on_file.new.self step;
      reason = c.requires.blank ∙ told_reason c.args.self.now.machine c.args.label c.args.command.verb c.args.at c.get.result.now None p.to p.passes;
      kept = step.1;
    }

pub returns-in_err-perform_on_file-clause-step : goal.returns-in_err-perform_on_file-clause-step
returns-in_err-perform_on_file-clause-step c =
    let p = passes (goal.at.returns-in_err-perform_on_file-clause-step c).After-failed_check c.in_default.is in
    step_refused c.args.self.now c.args.label c.args.command c.args.at c.get.result.now p c.from_residual-in_err-perform_on_file.result _ c.from_residual-in_err-perform_on_file.ensures (subst (λ v. IsTrue (is_growing v)) (back (goal.at.returns-in_err-perform_on_file-clause-step c).In_ok-op None c.in_default-2.is) c.in_err-perform_on_file.ensures.growing) (c.in_err-perform_on_file.ensures.step)

pub returns-in_err-perform_on_file-clause-kept : goal.returns-in_err-perform_on_file-clause-kept
returns-in_err-perform_on_file-clause-kept c =
    subst (KeepsRegion c.args.self.now) (sym (c.in_err-perform_on_file.ensures.step)) (λ was. was)

pub perform_on_no_file-requires-clause-may : goal.perform_on_no_file-requires-clause-may
perform_on_no_file-requires-clause-may c =
    let p = passes (goal.at.perform_on_no_file-requires-clause-may c).After-failed_check c.in_default.is in
    subst (MayPerform c.args.self.now.machine c.args.at) (sym (back (goal.at.perform_on_no_file-requires-clause-may c).In_ok-op None c.in_default-2.is)) p.may

pub perform_on_no_file-requires-clause-named : goal.perform_on_no_file-requires-clause-named
perform_on_no_file-requires-clause-named c =
    ap is_some (sym c.file.ensures) ∙ copied_some c.file.result ∙ sym c.is_some.ensures ∙ c.if-is_some.false

pub returns-in_default-2 : goal.returns-in_default-2
returns-in_default-2 c =
    let p = passes (goal.at.returns-in_default-2 c).After-failed_check c.in_default.is in
    let step : IsStepOf c.args.self.now c.args.at (going_on c.args.self.now.machine c.args.command None) c.in_ok-perform_on_no_file.field-0 c.perform_on_no_file.new.self = subst (λ v. IsStepOrRefused c.args.self.now c.args.at (going_on c.args.self.now.machine (record c.args.command { verb = v }) None) (Ok c.in_ok-perform_on_no_file.field-0) c.perform_on_no_file.new.self) (back (goal.at.returns-in_default-2 c).In_ok-op None c.in_default-2.is) c.in_ok-perform_on_no_file.ensures.step in
    record {
      step = step_made c.args.self.now c.args.label c.args.command c.args.at c.get.result.now p None (asks (goal.at.returns-in_default-2 c).In_ok-op None c.in_default-2.is c.get.result.now p.to.there) c.in_ok-perform_on_no_file.field-0 c.perform_on_no_file.new.self step;
      reason = c.requires.blank ∙ told_reason c.args.self.now.machine c.args.label c.args.command.verb c.args.at c.get.result.now None p.to p.passes;
      kept = step.1;
    }

pub returns-in_err-perform_on_no_file-clause-step : goal.returns-in_err-perform_on_no_file-clause-step
returns-in_err-perform_on_no_file-clause-step c =
    let p = passes (goal.at.returns-in_err-perform_on_no_file-clause-step c).After-failed_check c.in_default.is in
    step_refused c.args.self.now c.args.label c.args.command c.args.at c.get.result.now p c.from_residual-in_err-perform_on_no_file.result _ c.from_residual-in_err-perform_on_no_file.ensures (subst (λ v. IsTrue (is_growing v)) (back (goal.at.returns-in_err-perform_on_no_file-clause-step c).In_ok-op None c.in_default-2.is) c.in_err-perform_on_no_file.ensures.growing) (c.in_err-perform_on_no_file.ensures.step)

pub returns-in_err-perform_on_no_file-clause-kept : goal.returns-in_err-perform_on_no_file-clause-kept
returns-in_err-perform_on_no_file-clause-kept c =
    subst (KeepsRegion c.args.self.now) (sym (c.in_err-perform_on_no_file.ensures.step)) (λ was. was)

pub execute-requires-clause-awake : goal.execute-requires-clause-awake
execute-requires-clause-awake c =
    (passes (goal.at.execute-requires-clause-awake c).After-failed_check c.in_default.is).may.awake

pub execute-requires-clause-ready : goal.execute-requires-clause-ready
execute-requires-clause-ready c =
    let p = passes (goal.at.execute-requires-clause-ready c).After-failed_check c.in_default.is in
    ready_to c.args.self.now.machine c.args.at c.args.command.verb c.in-Some-2.op p.may (asks (goal.at.execute-requires-clause-ready c).In_ok-op (Some c.in-Some-2.op) c.in-Some-2.is)

pub returns-in_err-outcome-clause-step : goal.returns-in_err-outcome-clause-step
returns-in_err-outcome-clause-step c =
    let p = passes (goal.at.returns-in_err-outcome-clause-step c).After-failed_check c.in_default.is in
    let same = c.in_err-outcome.ensures.attempt c.args.command.verb (subst (AreToldAlike c.take_op.new.verb) (back (goal.at.returns-in_err-outcome-clause-step c).In_ok-op (Some c.in-Some-2.op) c.in-Some-2.is) (told_refilled c.take_op.new.verb c.in-Some-2.op)) in
    step_refused c.args.self.now c.args.label c.args.command c.args.at c.get.result.now p c.from_residual-in_err-outcome.result _ c.from_residual-in_err-outcome.ensures (op_grows c.args.self.now.machine c.get.result.now c.args.command.verb c.in-Some-2.op (asks (goal.at.returns-in_err-outcome-clause-step c).In_ok-op (Some c.in-Some-2.op) c.in-Some-2.is c.get.result.now p.to.there)) (same)

pub returns-in_err-outcome-clause-kept : goal.returns-in_err-outcome-clause-kept
returns-in_err-outcome-clause-kept c =
    let same = c.in_err-outcome.ensures.attempt c.args.command.verb (subst (AreToldAlike c.take_op.new.verb) (back (goal.at.returns-in_err-outcome-clause-kept c).In_ok-op (Some c.in-Some-2.op) c.in-Some-2.is) (told_refilled c.take_op.new.verb c.in-Some-2.op)) in
    subst (KeepsRegion c.args.self.now) (sym (same)) (λ was. was)

pub returns-in-Told : goal.returns-in-Told
returns-in-Told c =
    let p = passes (goal.at.returns-in-Told c).After-failed_check c.in_default.is in
    let step : IsStepOf c.args.self.now c.args.at (going_on c.args.self.now.machine c.args.command (Some c.in-Some-2.op)) c.in-Told.outcome c.execute.new.self = tried_told c.args.self.now c.execute.new.self c.args.at c.args.command (Some c.in-Some-2.op) c.in_ok-outcome.field-0 c.in-Told.outcome c.in-Told.is (tried (goal.at.returns-in-Told c).In_ok-outcome) in
    record {
      step = step_made c.args.self.now c.args.label c.args.command c.args.at c.get.result.now p (Some c.in-Some-2.op) (asks (goal.at.returns-in-Told c).In_ok-op (Some c.in-Some-2.op) c.in-Some-2.is c.get.result.now p.to.there) c.in-Told.outcome c.execute.new.self step;
      reason = c.requires.blank ∙ told_reason c.args.self.now.machine c.args.label c.args.command.verb c.args.at c.get.result.now None p.to p.passes;
      kept = step.1;
    }

pub returns-in_err-command-in-MustWait-clause-step : goal.returns-in_err-command-in-MustWait-clause-step
returns-in_err-command-in-MustWait-clause-step c =
    let p = passes (goal.at.returns-in_err-command-in-MustWait-clause-step c).After-failed_check c.in_default.is in
    step_refused c.args.self.now c.args.label c.args.command c.args.at c.get.result.now p c.from_residual-in_err-command-in-MustWait.result _ c.from_residual-in_err-command-in-MustWait.ensures (op_grows c.args.self.now.machine c.get.result.now c.args.command.verb c.in-Some-2.op (asks (goal.at.returns-in_err-command-in-MustWait-clause-step c).In_ok-op (Some c.in-Some-2.op) c.in-Some-2.is c.get.result.now p.to.there)) ((tried_waits c.args.self.now c.execute.new.self c.args.at c.args.command (Some c.in-Some-2.op) c.in_ok-outcome.field-0 c.in-MustWait.holder c.in-MustWait.op c.in-MustWait.is (tried (goal.at.returns-in_err-command-in-MustWait-clause-step c).In_ok-outcome)).1.1)

pub returns-in_err-command-in-MustWait-clause-kept : goal.returns-in_err-command-in-MustWait-clause-kept
returns-in_err-command-in-MustWait-clause-kept c =
    subst (KeepsRegion c.args.self.now) (sym ((tried_waits c.args.self.now c.execute.new.self c.args.at c.args.command (Some c.in-Some-2.op) c.in_ok-outcome.field-0 c.in-MustWait.holder c.in-MustWait.op c.in-MustWait.is (tried (goal.at.returns-in_err-command-in-MustWait-clause-kept c).In_ok-outcome)).1.1)) (λ was. was)

pub make_wait-requires-clause-within : goal.make_wait-requires-clause-within
make_wait-requires-clause-within c =
    wait_within c.args.self.now c.execute.new.self c.args.at c.args.command (Some c.in-Some-2.op) c.in_ok-outcome.field-0 c.in-MustWait.holder c.in-MustWait.op c.in-MustWait.is (tried (goal.at.make_wait-requires-clause-within c).In_ok-outcome) c.requires.within

pub make_wait-requires-clause-awake : goal.make_wait-requires-clause-awake
make_wait-requires-clause-awake c =
    wait_awake c.args.self.now c.execute.new.self c.args.at c.args.command (Some c.in-Some-2.op) c.in_ok-outcome.field-0 c.in-MustWait.holder c.in-MustWait.op c.in-MustWait.is (tried (goal.at.make_wait-requires-clause-awake c).In_ok-outcome) (passes (goal.at.make_wait-requires-clause-awake c).After-failed_check c.in_default.is).may.awake

pub make_wait-requires-clause-is_open : goal.make_wait-requires-clause-is_open
make_wait-requires-clause-is_open c =
    wait_open c.args.self.now c.execute.new.self c.args.at c.args.command (Some c.in-Some-2.op) c.in_ok-outcome.field-0 c.in-MustWait.holder c.in-MustWait.op c.in-MustWait.is (tried (goal.at.make_wait-requires-clause-is_open c).In_ok-outcome)

pub make_wait-requires-clause-ready : goal.make_wait-requires-clause-ready
make_wait-requires-clause-ready c =
    let p = passes (goal.at.make_wait-requires-clause-ready c).After-failed_check c.in_default.is in
    let tries = tried (goal.at.make_wait-requires-clause-ready c).In_ok-outcome in
    let filled = c.in_ok-command-in-MustWait.ensures ∙ ap (whole (record c.args.command { verb = c.take_op.new.verb })) (tried_waits c.args.self.now c.execute.new.self c.args.at c.args.command (Some c.in-Some-2.op) c.in_ok-outcome.field-0 c.in-MustWait.holder c.in-MustWait.op c.in-MustWait.is tries).0.1
    ∙ ap (λ v. record c.args.command { verb = v }) (back (goal.at.make_wait-requires-clause-ready c).In_ok-op (Some c.in-Some-2.op) c.in-Some-2.is) in
    subst (λ k. HasReady c.execute.new.self.machine c.args.at k.verb c.in-MustWait.op) (sym filled)
    (wait_ready c.args.self.now c.execute.new.self c.args.at c.args.command (Some c.in-Some-2.op) c.in_ok-outcome.field-0 c.in-MustWait.holder c.in-MustWait.op c.in-MustWait.is tries (ready_to c.args.self.now.machine c.args.at c.args.command.verb c.in-Some-2.op p.may (asks (goal.at.make_wait-requires-clause-ready c).In_ok-op (Some c.in-Some-2.op) c.in-Some-2.is)))

pub returns-in_ok-make_wait-in-MustWait : goal.returns-in_ok-make_wait-in-MustWait
returns-in_ok-make_wait-in-MustWait c =
    let p = passes (goal.at.returns-in_ok-make_wait-in-MustWait c).After-failed_check c.in_default.is in
    let tries = tried (goal.at.returns-in_ok-make_wait-in-MustWait c).In_ok-outcome in
    let filled = c.in_ok-command-in-MustWait.ensures ∙ ap (whole (record c.args.command { verb = c.take_op.new.verb })) (tried_waits c.args.self.now c.execute.new.self c.args.at c.args.command (Some c.in-Some-2.op) c.in_ok-outcome.field-0 c.in-MustWait.holder c.in-MustWait.op c.in-MustWait.is tries).0.1
    ∙ ap (λ v. record c.args.command { verb = v }) (back (goal.at.returns-in_ok-make_wait-in-MustWait c).In_ok-op (Some c.in-Some-2.op) c.in-Some-2.is) in
    let step : IsStepOf c.args.self.now c.args.at (going_on c.args.self.now.machine c.args.command (Some c.in-Some-2.op)) c.in_ok-make_wait-in-MustWait.field-0 c.make_wait.new.self = wait_told c.args.self.now c.execute.new.self c.args.at c.args.command (Some c.in-Some-2.op) c.in_ok-outcome.field-0 c.in-MustWait.holder c.in-MustWait.op c.in-MustWait.is tries c.make_wait.new.self (Ok c.in_ok-make_wait-in-MustWait.field-0) (λ s here. waits_for c.args.self.now.machine s c.args.command c.in-Some-2.op c.in-MustWait.holder)
    (subst (λ k. IsStepOrRefused c.execute.new.self c.args.at (waiting_for c.execute.new.self.machine k c.in-MustWait.op c.in-MustWait.holder) (Ok c.in_ok-make_wait-in-MustWait.field-0) c.make_wait.new.self) filled c.in_ok-make_wait-in-MustWait.ensures.step) in
    record {
      step = step_made c.args.self.now c.args.label c.args.command c.args.at c.get.result.now p (Some c.in-Some-2.op) (asks (goal.at.returns-in_ok-make_wait-in-MustWait c).In_ok-op (Some c.in-Some-2.op) c.in-Some-2.is c.get.result.now p.to.there) c.in_ok-make_wait-in-MustWait.field-0 c.make_wait.new.self step;
      reason = c.requires.blank ∙ told_reason c.args.self.now.machine c.args.label c.args.command.verb c.args.at c.get.result.now None p.to p.passes;
      kept = step.1;
    }

pub returns-in_err-make_wait-in-MustWait-clause-step : goal.returns-in_err-make_wait-in-MustWait-clause-step
returns-in_err-make_wait-in-MustWait-clause-step c =
    let p = passes (goal.at.returns-in_err-make_wait-in-MustWait-clause-step c).After-failed_check c.in_default.is in
    let tries = tried (goal.at.returns-in_err-make_wait-in-MustWait-clause-step c).In_ok-outcome in
    let filled = c.in_ok-command-in-MustWait.ensures ∙ ap (whole (record c.args.command { verb = c.take_op.new.verb })) (tried_waits c.args.self.now c.execute.new.self c.args.at c.args.command (Some c.in-Some-2.op) c.in_ok-outcome.field-0 c.in-MustWait.holder c.in-MustWait.op c.in-MustWait.is tries).0.1
    ∙ ap (λ v. record c.args.command { verb = v }) (back (goal.at.returns-in_err-make_wait-in-MustWait-clause-step c).In_ok-op (Some c.in-Some-2.op) c.in-Some-2.is) in
    step_refused c.args.self.now c.args.label c.args.command c.args.at c.get.result.now p c.from_residual-in_err-make_wait-in-MustWait.result _ c.from_residual-in_err-make_wait-in-MustWait.ensures (op_grows c.args.self.now.machine c.get.result.now c.args.command.verb c.in-Some-2.op (asks (goal.at.returns-in_err-make_wait-in-MustWait-clause-step c).In_ok-op (Some c.in-Some-2.op) c.in-Some-2.is c.get.result.now p.to.there)) (wait_told c.args.self.now c.execute.new.self c.args.at c.args.command (Some c.in-Some-2.op) c.in_ok-outcome.field-0 c.in-MustWait.holder c.in-MustWait.op c.in-MustWait.is tries c.make_wait.new.self (Err c.in_err-make_wait-in-MustWait.field-0.0) (λ s here. waits_for c.args.self.now.machine s c.args.command c.in-Some-2.op c.in-MustWait.holder)
    (subst (λ k. IsStepOrRefused c.execute.new.self c.args.at (waiting_for c.execute.new.self.machine k c.in-MustWait.op c.in-MustWait.holder) (Err c.in_err-make_wait-in-MustWait.field-0.0) c.make_wait.new.self) filled c.in_err-make_wait-in-MustWait.ensures.step))

pub returns-in_err-make_wait-in-MustWait-clause-kept : goal.returns-in_err-make_wait-in-MustWait-clause-kept
returns-in_err-make_wait-in-MustWait-clause-kept c =
    let tries = tried (goal.at.returns-in_err-make_wait-in-MustWait-clause-kept c).In_ok-outcome in
    let filled = c.in_ok-command-in-MustWait.ensures ∙ ap (whole (record c.args.command { verb = c.take_op.new.verb })) (tried_waits c.args.self.now c.execute.new.self c.args.at c.args.command (Some c.in-Some-2.op) c.in_ok-outcome.field-0 c.in-MustWait.holder c.in-MustWait.op c.in-MustWait.is tries).0.1
    ∙ ap (λ v. record c.args.command { verb = v }) (back (goal.at.returns-in_err-make_wait-in-MustWait-clause-kept c).In_ok-op (Some c.in-Some-2.op) c.in-Some-2.is) in
    subst (KeepsRegion c.args.self.now) (sym (wait_told c.args.self.now c.execute.new.self c.args.at c.args.command (Some c.in-Some-2.op) c.in_ok-outcome.field-0 c.in-MustWait.holder c.in-MustWait.op c.in-MustWait.is tries c.make_wait.new.self (Err c.in_err-make_wait-in-MustWait.field-0.0) (λ s here. waits_for c.args.self.now.machine s c.args.command c.in-Some-2.op c.in-MustWait.holder)
    (subst (λ k. IsStepOrRefused c.execute.new.self c.args.at (waiting_for c.execute.new.self.machine k c.in-MustWait.op c.in-MustWait.holder) (Err c.in_err-make_wait-in-MustWait.field-0.0) c.make_wait.new.self) filled c.in_err-make_wait-in-MustWait.ensures.step))) (λ was. was)
