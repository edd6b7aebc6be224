use Rattle.std.proofs.Common.{◌≡◌, ◌∙◌, ap, sym, subst, true}
use Rattle.std.proofs.lemmas.Result.{IfOk-from_err}
use Rattle.cics_history.specs.Execution.{execution, after_execution, is_ready_op, IfMustWait, IsOpenUnit}
use Rattle.cics_history.specs.Headline.{IsHeadline}
use Rattle.cics_history.specs.Serial.{IsSerializable}
use Rattle.cics_units.specs.Submitting.{as_done}
use Rattle.cics_units.proofs.KeptUnits.{kept_headline, kept_serializable}
use Rattle.cics_units.proofs.RefusedCommands.{on_err}
use Rattle.cics_units.proofs.units.Units.execute.Goals as goal

pub submit-requires-clause-ready : goal.submit-requires-clause-ready
submit-requires-clause-ready c = subst (λ op. is_ready_op c.args.self.now.state c.args.unit op ≡ true) (sym c.in_ok-copy.ensures) c.requires.ready

-- ---- memory is refused
pub returns-in_err-copy-clause-headline : goal.returns-in_err-copy-clause-headline
returns-in_err-copy-clause-headline c = subst IsHeadline c.self.view_is (kept_headline _ _ _ c.self.invariant.0)

pub returns-in_err-copy-clause-serializable : goal.returns-in_err-copy-clause-serializable
returns-in_err-copy-clause-serializable c = subst IsSerializable c.self.view_is (kept_serializable _ _ _ c.self.invariant.0)

pub returns-in_err-unit-clause-err : goal.returns-in_err-unit-clause-err
returns-in_err-unit-clause-err c = on_err c.from_residual-in_err-unit.result c.in_err-unit.ensures.err

pub returns-in_err-copy-clause-done : goal.returns-in_err-copy-clause-done
returns-in_err-copy-clause-done c = IfOk-from_err c.from_residual.result _ c.from_residual.ensures.0

pub returns-in_err-copy-clause-holder_open : goal.returns-in_err-copy-clause-holder_open
returns-in_err-copy-clause-holder_open c = IfOk-from_err c.from_residual.result _ c.from_residual.ensures.0

pub returns-in_err-copy-clause-state : goal.returns-in_err-copy-clause-state
returns-in_err-copy-clause-state c = IfOk-from_err c.from_residual.result _ c.from_residual.ensures.0

pub returns-in_err-unit-clause-done : goal.returns-in_err-unit-clause-done
returns-in_err-unit-clause-done c = IfOk-from_err c.from_residual-in_err-unit.result _ c.from_residual-in_err-unit.ensures.0

pub returns-in_err-unit-clause-holder_open : goal.returns-in_err-unit-clause-holder_open
returns-in_err-unit-clause-holder_open c = IfOk-from_err c.from_residual-in_err-unit.result _ c.from_residual-in_err-unit.ensures.0

pub returns-in_err-unit-clause-state : goal.returns-in_err-unit-clause-state
returns-in_err-unit-clause-state c = IfOk-from_err c.from_residual-in_err-unit.result _ c.from_residual-in_err-unit.ensures.0

-- ---- it is executed
pub returns-in-Answered-clause-done : goal.returns-in-Answered-clause-done
returns-in-Answered-clause-done c = sym (ap as_done c.in-Answered.is) ∙ c.in_ok-unit.ensures.done ∙ ap (execution c.args.self.now.state c.args.unit) c.in_ok-copy.ensures

pub returns-in-Answered-clause-state : goal.returns-in-Answered-clause-state
returns-in-Answered-clause-state c = c.in_ok-unit.ensures.state ∙ ap (after_execution c.args.self.now.state c.args.unit) c.in_ok-copy.ensures

-- ---- it has to wait
pub returns-clause-done : goal.returns-clause-done
returns-clause-done c = sym (ap as_done c.in-MustWait.is) ∙ c.in_ok-unit.ensures.done ∙ ap (execution c.args.self.now.state c.args.unit) c.in_ok-copy.ensures

pub returns-clause-holder_open : goal.returns-clause-holder_open
returns-clause-holder_open c = subst (λ s. IfMustWait (as_done s) (IsOpenUnit c.args.self.now.state)) c.in-MustWait.is c.in_ok-unit.ensures.holder_open

pub returns-clause-state : goal.returns-clause-state
returns-clause-state c = c.in_ok-unit.ensures.state ∙ ap (after_execution c.args.self.now.state c.args.unit) c.in_ok-copy.ensures
