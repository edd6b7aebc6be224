use Rattle.std.proofs.Common.{[], Ok, Err, ◌∙◌, ap, sym, subst, refl}
use Rattle.std.proofs.lemmas.Result.{err_from_is_err_and}
use Rattle.cics_names.specs.Keyed.{with_value}
use Rattle.cics_transdata.specs.Trans.{holding}
use Rattle.cics_history.specs.Openings.{with_queue}
use Rattle.cics_units.specs.Opening.Faults.{AnswersFault, fault_if}
use Rattle.cics_units.specs.Opening.Opened.{opened_with}
use Rattle.cics_units.specs.Opening.RegionQueues.{AreLoadedQueues}
use Rattle.cics_units.specs.declared.opening.opening.DefineFault.TheVariants.{Duplicate}
use Rattle.cics_units.proofs.OfOpening.Opened.{defined_already, AreLoadedQueues-with, opened_with-queue}
use Rattle.cics_units.proofs.opening.opening.Opening.define_td.Goals as goal

pub returns-then-contains-clause-fault : goal.returns-then-contains-clause-fault
returns-then-contains-clause-fault c = subst (λ b. AnswersFault {X = Unit {0}} (Err Duplicate) (fault_if b))
    (c.if-contains.ensures ∙ defined_already c.self.inside.files c.self.inside.prefixes c.self.inside.queues c.args.self.now c.self.view_is c.args.name) refl

pub returns-in_err-insert-clause-fault : goal.returns-in_err-insert-clause-fault
returns-in_err-insert-clause-fault c = subst (λ b. AnswersFault {X = Unit {0}} c.from_residual.result (fault_if b))
    (c.if-contains.ensures ∙ defined_already c.self.inside.files c.self.inside.prefixes c.self.inside.queues c.args.self.now c.self.view_is c.args.name)
    (let p = err_from_is_err_and c.from_residual.result c.from_residual.ensures.1 in rw p.1 p.2)

pub invariant_of-self-2 : goal.invariant_of-self-2
invariant_of-self-2 c = (
  c.self.invariant.0,
  subst AreLoadedQueues
      (sym (c.in_ok-insert.ensures.queues ∙ ap (λ q. with_value c.args.name q c.self.inside.queues) c.new.ensures))
      (AreLoadedQueues-with c.self.inside.queues c.self.invariant.1 c.args.name (holding c.args.recovery []) (record { read = refl; written = refl })),
)

pub returns-clause-fault : goal.returns-clause-fault
returns-clause-fault c = subst (λ b. AnswersFault {X = Unit {0}} (Ok (tt {0})) (fault_if b))
    (c.if-contains.ensures ∙ defined_already c.self.inside.files c.self.inside.prefixes c.self.inside.queues c.args.self.now c.self.view_is c.args.name) (tt {0})

pub returns-clause-ok : goal.returns-clause-ok
returns-clause-ok c =
    ap (opened_with c.self.inside.files c.self.inside.prefixes) (c.in_ok-insert.ensures.queues ∙ ap (λ q. with_value c.args.name q c.self.inside.queues) c.new.ensures)
    ∙ opened_with-queue c.self.inside.files c.self.inside.prefixes c.self.inside.queues c.args.name c.args.recovery
    ∙ ap (λ o. with_queue o c.args.name c.args.recovery) c.self.view_is
