use Rattle.std.proofs.Common.{true, false, length, Ok, Err, ◌∙◌, ap, sym, subst, refl}
use Rattle.std.proofs.lemmas.Result.{err_from_is_err_and}
use Rattle.cics_history.specs.Openings.{with_td_record, is_record_size}
use Rattle.cics_units.specs.Opening.Faults.{AnswersFault}
use Rattle.cics_units.specs.Opening.Opened.{opened_with}
use Rattle.cics_units.specs.Opening.RegionQueues.{AreLoadedQueues}
use Rattle.cics_units.specs.declared.opening.opening.DefineFault.TheVariants.{NotThere, BadLength}
use Rattle.cics_units.proofs.OfOpening.Opened.{load_td_fault-tested, AreLoadedQueues-loaded, opened_with-loaded}
use Rattle.cics_units.proofs.opening.opening.Opening.load_td.Goals as goal

pub returns-then-not-contains-clause-fault : goal.returns-then-not-contains-clause-fault
returns-then-not-contains-clause-fault c = subst (AnswersFault {X = Unit {0}} (Err NotThere))
    (load_td_fault-tested c.self.inside.files c.self.inside.prefixes c.self.inside.queues c.args.self.now c.self.view_is c.args.name c.args.content false (is_record_size (length c.args.content)) c.if-not-contains.ensures (refl)) refl

pub returns-then-not-is_record_size-clause-fault : goal.returns-then-not-is_record_size-clause-fault
returns-then-not-is_record_size-clause-fault c = subst (AnswersFault {X = Unit {0}} (Err BadLength))
    (load_td_fault-tested c.self.inside.files c.self.inside.prefixes c.self.inside.queues c.args.self.now c.self.view_is c.args.name c.args.content true false c.if-not-contains.ensures (c.if-not-is_record_size.ensures ∙ ap (λ r. is_record_size (length r)) c.bytes.ensures)) refl

pub returns-in_err-add_loaded-clause-fault : goal.returns-in_err-add_loaded-clause-fault
returns-in_err-add_loaded-clause-fault c = subst (AnswersFault {X = Unit {0}} c.from_residual.result)
    (load_td_fault-tested c.self.inside.files c.self.inside.prefixes c.self.inside.queues c.args.self.now c.self.view_is c.args.name c.args.content true true c.if-not-contains.ensures (c.if-not-is_record_size.ensures ∙ ap (λ r. is_record_size (length r)) c.bytes.ensures))
    (let p = err_from_is_err_and c.from_residual.result c.from_residual.ensures.1 in rw p.1 p.2)

pub invariant_of-self-2 : goal.invariant_of-self-2
invariant_of-self-2 c = (
  c.self.invariant.0,
  subst AreLoadedQueues (sym c.in_ok-add_loaded.ensures.queues)
      (AreLoadedQueues-loaded c.self.inside.queues c.self.invariant.1 c.args.name c.args.content),
)

pub returns-clause-fault : goal.returns-clause-fault
returns-clause-fault c = subst (AnswersFault {X = Unit {0}} (Ok (tt {0})))
    (load_td_fault-tested c.self.inside.files c.self.inside.prefixes c.self.inside.queues c.args.self.now c.self.view_is c.args.name c.args.content true true c.if-not-contains.ensures (c.if-not-is_record_size.ensures ∙ ap (λ r. is_record_size (length r)) c.bytes.ensures)) (tt {0})

pub returns-clause-ok : goal.returns-clause-ok
returns-clause-ok c =
    ap (opened_with c.self.inside.files c.self.inside.prefixes) c.in_ok-add_loaded.ensures.queues
    ∙ opened_with-loaded c.self.inside.files c.self.inside.prefixes c.self.inside.queues c.args.name c.args.content
    ∙ ap (λ o. with_td_record o c.args.name c.args.content) c.self.view_is
