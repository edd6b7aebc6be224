use Rattle.std.proofs.Common.{[], true, false, Ok, Err, ◌∙◌, ap, sym, subst, refl}
use Rattle.std.proofs.lemmas.Result.{err_from_is_err_and}
use Rattle.cics_names.specs.Keyed.{with_value}
use Rattle.cics_units.specs.Opening.Faults.{AnswersFault}
use Rattle.cics_history.specs.Openings.{with_file, is_record_size, is_key}
use Rattle.cics_units.specs.Opening.RegionFiles.{AreLoaded, opening_of}
use Rattle.cics_units.specs.Opening.RegionQueues.{queue_openings}
use Rattle.cics_units.specs.declared.opening.opening.DefineFault.TheVariants.{Duplicate, BadLength, BadKey}
use Rattle.cics_units.specs.Opening.Opened.{opened_with}
use Rattle.cics_units.proofs.OfOpening.Opened.{file_fault-tested, AreLoaded-defined, with_value-each}
use Rattle.cics_units.proofs.opening.opening.Opening.define_file.Goals as goal

pub returns-then-contains-clause-fault : goal.returns-then-contains-clause-fault
returns-then-contains-clause-fault c = subst (AnswersFault {X = Unit {0}} (Err Duplicate))
    (file_fault-tested c.self.inside.files c.self.inside.prefixes c.self.inside.queues c.args.self.now c.args.name c.args.definition true (is_record_size c.args.definition.record_size) (is_key c.args.definition) c.self.view_is c.if-contains.ensures refl refl) refl

pub returns-then-not-is_record_size-clause-fault : goal.returns-then-not-is_record_size-clause-fault
returns-then-not-is_record_size-clause-fault c = subst (AnswersFault {X = Unit {0}} (Err BadLength))
    (file_fault-tested c.self.inside.files c.self.inside.prefixes c.self.inside.queues c.args.self.now c.args.name c.args.definition false false (is_key c.args.definition) c.self.view_is c.if-contains.ensures c.if-not-is_record_size.ensures refl) refl

pub returns-then-not-is_key-clause-fault : goal.returns-then-not-is_key-clause-fault
returns-then-not-is_key-clause-fault c = subst (AnswersFault {X = Unit {0}} (Err BadKey))
    (file_fault-tested c.self.inside.files c.self.inside.prefixes c.self.inside.queues c.args.self.now c.args.name c.args.definition false true false c.self.view_is c.if-contains.ensures c.if-not-is_record_size.ensures c.if-not-is_key.ensures) refl

pub returns-in_err-insert-clause-fault : goal.returns-in_err-insert-clause-fault
returns-in_err-insert-clause-fault c = subst (AnswersFault {X = Unit {0}} c.from_residual.result)
    (file_fault-tested c.self.inside.files c.self.inside.prefixes c.self.inside.queues c.args.self.now c.args.name c.args.definition false true true c.self.view_is c.if-contains.ensures c.if-not-is_record_size.ensures c.if-not-is_key.ensures)
    (let p = err_from_is_err_and c.from_residual.result c.from_residual.ensures.1 in rw p.1 p.2)

pub invariant_of-self-2 : goal.invariant_of-self-2
invariant_of-self-2 c = (
  subst AreLoaded
      (sym (c.in_ok-insert.ensures.values ∙ ap (λ f. with_value c.args.name f c.self.inside.files) c.new.ensures)) (AreLoaded-defined c.self.inside.files c.self.invariant.0 c.args.name c.args.definition (sym c.if-not-is_key.ensures)),
  c.self.invariant.1,
)

pub returns-clause-fault : goal.returns-clause-fault
returns-clause-fault c = subst (AnswersFault {X = Unit {0}} (Ok (tt {0})))
    (file_fault-tested c.self.inside.files c.self.inside.prefixes c.self.inside.queues c.args.self.now c.args.name c.args.definition false true true c.self.view_is c.if-contains.ensures c.if-not-is_record_size.ensures c.if-not-is_key.ensures) (tt {0})

pub returns-clause-ok : goal.returns-clause-ok
returns-clause-ok c =
    ap (λ m. opened_with m c.self.inside.prefixes c.self.inside.queues) (c.in_ok-insert.ensures.values ∙ ap (λ f. with_value c.args.name f c.self.inside.files) c.new.ensures)
    ∙ ap (λ files. record { files = files; prefixes = c.self.inside.prefixes; queues = queue_openings c.self.inside.queues }) (with_value-each opening_of c.args.name (record { definition = c.args.definition; records = []; empties = [] }) c.self.inside.files)
    ∙ ap (λ o. with_file o c.args.name c.args.definition) c.self.view_is
