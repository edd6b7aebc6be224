use Rattle.std.proofs.Common.{◌≡◌, true, false, Some, Ok, Err, ◌∙◌, ap, sym, subst, refl}
use Rattle.std.specs.Prelude.{IsTrue}
use Rattle.std.proofs.lemmas.Result.{err_from_is_err_and}
use Rattle.cics_names.specs.Keyed.{value_at, has_key}
use Rattle.cics_ksds.specs.Files.{key_of, fits_file}
use Rattle.cics_units.specs.Opening.Faults.{AnswersFault}
use Rattle.cics_history.specs.Openings.{with_record}
use Rattle.cics_units.specs.Opening.RegionFiles.{AreLoaded, written_in}
use Rattle.cics_units.specs.declared.opening.opening.DefineFault.TheVariants.{Duplicate, BadLength, NotThere}
use Rattle.cics_units.specs.Opening.Opened.{opened_with}
use Rattle.cics_units.proofs.OfOpening.Opened.{load_fault-absent, load_fault-tested, has_key-read, load_fault-read, AreLoaded-written, opened_with-written}
use Rattle.cics_units.proofs.opening.opening.Opening.load_file.Goals as goal

pub returns-in_default-clause-fault : goal.returns-in_default-clause-fault
returns-in_default-clause-fault c = subst (AnswersFault {X = Unit {0}} (Err NotThere))
    (sym (load_fault-absent c.self.inside.files c.self.inside.prefixes c.self.inside.queues c.args.self.now c.args.name c.args.content c.self.view_is (sym c.in_default.ensures.value))) refl

pub returns-then-not-fits-clause-fault : goal.returns-then-not-fits-clause-fault
returns-then-not-fits-clause-fault c = subst (AnswersFault {X = Unit {0}} (Err BadLength))
    (sym (load_fault-tested c.self.inside.files c.self.inside.prefixes c.self.inside.queues c.args.self.now c.args.name c.args.content c.self.view_is c.in-Some.file.now
    false (has_key (key_of c.in-Some.file.now.definition c.args.content) c.in-Some.file.now.records) (sym c.in-Some.ensures.value)
    (c.if-not-fits.ensures ∙ ap (λ d. fits_file d c.bytes.result.now) c.definition-definition.ensures.definition ∙ ap (fits_file c.in-Some.file.now.definition) c.bytes.ensures) refl)) refl

pub returns-then-is_some-clause-fault : goal.returns-then-is_some-clause-fault
returns-then-is_some-clause-fault c = subst (AnswersFault {X = Unit {0}} (Err Duplicate))
    (sym (load_fault-read c.self.inside.files c.self.inside.prefixes c.self.inside.queues c.args.self.now c.args.name c.args.content c.self.view_is c.in-Some.file.now
    c.definition-definition.result c.bytes.result.now c.key_in.result.now c.read.result true
    c.definition-definition.ensures.definition c.bytes.ensures (c.key_in.ensures ∙ ap (key_of c.definition-definition.result) (c.bytes-2.ensures ∙ sym c.bytes.ensures)) c.if-is_some.ensures c.read.ensures (sym c.in-Some.ensures.value) true c.if-not-fits.ensures)) refl

pub returns-in_err-write_loaded-clause-fault : goal.returns-in_err-write_loaded-clause-fault
returns-in_err-write_loaded-clause-fault c = subst (AnswersFault {X = Unit {0}} c.from_residual.result)
    (sym (load_fault-read c.self.inside.files c.self.inside.prefixes c.self.inside.queues c.args.self.now c.args.name c.args.content c.self.view_is c.in-Some.file.now
    c.definition-definition.result c.bytes.result.now c.key_in.result.now c.read.result false
    c.definition-definition.ensures.definition c.bytes.ensures (c.key_in.ensures ∙ ap (key_of c.definition-definition.result) (c.bytes-2.ensures ∙ sym c.bytes.ensures)) c.if-is_some.ensures c.read.ensures (sym c.in-Some.ensures.value) true c.if-not-fits.ensures))
    (let p = err_from_is_err_and c.from_residual.result c.from_residual.ensures.1 in rw p.1 p.2)

pub returns-clause-fault : goal.returns-clause-fault
returns-clause-fault c = subst (AnswersFault {X = Unit {0}} (Ok (tt {0})))
    (sym (load_fault-read c.self.inside.files c.self.inside.prefixes c.self.inside.queues c.args.self.now c.args.name c.args.content c.self.view_is c.in-Some.file.now
    c.definition-definition.result c.bytes.result.now c.key_in.result.now c.read.result false
    c.definition-definition.ensures.definition c.bytes.ensures (c.key_in.ensures ∙ ap (key_of c.definition-definition.result) (c.bytes-2.ensures ∙ sym c.bytes.ensures)) c.if-is_some.ensures c.read.ensures (sym c.in-Some.ensures.value) true c.if-not-fits.ensures)) (tt {0})

pub invariant_of-self-2 : goal.invariant_of-self-2
invariant_of-self-2 c =
    let there : value_at c.args.name c.self.inside.files ≡ Some c.in-Some.file.now = sym c.in-Some.ensures.value in
    let fits : IsTrue (fits_file c.in-Some.file.now.definition c.args.content) =
    subst IsTrue (c.if-not-fits.ensures ∙ ap (λ d. fits_file d c.bytes.result.now) c.definition-definition.ensures.definition ∙ ap (fits_file c.in-Some.file.now.definition) c.bytes.ensures) refl in (
      subst AreLoaded (sym (c.in_ok-write_loaded.ensures.files ∙ ap (written_in c.self.inside.files c.args.name c.args.content) there))
          (AreLoaded-written c.self.inside.files c.self.invariant.0 c.args.name c.args.content c.in-Some.file.now there fits),
      c.self.invariant.1,
    )

pub returns-clause-ok : goal.returns-clause-ok
returns-clause-ok c =
    let there : value_at c.args.name c.self.inside.files ≡ Some c.in-Some.file.now = sym c.in-Some.ensures.value in
    ap (λ m. opened_with m c.self.inside.prefixes c.self.inside.queues) (c.in_ok-write_loaded.ensures.files ∙ ap (written_in c.self.inside.files c.args.name c.args.content) there)
    ∙ opened_with-written c.self.inside.files c.self.inside.prefixes c.self.inside.queues c.args.name c.args.content c.in-Some.file.now there
    (sym (has_key-read c.self.inside.files c.self.inside.prefixes c.self.inside.queues c.args.self.now c.args.name c.args.content c.self.view_is c.in-Some.file.now
    c.definition-definition.result c.bytes.result.now c.key_in.result.now c.read.result false
    c.definition-definition.ensures.definition c.bytes.ensures (c.key_in.ensures ∙ ap (key_of c.definition-definition.result) (c.bytes-2.ensures ∙ sym c.bytes.ensures)) c.if-is_some.ensures c.read.ensures))
    ∙ ap (λ o. with_record o c.args.name c.args.content) c.self.view_is
