use Rattle.std.proofs.Common.{◌≡◌, true, ◌∙◌, ap, subst, refl, None, sym}
use Rattle.std.specs.Prelude.{IfSome}
use Rattle.std.proofs.lemmas.Result.{err_from_is_err_and}
use Rattle.cics_names.specs.Keyed.{with_value}
use Rattle.cics_images.specs.StoreCells.{with_trans_data, with_files}
use Rattle.cics_transdata.specs.Trans.{is_logical}
use Rattle.cics_history.specs.Marks.{marks_of}
use Rattle.cics_history.specs.Store.{only, numbered}
use Rattle.cics_history.specs.declared.ops.Op.TheVariants.{TsWrite, TsRewrite, TsDelete, TdWrite, TdRead, TdDelete, Write, Rewrite, Delete, DeleteGeneric}
use Rattle.cics_units.specs.Applied.{IsApplied, IsBound, IsSeen, IsSeenIn, counted_as}
use Rattle.cics_units.proofs.Applied.{temp_applied, queue_here, trans_applied, read_told, bound_here, write_applied, rewrite_applied, delete_applied, generic_applied}
use Rattle.cics_units.proofs.OfOpening.Changing.{all_stay}
use Rattle.cics_units.proofs.QueueClauses.{write_change, read_change, delete_change}
use Rattle.std.proofs.lemmas.Bool.{true≢false}
use Rattle.cics_ksds.specs.Files.{key_of}
use Rattle.cics_units.specs.Parts.{IsRecordOf, IsFitOp}
use Rattle.cics_units.specs.TableInPlace.{is_read}
use Rattle.cics_units.proofs.store.apply.Goals as goal

pub returns-in_err-changed-in-Write-clause-err_store : goal.returns-in_err-changed-in-Write-clause-err_store
returns-in_err-changed-in-Write-clause-err_store c =
    let old = c.args.store.now in
    let p = err_from_is_err_and c.from_residual-in_err-changed-in-Write.result c.from_residual-in_err-changed-in-Write.ensures.1 in
    let at = c.at_mut.ensures in
    rw p.1 (ap (with_files old) (all_stay c.in-Write.file c.at_mut.result.now c.write.new.self old.files at.in_order at.value c.in_err-changed-in-Write.ensures.err))

pub returns-in_ok-changed-in-Write-clause-applied : goal.returns-in_ok-changed-in-Write-clause-applied
returns-in_ok-changed-in-Write-clause-applied c =
    let old = c.args.store.now in
    let w = c.in-Write in
    let f = c.at_mut.result.now in
    let there = c.at_mut.ensures.value in
    let e = c.in_ok-changed-in-Write.ensures in
    let from = c.in_ok-from-in-Write in
    let fit = subst (λ o. IsRecordOf o w.key w.from) there (subst (IsFitOp old) w.is c.requires.fit) in
    let b = bound_here old w.file c.args.bound.now.recoverable (subst (λ o. IsBound old o c.args.bound.now.recoverable) w.is c.requires.bound) f there in
    rw w.is (subst (λ r. IsApplied old (with_files old (with_value w.file c.write.new.self old.files)) c.args.images.now.newest_first c.add_file_image.new.images.newest_first (Write w.file w.key r)
    c.args.bound.now.recoverable c.args.bound.now.own c.only.result) from.ensures
    (write_applied old w.file c.args.bound.now.recoverable c.args.bound.now.own b c.write.new.self c.in_ok-changed-in-Write.changed.image c.only.result
    c.args.images.now.newest_first c.add_file_image.new.images.newest_first c.add_file_image.ensures w.key from.from
    (ap (key_of f.definition) from.ensures ∙ fit.1) e.value e.image e.undoable e.others (c.only.ensures ∙ ap only e.condition)))

pub returns-in_ok-from-in-Rewrite-clause-applied : goal.returns-in_ok-from-in-Rewrite-clause-applied
returns-in_ok-from-in-Rewrite-clause-applied c =
    let old = c.args.store.now in
    let w = c.in-Rewrite in
    let f = c.at_mut-in-Rewrite.result.now in
    let there = c.at_mut-in-Rewrite.ensures.value in
    let e = c.rewrite-changed.ensures in
    let from = c.in_ok-from-in-Rewrite in
    let kept = c.add_file_image-in-Rewrite in
    let fit = subst (λ o. IsRecordOf o w.key w.from) there (subst (IsFitOp old) w.is c.requires.fit) in
    let b = bound_here old w.file c.args.bound.now.recoverable (subst (λ o. IsBound old o c.args.bound.now.recoverable) w.is c.requires.bound) f there in
    rw w.is (subst (λ r. IsApplied old (with_files old (with_value w.file c.rewrite-changed.new.self old.files)) c.args.images.now.newest_first kept.new.images.newest_first (Rewrite w.file w.key r)
    c.args.bound.now.recoverable c.args.bound.now.own c.only-in-Rewrite.result) from.ensures
    (rewrite_applied old w.file c.args.bound.now.recoverable c.args.bound.now.own b c.rewrite-changed.new.self c.rewrite-changed.result.image c.only-in-Rewrite.result
    c.args.images.now.newest_first kept.new.images.newest_first kept.ensures w.key from.from
    (ap (key_of f.definition) from.ensures ∙ fit.1) e.value e.image e.undoable e.others (c.only-in-Rewrite.ensures ∙ ap only e.condition)))

pub returns-in_err-changed-in-Delete-clause-err_store : goal.returns-in_err-changed-in-Delete-clause-err_store
returns-in_err-changed-in-Delete-clause-err_store c =
    let old = c.args.store.now in
    let p = err_from_is_err_and c.from_residual-in_err-changed-in-Delete.result c.from_residual-in_err-changed-in-Delete.ensures.1 in
    let at = c.at_mut-in-Delete.ensures in
    rw p.1 (ap (with_files old) (all_stay c.in-Delete.file c.at_mut-in-Delete.result.now c.delete.new.self old.files at.in_order at.value c.in_err-changed-in-Delete.ensures.err))

pub returns-in_ok-changed-in-Delete-clause-applied : goal.returns-in_ok-changed-in-Delete-clause-applied
returns-in_ok-changed-in-Delete-clause-applied c =
    let old = c.args.store.now in
    let w = c.in-Delete in
    let e = c.in_ok-changed-in-Delete.ensures in
    let kept = c.add_file_image-in-Delete in
    let b = bound_here old w.file c.args.bound.now.recoverable (subst (λ o. IsBound old o c.args.bound.now.recoverable) w.is c.requires.bound) c.at_mut-in-Delete.result.now c.at_mut-in-Delete.ensures.value in
    rw w.is (subst (λ k. IsApplied old (with_files old (with_value w.file c.delete.new.self old.files)) c.args.images.now.newest_first kept.new.images.newest_first (Delete w.file k)
    c.args.bound.now.recoverable c.args.bound.now.own c.only-in-Delete.result) c.bytes.ensures
    (delete_applied old w.file c.args.bound.now.recoverable c.args.bound.now.own b c.delete.new.self c.in_ok-changed-in-Delete.changed.image c.only-in-Delete.result
    c.args.images.now.newest_first kept.new.images.newest_first kept.ensures c.bytes.result.now
    e.value e.image e.undoable e.others (c.only-in-Delete.ensures ∙ ap only e.condition)))

pub returns-in_err-removed-in-DeleteGeneric-clause-err_store : goal.returns-in_err-removed-in-DeleteGeneric-clause-err_store
returns-in_err-removed-in-DeleteGeneric-clause-err_store c =
    let old = c.args.store.now in
    let p = err_from_is_err_and c.from_residual-in_err-removed-in-DeleteGeneric.result c.from_residual-in_err-removed-in-DeleteGeneric.ensures.1 in
    let at = c.at_mut-lent in
    rw p.1 (ap (with_files old) (all_stay c.in-DeleteGeneric.file at.result.now c.delete_prefix.new.self old.files at.ensures.in_order at.ensures.value c.in_err-removed-in-DeleteGeneric.ensures.err))

pub returns-in_ok-removed-in-DeleteGeneric-clause-applied : goal.returns-in_ok-removed-in-DeleteGeneric-clause-applied
returns-in_ok-removed-in-DeleteGeneric-clause-applied c =
    let old = c.args.store.now in
    let w = c.in-DeleteGeneric in
    let e = c.in_ok-removed-in-DeleteGeneric.ensures in
    let at = c.at_mut-lent in
    let b = bound_here old w.file c.args.bound.now.recoverable (subst (λ o. IsBound old o c.args.bound.now.recoverable) w.is c.requires.bound) at.result.now at.ensures.value in
    rw w.is (subst (λ p. IsApplied old (with_files old (with_value w.file c.delete_prefix.new.self old.files)) c.args.images.now.newest_first c.add_file_images.new.images.newest_first (DeleteGeneric w.file p)
    c.args.bound.now.recoverable c.args.bound.now.own c.counted.result) c.bytes-in-DeleteGeneric.ensures
    (generic_applied old w.file c.args.bound.now.recoverable c.args.bound.now.own b c.delete_prefix.new.self c.in_ok-removed-in-DeleteGeneric.removed.images c.counted.result
    c.args.images.now.newest_first c.add_file_images.new.images.newest_first c.add_file_images.ensures c.bytes-in-DeleteGeneric.result.now e.value e.images (c.counted.ensures ∙ ap counted_as e.number)))

pub unreachable-requires : goal.unreachable-requires
unreachable-requires c = true≢false (sym (ap is_read c.in-ReadUpdate.is) ∙ c.requires.change)

pub returns-in_ok-written-in-TsWrite-clause-applied : goal.returns-in_ok-written-in-TsWrite-clause-applied
returns-in_ok-written-in-TsWrite-clause-applied c =
    let old = c.args.store.now in
    let rows = c.write-in-TsWrite.new.self in
    let w = c.in_ok-written-in-TsWrite in
    let e = w.ensures in
    rw c.in-TsWrite.is (subst (λ x. IsApplied old (record old { temp_storage = rows }) c.args.images.now.newest_first c.add_temp_image.new.images.newest_first (TsWrite c.in-TsWrite.queue x)
    c.args.bound.now.recoverable c.args.bound.now.own c.numbered.result) c.in_ok-copy-in-TsWrite.ensures
    (temp_applied old (TsWrite c.in-TsWrite.queue c.in_ok-copy-in-TsWrite.field-0) c.args.bound.now.recoverable c.args.bound.now.own c.args.images.now.newest_first rows w.written.changed.image refl
    (record { rising = e.rising; value = e.value; given = e.image; undoable = e.undoable; others = e.others })
    c.numbered.result (c.numbered.ensures ∙ (λ i. numbered (e.condition i) (e.number i))) c.add_temp_image.new.images.newest_first c.add_temp_image.ensures))

pub returns-in_ok-written-in-TsRewrite-clause-applied : goal.returns-in_ok-written-in-TsRewrite-clause-applied
returns-in_ok-written-in-TsRewrite-clause-applied c =
    let old = c.args.store.now in
    let rows = c.rewrite.new.self in
    let e = c.in_ok-written-in-TsRewrite.ensures in
    let w = c.in-TsRewrite in
    let from = c.in_ok-from-in-TsRewrite in
    let kept = c.add_temp_image-in-TsRewrite in
    let answer = c.numbered-in-TsRewrite in
    rw w.is (subst (λ x. IsApplied old (record old { temp_storage = rows }) c.args.images.now.newest_first kept.new.images.newest_first (TsRewrite w.queue w.item x)
    c.args.bound.now.recoverable c.args.bound.now.own answer.result) from.ensures
    (temp_applied old (TsRewrite w.queue w.item from.from) c.args.bound.now.recoverable c.args.bound.now.own c.args.images.now.newest_first rows c.in_ok-written-in-TsRewrite.written.changed.image refl
    (record { rising = e.rising; value = e.value; given = e.image; undoable = e.undoable; others = e.others })
    answer.result (answer.ensures ∙ (λ i. numbered (e.condition i) (e.number i))) kept.new.images.newest_first kept.ensures))

pub returns-in-TsDelete-clause-applied : goal.returns-in-TsDelete-clause-applied
returns-in-TsDelete-clause-applied c =
    let old = c.args.store.now in
    let rows = c.delete-deleted.new.self in
    let e = c.delete-deleted.ensures in
    let kept = c.add_temp_image-in-TsDelete in
    rw c.in-TsDelete.is (temp_applied old (TsDelete c.in-TsDelete.queue) c.args.bound.now.recoverable c.args.bound.now.own c.args.images.now.newest_first rows c.delete-deleted.result.image refl
    (record { rising = e.rising; value = e.value; given = e.image; undoable = e.undoable; others = e.others })
    c.only-in-TsDelete.result (c.only-in-TsDelete.ensures ∙ ap only e.condition) kept.new.images.newest_first kept.ensures)

pub returns-in_err-written-in-TdWrite-clause-err_store : goal.returns-in_err-written-in-TdWrite-clause-err_store
returns-in_err-written-in-TdWrite-clause-err_store c =
    let old = c.args.store.now in
    let p = err_from_is_err_and c.from_residual-in_err-written-in-TdWrite.result c.from_residual-in_err-written-in-TdWrite.ensures.1 in
    let at = c.at_mut-in-TdWrite in
    rw p.1 (ap (with_trans_data old) (all_stay c.in-TdWrite.queue at.result.now c.write-in-TdWrite.new.self old.trans_data at.ensures.in_order at.ensures.value c.in_err-written-in-TdWrite.ensures.err))

pub returns-in_ok-written-in-TdWrite-clause-applied : goal.returns-in_ok-written-in-TdWrite-clause-applied
returns-in_ok-written-in-TdWrite-clause-applied c =
    let old = c.args.store.now in
    let q = c.in-TdWrite.queue in
    let at = c.at_mut-in-TdWrite in
    let new = c.write-in-TdWrite.new.self in
    let from = c.in_ok-from-in-TdWrite in
    let w = c.in_ok-written-in-TdWrite in
    let e = w.ensures in
    let kept = c.add_trans_image in
    let b = queue_here old q c.args.bound.now.recoverable (subst (λ o. IsBound old o c.args.bound.now.recoverable) c.in-TdWrite.is c.requires.bound) at.result.now at.ensures.value in
    rw c.in-TdWrite.is (subst (λ r. IsApplied old (with_trans_data old (with_value q new old.trans_data)) c.args.images.now.newest_first kept.new.images.newest_first (TdWrite q r)
    c.args.bound.now.recoverable c.args.bound.now.own c.only-in-TdWrite.result) from.ensures
    (trans_applied old (TdWrite q from.from) c.args.bound.now.recoverable c.args.bound.now.own refl b at.ensures.in_order new w.written.image
    (write_change b.queue new w.written.image q c.args.bound.now.own e.without_image from.from e.value e.image e.undoable e.others) tt c.args.images.now.newest_first
    c.only-in-TdWrite.result (c.only-in-TdWrite.ensures ∙ ap only e.condition) kept.new.images.newest_first kept.ensures))

pub returns-in_err-read-in-TdRead-clause-err_store : goal.returns-in_err-read-in-TdRead-clause-err_store
returns-in_err-read-in-TdRead-clause-err_store c =
    let old = c.args.store.now in
    let p = err_from_is_err_and c.from_residual-in_err-read-in-TdRead.result c.from_residual-in_err-read-in-TdRead.ensures.1 in
    let at = c.at_mut-in-TdRead in
    rw p.1 (ap (with_trans_data old) (all_stay c.in-TdRead.queue at.result.now c.read.new.self old.trans_data at.ensures.in_order at.ensures.value c.in_err-read-in-TdRead.ensures.err))

pub returns-in_ok-read-in-TdRead-clause-applied : goal.returns-in_ok-read-in-TdRead-clause-applied
returns-in_ok-read-in-TdRead-clause-applied c =
    let old = c.args.store.now in
    let q = c.in-TdRead.queue in
    let at = c.at_mut-in-TdRead in
    let new = c.read.new.self in
    let r = c.in_ok-read-in-TdRead in
    let e = r.ensures in
    let b = queue_here old q c.args.bound.now.recoverable (subst (λ o. IsBound old o c.args.bound.now.recoverable) c.in-TdRead.is c.requires.bound) at.result.now at.ensures.value in
    let seen = subst (λ o. IfSome o (λ t. is_logical t.kind ≡ true → IsSeenIn c.args.bound.now.own (marks_of t))) at.ensures.value (subst (λ o. IsSeen old o c.args.bound.now.own) c.in-TdRead.is c.requires.seen) in
    rw c.in-TdRead.is (trans_applied old (TdRead q) c.args.bound.now.recoverable c.args.bound.now.own refl b at.ensures.in_order new r.read.changed.image
    (read_change b.queue new r.read.changed.image q c.args.bound.now.own e.without_image e.value e.image e.undoable e.fresh e.others) (read_told q c.args.bound.now.own b.queue b.marked seen) c.args.images.now.newest_first
    c.with_content.result (c.with_content.ensures ∙ (λ i. record { condition = e.condition i; content = e.content i; number = None })) c.add_trans_image-in-TdRead.new.images.newest_first c.add_trans_image-in-TdRead.ensures)

pub returns-in-TdDelete-clause-applied : goal.returns-in-TdDelete-clause-applied
returns-in-TdDelete-clause-applied c =
    let old = c.args.store.now in
    let q = c.in-TdDelete.queue in
    let at = c.at_mut-in-TdDelete in
    let new = c.delete-deleted-in-TdDelete.new.self in
    let e = c.delete-deleted-in-TdDelete.ensures in
    let b = queue_here old q c.args.bound.now.recoverable (subst (λ o. IsBound old o c.args.bound.now.recoverable) c.in-TdDelete.is c.requires.bound) at.result.now at.ensures.value in
    rw c.in-TdDelete.is (trans_applied old (TdDelete q) c.args.bound.now.recoverable c.args.bound.now.own refl b at.ensures.in_order new c.delete-deleted-in-TdDelete.result.image
    (delete_change b.queue new c.delete-deleted-in-TdDelete.result.image q c.args.bound.now.own e.without_image e.value e.image e.undoable) tt c.args.images.now.newest_first
    c.only-in-TdDelete.result (c.only-in-TdDelete.ensures ∙ ap only e.condition) c.add_trans_image-in-TdDelete.new.images.newest_first c.add_trans_image-in-TdDelete.ensures)
