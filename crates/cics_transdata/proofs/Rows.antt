-- Worked examples of transient data: what the two ends of a queue give, mark and leave, computed.
use Rattle.std.specs.Prelude.{◌≡◌, true, false, Some, None, [], ◌∷◌, refl}
use Rattle.cics_names.specs.declared.conditions.Condition.TheVariants.{Normal, Qzero}
use Rattle.cics_transdata.specs.declared.images.TdImage.TheVariants.{Taken, Written}
use Rattle.cics_transdata.specs.Trans.{TransState, holding, queue_of, committed_of, unread, first_of, read_condition, trans_written, trans_read, trans_deleted, reader_committed, writer_committed}
use Rattle.cics_transdata.specs.Undo.{reading_end, writing_end, content_at, undone, written_image, read_image, deleted_image}
use Rattle.cics_transdata.specs.Ends.{backed_out}
use Rattle.cics_transdata.specs.declared.queues.Recovery.TheVariants.{Logical, Physical, Unrecovered}
use lib.Chars.{codes}

-- a LOGICAL queue of one committed record
abbrev one : TransState
one = holding Logical (codes "r1" ∷ [])

-- ---- the marks of a LOGICAL queue

-- a record that is written stands last and is marked as written
written : trans_written one (codes "r2") ≡ record { kind = Logical; placed = codes "r1" ∷ codes "r2" ∷ []; read = 0; written = 1 }
written = refl

-- a record that is read stays in place with its mark, and the queue is without it
read : (trans_read one false ≡ record { kind = Logical; placed = codes "r1" ∷ []; read = 1; written = 0 }) × (queue_of (trans_read one false) ≡ [])
read = (refl, refl)

-- a delete marks all records as read, also those that were written
deleted : (trans_deleted (trans_written one (codes "r2")) ≡ record { kind = Logical; placed = codes "r1" ∷ codes "r2" ∷ []; read = 2; written = 1 }) × (queue_of (trans_deleted (trans_written one (codes "r2"))) ≡ [])
deleted = (refl, refl)

-- ---- what a reader sees

-- records leave in the order in which they were written
in_order : (first_of (holding Logical (codes "r1" ∷ codes "r2" ∷ [])) false ≡ Some (codes "r1")) × (first_of (trans_read (holding Logical (codes "r1" ∷ codes "r2" ∷ [])) false) false ≡ Some (codes "r2"))
in_order = (refl, refl)

-- another unit's record isn't seen, its writer sees it, and sees the committed ones first
fresh_unseen : first_of (trans_written (holding Logical []) (codes "r1")) false ≡ None
fresh_unseen = refl

fresh_for_its_writer : first_of (trans_written (holding Logical []) (codes "r1")) true ≡ Some (codes "r1")
fresh_for_its_writer = refl

committed_first : (first_of (trans_written one (codes "r2")) true ≡ Some (codes "r1")) × (first_of (trans_read (trans_written one (codes "r2")) true) true ≡ Some (codes "r2"))
committed_first = (refl, refl)

nothing_left : (first_of (trans_read (trans_written one (codes "r2")) false) false ≡ None) × (read_condition (first_of (trans_read (trans_written one (codes "r2")) false) false) ≡ Qzero)
nothing_left = (refl, refl)

gives_normal : read_condition (first_of one false) ≡ Normal
gives_normal = refl

-- an empty queue is left as it is by a read
left_empty : trans_read (holding Logical []) true ≡ holding Logical []
left_empty = refl

-- ---- the ends are committed one by one, in either order

abbrev at_both_ends : TransState
at_both_ends = trans_written (trans_read one false) (codes "r2")

both_marked : at_both_ends ≡ record { kind = Logical; placed = codes "r1" ∷ codes "r2" ∷ []; read = 1; written = 1 }
both_marked = refl

reader_first : (reader_committed at_both_ends ≡ record { kind = Logical; placed = codes "r2" ∷ []; read = 0; written = 1 }) × (writer_committed (reader_committed at_both_ends) ≡ holding Logical (codes "r2" ∷ []))
reader_first = (refl, refl)

writer_first : (writer_committed at_both_ends ≡ record { kind = Logical; placed = codes "r1" ∷ codes "r2" ∷ []; read = 1; written = 0 }) × (reader_committed (writer_committed at_both_ends) ≡ holding Logical (codes "r2" ∷ []))
writer_first = (refl, refl)

-- a record that its writer has read itself has both marks, and goes for good with the reader's commit
both_marks : reader_committed (trans_read (trans_written (holding Logical []) (codes "r1")) true) ≡ holding Logical []
both_marks = refl

-- ---- queues that aren't LOGICAL mark nothing

physical : (trans_written (holding Physical []) (codes "r1") ≡ holding Physical (codes "r1" ∷ [])) × (trans_read (holding Physical (codes "r1" ∷ codes "r2" ∷ [])) false ≡ holding Physical (codes "r2" ∷ []))
physical = (refl, refl)

unrecovered : trans_deleted (holding Unrecovered (codes "r1" ∷ codes "r2" ∷ [])) ≡ holding Unrecovered []
unrecovered = refl

-- ---- the images of changes

-- a write has its kind alone, a read or delete how many records were marked as read before; a read of nothing has none
images : (written_image one ≡ Some Written) × (read_image one false ≡ Some (Taken 0)) × (read_image (trans_read one false) true ≡ None) × (deleted_image (trans_read one false) ≡ Some (Taken 1))
images = (refl, refl, refl, refl)

no_images : (written_image (holding Physical []) ≡ None) × (read_image (holding Unrecovered (codes "r1" ∷ [])) false ≡ None) × (deleted_image (holding Physical (codes "r1" ∷ [])) ≡ None)
no_images = (refl, refl, refl)

-- ---- the ends are backed out one by one, in either order

-- what was read is in front again, where it was
read_undone : (undone (trans_read one false) (Taken 0) ≡ one) × (queue_of (undone at_both_ends (Taken 0)) ≡ codes "r1" ∷ codes "r2" ∷ [])
read_undone = (refl, refl)

-- what was written goes from the back
write_undone : (undone (trans_written one (codes "r2")) Written ≡ one) × (queue_of (undone at_both_ends Written) ≡ [])
write_undone = (refl, refl)

either_end_first : (undone (undone at_both_ends (Taken 0)) Written ≡ one) × (undone (undone at_both_ends Written) (Taken 0) ≡ one)
either_end_first = (refl, refl)

-- two reads beside a write that is committed meanwhile: both records come back, in their order
read_again : queue_of (backed_out (trans_read (writer_committed (trans_written (trans_read one false) (codes "r2"))) false) (Taken 1 ∷ Taken 0 ∷ [])) ≡ codes "r1" ∷ codes "r2" ∷ []
read_again = refl

-- a unit that deleted what it had written itself
delete_undone : backed_out (trans_deleted (trans_written one (codes "r2"))) (Taken 0 ∷ Written ∷ []) ≡ one
delete_undone = refl

-- and then another writes: its record stands behind what came back
written_after_it : queue_of (trans_written (backed_out (trans_deleted (trans_written one (codes "r2"))) (Taken 0 ∷ Written ∷ [])) (codes "r3")) ≡ codes "r1" ∷ codes "r3" ∷ []
written_after_it = refl

-- a write that is undone leaves another reader nothing
nothing_was_written : read_condition (first_of (undone (trans_written (holding Logical []) (codes "r1")) Written) false) ≡ Qzero
nothing_was_written = refl

-- ---- what an end contains

ends_of_both : (content_at at_both_ends reading_end ≡ Some (codes "r1" ∷ [])) × (content_at at_both_ends writing_end ≡ Some (codes "r2" ∷ [])) × (content_at at_both_ends [] ≡ None)
ends_of_both = (refl, refl, refl)

-- a record that its writer has read itself
abbrev own : TransState
own = trans_read (trans_written (holding Logical []) (codes "r1")) true

-- it is at both ends, and the write can't be undone until the read is
at_both : (content_at own reading_end ≡ Some (codes "r1" ∷ [])) × (content_at own writing_end ≡ Some (codes "r1" ∷ [])) × (unread own ≡ 0) × (unread (undone own (Taken 0)) ≡ 1)
at_both = (refl, refl, refl, refl)

-- the records that have no mark
unmarked : (committed_of at_both_ends ≡ []) × (committed_of (writer_committed at_both_ends) ≡ codes "r2" ∷ [])
unmarked = (refl, refl)
