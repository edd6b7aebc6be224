-- Worked examples of temporary storage: what queues answer, and what rows and NEXT places become, computed.
use Rattle.std.specs.Prelude.{◌≡◌, ◌+◌, true, false, Some, None, List, [], ◌∷◌, length, take, fold, reverse, refl}
use Rattle.cics_names.specs.Keyed.{Bytes, Map}
use Rattle.cics_names.specs.declared.conditions.Condition.TheVariants.{Normal, Itemerr, Qiderr}
use Rattle.cics_tempstor.specs.Queues.{Queue, most_items, queue_at, queues_of, next_place, places_of, write_condition, write_number, items_after_write, item_condition, delete_condition, ts_written, ts_rewritten, ts_deleted, read_item, after_read_item, read_next, after_read_next, ts_swept}
use Rattle.cics_tempstor.specs.declared.queue_rows.Row.{Row}
use Rattle.cics_images.specs.Cells.{AreReadyInTurn}
use Rattle.cics_tempstor.specs.declared.images.Before.TheVariants.{Added, Replaced, Taken}
use Rattle.cics_tempstor.specs.declared.images.TsImage.{TsImage}
use Rattle.cics_tempstor.specs.Places.{backed_out, committed}
use Rattle.cics_tempstor.specs.Tables.{rows_of}
use Rattle.cics_tempstor.specs.Undo.{undone, IsReadyImage, written_image, rewritten_image, deleted_image}
use lib.Chars.{codes}

abbrev ab : Bytes
ab = codes "AB"

abbrev cd : Bytes
cd = codes "CD"

-- two items, the second read
abbrev two : Map Row
two = after_read_item (ts_written (ts_written [] ab (codes "x")) ab (codes "y")) ab 2

-- ---- WRITEQ TS

-- the first write makes the queue and its item is number 1, the next is number 2
first_number : (write_number (queue_at ab []) ≡ Some 1) × (ts_written [] ab (codes "x") ≡ (ab, record { items = codes "x" ∷ []; next = 0 }) ∷ [])
first_number = (refl, refl)

second_number : write_number (queue_at ab (ts_written [] ab (codes "x"))) ≡ Some 2
second_number = refl

-- queues stand in the order of their names
in_order : queues_of (ts_written two (codes "AA") (codes "z")) ≡ (codes "AA", codes "z" ∷ []) ∷ (ab, codes "x" ∷ codes "y" ∷ []) ∷ []
in_order = refl

-- a write leaves the NEXT place
place_left : next_place ab (ts_written two ab (codes "z")) ≡ 2
place_left = refl

-- a queue of the most items takes no further one
full : (items : Queue) → length items ≡ most_items → (write_condition items ≡ Itemerr) × (write_number items ≡ None) × (items_after_write items (codes "x") ≡ items)
full items e = rw e (refl, refl, refl)

one_fewer : (items : Queue) → length items ≡ 32766 → (write_condition items ≡ Normal) × (write_number items ≡ Some 32767)
one_fewer items e = rw e (refl, refl)

-- ---- WRITEQ TS REWRITE

rewritten : (item_condition (queue_at ab two) 1 ≡ Normal) × (ts_rewritten two ab 1 (codes "z") ≡ (ab, record { items = codes "z" ∷ codes "y" ∷ []; next = 2 }) ∷ [])
rewritten = (refl, refl)

-- item 0 and an item behind the last are ITEMERR, an absent queue is QIDERR, and each leaves all as it was
no_item : (item_condition (queue_at ab two) 0 ≡ Itemerr) × (item_condition (queue_at ab two) 3 ≡ Itemerr) × (ts_rewritten two ab 3 (codes "z") ≡ two)
no_item = (refl, refl, refl)

no_queue : (item_condition (queue_at cd two) 1 ≡ Qiderr) × (ts_rewritten two cd 1 (codes "z") ≡ two)
no_queue = (refl, refl)

-- ---- DELETEQ TS

deleted : (delete_condition (queue_at ab two) ≡ Normal) × (ts_deleted false two ab ≡ [])
deleted = (refl, refl)

-- a delete that may be undone leaves an empty row, which no reader sees and which a sweep takes away
empty_row : ts_deleted true two ab ≡ (ab, record { items = []; next = 0 }) ∷ []
empty_row = refl

unseen : (queues_of (ts_deleted true two ab) ≡ []) × (places_of (ts_deleted true two ab) ≡ []) × (ts_swept (ts_deleted true two ab) ab ≡ [])
unseen = (refl, refl, refl)

swept_there : ts_swept two ab ≡ two
swept_there = refl

absent : (delete_condition (queue_at cd two) ≡ Qiderr) × (ts_deleted true two cd ≡ two)
absent = (refl, refl)

-- a queue that is made again begins with item 1 and the NEXT place 0
made_again : (write_number (queue_at ab (ts_deleted true two ab)) ≡ Some 1) × (next_place ab (ts_written (ts_deleted true two ab) ab (codes "new")) ≡ 0)
made_again = (refl, refl)

-- ---- READQ TS

-- an item comes back as it was written, whatever its bytes
any_bytes : (read_item (ts_written (ts_written [] cd (0 ∷ 193 ∷ [])) cd (codes "it's")) cd 1 ≡ record { condition = Normal; number = Some 1; content = Some (0 ∷ 193 ∷ []) })
    × (read_next (after_read_item (ts_written (ts_written [] cd (0 ∷ 193 ∷ [])) cd (codes "it's")) cd 1) cd ≡ record { condition = Normal; number = Some 2; content = Some (codes "it's") })
any_bytes = (refl, refl)

reads : read_item two ab 1 ≡ record { condition = Normal; number = Some 1; content = Some (codes "x") }
reads = refl

-- a read sets the NEXT place to its item, be it before or behind
sets_place : (next_place ab two ≡ 2) × (next_place ab (after_read_item two ab 1) ≡ 1)
sets_place = (refl, refl)

-- behind the last item there is none, and the NEXT place stays
behind_the_last : (read_item two ab (next_place ab two + 1) ≡ record { condition = Itemerr; number = None; content = None }) × (after_read_item two ab (next_place ab two + 1) ≡ two)
behind_the_last = (refl, refl)

reads_absent : (read_item two cd 1 ≡ record { condition = Qiderr; number = None; content = None }) × (next_place cd two ≡ 0)
reads_absent = (refl, refl)

-- ---- before images: each leads its queue back, newest first

-- a queue that was rewritten, written, deleted and made again in one unit
abbrev rewritten_once : Map Row
rewritten_once = ts_rewritten two ab 1 (codes "c")

abbrev written_on : Map Row
written_on = ts_written rewritten_once ab (codes "d")

abbrev made_anew : Map Row
made_anew = ts_written (ts_deleted true written_on ab) ab (codes "e")

-- its images, newest first: none holds an item that still stands
abbrev images : List TsImage
images =
    record { name = ab; before = Added } ∷ record { name = ab; before = Taken (codes "c" ∷ codes "y" ∷ codes "d" ∷ []) } ∷ record { name = ab; before = Added } ∷ record { name = ab; before = Replaced 1 (codes "x") } ∷ []

images_given : (written_image true ab (queue_at ab (ts_deleted true written_on ab)) ≡ Some (record { name = ab; before = Added }))
    × (deleted_image true ab (queue_at ab written_on) ≡ Some (record { name = ab; before = Taken (codes "c" ∷ codes "y" ∷ codes "d" ∷ []) }))
    × (written_image true ab (queue_at ab rewritten_once) ≡ Some (record { name = ab; before = Added })) × (rewritten_image true ab (queue_at ab two) 1 ≡ Some (record { name = ab; before = Replaced 1 (codes "x") }))
images_given = (refl, refl, refl, refl)

-- each is ready once those before it are undone
ready_in_turn : AreReadyInTurn IsReadyImage undone made_anew images
ready_in_turn = (record { has_row = refl; stands = refl }, (record { has_row = refl; stands = refl }, (record { has_row = refl; stands = refl }, (record { has_row = refl; stands = refl }, tt))))

-- the queue has its two items again; its NEXT place is the 0 that the delete left
led_back : fold undone made_anew images ≡ (ab, record { items = codes "x" ∷ codes "y" ∷ []; next = 0 }) ∷ []
led_back = refl

-- the newest alone leaves an empty row, which the one before it fills
row_left : fold undone made_anew (take 1 images) ≡ (ab, record { items = []; next = 0 }) ∷ []
row_left = refl

-- oldest first they do not lead back
oldest_first : queue_at ab (fold undone made_anew (reverse images)) ≡ codes "c" ∷ codes "y" ∷ []
oldest_first = refl

-- a backout sweeps what it has led back: the queue stays, and none is left empty
backed_out_all : backed_out made_anew images ≡ (ab, record { items = codes "x" ∷ codes "y" ∷ []; next = 0 }) ∷ []
backed_out_all = refl

-- a commit leaves the queue that was made last
committed_all : committed made_anew images ≡ (ab, record { items = codes "e" ∷ []; next = 0 }) ∷ []
committed_all = refl

-- and of a queue that was deleted no row
committed_delete : committed (ts_deleted true two ab) (record { name = ab; before = Taken (codes "x" ∷ codes "y" ∷ []) } ∷ []) ≡ []
committed_delete = refl

-- a delete is undone into the row that it left empty
delete_undone : undone (ts_deleted true two ab) (record { name = ab; before = Taken (codes "x" ∷ codes "y" ∷ []) }) ≡ (ab, record { items = codes "x" ∷ codes "y" ∷ []; next = 0 }) ∷ []
delete_undone = refl

-- ---- a backout leaves NEXT places

-- a queue of one item that was deleted and made again in one unit, and then read
abbrev read_anew : Map Row
read_anew = after_read_next (ts_written (ts_deleted true (ts_written [] ab (codes "one")) ab) ab (codes "x")) ab

-- the item is back and the place stays 1, so there is no next item
place_stays : backed_out read_anew (record { name = ab; before = Added } ∷ record { name = ab; before = Taken (codes "one" ∷ []) } ∷ []) ≡ (ab, record { items = codes "one" ∷ []; next = 1 }) ∷ []
place_stays = refl

no_next_item : read_next ((ab, record { items = codes "one" ∷ []; next = 1 }) ∷ []) ab ≡ record { condition = Itemerr; number = None; content = None }
no_next_item = refl

-- a queue that one unit made, of whose two items each was read by NEXT
abbrev read_to_its_end : Map Row
read_to_its_end = after_read_next (after_read_next (ts_written (ts_written [] ab (codes "one")) ab (codes "two")) ab) ab

-- it goes with its unit, and its place with it; made again, it is read from the first item
gone_with_its_unit : backed_out read_to_its_end (record { name = ab; before = Added } ∷ record { name = ab; before = Added } ∷ []) ≡ []
gone_with_its_unit = refl

made_after_it : (read_next [] ab ≡ record { condition = Qiderr; number = None; content = None }) × (read_next (ts_written [] ab (codes "new")) ab ≡ record { condition = Normal; number = Some 1; content = Some (codes "new") })
made_after_it = (refl, refl)

-- until it is swept, its row keeps the place, which reads as 0
abbrev undone_unswept : Map Row
undone_unswept = undone (after_read_item (ts_written [] ab (codes "one")) ab 1) (record { name = ab; before = Added })

place_unread : (undone_unswept ≡ (ab, record { items = []; next = 1 }) ∷ []) × (next_place ab undone_unswept ≡ 0) × (next_place ab (ts_written undone_unswept ab (codes "new")) ≡ 0) × (ts_swept undone_unswept ab ≡ [])
place_unread = (refl, refl, refl, refl)

-- ---- the hash table has its rows in any order
any_order : rows_of ((cd, record { items = codes "z" ∷ []; next = 0 }) ∷ (ab, record { items = codes "x" ∷ codes "y" ∷ []; next = 2 }) ∷ []) ≡ (ab, record { items = codes "x" ∷ codes "y" ∷ []; next = 2 }) ∷ (cd, record { items = codes "z" ∷ []; next = 0 }) ∷ []
any_order = refl
