-- Worked rows of the definitions that join files, temporary storage and transient data.
use Rattle.std.proofs.Common.{arith, ◌≡◌, true, false, None, Some, [], ◌∷◌, refl}
use Rattle.cics_images.specs.declared.stores.StoreImage.TheVariants.{TempStorage, TransData}
use Rattle.cics_transdata.specs.declared.queues.Recovery.TheVariants.{Logical}
use Rattle.cics_transdata.specs.declared.images.TdImage.TheVariants.{Taken, Written}
use Rattle.cics_tempstor.specs.declared.images.Before.TheVariants.{Added}
use Rattle.cics_history.specs.Cells.{Key, Ts, Td, content, Reading, Writing}
use Rattle.cics_history.specs.MarkImages.{OfReading, OfWriting}
use Rattle.cics_units.specs.Opening.StoreMatching.{StoreValue, shown_store, shown_records, bytes_of, bytes_of_end, AnyImage, cell_of_any, any_undone, AreImagesOf}
use Rattle.cics_units.specs.StoreInPlace.{ends_committed}

-- no file, a temporary storage queue with an item, and the row of one that is absent. A transient
-- data queue has three records, the first marked as read and the last as written
few : StoreValue
few = record {
  files = [];
  temp_storage = (5 ∷ [], record { items = (9 ∷ []) ∷ []; next = 0 }) ∷ (6 ∷ [], record { items = []; next = 0 }) ∷ [];
  trans_data = (7 ∷ [], record { kind = Logical; placed = (1 ∷ []) ∷ (2 ∷ []) ∷ (3 ∷ []) ∷ []; read = 1; written = 1 }) ∷ [];
}

-- the store shows the queues that are there, and of transient data what isn't marked as read
shows_ts : content (shown_store few) (Ts (5 ∷ [])) ≡ Some ((9 ∷ []) ∷ [])
unfolding few
shows_ts = refl

shows_no_ts : content (shown_store few) (Ts (6 ∷ [])) ≡ Some []
unfolding few
shows_no_ts = refl

shows_td : content (shown_store few) (Td (7 ∷ [])) ≡ Some ((2 ∷ []) ∷ (3 ∷ []) ∷ [])
unfolding few
shows_td = refl

shows_no_file : content (shown_store few) (Key (5 ∷ []) (9 ∷ [])) ≡ None
unfolding few
shows_no_file = refl

-- of a cell is shown what it has, whole
shown_none : shown_records None ≡ None
shown_none = refl

shown_empty : shown_records (Some []) ≡ None
shown_empty = refl

shown_whole : shown_records (Some ((9 ∷ []) ∷ (8 ∷ []) ∷ [])) ≡ Some ((9 ∷ []) ∷ (8 ∷ []) ∷ [])
shown_whole = refl

-- the bytes of each kind of cell, and of the two ends of a queue
key_bytes : bytes_of (Key (5 ∷ 6 ∷ []) (9 ∷ [])) ≡ 0 ∷ 2 ∷ 5 ∷ 6 ∷ 9 ∷ []
key_bytes = refl

ts_bytes : bytes_of (Ts (5 ∷ 6 ∷ [])) ≡ 1 ∷ 5 ∷ 6 ∷ []
ts_bytes = refl

td_bytes : bytes_of (Td (5 ∷ 6 ∷ [])) ≡ 2 ∷ 2 ∷ 5 ∷ 6 ∷ []
td_bytes = refl

reading_bytes : bytes_of_end (5 ∷ 6 ∷ []) Reading ≡ 2 ∷ 2 ∷ 5 ∷ 6 ∷ 0 ∷ []
reading_bytes = refl

writing_bytes : bytes_of_end (5 ∷ 6 ∷ []) Writing ≡ 2 ∷ 2 ∷ 5 ∷ 6 ∷ 1 ∷ []
writing_bytes = refl

-- an item was added to a temporary storage queue, a record was read, and one was written
added : AnyImage
added = TempStorage (record { name = 5 ∷ []; before = Added })

taken : AnyImage
taken = TransData (record { name = 7 ∷ []; image = Taken 0 })

written : AnyImage
written = TransData (record { name = 7 ∷ []; image = Written })

added_cell : cell_of_any added ≡ bytes_of (Ts (5 ∷ []))
unfolding added
added_cell = refl

taken_cell : cell_of_any taken ≡ bytes_of_end (7 ∷ []) Reading
unfolding taken
taken_cell = refl

written_cell : cell_of_any written ≡ bytes_of_end (7 ∷ []) Writing
unfolding written
written_cell = refl

-- undone, the item is gone and the record unread
added_undone : content (shown_store (any_undone few added)) (Ts (5 ∷ [])) ≡ Some []
unfolding few added
added_undone = refl

taken_undone : content (shown_store (any_undone few taken)) (Td (7 ∷ [])) ≡ Some ((1 ∷ []) ∷ (2 ∷ []) ∷ (3 ∷ []) ∷ [])
unfolding few taken
taken_undone = refl

written_undone : content (shown_store (any_undone few written)) (Td (7 ∷ [])) ≡ Some ((2 ∷ []) ∷ [])
unfolding few written
written_undone = refl

-- the three images stand for one change and two marks, in their order
merged : AreImagesOf (record { cell = Ts (5 ∷ []); before = Some []; made = Some ((9 ∷ []) ∷ []) } ∷ [])
    (OfWriting (7 ∷ []) [] ((3 ∷ []) ∷ []) ∷ OfReading (7 ∷ []) 0 1 ∷ []) (written ∷ added ∷ taken ∷ [])
unfolding added taken written
merged = (
  record { queue = refl; carries = (3 ∷ [], refl) },
  (record { cell = refl; leads = (refl, refl) }, (record { queue = refl; carries = (refl, omega arith) }, (refl, refl))),
)

-- the commit of a unit at both ends settles what it wrote, and what it read goes
both_committed : ends_committed true true (record { kind = Logical; placed = (1 ∷ []) ∷ (2 ∷ []) ∷ []; read = 2; written = 1 })
    ≡ record { kind = Logical; placed = []; read = 0; written = 0 }
both_committed = refl

-- the commit of its reader leaves what another wrote marked
reader_alone : ends_committed true false (record { kind = Logical; placed = (1 ∷ []) ∷ (2 ∷ []) ∷ []; read = 1; written = 1 })
    ≡ record { kind = Logical; placed = (2 ∷ []) ∷ []; read = 0; written = 1 }
reader_alone = refl
