-- Worked rows of the definitions of a unit's end over files, temporary storage and transient data.
use Rattle.std.proofs.Common.{◌≡◌, true, false, List, [], ◌∷◌, refl, arith}
use Rattle.std.proofs.lemmas.Bool.{true≢false, false≢true}
use Rattle.cics_transdata.specs.Trans.{TransState, IsMarked}
use Rattle.cics_units.specs.HeldBack.{HoldsNothingBack}
use Rattle.cics_images.specs.declared.stores.StoreImage.TheVariants.{TempStorage, TransData}
use Rattle.cics_tempstor.specs.declared.images.Before.TheVariants.{Added}
use Rattle.cics_transdata.specs.declared.queues.Recovery.TheVariants.{Logical}
use Rattle.cics_transdata.specs.declared.images.TdImage.TheVariants.{Taken, Written}
use Rattle.cics_history.specs.Cells.{Reading, Writing}
use Rattle.cics_units.specs.Opening.StoreMatching.{StoreValue, AnyImage, any_holds}
use Rattle.cics_units.specs.StoreEnds.{ts_images, td_images, writers_settled, readers_settled, ends_settled, has_end}

-- the row of an absent temporary storage queue, and two transient data queues: of the first a
-- record is marked as read and another as written, of the second one as written
few : StoreValue
few = record {
  files = [];
  temp_storage = (5 ∷ [], record { items = []; next = 0 }) ∷ [];
  trans_data =
      (7 ∷ [], record { kind = Logical; placed = (1 ∷ []) ∷ (2 ∷ []) ∷ (3 ∷ []) ∷ []; read = 1; written = 1 })
      ∷ (8 ∷ [], record { kind = Logical; placed = (4 ∷ []) ∷ []; read = 0; written = 1 }) ∷ [];
}

-- a unit that read the first queue, wrote the second and made the temporary storage queue
own : List AnyImage
own =
    TempStorage (record { name = 5 ∷ []; before = Added }) ∷ TransData (record { name = 8 ∷ []; image = Written })
    ∷ TransData (record { name = 7 ∷ []; image = Taken 0 }) ∷ []

-- the images of one kind, in their order
own_ts : ts_images own ≡ record { name = 5 ∷ []; before = Added } ∷ []
unfolding own
own_ts = refl

own_td : td_images own ≡ record { name = 8 ∷ []; image = Written } ∷ record { name = 7 ∷ []; image = Taken 0 } ∷ []
unfolding own
own_td = refl

-- they are of the reading end of the first queue and of the writing end of the second
reads_first : has_end (7 ∷ []) Reading own ≡ true
unfolding own
reads_first = refl

leaves_first : has_end (7 ∷ []) Writing own ≡ false
unfolding own
leaves_first = refl

writes_second : has_end (8 ∷ []) Writing own ≡ true
unfolding own
writes_second = refl

-- the row of the absent queue is held back, and nothing of transient data
holds_row_back : any_holds few (1 ∷ 5 ∷ []) ≡ true
unfolding few
holds_row_back = refl

holds_no_mark : any_holds few (2 ∷ 1 ∷ 7 ∷ 0 ∷ []) ≡ false
unfolding few
holds_no_mark = refl

-- so neither the row nor a mark is nothing
row_is_held : HoldsNothingBack few → ⊥
unfolding few
row_is_held none = false≢true (none.temp_storage (5 ∷ []) (record { items = []; next = 0 }) refl)

mark_is_held : HoldsNothingBack few → ⊥
unfolding few
mark_is_held none = nothing (none.trans_data (8 ∷ []) one_written refl marked).1
  where
    one_written : TransState
    one_written = record { kind = Logical; placed = (4 ∷ []) ∷ []; read = 0; written = 1 }

    marked : IsMarked one_written
    marked = record { read = omega arith; written = omega arith; unmarked = λ other. absurd (true≢false other) }

    nothing : one_written.written ≡ 0 → ⊥
    nothing e = omega (arith, e)

-- the writer of the second queue commits: its record is like all others
writers : (writers_settled few own).trans_data
    ≡ (7 ∷ [], record { kind = Logical; placed = (1 ∷ []) ∷ (2 ∷ []) ∷ (3 ∷ []) ∷ []; read = 1; written = 1 })
    ∷ (8 ∷ [], record { kind = Logical; placed = (4 ∷ []) ∷ []; read = 0; written = 0 }) ∷ []
unfolding few own
writers = refl

-- the reader of the first queue commits: the record that it read is gone, and what another unit
-- wrote is marked still
readers : (readers_settled few own).trans_data
    ≡ (7 ∷ [], record { kind = Logical; placed = (2 ∷ []) ∷ (3 ∷ []) ∷ []; read = 0; written = 1 })
    ∷ (8 ∷ [], record { kind = Logical; placed = (4 ∷ []) ∷ []; read = 0; written = 1 }) ∷ []
unfolding few own
readers = refl

-- both
both : (ends_settled few own).trans_data
    ≡ (7 ∷ [], record { kind = Logical; placed = (2 ∷ []) ∷ (3 ∷ []) ∷ []; read = 0; written = 1 })
    ∷ (8 ∷ [], record { kind = Logical; placed = (4 ∷ []) ∷ []; read = 0; written = 0 }) ∷ []
unfolding few own
both = refl
