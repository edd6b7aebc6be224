-- Files, temporary storage and transient data side by side as one value whose changes are undone. A
-- cell is one of the three, told by the first byte, with a cell of it.
use Rattle.std.specs.Prelude.{zero, suc, Bool, false, None, [], ◌∷◌}
use Rattle.cics_images.specs.Cells.{Cell, Content}
use Rattle.cics_images.specs.declared.stores.Stores.{Stores}
use Rattle.cics_images.specs.declared.stores.StoreImage.{StoreImage}
use Rattle.cics_images.specs.declared.stores.StoreImage.TheVariants.{File, TempStorage, TransData}

-- the cell of a file's cell
abbrev pub file_cell : Cell → Cell
file_cell c = 0 ∷ c

-- the cell of a cell of temporary storage
abbrev pub temp_cell : Cell → Cell
temp_cell c = 1 ∷ c

-- the cell of a cell of transient data
abbrev pub trans_cell : Cell → Cell
trans_cell c = 2 ∷ c

-- by which of the three a cell is of; the first value if it is of none
abbrev pub by_part : {A : Type 0} → A → (Cell → A) → (Cell → A) → (Cell → A) → Cell → A
by_part none f t d [] = none
by_part none f t d (zero ∷ c) = f c
by_part none f t d (suc zero ∷ c) = t c
by_part none f t d (suc (suc zero) ∷ c) = d c
by_part none f t d (suc (suc (suc n)) ∷ c) = none

-- three things of one sort, of the files, of temporary storage and of transient data
pub record Three (A B C : Type 0) : Type 0 where
  pub files : A
  pub temp_storage : B
  pub trans_data : C

module _ {I J K : Type 0} where
  -- the cell that an image is of
  abbrev pub image_cell : (I → Cell) → (J → Cell) → (K → Cell) → StoreImage I J K → Cell
  image_cell f t d (File i) = file_cell (f i)
  image_cell f t d (TempStorage i) = temp_cell (t i)
  image_cell f t d (TransData i) = trans_cell (d i)

  -- an image leads from one content to the other
  abbrev pub image_leads : (I → Content → Content → Type 0) → (J → Content → Content → Type 0) → (K → Content → Content → Type 0) → StoreImage I J K → Content → Content → Type 0
  image_leads f t d (File i) after before = f i after before
  image_leads f t d (TempStorage i) after before = t i after before
  image_leads f t d (TransData i) after before = d i after before

module _ {F T D : Type 0} where
  -- what a cell contains
  abbrev pub stores_content : (F → Cell → Content) → (T → Cell → Content) → (D → Cell → Content) → Stores F T D → Cell → Content
  stores_content f t d s c = by_part None (f s.files) (t s.temp_storage) (d s.trans_data) c

  -- whether something is held back at a cell
  abbrev pub stores_hold : (F → Cell → Bool) → (T → Cell → Bool) → (D → Cell → Bool) → Stores F T D → Cell → Bool
  stores_hold f t d s c = by_part false (f s.files) (t s.temp_storage) (d s.trans_data) c

  -- the three with other files
  abbrev pub with_files : Stores F T D → F → Stores F T D
  with_files s files = record s { files = files }

  -- with other temporary storage
  abbrev pub with_temp_storage : Stores F T D → T → Stores F T D
  with_temp_storage s temp_storage = record s { temp_storage = temp_storage }

  -- with other transient data
  abbrev pub with_trans_data : Stores F T D → D → Stores F T D
  with_trans_data s trans_data = record s { trans_data = trans_data }

  -- the three after a cell is swept
  abbrev pub stores_swept : (F → Cell → F) → (T → Cell → T) → (D → Cell → D) → Stores F T D → Cell → Stores F T D
  stores_swept f t d s c =
      by_part s (λ k. with_files s (f s.files k)) (λ k. with_temp_storage s (t s.temp_storage k)) (λ k. with_trans_data s (d s.trans_data k)) c

  -- at the cells that pass, each of the second three has what its first has, and what an undo there
  -- needs
  pub record StoresKeep (f : (Cell → Bool) → F → F → Type 0) (t : (Cell → Bool) → T → T → Type 0) (d : (Cell → Bool) → D → D → Type 0)
      (p : Cell → Bool) (old new : Stores F T D) : Type 0 where
    pub files : f (λ c. p (file_cell c)) old.files new.files
    pub temp_storage : t (λ c. p (temp_cell c)) old.temp_storage new.temp_storage
    pub trans_data : d (λ c. p (trans_cell c)) old.trans_data new.trans_data

  -- what was fixed when each was made
  abbrev pub stores_fixed : {A B C : Type 0} → (F → A) → (T → B) → (D → C) → Stores F T D → Three A B C
  stores_fixed f t d s = record { files = f s.files; temp_storage = t s.temp_storage; trans_data = d s.trans_data }

  module _ {I J K : Type 0} where
    -- an image is ready if the one of its part is
    abbrev pub IsStoresReady : (F → I → Type 0) → (T → J → Type 0) → (D → K → Type 0) → Stores F T D → StoreImage I J K → Type 0
    IsStoresReady f t d s (File i) = f s.files i
    IsStoresReady f t d s (TempStorage i) = t s.temp_storage i
    IsStoresReady f t d s (TransData i) = d s.trans_data i

    -- the three after an image is undone
    abbrev pub stores_undone : (F → I → F) → (T → J → T) → (D → K → D) → Stores F T D → StoreImage I J K → Stores F T D
    stores_undone f t d s (File i) = with_files s (f s.files i)
    stores_undone f t d s (TempStorage i) = with_temp_storage s (t s.temp_storage i)
    stores_undone f t d s (TransData i) = with_trans_data s (d s.trans_data i)
