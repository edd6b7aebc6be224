-- What a change of the files, of temporary storage or of transient data is among the three: its
-- image is an image of them together. The other cells stay by `files_keep`, `temp_storage_keeps`
-- and `trans_data_keeps` of the laws.
use Rattle.std.specs.Prelude.{Bool, true}
use Rattle.std.proofs.Common.{ap}
use Rattle.cics_images.specs.Cells.{Cell, Content}
use Rattle.cics_images.specs.Turns.{IsImageOf}
use Rattle.cics_images.specs.StoreCells.{file_cell, temp_cell, trans_cell, with_files, with_temp_storage, with_trans_data, stores_content, image_cell, image_leads, IsStoresReady, stores_undone, StoresKeep}
use Rattle.cics_images.specs.declared.stores.Stores.{Stores}
use Rattle.cics_images.specs.declared.stores.StoreImage.{StoreImage}
use Rattle.cics_images.specs.declared.stores.StoreImage.TheVariants.{File, TempStorage, TransData}

module _ {F T D I J K : Type 0} (content_f : F → Cell → Content) (content_t : T → Cell → Content) (content_d : D → Cell → Content)
    (cell_f : I → Cell) (cell_t : J → Cell) (cell_d : K → Cell)
    (leads_f : I → Content → Content → Type 0) (leads_t : J → Content → Content → Type 0) (leads_d : K → Content → Content → Type 0)
    (ready_f : F → I → Type 0) (ready_t : T → J → Type 0) (ready_d : D → K → Type 0)
    (undone_f : F → I → F) (undone_t : T → J → T) (undone_d : D → K → D)
    (keeps_f : (Cell → Bool) → F → F → Type 0) (keeps_t : (Cell → Bool) → T → T → Type 0) (keeps_d : (Cell → Bool) → D → D → Type 0)
    (self_f : (p : Cell → Bool) (m : F) → keeps_f p m m) (self_t : (p : Cell → Bool) (m : T) → keeps_t p m m) (self_d : (p : Cell → Bool) (m : D) → keeps_d p m m) where
  -- an image of a change of a cell of the three
  abbrev pub IsStoreImage : Stores F T D → Stores F T D → Cell → StoreImage I J K → Type 0
  IsStoreImage old new c i = IsImageOf (stores_content content_f content_t content_d) (image_cell cell_f cell_t cell_d) (image_leads leads_f leads_t leads_d)
      (IsStoresReady ready_f ready_t ready_d) (stores_undone undone_f undone_t undone_d) (StoresKeep keeps_f keeps_t keeps_d) old new c i

  -- a change of the files
  pub file_image : (s : Stores F T D) (new : F) (c : Cell) (i : I) → IsImageOf content_f cell_f leads_f ready_f undone_f keeps_f s.files new c i →
      IsStoreImage s (with_files s new) (file_cell c) (File i)
  file_image s new c i is = record {
    named = ap file_cell is.named;
    leads_back = is.leads_back;
    ready = is.ready;
    back = record { files = is.back; temp_storage = self_t (λ _. true) s.temp_storage; trans_data = self_d (λ _. true) s.trans_data };
  }

  -- a change of temporary storage
  pub temp_storage_image : (s : Stores F T D) (new : T) (c : Cell) (i : J) → IsImageOf content_t cell_t leads_t ready_t undone_t keeps_t s.temp_storage new c i →
      IsStoreImage s (with_temp_storage s new) (temp_cell c) (TempStorage i)
  temp_storage_image s new c i is = record {
    named = ap temp_cell is.named;
    leads_back = is.leads_back;
    ready = is.ready;
    back = record { files = self_f (λ _. true) s.files; temp_storage = is.back; trans_data = self_d (λ _. true) s.trans_data };
  }

  -- a change of transient data
  pub trans_data_image : (s : Stores F T D) (new : D) (c : Cell) (i : K) → IsImageOf content_d cell_d leads_d ready_d undone_d keeps_d s.trans_data new c i →
      IsStoreImage s (with_trans_data s new) (trans_cell c) (TransData i)
  trans_data_image s new c i is = record {
    named = ap trans_cell is.named;
    leads_back = is.leads_back;
    ready = is.ready;
    back = record { files = self_f (λ _. true) s.files; temp_storage = self_t (λ _. true) s.temp_storage; trans_data = is.back };
  }
