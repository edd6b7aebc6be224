-- Files, temporary storage and transient data side by side as one value whose changes are undone:
-- the laws, from those of the three.
use Rattle.std.specs.Prelude.{◌≡◌, ℕ, zero, suc, Bool, true, false, not, ◌&&◌, [], ◌∷◌, refl}
use Rattle.std.proofs.Common.{ap, arith}
use Rattle.std.specs.Bool.{Decides}
use Rattle.std.specs.Str.{bytes_eq}
use Rattle.std.proofs.lemmas.Slice.Eq.{bytes_eq-Decides}
use Rattle.cics_images.specs.Cells.{Cell, Content, is_other}
use Rattle.cics_images.specs.StoreCells.{with_files, with_temp_storage, with_trans_data, file_cell, temp_cell, trans_cell, stores_content, stores_hold, stores_swept, StoresKeep, stores_fixed, image_cell, image_leads, IsStoresReady, stores_undone}
use Rattle.cics_images.specs.declared.stores.Stores.{Stores}
use Rattle.cics_images.specs.declared.stores.StoreImage.{StoreImage}
use Rattle.cics_images.specs.declared.stores.StoreImage.TheVariants.{File, TempStorage, TransData}

-- a test says the same together with one that holds
and_true : (a : Bool) → a ≡ (a && true)
and_true true = refl
and_true false = refl

-- and with one that is known to hold
with_true : (a b : Bool) → b ≡ true → a ≡ (a && b)
with_true a true pass = and_true a
with_true a false pass = cc

-- cells of two parts are two cells
apart : (a b : ℕ) (k c : Cell) → (a ≡ b → ⊥) → is_other (a ∷ k) (b ∷ c) ≡ true
apart a b k c differ = by (bytes_eq (b ∷ c) (a ∷ k)) (bytes_eq-Decides (b ∷ c) (a ∷ k))
  where
    by : (t : Bool) → Decides t ((b ∷ c) ≡ (a ∷ k)) → not t ≡ true
    by true h = let e : (b ∷ c) ≡ (a ∷ k) = h.0 refl in let first : a ≡ b = cc in absurd (differ first)
    by false h = refl

-- ---- of images alone
module _ {I J K : Type 0} (leads_f : I → Content → Content → Type 0) (leads_t : J → Content → Content → Type 0) (leads_d : K → Content → Content → Type 0)
    (f : (i : I) (after x y : Content) → leads_f i after x → leads_f i after y → x ≡ y)
    (t : (i : J) (after x y : Content) → leads_t i after x → leads_t i after y → x ≡ y)
    (d : (i : K) (after x y : Content) → leads_d i after x → leads_d i after y → x ≡ y) where
  -- what an image leads back to is one content
  pub determined : (i : StoreImage I J K) (after x y : Content) → image_leads leads_f leads_t leads_d i after x → image_leads leads_f leads_t leads_d i after y → x ≡ y
  determined (File i) = f i
  determined (TempStorage i) = t i
  determined (TransData i) = d i

module _ {F T D : Type 0} where
  module _ {I J K : Type 0} (content_f : F → Cell → Content) (content_t : T → Cell → Content) (content_d : D → Cell → Content)
      (cell_f : I → Cell) (cell_t : J → Cell) (cell_d : K → Cell)
      (leads_f : I → Content → Content → Type 0) (leads_t : J → Content → Content → Type 0) (leads_d : K → Content → Content → Type 0)
      (ready_f : F → I → Type 0) (ready_t : T → J → Type 0) (ready_d : D → K → Type 0)
      (undone_f : F → I → F) (undone_t : T → J → T) (undone_d : D → K → D)
      (f : (m : F) (i : I) → ready_f m i → leads_f i (content_f m (cell_f i)) (content_f (undone_f m i) (cell_f i)))
      (t : (m : T) (i : J) → ready_t m i → leads_t i (content_t m (cell_t i)) (content_t (undone_t m i) (cell_t i)))
      (d : (m : D) (i : K) → ready_d m i → leads_d i (content_d m (cell_d i)) (content_d (undone_d m i) (cell_d i))) where
    -- undoing leads the cell back
    pub undone_leads : (s : Stores F T D) (i : StoreImage I J K) → IsStoresReady ready_f ready_t ready_d s i →
        image_leads leads_f leads_t leads_d i (stores_content content_f content_t content_d s (image_cell cell_f cell_t cell_d i))
        (stores_content content_f content_t content_d (stores_undone undone_f undone_t undone_d s i) (image_cell cell_f cell_t cell_d i))
    undone_leads s (File i) ready = f s.files i ready
    undone_leads s (TempStorage i) ready = t s.temp_storage i ready
    undone_leads s (TransData i) ready = d s.trans_data i ready

  -- ---- what was fixed
  module _ {A B C : Type 0} (fixed_f : F → A) (fixed_t : T → B) (fixed_d : D → C) where
    module _ {I J K : Type 0} (undone_f : F → I → F) (undone_t : T → J → T) (undone_d : D → K → D)
        (f : (m : F) (i : I) → fixed_f (undone_f m i) ≡ fixed_f m)
        (t : (m : T) (i : J) → fixed_t (undone_t m i) ≡ fixed_t m)
        (d : (m : D) (i : K) → fixed_d (undone_d m i) ≡ fixed_d m) where
      -- undoing leaves what was fixed
      pub undone_fixed : (s : Stores F T D) (i : StoreImage I J K) → stores_fixed fixed_f fixed_t fixed_d (stores_undone undone_f undone_t undone_d s i) ≡ stores_fixed fixed_f fixed_t fixed_d s
      undone_fixed s (File i) = ap (λ x. record (stores_fixed fixed_f fixed_t fixed_d s) { files = x }) (f s.files i)
      undone_fixed s (TempStorage i) = ap (λ x. record (stores_fixed fixed_f fixed_t fixed_d s) { temp_storage = x }) (t s.temp_storage i)
      undone_fixed s (TransData i) = ap (λ x. record (stores_fixed fixed_f fixed_t fixed_d s) { trans_data = x }) (d s.trans_data i)

    module _ (swept_f : F → Cell → F) (swept_t : T → Cell → T) (swept_d : D → Cell → D)
        (f : (m : F) (c : Cell) → fixed_f (swept_f m c) ≡ fixed_f m)
        (t : (m : T) (c : Cell) → fixed_t (swept_t m c) ≡ fixed_t m)
        (d : (m : D) (c : Cell) → fixed_d (swept_d m c) ≡ fixed_d m) where
      -- and so does sweeping
      pub swept_fixed : (s : Stores F T D) (c : Cell) → stores_fixed fixed_f fixed_t fixed_d (stores_swept swept_f swept_t swept_d s c) ≡ stores_fixed fixed_f fixed_t fixed_d s
      swept_fixed s [] = refl
      swept_fixed s (zero ∷ c) = ap (λ x. record (stores_fixed fixed_f fixed_t fixed_d s) { files = x }) (f s.files c)
      swept_fixed s (suc zero ∷ c) = ap (λ x. record (stores_fixed fixed_f fixed_t fixed_d s) { temp_storage = x }) (t s.temp_storage c)
      swept_fixed s (suc (suc zero) ∷ c) = ap (λ x. record (stores_fixed fixed_f fixed_t fixed_d s) { trans_data = x }) (d s.trans_data c)
      swept_fixed s (suc (suc (suc n)) ∷ c) = refl

  -- ---- sweeping leaves the contents
  module _ (content_f : F → Cell → Content) (content_t : T → Cell → Content) (content_d : D → Cell → Content)
      (swept_f : F → Cell → F) (swept_t : T → Cell → T) (swept_d : D → Cell → D)
      (f : (m : F) (s c : Cell) → content_f (swept_f m s) c ≡ content_f m c)
      (t : (m : T) (s c : Cell) → content_t (swept_t m s) c ≡ content_t m c)
      (d : (m : D) (s c : Cell) → content_d (swept_d m s) c ≡ content_d m c) where
    abbrev content_of : Stores F T D → Cell → Content
    content_of s c = stores_content content_f content_t content_d s c

    abbrev after : Stores F T D → Cell → Stores F T D
    after s k = stores_swept swept_f swept_t swept_d s k

    pub swept_content : (s : Stores F T D) (k c : Cell) → content_of (after s k) c ≡ content_of s c
    swept_content s [] c = refl
    swept_content s (zero ∷ k) c = with_file c
      where
        with_file : (c : Cell) → content_of (after s (0 ∷ k)) c ≡ content_of s c
        with_file [] = refl
        with_file (zero ∷ c) = f s.files k c
        with_file (suc zero ∷ c) = refl
        with_file (suc (suc zero) ∷ c) = refl
        with_file (suc (suc (suc n)) ∷ c) = refl
    swept_content s (suc zero ∷ k) c = with_temp c
      where
        with_temp : (c : Cell) → content_of (after s (1 ∷ k)) c ≡ content_of s c
        with_temp [] = refl
        with_temp (zero ∷ c) = refl
        with_temp (suc zero ∷ c) = t s.temp_storage k c
        with_temp (suc (suc zero) ∷ c) = refl
        with_temp (suc (suc (suc n)) ∷ c) = refl
    swept_content s (suc (suc zero) ∷ k) c = with_trans c
      where
        with_trans : (c : Cell) → content_of (after s (2 ∷ k)) c ≡ content_of s c
        with_trans [] = refl
        with_trans (zero ∷ c) = refl
        with_trans (suc zero ∷ c) = refl
        with_trans (suc (suc zero) ∷ c) = d s.trans_data k c
        with_trans (suc (suc (suc n)) ∷ c) = refl
    swept_content s (suc (suc (suc n)) ∷ k) c = refl

  -- ---- what is held back
  module _ (holds_f : F → Cell → Bool) (holds_t : T → Cell → Bool) (holds_d : D → Cell → Bool) where
    abbrev holds : Stores F T D → Cell → Bool
    holds s c = stores_hold holds_f holds_t holds_d s c

    module _ {I J K : Type 0} (cell_f : I → Cell) (cell_t : J → Cell) (cell_d : K → Cell)
        (undone_f : F → I → F) (undone_t : T → J → T) (undone_d : D → K → D)
        (f : (m : F) (i : I) (c : Cell) → is_other (cell_f i) c ≡ true → holds_f (undone_f m i) c ≡ holds_f m c)
        (t : (m : T) (i : J) (c : Cell) → is_other (cell_t i) c ≡ true → holds_t (undone_t m i) c ≡ holds_t m c)
        (d : (m : D) (i : K) (c : Cell) → is_other (cell_d i) c ≡ true → holds_d (undone_d m i) c ≡ holds_d m c) where
      -- undoing leaves what is held back at every other cell
      pub undone_holds : (s : Stores F T D) (i : StoreImage I J K) (c : Cell) → is_other (image_cell cell_f cell_t cell_d i) c ≡ true →
          holds (stores_undone undone_f undone_t undone_d s i) c ≡ holds s c
      undone_holds s (File i) [] other = refl
      undone_holds s (File i) (zero ∷ c) other = f s.files i c other
      undone_holds s (File i) (suc zero ∷ c) other = refl
      undone_holds s (File i) (suc (suc zero) ∷ c) other = refl
      undone_holds s (File i) (suc (suc (suc n)) ∷ c) other = refl
      undone_holds s (TempStorage i) [] other = refl
      undone_holds s (TempStorage i) (zero ∷ c) other = refl
      undone_holds s (TempStorage i) (suc zero ∷ c) other = t s.temp_storage i c other
      undone_holds s (TempStorage i) (suc (suc zero) ∷ c) other = refl
      undone_holds s (TempStorage i) (suc (suc (suc n)) ∷ c) other = refl
      undone_holds s (TransData i) [] other = refl
      undone_holds s (TransData i) (zero ∷ c) other = refl
      undone_holds s (TransData i) (suc zero ∷ c) other = refl
      undone_holds s (TransData i) (suc (suc zero) ∷ c) other = d s.trans_data i c other
      undone_holds s (TransData i) (suc (suc (suc n)) ∷ c) other = refl

    module _ (swept_f : F → Cell → F) (swept_t : T → Cell → T) (swept_d : D → Cell → D)
        (f : (m : F) (s c : Cell) → holds_f (swept_f m s) c ≡ (holds_f m c && is_other s c))
        (t : (m : T) (s c : Cell) → holds_t (swept_t m s) c ≡ (holds_t m c && is_other s c))
        (d : (m : D) (s c : Cell) → holds_d (swept_d m s) c ≡ (holds_d m c && is_other s c)) where
      abbrev sweep : Stores F T D → Cell → Stores F T D
      sweep s k = stores_swept swept_f swept_t swept_d s k

      -- at a swept cell nothing is held back any more
      pub swept_holds : (s : Stores F T D) (k c : Cell) → holds (sweep s k) c ≡ (holds s c && is_other k c)
      swept_holds s [] c = none c
        where
          none : (c : Cell) → holds s c ≡ (holds s c && is_other [] c)
          none [] = refl
          none (n ∷ c) = and_true (holds s (n ∷ c))
      swept_holds s (zero ∷ k) c = in_files c
        where
          in_files : (c : Cell) → holds (sweep s (0 ∷ k)) c ≡ (holds s c && is_other (0 ∷ k) c)
          in_files [] = refl
          in_files (zero ∷ c) = f s.files k c
          in_files (suc zero ∷ c) = and_true (holds_t s.temp_storage c)
          in_files (suc (suc zero) ∷ c) = and_true (holds_d s.trans_data c)
          in_files (suc (suc (suc n)) ∷ c) = refl
      swept_holds s (suc zero ∷ k) c = in_temp c
        where
          in_temp : (c : Cell) → holds (sweep s (1 ∷ k)) c ≡ (holds s c && is_other (1 ∷ k) c)
          in_temp [] = refl
          in_temp (zero ∷ c) = and_true (holds_f s.files c)
          in_temp (suc zero ∷ c) = t s.temp_storage k c
          in_temp (suc (suc zero) ∷ c) = and_true (holds_d s.trans_data c)
          in_temp (suc (suc (suc n)) ∷ c) = refl
      swept_holds s (suc (suc zero) ∷ k) c = in_trans c
        where
          in_trans : (c : Cell) → holds (sweep s (2 ∷ k)) c ≡ (holds s c && is_other (2 ∷ k) c)
          in_trans [] = refl
          in_trans (zero ∷ c) = and_true (holds_f s.files c)
          in_trans (suc zero ∷ c) = and_true (holds_t s.temp_storage c)
          in_trans (suc (suc zero) ∷ c) = d s.trans_data k c
          in_trans (suc (suc (suc n)) ∷ c) = refl
      swept_holds s (suc (suc (suc n)) ∷ k) c = none c
        where
          none : (c : Cell) → holds s c ≡ (holds s c && is_other (suc (suc (suc n)) ∷ k) c)
          none [] = refl
          none (zero ∷ c) = with_true (holds_f s.files c) _ (apart (suc (suc (suc n))) 0 k c (λ e. omega (arith, e)))
          none (suc zero ∷ c) = with_true (holds_t s.temp_storage c) _ (apart (suc (suc (suc n))) 1 k c (λ e. omega (arith, e)))
          none (suc (suc zero) ∷ c) = with_true (holds_d s.trans_data c) _ (apart (suc (suc (suc n))) 2 k c (λ e. omega (arith, e)))
          none (suc (suc (suc m)) ∷ c) = refl

  -- ---- what stays
  module _ (keeps_f : (Cell → Bool) → F → F → Type 0) (keeps_t : (Cell → Bool) → T → T → Type 0) (keeps_d : (Cell → Bool) → D → D → Type 0) where
    abbrev Keeps : (Cell → Bool) → Stores F T D → Stores F T D → Type 0
    Keeps p s n = StoresKeep keeps_f keeps_t keeps_d p s n

    module _ (f : (p : Cell → Bool) (m : F) → keeps_f p m m) (t : (p : Cell → Bool) (m : T) → keeps_t p m m) (d : (p : Cell → Bool) (m : D) → keeps_d p m m) where
      -- the three stay if nothing changes
      pub keeps_itself : (p : Cell → Bool) (s : Stores F T D) → Keeps p s s
      keeps_itself p s = record {
        files = f (λ c. p (file_cell c)) s.files;
        temp_storage = t (λ c. p (temp_cell c)) s.temp_storage;
        trans_data = d (λ c. p (trans_cell c)) s.trans_data;
      }

      -- if one of the three changes and leaves its other cells, all other cells stay
      pub files_keep : (c : Cell) (s : Stores F T D) (new : F) → keeps_f (is_other c) s.files new → Keeps (is_other (file_cell c)) s (with_files s new)
      files_keep c s new kept = record {
        files = kept;
        temp_storage = t (λ q. is_other (file_cell c) (temp_cell q)) s.temp_storage;
        trans_data = d (λ q. is_other (file_cell c) (trans_cell q)) s.trans_data;
      }

      -- the same of temporary storage
      pub temp_storage_keeps : (c : Cell) (s : Stores F T D) (new : T) → keeps_t (is_other c) s.temp_storage new → Keeps (is_other (temp_cell c)) s (with_temp_storage s new)
      temp_storage_keeps c s new kept = record {
        files = f (λ q. is_other (temp_cell c) (file_cell q)) s.files;
        temp_storage = kept;
        trans_data = d (λ q. is_other (temp_cell c) (trans_cell q)) s.trans_data;
      }

      -- and of transient data
      pub trans_data_keeps : (c : Cell) (s : Stores F T D) (new : D) → keeps_d (is_other c) s.trans_data new → Keeps (is_other (trans_cell c)) s (with_trans_data s new)
      trans_data_keeps c s new kept = record {
        files = f (λ q. is_other (trans_cell c) (file_cell q)) s.files;
        temp_storage = t (λ q. is_other (trans_cell c) (temp_cell q)) s.temp_storage;
        trans_data = kept;
      }

    module _ (f : (p q : Cell → Bool) (m n : F) → ((c : Cell) → q c ≡ true → p c ≡ true) → keeps_f p m n → keeps_f q m n)
        (t : (p q : Cell → Bool) (m n : T) → ((c : Cell) → q c ≡ true → p c ≡ true) → keeps_t p m n → keeps_t q m n)
        (d : (p q : Cell → Bool) (m n : D) → ((c : Cell) → q c ≡ true → p c ≡ true) → keeps_d p m n → keeps_d q m n) where
      -- what stays at some cells stays at fewer
      pub keeps_fewer : (p q : Cell → Bool) (s n : Stores F T D) → ((c : Cell) → q c ≡ true → p c ≡ true) → Keeps p s n → Keeps q s n
      keeps_fewer p q s n less kept = record {
        files = f (λ c. p (file_cell c)) (λ c. q (file_cell c)) s.files n.files (λ c. less (file_cell c)) kept.files;
        temp_storage = t (λ c. p (temp_cell c)) (λ c. q (temp_cell c)) s.temp_storage n.temp_storage (λ c. less (temp_cell c)) kept.temp_storage;
        trans_data = d (λ c. p (trans_cell c)) (λ c. q (trans_cell c)) s.trans_data n.trans_data (λ c. less (trans_cell c)) kept.trans_data;
      }

    module _ (f : (p : Cell → Bool) (l m n : F) → keeps_f p l m → keeps_f p m n → keeps_f p l n)
        (t : (p : Cell → Bool) (l m n : T) → keeps_t p l m → keeps_t p m n → keeps_t p l n)
        (d : (p : Cell → Bool) (l m n : D) → keeps_d p l m → keeps_d p m n → keeps_d p l n) where
      -- what stays in two steps stays
      pub keeps_on : (p : Cell → Bool) (l m n : Stores F T D) → Keeps p l m → Keeps p m n → Keeps p l n
      keeps_on p l m n first second = record {
        files = f (λ c. p (file_cell c)) l.files m.files n.files first.files second.files;
        temp_storage = t (λ c. p (temp_cell c)) l.temp_storage m.temp_storage n.temp_storage first.temp_storage second.temp_storage;
        trans_data = d (λ c. p (trans_cell c)) l.trans_data m.trans_data n.trans_data first.trans_data second.trans_data;
      }

    module _ (content_f : F → Cell → Content) (content_t : T → Cell → Content) (content_d : D → Cell → Content)
        (f : (p : Cell → Bool) (m n : F) (c : Cell) → keeps_f p m n → p c ≡ true → content_f n c ≡ content_f m c)
        (t : (p : Cell → Bool) (m n : T) (c : Cell) → keeps_t p m n → p c ≡ true → content_t n c ≡ content_t m c)
        (d : (p : Cell → Bool) (m n : D) (c : Cell) → keeps_d p m n → p c ≡ true → content_d n c ≡ content_d m c) where
      -- cells that stay have the same content
      pub keeps_content : (p : Cell → Bool) (s n : Stores F T D) (c : Cell) → Keeps p s n → p c ≡ true →
          stores_content content_f content_t content_d n c ≡ stores_content content_f content_t content_d s c
      keeps_content p s n [] kept pass = refl
      keeps_content p s n (zero ∷ c) kept pass = f (λ c. p (file_cell c)) s.files n.files c kept.files pass
      keeps_content p s n (suc zero ∷ c) kept pass = t (λ c. p (temp_cell c)) s.temp_storage n.temp_storage c kept.temp_storage pass
      keeps_content p s n (suc (suc zero) ∷ c) kept pass = d (λ c. p (trans_cell c)) s.trans_data n.trans_data c kept.trans_data pass
      keeps_content p s n (suc (suc (suc m)) ∷ c) kept pass = refl

    module _ {I J K : Type 0} (cell_f : I → Cell) (cell_t : J → Cell) (cell_d : K → Cell)
        (ready_f : F → I → Type 0) (ready_t : T → J → Type 0) (ready_d : D → K → Type 0) where
      module _ (f : (p : Cell → Bool) (m n : F) (i : I) → keeps_f p m n → p (cell_f i) ≡ true → ready_f m i → ready_f n i)
          (t : (p : Cell → Bool) (m n : T) (i : J) → keeps_t p m n → p (cell_t i) ≡ true → ready_t m i → ready_t n i)
          (d : (p : Cell → Bool) (m n : D) (i : K) → keeps_d p m n → p (cell_d i) ≡ true → ready_d m i → ready_d n i) where
        -- images of cells that stay are still ready
        pub keeps_ready : (p : Cell → Bool) (s n : Stores F T D) (i : StoreImage I J K) → Keeps p s n → p (image_cell cell_f cell_t cell_d i) ≡ true →
            IsStoresReady ready_f ready_t ready_d s i → IsStoresReady ready_f ready_t ready_d n i
        keeps_ready p s n (File i) kept pass ready = f (λ c. p (file_cell c)) s.files n.files i kept.files pass ready
        keeps_ready p s n (TempStorage i) kept pass ready = t (λ c. p (temp_cell c)) s.temp_storage n.temp_storage i kept.temp_storage pass ready
        keeps_ready p s n (TransData i) kept pass ready = d (λ c. p (trans_cell c)) s.trans_data n.trans_data i kept.trans_data pass ready

      module _ (undone_f : F → I → F) (undone_t : T → J → T) (undone_d : D → K → D) where
        module _ (f : (p : Cell → Bool) (m n : F) (i : I) → keeps_f p m n → p (cell_f i) ≡ true → ready_f m i → keeps_f p (undone_f m i) (undone_f n i))
            (t : (p : Cell → Bool) (m n : T) (i : J) → keeps_t p m n → p (cell_t i) ≡ true → ready_t m i → keeps_t p (undone_t m i) (undone_t n i))
            (d : (p : Cell → Bool) (m n : D) (i : K) → keeps_d p m n → p (cell_d i) ≡ true → ready_d m i → keeps_d p (undone_d m i) (undone_d n i)) where
          -- cells that stay also stay when an image of one of them is undone in both
          pub keeps_undone : (p : Cell → Bool) (s n : Stores F T D) (i : StoreImage I J K) → Keeps p s n → p (image_cell cell_f cell_t cell_d i) ≡ true →
              IsStoresReady ready_f ready_t ready_d s i → Keeps p (stores_undone undone_f undone_t undone_d s i) (stores_undone undone_f undone_t undone_d n i)
          keeps_undone p s n (File i) kept pass ready = record { files = f (λ c. p (file_cell c)) s.files n.files i kept.files pass ready; temp_storage = kept.temp_storage; trans_data = kept.trans_data }
          keeps_undone p s n (TempStorage i) kept pass ready = record { files = kept.files; temp_storage = t (λ c. p (temp_cell c)) s.temp_storage n.temp_storage i kept.temp_storage pass ready; trans_data = kept.trans_data }
          keeps_undone p s n (TransData i) kept pass ready = record { files = kept.files; temp_storage = kept.temp_storage; trans_data = d (λ c. p (trans_cell c)) s.trans_data n.trans_data i kept.trans_data pass ready }

        module _ (self_f : (p : Cell → Bool) (m : F) → keeps_f p m m) (self_t : (p : Cell → Bool) (m : T) → keeps_t p m m) (self_d : (p : Cell → Bool) (m : D) → keeps_d p m m)
            (f : (m : F) (i : I) → ready_f m i → keeps_f (is_other (cell_f i)) m (undone_f m i))
            (t : (m : T) (i : J) → ready_t m i → keeps_t (is_other (cell_t i)) m (undone_t m i))
            (d : (m : D) (i : K) → ready_d m i → keeps_d (is_other (cell_d i)) m (undone_d m i)) where
          -- undoing leaves every other cell
          pub undone_keeps : (s : Stores F T D) (i : StoreImage I J K) → IsStoresReady ready_f ready_t ready_d s i →
              Keeps (is_other (image_cell cell_f cell_t cell_d i)) s (stores_undone undone_f undone_t undone_d s i)
          undone_keeps s (File i) ready = files_keep self_f self_t self_d (cell_f i) s (undone_f s.files i) (f s.files i ready)
          undone_keeps s (TempStorage i) ready = temp_storage_keeps self_f self_t self_d (cell_t i) s (undone_t s.temp_storage i) (t s.temp_storage i ready)
          undone_keeps s (TransData i) ready = trans_data_keeps self_f self_t self_d (cell_d i) s (undone_d s.trans_data i) (d s.trans_data i ready)

    module _ (swept_f : F → Cell → F) (swept_t : T → Cell → T) (swept_d : D → Cell → D)
        (self_f : (p : Cell → Bool) (m : F) → keeps_f p m m) (self_t : (p : Cell → Bool) (m : T) → keeps_t p m m) (self_d : (p : Cell → Bool) (m : D) → keeps_d p m m)
        (f : (m : F) (c : Cell) → keeps_f (is_other c) m (swept_f m c))
        (t : (m : T) (c : Cell) → keeps_t (is_other c) m (swept_t m c))
        (d : (m : D) (c : Cell) → keeps_d (is_other c) m (swept_d m c)) where
      -- sweeping leaves every other cell
      pub swept_keeps : (s : Stores F T D) (c : Cell) → Keeps (is_other c) s (stores_swept swept_f swept_t swept_d s c)
      swept_keeps s [] = keeps_itself self_f self_t self_d (is_other []) s
      swept_keeps s (zero ∷ c) = files_keep self_f self_t self_d c s (swept_f s.files c) (f s.files c)
      swept_keeps s (suc zero ∷ c) = temp_storage_keeps self_f self_t self_d c s (swept_t s.temp_storage c) (t s.temp_storage c)
      swept_keeps s (suc (suc zero) ∷ c) = trans_data_keeps self_f self_t self_d c s (swept_d s.trans_data c) (d s.trans_data c)
      swept_keeps s (suc (suc (suc n)) ∷ c) = keeps_itself self_f self_t self_d (is_other (suc (suc (suc n)) ∷ c)) s
