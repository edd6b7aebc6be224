-- What a command on a queue holds back: an empty row of temporary storage, if its unit keeps an
-- image of the queue, and nothing of transient data.
use Rattle.std.specs.Prelude.{◌≡◌, ℕ, zero, suc, Bool, true, false, not, ◌&&◌, ◌-◌, nat_lt, Option, Some, is_some, option_map, length, slice_set, List, [], ◌∷◌, ◌++◌}
use Rattle.std.proofs.Common.{sym, ap, ◌∙◌, subst, refl, inl, inr}
use Rattle.std.proofs.lemmas.Bool.{cases_Bool, false≢true, and_parts}
use Rattle.std.specs.Str.{bytes_eq}
use Rattle.cics_names.specs.Keyed.{Bytes, Map, has_key, with_value, without}
use Rattle.cics_names.specs.KeyedLaws.{value_at-with_value_other, value_at-without_same, value_at-without_other}
use Rattle.cics_images.specs.Cells.{is_unnamed}
use Rattle.cics_images.specs.Cells as images
use Rattle.cics_images.specs.NamedLaws.{same_or_other}
use Rattle.cics_images.specs.StoreCells.{temp_cell, with_temp_storage, with_trans_data}
use Rattle.cics_images.specs.declared.stores.StoreImage.TheVariants.{TempStorage}
use Rattle.cics_tempstor.specs.declared.images.TsImage.{TsImage}
use Rattle.cics_tempstor.specs.declared.queue_rows.Row.{Row}
use Rattle.cics_tempstor.specs.Queues.{most_items, is_there, has_item, row_at, queue_at, empty_row, place_of, after_read_item}
use Rattle.cics_tempstor.specs.Undo.{holds_row}
use Rattle.cics_tempstor.specs.UndoLaws.{queue_at-with_value_same, queue_at-with_value_other, queue_at-without_other, there_more, is_there-set, has_item-there}
use Rattle.cics_transdata.specs.Trans.{TransState}
use Rattle.cics_history.specs.declared.ops.Op.{Op}
use Rattle.cics_history.specs.declared.ops.Op.TheVariants.{TsWrite, TsRewrite, TsDelete}
use Rattle.cics_units.specs.FilesImagesLaws.{same_bytes-eq}
use Rattle.cics_units.specs.Opening.StoreMatching.{StoreValue, AnyImage, cell_of_any, any_holds}
use Rattle.cics_units.specs.QueueChanges.{rows_after, rows_image, with_image}

-- what is held back in other rows than these was so in these, but for one name
module _ (rows : Map Row) (q : Bytes) where
  -- another name has its row
  other_held : (r : Row) (c : images.Cell) → (c ≡ q → ⊥) → holds_row (with_value q r rows) c ≡ true → holds_row rows c ≡ true
  other_held r c apart held =
      ap (λ o. is_some o && not (is_there (queue_at c rows))) (sym (value_at-with_value_other c q r rows apart))
      ∙ ap (λ items. has_key c (with_value q r rows) && not (is_there items)) (sym (queue_at-with_value_other c q r rows apart)) ∙ held

  -- a row with an item isn't held back
  put_held : (r : Row) → is_there r.items ≡ true → (c : images.Cell) → holds_row (with_value q r rows) c ≡ true → holds_row rows c ≡ true
  put_held r there c held = elim (same_or_other c q) [
    | inl same ↦
        let empty = (and_parts (has_key c (with_value q r rows)) (not (is_there (queue_at c (with_value q r rows)))) held).1 in
        absurd (false≢true (ap not (sym (ap (λ k. is_there (queue_at k (with_value q r rows))) same ∙ ap is_there (queue_at-with_value_same q r rows) ∙ there)) ∙ empty))
    | inr apart ↦ other_held r c apart held
  ]

  -- nor is one that is gone
  without_held : (c : images.Cell) → holds_row (without q rows) c ≡ true → holds_row rows c ≡ true
  without_held c held = elim (same_or_other c q) [
    | inl same ↦
        let there = (and_parts (has_key c (without q rows)) (not (is_there (queue_at c (without q rows)))) held).0 in
        absurd (false≢true (sym (ap (λ k. has_key k (without q rows)) same ∙ ap is_some (value_at-without_same q rows)) ∙ there))
    | inr apart ↦
        ap (λ o. is_some o && not (is_there (queue_at c rows))) (sym (value_at-without_other c q rows apart))
        ∙ ap (λ items. has_key c (without q rows) && not (is_there items)) (sym (queue_at-without_other c q rows apart)) ∙ held
  ]

-- a name of which no image is kept
not_newest : (o : Option TsImage) (is : List AnyImage) (c : images.Cell) → is_unnamed cell_of_any (with_image (option_map TempStorage o) is) (temp_cell c) ≡ true →
    (i : TsImage) → o ≡ Some i → c ≡ i.name → ⊥
not_newest o is c unnamed i some same =
    let whole : is_unnamed cell_of_any (TempStorage i ∷ is) (temp_cell c) ≡ true =
    subst (λ o. is_unnamed cell_of_any (with_image (option_map TempStorage o) is) (temp_cell c) ≡ true) some unnamed in
    let other : not (bytes_eq (temp_cell c) (temp_cell i.name)) ≡ true = (and_parts _ _ whole).0 in
    false≢true (ap not (sym (same_bytes-eq (temp_cell c) (temp_cell i.name) (ap temp_cell same))) ∙ other)

-- a command holds a row back only if it gives an image of it
pub rows_held : (op : Op) (keep : Bool) (rows : Map Row) (is : List AnyImage) (c : images.Cell) →
    is_unnamed cell_of_any (with_image (option_map TempStorage (rows_image op keep rows)) is) (temp_cell c) ≡ true →
    holds_row (rows_after op keep rows) c ≡ true → holds_row rows c ≡ true
rows_held (TsWrite q d) keep rows is c unnamed = elim (cases_Bool (nat_lt (length (queue_at q rows)) most_items)) [
  | inl room ↦ rw room (put_held rows q (record { items = queue_at q rows ++ d ∷ []; next = place_of (row_at q rows) }) (there_more (queue_at q rows) d) c)
  | inr full ↦ rw full (λ held. held)
]
rows_held (TsRewrite q n d) keep rows is c unnamed = elim (cases_Bool (has_item (queue_at q rows) n)) [
  | inl there ↦
      let stays = is_there-set (queue_at q rows) (n - 1) d ∙ has_item-there (queue_at q rows) n there in
      rw there (put_held rows q (record { items = slice_set (queue_at q rows) (n - 1) d; next = (row_at q rows).next }) stays c)
  | inr absent ↦ rw absent (λ held. held)
]
rows_held (TsDelete q) false rows is c unnamed = elim (cases_Bool (is_there (queue_at q rows))) [
  | inl there ↦ rw there (without_held rows q c)
  | inr absent ↦ rw absent (λ held. held)
]
rows_held (TsDelete q) true rows is c unnamed = elim (cases_Bool (is_there (queue_at q rows))) [
  | inl there ↦
      let some = rows_some there in
      rw there (other_held rows q empty_row c (λ same. not_newest (rows_image (TsDelete q) true rows) is c unnamed some.0 some.1 (same ∙ sym some.2)))
  | inr absent ↦ rw absent (λ held. held)
]
  where
    rows_some : is_there (queue_at q rows) ≡ true → (i : TsImage) × (rows_image (TsDelete q) true rows ≡ Some i) × (i.name ≡ q)
    rows_some there = rw there (_, refl, refl)
rows_held _ keep rows is c unnamed = λ held. held

-- a command on a temporary storage queue holds back more only if its unit keeps an image
pub temp_held : (m : StoreValue) (op : Op) (keep : Bool) (is : List AnyImage) (c : images.Cell) →
    is_unnamed cell_of_any (with_image (option_map TempStorage (rows_image op keep m.temp_storage)) is) c ≡ true →
    any_holds (with_temp_storage m (rows_after op keep m.temp_storage)) c ≡ true → any_holds m c ≡ true
temp_held m op keep is [] unnamed held = held
temp_held m op keep is (zero ∷ c) unnamed held = held
temp_held m op keep is (suc zero ∷ c) unnamed held = rows_held op keep m.temp_storage is c unnamed held
temp_held m op keep is (suc (suc zero) ∷ c) unnamed held = held
temp_held m op keep is (suc (suc (suc n)) ∷ c) unnamed held = held

-- READQ TS holds back nothing more
pub read_held : (m : StoreValue) (q : Bytes) (n : ℕ) (c : images.Cell) → any_holds (with_temp_storage m (after_read_item m.temp_storage q n)) c ≡ true →
    any_holds m c ≡ true
read_held m q n [] held = held
read_held m q n (zero ∷ c) held = held
read_held m q n (suc zero ∷ c) held = elim (cases_Bool (has_item (queue_at q m.temp_storage) n)) [
  | inl there ↦
      let stays = has_item-there (queue_at q m.temp_storage) n there in
      put_held m.temp_storage q (record { items = queue_at q m.temp_storage; next = n }) stays c (rw there at held)
  | inr absent ↦ rw absent at held
]
read_held m q n (suc (suc zero) ∷ c) held = held
read_held m q n (suc (suc (suc k)) ∷ c) held = held

-- of transient data nothing is held back, so no command on a queue of it holds back more
pub trans_held : (m : StoreValue) (queues : Map TransState) (c : images.Cell) → any_holds (with_trans_data m queues) c ≡ true → any_holds m c ≡ true
trans_held m queues [] held = held
trans_held m queues (zero ∷ c) held = held
trans_held m queues (suc zero ∷ c) held = held
trans_held m queues (suc (suc zero) ∷ c) held = held
trans_held m queues (suc (suc (suc n)) ∷ c) held = held
