-- What a plain replay begins with: the files and queues of an opening, each with what was loaded
-- into it.
use Rattle.std.specs.Prelude.{◌≡◌, ℕ, ◌<◌, ◌≤◌, length, take, IsTrue, T, All, true, List, [], ◌∷◌, fold, refl}
use Rattle.std.proofs.Common.{sym, ap, ◌∙◌, subst, get_or}
use Rattle.std.proofs.lemmas.List.{take_all}
use Rattle.std.proofs.lemmas.List.Elements.{All-head, All-tail, All-same, All-map, All-weaker, All-get_or}
use Rattle.cics_names.specs.Keyed.{Bytes, Map, with_value, is_rising}
use Rattle.cics_ksds.specs.Files.{IsContent, key_of, fits_file, records_of}
use Rattle.cics_ksds.specs.declared.definition.FileDef.{FileDef}
use Rattle.cics_units.specs.Opening.RegionFiles.{refilled}
use Rattle.cics_units.proofs.OfOpening.Opened.{each, rising-each}
use Rattle.cics_units.proofs.OfOpening.Refilled.{refilled-rising}

-- ---- the files and queues that a replay begins with
pub each_each : {X Y Z : Type 0} (v : X → Y) (w : Y → Z) (m : Map X) → each w (each v m) ≡ each (λ x. w (v x)) m
each_each v w [] = refl
each_each v w (e ∷ m) = ap (λ r. (e.0, w (v e.1)) ∷ r) (each_each v w m)

-- all that was passed, put into an empty map one after the other, is what an opening has loaded
pub begins_with : {X Y Z : Type 0} (v : X → Y) (w : Y → Z) (m : Map X) → is_rising m ≡ true → (all : Map Y) → all ≡ each v m →
    refilled (each w all) ≡ each (λ x. w (v x)) m
begins_with v w m rising all are =
    ap (λ n. refilled (each w n)) are ∙ ap refilled (each_each v w m)
    ∙ refilled-rising (each (λ x. w (v x)) m) (subst T (sym (rising-each (λ x. w (v x)) m ∙ rising)) tt)

-- ---- the records of one file
abbrev IsKeyed : FileDef → Bytes × Bytes → Type 0
IsKeyed d e = (e.0 ≡ key_of d e.1) × IsTrue (fits_file d e.1)

abbrev put_keyed : FileDef → Map Bytes → Bytes → Map Bytes
put_keyed d m r = with_value (key_of d r) r m

put_under_keys : (d : FileDef) (n m : Map Bytes) → All (IsKeyed d) m → fold (put_keyed d) n (records_of m) ≡ fold (λ n e. with_value e.0 e.1 n) n m
put_under_keys d n [] all = refl
put_under_keys d n (e ∷ m) all =
    ap (λ k. fold (put_keyed d) (with_value k e.1 n) (records_of m)) (sym (All-head (IsKeyed d) e m all).0)
    ∙ put_under_keys d (with_value e.0 e.1 n) m (All-tail (IsKeyed d) e m all)

-- the records of a loaded file in the order of their keys, by a definition that is that of the file
module _ (definition : FileDef) (m : Map Bytes) (content : IsContent definition m) (d : FileDef) (same : d ≡ definition) (items : List Bytes) (are : items ≡ records_of m) (i : ℕ) where
  pub fits_item : (r : Bytes) → i < length items → r ≡ get_or items i r → (bytes : Bytes) → bytes ≡ r → IsTrue (fits_file d bytes)
  fits_item r low is bytes e =
      let all : All (λ r. IsTrue (fits_file definition r)) items =
      All-same (λ r. IsTrue (fits_file definition r)) items (records_of m) are (All-map (λ r. IsTrue (fits_file definition r)) (λ e. e.1) m (All-weaker (IsKeyed definition) (λ e. IsTrue (fits_file definition e.1)) (λ e keyed. keyed.1) m content.keyed)) in
      subst (λ d. IsTrue (fits_file d bytes)) (sym same) (subst (λ r. IsTrue (fits_file definition r)) (sym (e ∙ is)) (All-get_or (λ r. IsTrue (fits_file definition r)) items i r low all))

  pub all_put : length items ≤ i → fold (put_keyed d) [] (take i items) ≡ m
  all_put over =
      ap (fold (put_keyed d) []) (take_all i items over ∙ are) ∙ ap (λ d. fold (put_keyed d) [] (records_of m)) same
      ∙ put_under_keys definition [] m content.keyed ∙ refilled-rising m content.rising
