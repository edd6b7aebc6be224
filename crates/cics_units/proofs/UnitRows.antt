-- The row of one unit among those of all: what it keeps, and what a write to it leaves.
use Rattle.std.specs.Prelude.{◌≡◌, ◌≢◌, ◌<◌, ℕ, zero, suc, Some, List, [], ◌∷◌, length, slice_set, slice_get, unwrap_or, refl}
use Rattle.std.proofs.Common.{ap, sym, ◌∙◌, subst, get_or}
use Rattle.std.proofs.lemmas.List.{length-set, get_or-set_same}
use Rattle.std.proofs.lemmas.Option.{slice_get-get_or, slice_get_read}
use Rattle.cics_images.specs.Cells.{Kept}
use Rattle.cics_units.specs.ImageRows.{kept_none, kept_by, room_of, AreOthersKept}

-- a write to one row leaves the others
get_other : {A : Type 0} (xs : List A) (u w : ℕ) (x : A) → w ≢ u → slice_get (slice_set xs u x) w ≡ slice_get xs w
get_other [] u w x apart = refl
get_other (y ∷ ys) zero zero x apart = absurd (apart refl)
get_other (y ∷ ys) zero (suc w) x apart = refl
get_other (y ∷ ys) (suc u) zero x apart = refl
get_other (y ∷ ys) (suc u) (suc w) x apart = get_other ys u w x (λ same. apart (ap suc same))

-- and puts its own in place
get_set : {A : Type 0} (xs : List A) (u : ℕ) (x : A) → u < length xs → slice_get (slice_set xs u x) u ≡ Some x
get_set xs u x begun = slice_get-get_or (slice_set xs u x) u x (subst (λ n. u < n) (sym (length-set xs u x)) begun) ∙ ap Some (get_or-set_same xs u x x begun)

-- if a row is replaced by one with the same images, all units keep what they kept
pub kept_replaced : {I : Type 0} (rows : List (Kept I)) (u w : ℕ) (x : Kept I) → x.newest_first ≡ kept_by rows u → kept_by (slice_set rows u x) w ≡ kept_by rows w
kept_replaced [] u w x same = refl
kept_replaced (r ∷ rows) zero zero x same = same
kept_replaced (r ∷ rows) zero (suc w) x same = refl
kept_replaced (r ∷ rows) (suc u) zero x same = refl
kept_replaced (r ∷ rows) (suc u) (suc w) x same = kept_replaced rows u w x same

module _ {I : Type 0} (rows : List (Kept I)) (u : ℕ) (x : Kept I) where
  -- what stands in a unit's row is what it keeps, and the room that it has
  pub kept_at : slice_get rows u ≡ Some x → kept_by rows u ≡ x.newest_first
  kept_at there = ap (λ o. (unwrap_or o kept_none).newest_first) there

  pub room_at : slice_get rows u ≡ Some x → room_of rows u ≡ x.room
  room_at there = ap (λ o. (unwrap_or o kept_none).room) there

  -- once another row is put there it keeps what that has, and the other units what they had
  pub kept_set : u < length rows → kept_by (slice_set rows u x) u ≡ x.newest_first
  kept_set begun = ap (λ o. (unwrap_or o kept_none).newest_first) (get_set rows u x begun)

  pub others_set : AreOthersKept rows (slice_set rows u x) u
  others_set = record { count = length-set rows u x; rows = λ w apart. get_other rows u w x apart }

  -- the row that was read is the one that stands there
  pub row_read : (at : ℕ) → at ≡ u → u < length rows → x ≡ get_or rows at x → slice_get rows u ≡ Some x
  row_read at same begun value = slice_get_read rows (length rows) u x refl begun (subst (λ n. x ≡ get_or rows n x) same value)

-- what other units keep stays so through two changes
pub others_then : {I : Type 0} {old mid new : List (Kept I)} {u : ℕ} → AreOthersKept old mid u → AreOthersKept mid new u → AreOthersKept old new u
others_then first then = record { count = then.count ∙ first.count; rows = λ w apart. then.rows w apart ∙ first.rows w apart }
