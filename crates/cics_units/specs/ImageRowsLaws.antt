-- Recovery: what is held back for undoing belongs to an image of a unit, through changes and the
-- ends of units.
use Rattle.std.specs.Prelude.{◌≡◌, ◌≢◌, ℕ, ◌==◌, Bool, true, false, not, ◌&&◌, List, unwrap_or, refl}
use Rattle.std.proofs.Common.{sym, ap, ◌∙◌, subst, ◌⊎◌, inl, inr}
use Rattle.std.proofs.lemmas.Bool.{eqb-true, eqb-false}
use Rattle.std.specs.Bool.{Decides}
use Rattle.std.specs.Str.{bytes_eq}
use Rattle.std.proofs.lemmas.Slice.Eq.{bytes_eq-Decides}
use Rattle.cics_images.specs.Cells.{Cell, Kept, is_other, is_unnamed}
use Rattle.cics_units.specs.ImageRows.{kept_none, kept_by, AreOthersKept, AreHeldForImages}

-- ---- tests
cases : (b : Bool) → (b ≡ true) ⊎ (b ≡ false)
cases true = inl refl
cases false = inr refl

both : (a b : Bool) → (a && b) ≡ true → (a ≡ true) × (b ≡ true)
both true b h = (refl, h)
both false b h = let wrong : false ≡ true = h in cc

one_of : (a b : Bool) → a ≡ false → (a && b) ≡ false
one_of false b h = refl
one_of true b h = let wrong : true ≡ false = h in cc

other_of : (a b : Bool) → b ≡ false → (a && b) ≡ false
other_of false b h = refl
other_of true b h = h

not_both : {P : Type 0} (b : Bool) → b ≡ true → b ≡ false → P
not_both b yes_it no_it = let wrong : true ≡ false = sym yes_it ∙ no_it in cc

-- and no cell but itself
is_one : (c d : Cell) → is_other c d ≡ false → d ≡ c
is_one c d same = by (bytes_eq d c) (bytes_eq-Decides d c) same
  where
    by : (t : Bool) → Decides t (d ≡ c) → not t ≡ false → d ≡ c
    by true h e = h.0 refl
    by false h e = let wrong : true ≡ false = e in cc

module _ {M I : Type 0} (holds_back : M → Cell → Bool) (cell : I → Cell) (m n : M) (old new : List (Kept I)) (u : ℕ) (others : AreOthersKept old new u) where
  other_kept : (w : ℕ) → w ≢ u → kept_by new w ≡ kept_by old w
  other_kept w apart = ap (λ o. (unwrap_or o kept_none).newest_first) (others.rows w apart)

  other_named : (c : Cell) (w : ℕ) → w ≢ u → is_unnamed cell (kept_by old w) c ≡ false → (v : ℕ) × (is_unnamed cell (kept_by new v) c ≡ false)
  other_named c w apart named = (w, ap (λ is. is_unnamed cell is c) (other_kept w apart) ∙ named)

  -- at the end of a unit the cells of its images are swept: all that is still held back is held
  -- back for other units
  pub held_after_end : ((c : Cell) → holds_back n c ≡ (holds_back m c && is_unnamed cell (kept_by old u) c)) →
      AreHeldForImages holds_back cell m old → AreHeldForImages holds_back cell n new
  held_after_end swept held c holds =
      let parts = both (holds_back m c) (is_unnamed cell (kept_by old u) c) (sym (swept c) ∙ holds) in
      let before = held c parts.0 in
      elim (cases (before.0 == u)) [
        | inl same ↦ not_both (is_unnamed cell (kept_by old u) c) parts.1 (subst (λ w. is_unnamed cell (kept_by old w) c ≡ false) (eqb-true before.0 u same) before.1)
        | inr apart ↦ other_named c before.0 (eqb-false before.0 u apart) before.1
      ]

  -- a unit has more images than before, and something new is held back only at cells of its images
  pub held_after_change : ((c : Cell) → is_unnamed cell (kept_by new u) c ≡ true → holds_back n c ≡ true → holds_back m c ≡ true) →
      ((c : Cell) → is_unnamed cell (kept_by old u) c ≡ false → is_unnamed cell (kept_by new u) c ≡ false) →
      AreHeldForImages holds_back cell m old → AreHeldForImages holds_back cell n new
  held_after_change same more held c holds = elim (cases (is_unnamed cell (kept_by new u) c)) [
    | inr named ↦ (u, named)
    | inl unnamed ↦
        let before = held c (same c unnamed holds) in
        elim (cases (before.0 == u)) [
          | inl own ↦ not_both (is_unnamed cell (kept_by new u) c) unnamed (more c (subst (λ w. is_unnamed cell (kept_by old w) c ≡ false) (eqb-true before.0 u own) before.1))
          | inr apart ↦ other_named c before.0 (eqb-false before.0 u apart) before.1
        ]
  ]
