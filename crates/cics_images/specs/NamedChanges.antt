-- What a change of one value is among the values by name. Its image is an image of them all, the
-- other cells stay, and no more is held back than at the value.
use Rattle.std.specs.Prelude.{◌≡◌, ◌≢◌, Bool, true, false, Option, Some, None}
use Rattle.std.proofs.Common.{sym, ap, ◌∙◌, subst, refl, inl, inr}
use Rattle.std.specs.Option.{option_map}
use Rattle.cics_names.specs.Keyed.{Bytes, Map, value_at, with_value}
use Rattle.cics_names.specs.KeyedLaws.{value_at-with_value_same, value_at-with_value_other}
use Rattle.cics_images.specs.Cells.{Cell, Content, is_other}
use Rattle.cics_images.specs.Turns.{IsImageOf}
use Rattle.cics_images.specs.NamedValues.{cell_of, split, of_value, of_split, named_content, named_holds, named_cell, IsReadyIn, IsNamedReady, named_undone, KeepsIn, NamedKeep}
use Rattle.cics_images.specs.NamedLaws.{same_or_other, other_cell, keeps_itself_in, of_cell, here, elsewhere, joined}
use Rattle.cics_images.specs.declared.named.NamedImage.{NamedImage}

module _ {M : Type 0} (name : Bytes) (f g : M) (values : Map M) (there : value_at name values ≡ Some f) where
  -- what holds of the value before and after, and of each other value, holds by name
  by_name : (P : Bytes → Option M → Option M → Type 0) → P name (Some f) (Some g) → ((q : Bytes) → P q (value_at q values) (value_at q values)) →
      (q : Bytes) → P q (value_at q values) (value_at q (with_value name g values))
  by_name P changed others q = elim (same_or_other q name) [
    | inl same ↦ subst (λ x. P x (value_at x values) (value_at x (with_value name g values))) (sym same)
        (subst (P name (value_at name values)) (sym (value_at-with_value_same name g values)) (subst (λ o. P name o (Some g)) (sym there) changed))
    | inr apart ↦ subst (P q (value_at q values)) (sym (value_at-with_value_other q name g values apart)) (others q)
  ]

  -- if nothing more is held back at the value, nothing more is among them all
  pub held_among : (holds_back : M → Cell → Bool) (p : Cell → Bool) → ((k : Cell) → p (cell_of name k) ≡ true → holds_back g k ≡ true → holds_back f k ≡ true) →
      (c : Cell) → p c ≡ true → named_holds holds_back (with_value name g values) c ≡ true → named_holds holds_back values c ≡ true
  held_among holds_back p held c pass has = by (split c) refl has
    where
      by : (o : Option (Bytes × Cell)) → split c ≡ o → of_split false holds_back (with_value name g values) o ≡ true → of_split false holds_back values o ≡ true
      by None is has = has
      by (Some e) is has = by_name (λ q before after. p (cell_of q e.1) ≡ true → of_value false (λ m. holds_back m e.1) after ≡ true → of_value false (λ m. holds_back m e.1) before ≡ true)
          (λ pass has. held e.1 pass has) (λ q pass has. has) e.0 (ap p (joined c e is) ∙ pass) has

  module _ (Keeps : (Cell → Bool) → M → M → Type 0) (itself : (p : Cell → Bool) (m : M) → Keeps p m m)
      (fewer : (p q : Cell → Bool) (m n : M) → ((c : Cell) → q c ≡ true → p c ≡ true) → Keeps p m n → Keeps q m n) where
    -- the cells that the change of one value leaves
    pub others_kept : (k : Cell) → Keeps (is_other k) f g → NamedKeep Keeps (is_other (cell_of name k)) values (with_value name g values)
    others_kept k kept = by_name (λ q o r. KeepsIn Keeps (λ c. is_other (cell_of name k) (cell_of q c)) o r)
        (fewer (is_other k) (λ c. is_other (cell_of name k) (cell_of name c)) f g (λ c. other_cell name k c) kept)
        (λ q. keeps_itself_in Keeps itself (λ c. is_other (cell_of name k) (cell_of q c)) (value_at q values))

    module _ {I : Type 0} (content : M → Cell → Content) (cell : I → Cell) (leads : I → Content → Content → Type 0) (IsReady : M → I → Type 0) (undone : M → I → M) where
      content_before : (k : Cell) → named_content content values (cell_of name k) ≡ content f k
      content_before k = of_cell None content values name k ∙ ap (of_value None (λ m. content m k)) there

      content_after : (k : Cell) → named_content content (with_value name g values) (cell_of name k) ≡ content g k
      content_after k = of_cell None content (with_value name g values) name k ∙ ap (of_value None (λ m. content m k)) (value_at-with_value_same name g values)

      abbrev among : I → NamedImage I
      among i = record { name = name; image = i }

      undone_here : (i : I) → value_at name (named_undone undone (with_value name g values) (among i)) ≡ Some (undone g i)
      undone_here i = here (λ x. undone x i) name (with_value name g values) ∙ ap (option_map (λ x. undone x i)) (value_at-with_value_same name g values)

      undone_elsewhere : (i : I) (q : Bytes) → q ≢ name → value_at q (named_undone undone (with_value name g values) (among i)) ≡ value_at q values
      undone_elsewhere i q apart = elsewhere (λ x. undone x i) name (with_value name g values) q apart ∙ value_at-with_value_other q name g values apart

      -- the image of a change of one value is one among them all
      pub image_among : (k : Cell) (i : I) → IsImageOf content cell leads IsReady undone Keeps f g k i →
          IsImageOf (named_content content) (named_cell cell) (λ i. leads i.image) (IsNamedReady IsReady) (named_undone undone) (NamedKeep Keeps) values (with_value name g values) (cell_of name k) (among i)
      image_among k i is = record {
        named = ap (cell_of name) is.named;
        leads_back = subst (λ c. leads i c (named_content content values (cell_of name k))) (sym (content_after k)) (subst (leads i (content g k)) (sym (content_before k)) is.leads_back);
        ready = subst (λ o. IsReadyIn IsReady o i) (sym (value_at-with_value_same name g values)) is.ready;
        back = λ q. elim (same_or_other q name) [
          | inl same ↦ subst (λ x. KeepsIn Keeps (λ c. true) (value_at x values) (value_at x (named_undone undone (with_value name g values) (among i)))) (sym same)
              (subst (λ o. KeepsIn Keeps (λ c. true) o (value_at name (named_undone undone (with_value name g values) (among i)))) (sym there)
              (subst (KeepsIn Keeps (λ c. true) (Some f)) (sym (undone_here i)) is.back))
          | inr apart ↦ subst (KeepsIn Keeps (λ c. true) (value_at q values)) (sym (undone_elsewhere i q apart)) (keeps_itself_in Keeps itself (λ c. true) (value_at q values))
        ];
      }
