-- Images that are ready in turn stay so if their cells stay.
use Rattle.std.specs.Prelude.{◌≡◌, Bool, true, List, [], ◌∷◌}
use Rattle.std.proofs.Common.{sym, ◌∙◌, subst}
use Rattle.cics_images.specs.Cells.{Cell, Content, LeadBack, AreReadyInTurn, AreOf}

-- over values with cells whose images can be undone
module _ {M I : Type 0} (cell : I → Cell) (IsReady : M → I → Type 0) (undone : M → I → M) (Keeps : (Cell → Bool) → M → M → Type 0)
    (keeps_ready : (p : Cell → Bool) (m n : M) (i : I) → Keeps p m n → p (cell i) ≡ true → IsReady m i →
    IsReady n i)
    (keeps_undone : (p : Cell → Bool) (m n : M) (i : I) → Keeps p m n → p (cell i) ≡ true → IsReady m i →
    Keeps p (undone m i) (undone n i)) where
  -- images that are ready in turn stay so if the cells that they name stay
  pub in_turn_kept : (p : Cell → Bool) (m n : M) (images : List I) → Keeps p m n → AreOf cell p images →
      AreReadyInTurn IsReady undone m images → AreReadyInTurn IsReady undone n images
  in_turn_kept p m n [] kept named ready = tt
  in_turn_kept p m n (i ∷ is) kept named ready =
      (keeps_ready p m n i kept named.0 ready.0, in_turn_kept p (undone m i) (undone n i) is (keeps_undone p m n i kept named.0 ready.0) named.1 ready.1)

-- an image of a change of the cell, from old to new
pub record IsImageOf {M I : Type 0} (content : M → Cell → Content) (cell : I → Cell) (leads : I → Content → Content → Type 0) (IsReady : M → I → Type 0)
    (undone : M → I → M) (Keeps : (Cell → Bool) → M → M → Type 0)
    (old new : M) (c : Cell) (image : I) : Type 0 where
  pub named : cell image ≡ c
  pub leads_back : leads image (content new c) (content old c)
  pub ready : IsReady new image
  -- undone, it leaves all that old had, and what undoing older images needs
  pub back : Keeps (λ _. true) old (undone new image)

-- what a list of images leads back to is one content
pub one_before : {I : Type 0} (leads : I → Content → Content → Type 0) →
    ((i : I) (after x y : Content) → leads i after x → leads i after y → x ≡ y) →
    (images : List I) (after x y : Content) → LeadBack leads images after x → LeadBack leads images after y → x ≡ y
one_before leads determined [] after x y h g = h ∙ sym g
one_before leads determined (i ∷ is) after x y h g =
    one_before leads determined is g.0 x y (subst (λ mid. LeadBack leads is mid x) (determined i after h.0 g.0 h.1 g.1) h.2) g.2
