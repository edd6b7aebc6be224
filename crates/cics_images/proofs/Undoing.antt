-- What undoing or settling a list of images, newest first, does to the cells.
use Rattle.std.proofs.Common.{◌≡◌, ◌≢◌, List, [], ◌∷◌, Bool, true, false, not, ◌&&◌, cond, fold, map, refl, sym, ◌∙◌, ap, subst, ◌⊎◌, inl, inr}
use Rattle.std.proofs.Common.{ℕ, ◌+◌, ◌<◌, length, reverse, take, get_or, set, ◌++◌}
use Rattle.std.proofs.lemmas.List.{take_more, reverse-append, map-append}
use Rattle.std.proofs.Math.Seq.{map-set_same}
use Rattle.std.specs.Bool.{Decides}
use Rattle.std.specs.Str.{bytes_eq}
use Rattle.std.proofs.lemmas.Slice.Eq.{bytes_eq-Decides}
use Rattle.cics_images.specs.Cells.{Cell, Content, images_of, is_other, is_unnamed, LeadBack, AreReadyInTurn, all_swept}

-- a test decides a fact one way or the other
told : (b : Bool) (P : Type 0) → Decides b P → ((b ≡ true) × P) ⊎ ((b ≡ false) × (P → ⊥))
told true P h = inl (refl, h.0 refl)
told false P h = inr (refl, λ p. let e : false ≡ true = h.1 p in cc)

-- two names are equal or not, and the test says which
pub cases_name : (a b : Cell) → ((bytes_eq a b ≡ true) × (a ≡ b)) ⊎ ((bytes_eq a b ≡ false) × (a ≢ b))
cases_name a b = told (bytes_eq a b) (a ≡ b) (bytes_eq-Decides a b)

differs : (a c : Cell) → a ≢ c → is_other a c ≡ true
differs a c apart = elim (cases_name c a) [
  | inl w ↦ absurd (apart (sym w.1))
  | inr w ↦ ap not w.0
]

both_true : (a b : Bool) → (a && b) ≡ true → (a ≡ true) × (b ≡ true)
both_true true b h = (refl, h)
both_true false b h = let e : false ≡ true = h in cc

-- where each step keeps the other cells, all of them keep those that no image names
module _ {M I : Type 0} (cell : I → Cell) (Keeps : (Cell → Bool) → M → M → Type 0)
    (itself : (p : Cell → Bool) (m : M) → Keeps p m m)
    (fewer : (p q : Cell → Bool) (m n : M) → ((c : Cell) → q c ≡ true → p c ≡ true) → Keeps p m n →
    Keeps q m n)
    (on : (p : Cell → Bool) (l m n : M) → Keeps p l m → Keeps p m n → Keeps p l n) where
  pub others_kept : (step : M → I → M) (Allowed : M → List I → Type 0)
      (next : (m : M) (i : I) (is : List I) → Allowed m (i ∷ is) → Allowed (step m i) is)
      (one : (m : M) (i : I) (is : List I) → Allowed m (i ∷ is) → Keeps (is_other (cell i)) m (step m i))
      (m : M) (is : List I) → Allowed m is → Keeps (is_unnamed cell is) m (fold step m is)
  others_kept step Allowed next one m [] allowed = itself (is_unnamed cell []) m
  others_kept step Allowed next one m (i ∷ is) allowed =
      on (is_unnamed cell (i ∷ is)) m (step m i) (fold step (step m i) is)
      (fewer (is_other (cell i)) (is_unnamed cell (i ∷ is)) m (step m i) (λ c h. (both_true (is_other (cell i) c) (is_unnamed cell is c) h).0) (one m i is allowed))
      (fewer (is_unnamed cell is) (is_unnamed cell (i ∷ is)) (step m i) (fold step (step m i) is) (λ c h. (both_true (is_other (cell i) c) (is_unnamed cell is c) h).1) (others_kept step Allowed next one (step m i) is (next m i is allowed)))

module _ {M I : Type 0} (content : M → Cell → Content) (cell : I → Cell) (IsReady : M → I → Type 0) (leads : I → Content → Content → Type 0) (undone : M → I → M)
    (undone_leads : (m : M) (i : I) → IsReady m i →
    leads i (content m (cell i)) (content (undone m i) (cell i)))
    (undone_others : (m : M) (i : I) (c : Cell) → IsReady m i → is_other (cell i) c ≡ true →
    content (undone m i) c ≡ content m c) where
  -- the images of a cell lead its content back, and no other image changes it
  pub led_back : (c : Cell) (m : M) (is : List I) → AreReadyInTurn IsReady undone m is →
      LeadBack leads (images_of cell c is) (content m c) (content (fold undone m is) c)
  led_back c m [] ready = refl
  led_back c m (i ∷ is) ready =
      let rest = led_back c (undone m i) is ready.1 in
      elim (cases_name (cell i) c) [
        | inl w ↦ subst (λ b. LeadBack leads (cond b (i ∷ images_of cell c is) (images_of cell c is)) (content m c) (content (fold undone (undone m i) is) c)) (sym w.0)
            (content (undone m i) c, subst (λ d. leads i (content m d) (content (undone m i) d)) w.1 (undone_leads m i ready.0), rest)
        | inr w ↦ subst (λ b. LeadBack leads (cond b (i ∷ images_of cell c is) (images_of cell c is)) (content m c) (content (fold undone (undone m i) is) c)) (sym w.0)
            (subst (λ x. LeadBack leads (images_of cell c is) x (content (fold undone (undone m i) is) c)) (undone_others m i c ready.0 (differs (cell i) c w.1)) rest)
      ]

-- what each step keeps, all of them keep
pub kept : {M I V : Type 0} (value : M → V) (step : M → I → M) →
    ((m : M) (i : I) → value (step m i) ≡ value m) → (m : M) (is : List I) →
    value (fold step m is) ≡ value m
kept value step one m [] = refl
kept value step one m (i ∷ is) = kept value step one (step m i) is ∙ one m i

-- ---- what is held back at a cell
and_assoc : (a b c : Bool) → ((a && b) && c) ≡ (a && (b && c))
and_assoc true b c = refl
and_assoc false b c = refl

and_true : (a : Bool) → a ≡ (a && true)
and_true true = refl
and_true false = refl

and_false : (a : Bool) → (a && false) ≡ false
and_false true = refl
and_false false = refl

module _ {M I : Type 0} (holds_back : M → Cell → Bool) (swept : M → Cell → M) (cell : I → Cell)
    (swept_holds : (m : M) (s c : Cell) → holds_back (swept m s) c ≡ (holds_back m c && is_other s c)) where
  -- where the cells of images are swept, the other cells hold back what they did
  pub held_after_sweeps : (c : Cell) (m : M) (is : List I) →
      holds_back (all_swept swept cell m is) c ≡ (holds_back m c && is_unnamed cell is c)
  held_after_sweeps c m [] = and_true (holds_back m c)
  held_after_sweeps c m (i ∷ is) =
      held_after_sweeps c (swept m (cell i)) is
      ∙ ap (λ b. b && is_unnamed cell is c) (swept_holds m (cell i) c)
      ∙ and_assoc (holds_back m c) (is_other (cell i) c) (is_unnamed cell is c)

module _ {M I : Type 0} (holds_back : M → Cell → Bool) (undone : M → I → M) (cell : I → Cell)
    (undone_holds : (m : M) (i : I) (c : Cell) → is_other (cell i) c ≡ true → holds_back (undone m i) c ≡ holds_back m c) where
  -- undoing images leaves what is held back at the cells that they don't name
  pub held_after_undoing : (c : Cell) (m : M) (is : List I) →
      (holds_back (fold undone m is) c && is_unnamed cell is c) ≡ (holds_back m c && is_unnamed cell is c)
  held_after_undoing c m [] = refl
  held_after_undoing c m (i ∷ is) = by (is_other (cell i) c) refl (held_after_undoing c (undone m i) is)
    where
      by : (b : Bool) → is_other (cell i) c ≡ b →
          (holds_back (fold undone (undone m i) is) c && is_unnamed cell is c) ≡ (holds_back (undone m i) c && is_unnamed cell is c) →
          (holds_back (fold undone (undone m i) is) c && (b && is_unnamed cell is c)) ≡ (holds_back m c && (b && is_unnamed cell is c))
      by true other rest = rest ∙ ap (λ b. b && is_unnamed cell is c) (undone_holds m i c other)
      by false same rest = and_false (holds_back (fold undone (undone m i) is) c) ∙ sym (and_false (holds_back m c))

-- ---- images of the same cells
-- sweeping the cells of images is sweeping their cells
sweeps_by_cells : {M I : Type 0} (swept : M → Cell → M) (cell : I → Cell) (m : M) (is : List I) →
    all_swept swept cell m is ≡ fold swept m (map cell is)
sweeps_by_cells swept cell m [] = refl
sweeps_by_cells swept cell m (i ∷ is) = sweeps_by_cells swept cell (swept m (cell i)) is

unnamed_by_cells : {I : Type 0} (cell : I → Cell) (c : Cell) (is : List I) → is_unnamed cell is c ≡ is_unnamed (λ d. d) (map cell is) c
unnamed_by_cells cell c [] = refl
unnamed_by_cells cell c (i ∷ is) = ap (λ b. is_other (cell i) c && b) (unnamed_by_cells cell c is)

-- images of the same cells leave the same cells alone
pub same_unnamed : {I : Type 0} (cell : I → Cell) (c : Cell) (is js : List I) → map cell is ≡ map cell js →
    is_unnamed cell is c ≡ is_unnamed cell js c
same_unnamed cell c is js same =
    unnamed_by_cells cell c is ∙ ap (λ cells. is_unnamed (λ d. d) cells c) same ∙ sym (unnamed_by_cells cell c js)

-- and sweep the same
pub same_sweeps : {M I : Type 0} (swept : M → Cell → M) (cell : I → Cell) (m : M) (is js : List I) → map cell is ≡ map cell js →
    all_swept swept cell m is ≡ all_swept swept cell m js
same_sweeps swept cell m is js same =
    sweeps_by_cells swept cell m is ∙ ap (fold swept m) same ∙ sym (sweeps_by_cells swept cell m js)

-- ---- images in place, the oldest first
-- the last of some images is the newest of them
pub newest_first_of : {I : Type 0} (is : List I) (n : ℕ) (d : I) → n < length is →
    reverse (take (n + 1) is) ≡ get_or is n d ∷ reverse (take n is)
newest_first_of is n d inside = ap reverse (take_more is n d inside) ∙ reverse-append (take n is) (get_or is n d ∷ [])

map-reverse : {A B : Type 0} (f : A → B) (l : List A) → map f (reverse l) ≡ reverse (map f l)
map-reverse f [] = refl
map-reverse f (x ∷ l) =
    ap (map f) (reverse-append (x ∷ []) l) ∙ map-append f (reverse l) (x ∷ []) ∙ ap (λ r. r ++ f x ∷ []) (map-reverse f l)
    ∙ sym (reverse-append (f x ∷ []) (map f l))

-- an image that goes on naming its cell leaves the cells
pub same_cells : {I : Type 0} (cell : I → Cell) (is : List I) (n : ℕ) (i d : I) → cell i ≡ cell (get_or is n d) →
    map cell (reverse (set is n i)) ≡ map cell (reverse is)
same_cells cell is n i d same =
    map-reverse cell (set is n i) ∙ ap reverse (map-set_same cell is n i d same) ∙ sym (map-reverse cell is)

-- once none is left to undo, the target is what undoing all leads to
pub none_left : {M : Type 0} {I : Type 0} (undone : M → I → M) (target whole : M) (items : List I) (left : ℕ) → left ≡ 0 → fold undone target (reverse (take left items)) ≡ whole → target ≡ whole
none_left undone target whole items left none rest = subst (λ n. fold undone target (reverse (take n items)) ≡ whole) none rest
