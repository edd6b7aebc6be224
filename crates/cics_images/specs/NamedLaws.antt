-- Values by name as one value whose changes are undone: the laws, from those of the values.
use Rattle.std.specs.Prelude.{◌≡◌, ◌≢◌, Bool, true, false, not, ◌&&◌, cond, nat_le, Option, Some, None, [], ◌∷◌, ◌++◌, length, take, drop, refl}
use Rattle.std.proofs.Common.{sym, ap, ◌∙◌, subst, ◌⊎◌, inl, inr, arith}
use Rattle.std.specs.Bool.{Decides}
use Rattle.std.specs.Option.{option_map}
use Rattle.std.specs.Str.{bytes_eq}
use Rattle.std.proofs.lemmas.Slice.Eq.{bytes_eq-Decides}
use Rattle.std.proofs.lemmas.Bool.{leb-true, le-leb}
use Rattle.std.proofs.lemmas.List.{length-append, length-take-le, take-append-drop}
use Rattle.cics_names.specs.Keyed.{Bytes, Map, value_at}
use Rattle.cics_names.specs.KeyedLaws.{value_at-with_value_same, value_at-with_value_other}
use Rattle.cics_images.specs.Cells.{Cell, Content, is_other}
use Rattle.cics_images.specs.NamedValues.{cell_of, split, of_value, of_split, named_content, named_holds, named_cell, IsReadyIn, IsNamedReady, changed_where, changed_at, named_undone, split_swept, named_swept, KeepsIn, NamedKeep, named_fixed}
use Rattle.cics_images.specs.declared.named.NamedImage.{NamedImage}

-- two names are one or two
pub same_or_other : (a b : Bytes) → (a ≡ b) ⊎ (a ≢ b)
same_or_other a b = by (bytes_eq a b) (bytes_eq-Decides a b)
  where
    by : (t : Bool) → Decides t (a ≡ b) → (a ≡ b) ⊎ (a ≢ b)
    by true h = inl (h.0 refl)
    by false h = inr (λ e. let wrong : false ≡ true = h.1 e in cc)

-- ---- what has a value after a change
module _ {M : Type 0} (step : M → M) (name : Bytes) (s : Map M) where
  -- the changed name has its value changed, if it has one
  here_in : (o : Option M) → value_at name s ≡ o → value_at name (changed_where step name o s) ≡ option_map step o
  here_in None e = e
  here_in (Some m) e = value_at-with_value_same name (step m) s

  -- so the name has what the change makes of its value
  pub here : value_at name (changed_at step name s) ≡ option_map step (value_at name s)
  here = here_in (value_at name s) refl

  -- another name has what it had, whether the changed one has a value or not
  elsewhere_in : (q : Bytes) → q ≢ name → (o : Option M) → value_at q (changed_where step name o s) ≡ value_at q s
  elsewhere_in q apart None = refl
  elsewhere_in q apart (Some m) = value_at-with_value_other q name (step m) s apart

  -- so another name has what it had
  pub elsewhere : (q : Bytes) → q ≢ name → value_at q (changed_at step name s) ≡ value_at q s
  elsewhere q apart = elsewhere_in q apart (value_at name s)

  -- what holds of a value before and after holds of each name
  pub each_name : (P : Bytes → Option M → Option M → Type 0) →
      P name (value_at name s) (option_map step (value_at name s)) → ((q : Bytes) → q ≢ name → P q (value_at q s) (value_at q s)) →
      (q : Bytes) → P q (value_at q s) (value_at q (changed_at step name s))
  each_name P at_name others q = elim (same_or_other q name) [
    | inl same ↦ subst (λ x. P x (value_at x s) (value_at x (changed_at step name s))) (sym same) (subst (P name (value_at name s)) (sym here) at_name)
    | inr apart ↦ subst (P q (value_at q s)) (sym (elsewhere q apart)) (others q apart)
  ]

-- ---- cells
-- the name is read back from a cell
pub took : (name c : Bytes) → take (length name) (name ++ c) ≡ name
took [] c = refl
took (b ∷ bs) c = ap (λ r. b ∷ r) (took bs c)

-- and the cell of the value
pub left : (name c : Bytes) → drop (length name) (name ++ c) ≡ c
left [] c = refl
left (b ∷ bs) c = left bs c

-- both are
pub split_cell : (name : Bytes) (c : Cell) → split (cell_of name c) ≡ Some (name, c)
split_cell name c =
    ap (λ b. cond b (Some (take (length name) (name ++ c), drop (length name) (name ++ c))) None)
    (le-leb (length name) (length (name ++ c)) (omega (arith, length-append name c)))
    ∙ (λ i. Some (took name c i, left name c i))

-- a cell that is split is the cell of its parts
pub joined : (c : Cell) (e : Bytes × Cell) → split c ≡ Some e → cell_of e.0 e.1 ≡ c
joined [] e is = cc
joined (n ∷ rest) e is = by (nat_le n (length rest)) refl is
  where
    by : (b : Bool) → nat_le n (length rest) ≡ b → cond b (Some (take n rest, drop n rest)) None ≡ Some e → cell_of e.0 e.1 ≡ n ∷ rest
    by true fits is =
        let parts : (take n rest, drop n rest) ≡ e = cc in
        subst (λ (e : Bytes × Cell). cell_of e.0 e.1 ≡ n ∷ rest) parts
        (λ i. length-take-le n rest (leb-true n (length rest) fits) i ∷ take-append-drop n rest i)
    by false short is = cc

-- a cell that has no name is another than one that has
unsplit_other : (k c : Cell) (e : Bytes × Cell) → split k ≡ None → split c ≡ Some e → is_other k c ≡ true
unsplit_other k c e none some = by (bytes_eq c k) (bytes_eq-Decides c k)
  where
    by : (t : Bool) → Decides t (c ≡ k) → not t ≡ true
    by true h = let wrong : Some e ≡ None = sym some ∙ ap split (h.0 refl) ∙ none in cc
    by false h = refl

-- a function of the cell of a value
pub of_cell : {M A : Type 0} (none : A) (f : M → Cell → A) (s : Map M) (name : Bytes) (c : Cell) →
    of_split none f s (split (cell_of name c)) ≡ of_value none (λ m. f m c) (value_at name s)
of_cell none f s name c = ap (of_split none f s) (split_cell name c)

-- two cells of one value are one cell or two
pub other_cell : (name k q : Bytes) → is_other (cell_of name k) (cell_of name q) ≡ true → is_other k q ≡ true
other_cell name k q other = by (bytes_eq q k) (bytes_eq-Decides q k)
  where
    by : (t : Bool) → Decides t (q ≡ k) → not t ≡ true
    by true h = let wrong : false ≡ true = sym (ap not ((bytes_eq-Decides (cell_of name q) (cell_of name k)).1 (ap (cell_of name) (h.0 refl)))) ∙ other in cc
    by false h = refl

-- behind the same name the same follows
tail_eq : (name k q : Bytes) → name ++ q ≡ name ++ k → q ≡ k
tail_eq [] k q e = e
tail_eq (b ∷ bs) k q e = tail_eq bs k q (let t : bs ++ q ≡ bs ++ k = cc in t)

-- and no other way
pub same_other : (name k q : Bytes) → is_other (cell_of name k) (cell_of name q) ≡ is_other k q
same_other name k q = by (bytes_eq q k) (bytes_eq-Decides q k) (bytes_eq (cell_of name q) (cell_of name k)) (bytes_eq-Decides (cell_of name q) (cell_of name k))
  where
    by : (t : Bool) → Decides t (q ≡ k) → (u : Bool) → Decides u (cell_of name q ≡ cell_of name k) → not u ≡ not t
    by true h true k = refl
    by false h false k = refl
    by true h false g = let wrong : false ≡ true = g.1 (ap (cell_of name) (h.0 refl)) in cc
    by false h true g =
        let same : cell_of name q ≡ cell_of name k = g.0 refl in
        let rest : name ++ q ≡ name ++ k = cc in
        let wrong : false ≡ true = h.1 (tail_eq name k q rest) in cc

-- of two names of one length that begin the same text, each is the other
names_eq : (name other k q : Bytes) → length other ≡ length name → other ++ q ≡ name ++ k → other ≡ name
names_eq [] [] k q long e = refl
names_eq [] (b ∷ bs) k q long e = cc
names_eq (b ∷ bs) [] k q long e = cc
names_eq (b ∷ bs) (d ∷ ds) k q long e =
    let first : d ≡ b = cc in
    let rest : ds ++ q ≡ bs ++ k = cc in
    let longs : length ds ≡ length bs = cc in
    let same : ds ≡ bs = names_eq bs ds k q longs rest in
    cc

-- cells of two values are two cells
pub other_name : (name other : Bytes) (k q : Cell) → other ≢ name → is_other (cell_of name k) (cell_of other q) ≡ true
other_name name other k q apart = by (bytes_eq (cell_of other q) (cell_of name k)) (bytes_eq-Decides (cell_of other q) (cell_of name k))
  where
    by : (t : Bool) → Decides t (cell_of other q ≡ cell_of name k) → not t ≡ true
    by true h =
        let same : cell_of other q ≡ cell_of name k = h.0 refl in
        let long : length other ≡ length name = cc in
        let rest : other ++ q ≡ name ++ k = cc in
        absurd (apart (names_eq name other k q long rest))
    by false h = refl

-- ---- what stays
module _ {M : Type 0} (Keeps : (Cell → Bool) → M → M → Type 0) where
  module _ (itself : (p : Cell → Bool) (m : M) → Keeps p m m) where
    pub keeps_itself_in : (p : Cell → Bool) (o : Option M) → KeepsIn Keeps p o o
    keeps_itself_in p None = tt
    keeps_itself_in p (Some m) = itself p m

    -- values stay if nothing changes
    pub keeps_itself : (p : Cell → Bool) (s : Map M) → NamedKeep Keeps p s s
    keeps_itself p s name = keeps_itself_in (λ c. p (cell_of name c)) (value_at name s)

  module _ (fewer : (p q : Cell → Bool) (m n : M) → ((c : Cell) → q c ≡ true → p c ≡ true) → Keeps p m n → Keeps q m n) where
    fewer_in : (p q : Cell → Bool) (o r : Option M) → ((c : Cell) → q c ≡ true → p c ≡ true) → KeepsIn Keeps p o r → KeepsIn Keeps q o r
    fewer_in p q None None less k = tt
    fewer_in p q None (Some n) less k = k
    fewer_in p q (Some m) None less k = k
    fewer_in p q (Some m) (Some n) less k = fewer p q m n less k

    -- what stays at some cells stays at fewer
    pub keeps_fewer : (p q : Cell → Bool) (s t : Map M) → ((c : Cell) → q c ≡ true → p c ≡ true) → NamedKeep Keeps p s t → NamedKeep Keeps q s t
    keeps_fewer p q s t less kept name = fewer_in (λ c. p (cell_of name c)) (λ c. q (cell_of name c)) (value_at name s) (value_at name t) (λ c. less (cell_of name c)) (kept name)

  module _ (on : (p : Cell → Bool) (l m n : M) → Keeps p l m → Keeps p m n → Keeps p l n) where
    on_in : (p : Cell → Bool) (o r u : Option M) → KeepsIn Keeps p o r → KeepsIn Keeps p r u → KeepsIn Keeps p o u
    on_in p None None u h k = k
    on_in p None (Some n) u h k = absurd h
    on_in p (Some m) None u h k = absurd h
    on_in p (Some m) (Some n) None h k = k
    on_in p (Some m) (Some n) (Some l) h k = on p m n l h k

    -- what stays in two steps stays
    pub keeps_on : (p : Cell → Bool) (s t u : Map M) → NamedKeep Keeps p s t → NamedKeep Keeps p t u → NamedKeep Keeps p s u
    keeps_on p s t u h k name = on_in (λ c. p (cell_of name c)) (value_at name s) (value_at name t) (value_at name u) (h name) (k name)

  module _ (content : M → Cell → Content)
      (kept_content : (p : Cell → Bool) (m n : M) (c : Cell) → Keeps p m n → p c ≡ true → content n c ≡ content m c) where
    content_in : (p : Cell → Bool) (o r : Option M) (c : Cell) → KeepsIn Keeps p o r → p c ≡ true →
        of_value None (λ m. content m c) r ≡ of_value None (λ m. content m c) o
    content_in p None None c k pass = refl
    content_in p None (Some n) c k pass = absurd k
    content_in p (Some m) None c k pass = absurd k
    content_in p (Some m) (Some n) c k pass = kept_content p m n c k pass

    -- cells that stay have the same content
    pub keeps_content : (p : Cell → Bool) (s t : Map M) (c : Cell) → NamedKeep Keeps p s t → p c ≡ true →
        named_content content t c ≡ named_content content s c
    keeps_content p s t c kept pass = by (split c) refl
      where
        by : (o : Option (Bytes × Cell)) → split c ≡ o → of_split None content t o ≡ of_split None content s o
        by None is = refl
        by (Some e) is = content_in (λ k. p (cell_of e.0 k)) (value_at e.0 s) (value_at e.0 t) e.1 (kept e.0) (ap p (joined c e is) ∙ pass)

  module _ {I : Type 0} (cell : I → Cell) (IsReady : M → I → Type 0)
      (kept_ready : (p : Cell → Bool) (m n : M) (i : I) → Keeps p m n → p (cell i) ≡ true → IsReady m i → IsReady n i) where
    ready_in : (p : Cell → Bool) (o r : Option M) (i : I) → KeepsIn Keeps p o r → p (cell i) ≡ true → IsReadyIn IsReady o i → IsReadyIn IsReady r i
    ready_in p None r i k pass ready = absurd ready
    ready_in p (Some m) None i k pass ready = absurd k
    ready_in p (Some m) (Some n) i k pass ready = kept_ready p m n i k pass ready

    -- images of cells that stay are still ready
    pub keeps_ready : (p : Cell → Bool) (s t : Map M) (i : NamedImage I) → NamedKeep Keeps p s t → p (named_cell cell i) ≡ true →
        IsNamedReady IsReady s i → IsNamedReady IsReady t i
    keeps_ready p s t i kept pass ready = ready_in (λ c. p (cell_of i.name c)) (value_at i.name s) (value_at i.name t) i.image (kept i.name) pass ready

    module _ (undone : M → I → M)
        (kept_undone : (p : Cell → Bool) (m n : M) (i : I) → Keeps p m n → p (cell i) ≡ true → IsReady m i → Keeps p (undone m i) (undone n i)) where
      undone_in : (p : Cell → Bool) (o r : Option M) (i : I) → KeepsIn Keeps p o r → p (cell i) ≡ true → IsReadyIn IsReady o i →
          KeepsIn Keeps p (option_map (λ m. undone m i) o) (option_map (λ m. undone m i) r)
      undone_in p None None i k pass ready = tt
      undone_in p None (Some n) i k pass ready = k
      undone_in p (Some m) None i k pass ready = k
      undone_in p (Some m) (Some n) i k pass ready = kept_undone p m n i k pass ready

      -- cells that stay also stay when an image of one of them is undone in both
      pub keeps_undone : (p : Cell → Bool) (s t : Map M) (i : NamedImage I) → NamedKeep Keeps p s t → p (named_cell cell i) ≡ true →
          IsNamedReady IsReady s i → NamedKeep Keeps p (named_undone undone s i) (named_undone undone t i)
      keeps_undone p s t i kept pass ready q =
          let step = λ (m : M). undone m i.image in
          elim (same_or_other q i.name) [
            | inl same ↦ subst (λ x. KeepsIn Keeps (λ c. p (cell_of x c)) (value_at x (named_undone undone s i)) (value_at x (named_undone undone t i))) (sym same)
                (subst (λ o. KeepsIn Keeps (λ c. p (cell_of i.name c)) o (value_at i.name (named_undone undone t i))) (sym (here step i.name s))
                (subst (KeepsIn Keeps (λ c. p (cell_of i.name c)) (option_map step (value_at i.name s))) (sym (here step i.name t))
                (undone_in (λ c. p (cell_of i.name c)) (value_at i.name s) (value_at i.name t) i.image (kept i.name) pass ready)))
            | inr apart ↦ subst (λ o. KeepsIn Keeps (λ c. p (cell_of q c)) o (value_at q (named_undone undone t i))) (sym (elsewhere step i.name s q apart))
                (subst (KeepsIn Keeps (λ c. p (cell_of q c)) (value_at q s)) (sym (elsewhere step i.name t q apart)) (kept q))
          ]

  -- a step of one value that leaves its other cells leaves all other cells
  module _ (itself : (p : Cell → Bool) (m : M) → Keeps p m m)
      (fewer : (p q : Cell → Bool) (m n : M) → ((c : Cell) → q c ≡ true → p c ≡ true) → Keeps p m n → Keeps q m n) where
    pub step_keeps : (step : M → M) (name : Bytes) (k : Cell) (s : Map M) →
        KeepsIn Keeps (is_other k) (value_at name s) (option_map step (value_at name s)) →
        NamedKeep Keeps (is_other (cell_of name k)) s (changed_at step name s)
    step_keeps step name k s kept = each_name step name s (λ q o r. KeepsIn Keeps (λ c. is_other (cell_of name k) (cell_of q c)) o r)
        (fewer_in fewer (is_other k) (λ c. is_other (cell_of name k) (cell_of name c)) (value_at name s) (option_map step (value_at name s)) (λ c. other_cell name k c) kept)
        (λ q apart. keeps_itself_in itself (λ c. is_other (cell_of name k) (cell_of q c)) (value_at q s))

    module _ {I : Type 0} (cell : I → Cell) (IsReady : M → I → Type 0) (undone : M → I → M)
        (one_undone : (m : M) (i : I) → IsReady m i → Keeps (is_other (cell i)) m (undone m i)) where
      undone_kept : (o : Option M) (i : I) → IsReadyIn IsReady o i → KeepsIn Keeps (is_other (cell i)) o (option_map (λ m. undone m i) o)
      undone_kept None i ready = tt
      undone_kept (Some m) i ready = one_undone m i ready

      -- undoing leaves every other cell
      pub undone_keeps : (s : Map M) (i : NamedImage I) → IsNamedReady IsReady s i → NamedKeep Keeps (is_other (named_cell cell i)) s (named_undone undone s i)
      undone_keeps s i ready = step_keeps (λ m. undone m i.image) i.name (cell i.image) s (undone_kept (value_at i.name s) i.image ready)

    module _ (swept : M → Cell → M) (one_swept : (m : M) (c : Cell) → Keeps (is_other c) m (swept m c)) where
      swept_kept : (o : Option M) (c : Cell) → KeepsIn Keeps (is_other c) o (option_map (λ m. swept m c) o)
      swept_kept None c = tt
      swept_kept (Some m) c = one_swept m c

      -- sweeping leaves every other cell
      pub swept_keeps : (s : Map M) (c : Cell) → NamedKeep Keeps (is_other c) s (named_swept swept s c)
      swept_keeps s c = by (split c) refl
        where
          by : (o : Option (Bytes × Cell)) → split c ≡ o → NamedKeep Keeps (is_other c) s (split_swept swept s o)
          by None is = keeps_itself itself (is_other c) s
          by (Some e) is = subst (λ c. NamedKeep Keeps (is_other c) s (changed_at (λ m. swept m e.1) e.0 s)) (joined c e is)
              (step_keeps (λ m. swept m e.1) e.0 e.1 s (swept_kept (value_at e.0 s) e.1))

-- ---- what undoing restores
module _ {M I : Type 0} (content : M → Cell → Content) (cell : I → Cell) (leads : I → Content → Content → Type 0) (IsReady : M → I → Type 0) (undone : M → I → M)
    (one_leads : (m : M) (i : I) → IsReady m i → leads i (content m (cell i)) (content (undone m i) (cell i))) where
  -- a ready image leads back what a name has, which has something
  leads_in : (o : Option M) (i : I) → IsReadyIn IsReady o i →
      leads i (of_value None (λ m. content m (cell i)) o) (of_value None (λ m. content m (cell i)) (option_map (λ m. undone m i) o))
  leads_in None i ready = absurd ready
  leads_in (Some m) i ready = one_leads m i ready

  -- undoing leads the cell back
  pub undone_leads : (s : Map M) (i : NamedImage I) → IsNamedReady IsReady s i →
      leads i.image (named_content content s (named_cell cell i)) (named_content content (named_undone undone s i) (named_cell cell i))
  undone_leads s i ready =
      let c = cell i.image in
      subst (λ x. leads i.image x (named_content content (named_undone undone s i) (named_cell cell i))) (sym (of_cell None content s i.name c))
      (subst (leads i.image (of_value None (λ m. content m c) (value_at i.name s)))
      (sym (of_cell None content (named_undone undone s i) i.name c ∙ ap (of_value None (λ m. content m c)) (here (λ m. undone m i.image) i.name s)))
      (leads_in (value_at i.name s) i.image ready))

-- ---- what was fixed
module _ {M F : Type 0} (fixed : M → F) where
  module _ {I : Type 0} (undone : M → I → M) (one_fixed : (m : M) (i : I) → fixed (undone m i) ≡ fixed m) where
    fixed_in : (o : Option M) (i : I) → option_map fixed (option_map (λ m. undone m i) o) ≡ option_map fixed o
    fixed_in None i = refl
    fixed_in (Some m) i = ap Some (one_fixed m i)

    -- undoing leaves what was fixed
    pub undone_fixed : (s : Map M) (i : NamedImage I) → named_fixed fixed (named_undone undone s i) ≡ named_fixed fixed s
    undone_fixed s i = λ at q. each_name (λ m. undone m i.image) i.name s (λ q o r. option_map fixed r ≡ option_map fixed o)
        (fixed_in (value_at i.name s) i.image) (λ q apart. refl) q at

  module _ (swept : M → Cell → M) (one_fixed : (m : M) (c : Cell) → fixed (swept m c) ≡ fixed m) where
    kept_in : (o : Option M) (c : Cell) → option_map fixed (option_map (λ m. swept m c) o) ≡ option_map fixed o
    kept_in None c = refl
    kept_in (Some m) c = ap Some (one_fixed m c)

    -- and so does sweeping
    pub swept_fixed : (s : Map M) (c : Cell) → named_fixed fixed (named_swept swept s c) ≡ named_fixed fixed s
    swept_fixed s c = by (split c)
      where
        by : (o : Option (Bytes × Cell)) → named_fixed fixed (split_swept swept s o) ≡ named_fixed fixed s
        by None = refl
        by (Some e) = λ at q. each_name (λ m. swept m e.1) e.0 s (λ q o r. option_map fixed r ≡ option_map fixed o)
            (kept_in (value_at e.0 s) e.1) (λ q apart. refl) q at

-- ---- sweeping leaves the contents
module _ {M : Type 0} (content : M → Cell → Content) (swept : M → Cell → M)
    (one_content : (m : M) (s c : Cell) → content (swept m s) c ≡ content m c) where
  -- sweeping what a name has leaves its contents, if it has something
  contents_in : (o : Option M) (k c : Cell) → of_value None (λ m. content m c) (option_map (λ m. swept m k) o) ≡ of_value None (λ m. content m c) o
  contents_in None k c = refl
  contents_in (Some m) k c = one_content m k c

  -- to sweep a cell leaves the contents of all cells
  pub swept_content : (s : Map M) (k c : Cell) → named_content content (named_swept swept s k) c ≡ named_content content s c
  swept_content s k c = by (split k) (split c)
    where
      by : (o r : Option (Bytes × Cell)) → of_split None content (split_swept swept s o) r ≡ of_split None content s r
      by None r = refl
      by (Some e) None = refl
      by (Some e) (Some f) = each_name (λ m. swept m e.1) e.0 s (λ q o r. of_value None (λ m. content m f.1) r ≡ of_value None (λ m. content m f.1) o)
          (contents_in (value_at e.0 s) e.1 f.1) (λ q apart. refl) f.0

-- ---- what is held back
-- a test says the same together with one that holds
and_true : (a : Bool) → a ≡ (a && true)
and_true true = refl
and_true false = refl

module _ {M : Type 0} (holds_back : M → Cell → Bool) where
  -- whether what a name has holds a cell back
  abbrev held : Cell → Option M → Bool
  held c o = of_value false (λ m. holds_back m c) o

  module _ {I : Type 0} (cell : I → Cell) (undone : M → I → M)
      (one_holds : (m : M) (i : I) (c : Cell) → is_other (cell i) c ≡ true → holds_back (undone m i) c ≡ holds_back m c) where
    held_undone : (o : Option M) (i : I) (c : Cell) → is_other (cell i) c ≡ true → held c (option_map (λ m. undone m i) o) ≡ held c o
    held_undone None i c other = refl
    held_undone (Some m) i c other = one_holds m i c other

    -- undoing leaves what is held back at every other cell
    pub undone_holds : (s : Map M) (i : NamedImage I) (c : Cell) → is_other (named_cell cell i) c ≡ true →
        named_holds holds_back (named_undone undone s i) c ≡ named_holds holds_back s c
    undone_holds s i c other = by (split c) refl
      where
        by : (o : Option (Bytes × Cell)) → split c ≡ o → of_split false holds_back (named_undone undone s i) o ≡ of_split false holds_back s o
        by None is = refl
        by (Some e) is = each_name (λ m. undone m i.image) i.name s (λ q o r. q ≡ e.0 → held e.1 r ≡ held e.1 o)
            (λ same. held_undone (value_at i.name s) i.image e.1
            (other_cell i.name (cell i.image) e.1 (subst (λ x. is_other (named_cell cell i) (cell_of x e.1) ≡ true) (sym same) (ap (is_other (named_cell cell i)) (joined c e is) ∙ other))))
            (λ q apart same. refl) e.0 refl

  module _ (swept : M → Cell → M) (one_holds : (m : M) (s c : Cell) → holds_back (swept m s) c ≡ (holds_back m c && is_other s c)) where
    held_swept : (o : Option M) (s c : Cell) → held c (option_map (λ m. swept m s) o) ≡ (held c o && is_other s c)
    held_swept None s c = refl
    held_swept (Some m) s c = one_holds m s c

    held_other : (o : Option M) (c : Cell) (b : Bool) → b ≡ true → held c o ≡ (held c o && b)
    held_other o c b pass = and_true (held c o) ∙ ap (λ x. held c o && x) (sym pass)

    -- at a swept cell nothing is held back any more
    pub swept_holds : (s : Map M) (k c : Cell) → named_holds holds_back (named_swept swept s k) c ≡ (named_holds holds_back s c && is_other k c)
    swept_holds s k c = by (split k) refl (split c) refl
      where
        by : (o : Option (Bytes × Cell)) → split k ≡ o → (r : Option (Bytes × Cell)) → split c ≡ r →
            of_split false holds_back (split_swept swept s o) r ≡ (of_split false holds_back s r && is_other k c)
        by None is r are = unsplit r are
          where
            unsplit : (r : Option (Bytes × Cell)) → split c ≡ r → of_split false holds_back s r ≡ (of_split false holds_back s r && is_other k c)
            unsplit None are = refl
            unsplit (Some f) are = held_other (value_at f.0 s) f.1 (is_other k c) (unsplit_other k c f is are)
        by (Some e) is None are = refl
        by (Some e) is (Some f) are =
            subst (λ x. of_split false holds_back (changed_at (λ m. swept m e.1) e.0 s) (Some f) ≡ (of_split false holds_back s (Some f) && is_other x c)) (joined k e is)
            (subst (λ x. of_split false holds_back (changed_at (λ m. swept m e.1) e.0 s) (Some f) ≡ (of_split false holds_back s (Some f) && is_other (cell_of e.0 e.1) x)) (joined c f are)
            (each_name (λ m. swept m e.1) e.0 s (λ q o r. held f.1 r ≡ (held f.1 o && is_other (cell_of e.0 e.1) (cell_of q f.1)))
            (held_swept (value_at e.0 s) e.1 f.1 ∙ ap (λ b. held f.1 (value_at e.0 s) && b) (sym (same_other e.0 e.1 f.1)))
            (λ q apart. held_other (value_at q s) f.1 (is_other (cell_of e.0 e.1) (cell_of q f.1)) (other_name e.0 q e.1 f.1 apart)) f.0))
