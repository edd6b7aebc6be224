-- Values that are grouped by keys: what they lead to is grouped alike if they are grouped first.
use Rattle.std.proofs.Common.{◌≡◌, Bool, true, false, ◌||◌, if◌then◌else◌, List, [], ◌∷◌, ◌++◌, refl, ap, sym, ◌∙◌, append-nil, subst}
use Rattle.std.specs.List.{flat_map}
use Rattle.std.specs.Bool.{Decides}
use Rattle.std.proofs.lemmas.Bool.{true≢false, false≢true}
use Rattle.cics_orders.specs.Space.Groups.{added, added_all}

-- the keys of entries
abbrev pub keys : {K X : Type 0} → List (K × X) → List K
keys [] = []
keys (e ∷ es) = e.0 ∷ keys es

-- a test that tells equal keys, and values that may be joined in any order
pub record AreLaws {K X : Type 0} (eq : K → K → Bool) (join : X → X → X) : Type 0 where
  pub same : (k l : K) → Decides (eq k l) (k ≡ l)
  pub assoc : (x y z : X) → join (join x y) z ≡ join x (join y z)
  pub swap : (x y z : X) → join (join x y) z ≡ join (join x z) y

module _ {K X : Type 0} (eq : K → K → Bool) (join : X → X → X) where
  -- a key is there
  abbrev pub has : List (K × X) → K → Bool
  has [] k = false
  has (e ∷ es) k = eq k e.0 || has es k

  -- all of these are there
  abbrev pub HasAll : List (K × X) → List K → Type 0
  HasAll t [] = Unit {0}
  HasAll t (k ∷ ks) = (has t k ≡ true) × HasAll t ks

  -- entries of the same keys, joined one by one
  abbrev pub merged : List (K × X) → List (K × X) → List (K × X)
  merged [] bs = []
  merged (a ∷ ps) [] = []
  merged (a ∷ ps) (b ∷ bs) = (a.0, join a.1 b.1) ∷ merged ps bs

  pub added_all-append : (t ps bs : List (K × X)) → added_all eq join t (ps ++ bs) ≡ added_all eq join (added_all eq join t ps) bs
  added_all-append t [] bs = refl
  added_all-append t (a ∷ ps) bs = added_all-append (added eq join t a.0 a.1) ps bs

or_left : (b c : Bool) → b ≡ true → (b || c) ≡ true
or_left true c is = refl
or_left false c is = absurd (false≢true is)

or_right : (b c : Bool) → c ≡ true → (b || c) ≡ true
or_right true c is = refl
or_right false c is = is

pub or_parts : (b c : Bool) → (b || c) ≡ false → (b ≡ false) × (c ≡ false)
or_parts true c is = absurd (true≢false is)
or_parts false c is = (refl, is)

heads : {K : Type 0} (k l : K) (ks ls : List K) → k ∷ ks ≡ l ∷ ls → (k ≡ l) × (ks ≡ ls)
heads k l ks ls is = (cc, cc)

module _ {K X : Type 0} (eq : K → K → Bool) (join : X → X → X) (laws : AreLaws eq join) where
  own : (k : K) → eq k k ≡ true
  own k = (laws.same k k).1 refl

  has_added : (t : List (K × X)) (k : K) (l : K) (y : X) → has eq join t k ≡ true → has eq join (added eq join t l y) k ≡ true
  has_added [] k l y there = absurd (false≢true there)
  has_added (e ∷ es) k l y there = by (has_added es k l y) (eq l e.0) (eq k e.0) refl there
    where
      by : (has eq join es k ≡ true → has eq join (added eq join es l y) k ≡ true) → (b c : Bool) → eq k e.0 ≡ c → (c || has eq join es k) ≡ true →
          has eq join (if b then (e.0, join e.1 y) ∷ es else e ∷ added eq join es l y) k ≡ true
      by rest true c at there = ap (λ d. d || has eq join es k) at ∙ there
      by rest false true at there = or_left _ _ at
      by rest false false at there = or_right _ _ (rest there)

  has_itself : (t : List (K × X)) (k : K) (x : X) → has eq join (added eq join t k x) k ≡ true
  has_itself [] k x = or_left _ _ (own k)
  has_itself (e ∷ es) k x = by (has_itself es k x) (eq k e.0) refl
    where
      by : has eq join (added eq join es k x) k ≡ true → (b : Bool) → eq k e.0 ≡ b → has eq join (if b then (e.0, join e.1 x) ∷ es else e ∷ added eq join es k x) k ≡ true
      by rest true at = or_left _ _ at
      by rest false at = or_right _ _ rest

  has_added_all : (ps t : List (K × X)) (k : K) → has eq join t k ≡ true → has eq join (added_all eq join t ps) k ≡ true
  has_added_all [] t k there = there
  has_added_all (a ∷ ps) t k there = has_added_all ps (added eq join t a.0 a.1) k (has_added t k a.0 a.1 there)

  -- a value of a key that is there may be added earlier or later
  added_swap : (t : List (K × X)) (k : K) (x : X) (l : K) (y : X) → has eq join t k ≡ true →
      added eq join (added eq join t k x) l y ≡ added eq join (added eq join t l y) k x
  added_swap [] k x l y there = absurd (false≢true there)
  added_swap (e ∷ es) k x l y there = by (added_swap es k x l y) (eq k e.0) (eq l e.0) refl refl there
    where
      by : (has eq join es k ≡ true → added eq join (added eq join es k x) l y ≡ added eq join (added eq join es l y) k x) → (b c : Bool) →
          eq k e.0 ≡ b → eq l e.0 ≡ c → (b || has eq join es k) ≡ true →
          added eq join (if b then (e.0, join e.1 x) ∷ es else e ∷ added eq join es k x) l y
          ≡ added eq join (if c then (e.0, join e.1 y) ∷ es else e ∷ added eq join es l y) k x
      by rest true true p q there = rw (p, q) (ap (λ z. (e.0, z) ∷ es) (laws.swap e.1 x y))
      by rest true false p q there = rw (p, q) refl
      by rest false true p q there = rw (p, q) refl
      by rest false false p q there = rw (p, q) (ap (λ fs. e ∷ fs) (rest there))

  added_all_swap : (ps t : List (K × X)) (k : K) (x : X) → has eq join t k ≡ true →
      added_all eq join (added eq join t k x) ps ≡ added eq join (added_all eq join t ps) k x
  added_all_swap [] t k x there = refl
  added_all_swap (a ∷ ps) t k x there =
      ap (λ u. added_all eq join u ps) (added_swap t k x a.0 a.1 there) ∙ added_all_swap ps (added eq join t a.0 a.1) k x (has_added t k a.0 a.1 there)

  -- a joined value is added as its parts are
  added_join : (t : List (K × X)) (k : K) (x y : X) → added eq join t k (join x y) ≡ added eq join (added eq join t k x) k y
  added_join [] k x y = rw (own k) refl
  added_join (e ∷ es) k x y = by (added_join es k x y) (eq k e.0) refl
    where
      by : added eq join es k (join x y) ≡ added eq join (added eq join es k x) k y → (b : Bool) → eq k e.0 ≡ b →
          (if b then (e.0, join e.1 (join x y)) ∷ es else e ∷ added eq join es k (join x y))
          ≡ added eq join (if b then (e.0, join e.1 x) ∷ es else e ∷ added eq join es k x) k y
      by rest true p = rw p (ap (λ z. (e.0, z) ∷ es) (sym (laws.assoc e.1 x y)))
      by rest false p = rw p (ap (λ fs. e ∷ fs) rest)

  -- and so are entries of the same keys
  pub added_merged : (ps bs t : List (K × X)) → keys ps ≡ keys bs →
      added_all eq join t (merged eq join ps bs) ≡ added_all eq join (added_all eq join t ps) bs
  added_merged [] [] t is = refl
  added_merged [] (b ∷ bs) t is = absurd cc
  added_merged (a ∷ ps) [] t is = absurd cc
  added_merged (a ∷ ps) (b ∷ bs) t is =
      let parts = heads a.0 b.0 (keys ps) (keys bs) is in
      added_merged ps bs (added eq join t a.0 (join a.1 b.1)) parts.1
      ∙ ap (λ u. added_all eq join (added_all eq join u ps) bs) (added_join t a.0 a.1 b.1)
      ∙ ap (λ u. added_all eq join u bs) (added_all_swap ps (added eq join t a.0 a.1) a.0 b.1 (has_itself t a.0 a.1))
      ∙ ap (λ k. added_all eq join (added eq join (added_all eq join (added eq join t a.0 a.1) ps) k b.1) bs) parts.0

  has_all_added : (ks : List K) (t : List (K × X)) (l : K) (y : X) → HasAll eq join t ks → HasAll eq join (added eq join t l y) ks
  has_all_added [] t l y there = tt
  has_all_added (k ∷ ks) t l y there = (has_added t k l y there.0, has_all_added ks t l y there.1)

  -- entries whose keys are there may be added earlier or later
  pub added_later : (bs ps t : List (K × X)) → HasAll eq join t (keys bs) →
      added_all eq join (added_all eq join t bs) ps ≡ added_all eq join (added_all eq join t ps) bs
  added_later [] ps t there = refl
  added_later (b ∷ bs) ps t there =
      added_later bs ps (added eq join t b.0 b.1) (has_all_added (keys bs) t b.0 b.1 there.1)
      ∙ ap (λ u. added_all eq join u bs) (added_all_swap ps t b.0 b.1 there.0)

  pub has_all_own : (ps t : List (K × X)) → HasAll eq join (added_all eq join t ps) (keys ps)
  has_all_own [] t = tt
  has_all_own (a ∷ ps) t = (has_added_all ps (added eq join t a.0 a.1) a.0 (has_itself t a.0 a.1), has_all_own ps (added eq join t a.0 a.1))

-- ---- What grouped values lead to

-- each of these is so
abbrev pub Each : {X : Type 0} → (X → Type 0) → List X → Type 0
Each P [] = Unit {0}
Each P (x ∷ xs) = P x × Each P xs

-- Entries that are so, and what they lead to: of one key, they lead to the same keys, and joined to
-- the same joined.
pub record Leads {K X L Y : Type 0} (join : X → X → X) (eq : L → L → Bool) (join_too : Y → Y → Y) (spread : K × X → List (L × Y)) (P : K × X → Type 0) : Type 0 where
  pub stays : (g : K × X) (x : X) → P g → P (g.0, join g.1 x)
  pub alike : (g e : K × X) → P g → P e → g.0 ≡ e.0 → keys (spread g) ≡ keys (spread e)
  pub merges : (g e : K × X) → P g → P e → g.0 ≡ e.0 → spread (g.0, join g.1 e.1) ≡ merged eq join_too (spread g) (spread e)

module _ {K X L Y : Type 0} (eq : K → K → Bool) (join : X → X → X) (laws : AreLaws eq join)
    (eq_too : L → L → Bool) (join_too : Y → Y → Y) (laws_too : AreLaws eq_too join_too)
    (spread : K × X → List (L × Y)) (P : K × X → Type 0) (leads : Leads join eq_too join_too spread P) where
  each_added : (gs : List (K × X)) (e : K × X) → Each P gs → P e → Each P (added eq join gs e.0 e.1)
  each_added [] e so is = (is, tt)
  each_added (g ∷ gs) e so is = by (each_added gs e so.1 is) (eq e.0 g.0)
    where
      by : Each P (added eq join gs e.0 e.1) → (b : Bool) → Each P (if b then (g.0, join g.1 e.1) ∷ gs else g ∷ added eq join gs e.0 e.1)
      by rest true = (leads.stays g e.1 so.0, so.1)
      by rest false = (so.0, rest)

  pub each_added_all : (es gs : List (K × X)) → Each P gs → Each P es → Each P (added_all eq join gs es)
  each_added_all [] gs so is = so
  each_added_all (e ∷ es) gs so is = each_added_all es (added eq join gs e.0 e.1) (each_added gs e so is.0) is.1

  spread_added : (gs : List (K × X)) (t : List (L × Y)) (e : K × X) → Each P gs → P e →
      added_all eq_too join_too t (flat_map spread (added eq join gs e.0 e.1))
      ≡ added_all eq_too join_too (added_all eq_too join_too t (flat_map spread gs)) (spread e)
  spread_added [] t e so is = ap (added_all eq_too join_too t) (append-nil (spread e))
  spread_added (g ∷ gs) t e so is = by (spread_added gs (added_all eq_too join_too t (spread g)) e so.1 is) (eq e.0 g.0) refl
    where
      more : List (L × Y)
      more = flat_map spread gs

      by : added_all eq_too join_too (added_all eq_too join_too t (spread g)) (flat_map spread (added eq join gs e.0 e.1))
          ≡ added_all eq_too join_too (added_all eq_too join_too (added_all eq_too join_too t (spread g)) more) (spread e) →
          (b : Bool) → eq e.0 g.0 ≡ b →
          added_all eq_too join_too t (flat_map spread (if b then (g.0, join g.1 e.1) ∷ gs else g ∷ added eq join gs e.0 e.1))
          ≡ added_all eq_too join_too (added_all eq_too join_too t (spread g ++ more)) (spread e)
      by rest true p =
          let one : g.0 ≡ e.0 = sym ((laws.same e.0 g.0).0 p) in
          let alike = leads.alike g e so.0 is one in
          added_all-append eq_too join_too t (spread (g.0, join g.1 e.1)) more
          ∙ ap (λ es. added_all eq_too join_too (added_all eq_too join_too t es) more) (leads.merges g e so.0 is one)
          ∙ ap (λ u. added_all eq_too join_too u more) (added_merged eq_too join_too laws_too (spread g) (spread e) t alike)
          ∙ added_later eq_too join_too laws_too (spread e) more (added_all eq_too join_too t (spread g))
          (subst (HasAll eq_too join_too (added_all eq_too join_too t (spread g))) alike (has_all_own eq_too join_too laws_too (spread g) t))
          ∙ ap (λ u. added_all eq_too join_too u (spread e)) (sym (added_all-append eq_too join_too t (spread g) more))
      by rest false p =
          added_all-append eq_too join_too t (spread g) (flat_map spread (added eq join gs e.0 e.1)) ∙ rest
          ∙ ap (λ u. added_all eq_too join_too u (spread e)) (sym (added_all-append eq_too join_too t (spread g) more))

  -- what grouped values lead to is grouped as what each of them leads to
  pub regrouped : (es gs : List (K × X)) (t : List (L × Y)) → Each P gs → Each P es →
      added_all eq_too join_too t (flat_map spread (added_all eq join gs es))
      ≡ added_all eq_too join_too (added_all eq_too join_too t (flat_map spread gs)) (flat_map spread es)
  regrouped [] gs t so is = refl
  regrouped (e ∷ es) gs t so is =
      regrouped es (added eq join gs e.0 e.1) t (each_added gs e so is.0) is.1
      ∙ ap (λ u. added_all eq_too join_too u (flat_map spread es)) (spread_added gs t e so is.0)
      ∙ sym (added_all-append eq_too join_too (added_all eq_too join_too t (flat_map spread gs)) (spread e) (flat_map spread es))
