-- The levels above a row of keys: what they are after a key is added or replaced, and how the first
-- key below a limit is found.
use Rattle.std.specs.Prelude.{◌≡◌, ◌<◌, ◌≤◌, ℕ, ◌+◌, ◌-◌, ◌*◌, ◌/◌, ◌%◌, min, Some, None, List, [], ◌∷◌, ◌++◌, length, All, Vec, slice_get, slice_set, slice_index_or, refl}
use Rattle.std.specs.declared.alloc.Global.{Global}
use Rattle.std.proofs.Common.{zero, suc, sym, ap, ◌∙◌, subst, arith}
use Rattle.std.proofs.Math.Nat.{min-le_left, min-le_right}
use Rattle.std.proofs.lemmas.Option.{slice_get_within}
use Rattle.cics_dispatch.specs.Notes.Firsts.{lesser_of_pairs, last_of, level_at, AreAbove, IsFirstBelow}

-- ---- The pairs of a level

half : (n : ℕ) → suc (suc n) / 2 ≡ suc (n / 2)
half n = omega arith

-- a pair of which the level has both keys
pub lesser_at : (keys : List ℕ) (pair : ℕ) → pair * 2 + 1 < length keys → slice_get (lesser_of_pairs keys) pair ≡ Some (min (slice_index_or keys (pair * 2) 0) (slice_index_or keys (pair * 2 + 1) 0))
lesser_at [] pair within = absurd (omega arith)
lesser_at (a ∷ []) pair within = absurd (omega arith)
lesser_at (a ∷ b ∷ keys) zero within = refl
lesser_at (a ∷ b ∷ keys) (suc pair) within =
    let first : suc pair * 2 ≡ suc (suc (pair * 2)) = omega arith in
    let second : suc pair * 2 + 1 ≡ suc (suc (pair * 2 + 1)) = omega arith in
    let less : pair * 2 + 1 < length keys = omega arith in
    lesser_at keys pair less
    ∙ (λ i. Some (min (slice_index_or (a ∷ b ∷ keys) (sym first i) 0) (slice_index_or (a ∷ b ∷ keys) (sym second i) 0)))

-- the last key, if it is alone
pub lesser_last : (keys : List ℕ) (pair : ℕ) → pair * 2 < length keys → length keys ≤ pair * 2 + 1 → slice_get (lesser_of_pairs keys) pair ≡ Some (slice_index_or keys (pair * 2) 0)
lesser_last [] pair within last = absurd (omega arith)
lesser_last (a ∷ []) zero within last = refl
lesser_last (a ∷ []) (suc pair) within last = absurd (omega arith)
lesser_last (a ∷ b ∷ keys) zero within last = absurd (omega arith)
lesser_last (a ∷ b ∷ keys) (suc pair) within last =
    let first : suc pair * 2 ≡ suc (suc (pair * 2)) = omega arith in
    let less : pair * 2 < length keys = omega arith in
    let more : length keys ≤ pair * 2 + 1 = omega arith in
    lesser_last keys pair less more
    ∙ (λ i. Some (slice_index_or (a ∷ b ∷ keys) (sym first i) 0))

-- a key has its pair
pub pair_within : (keys : List ℕ) (at : ℕ) → at < length keys → at / 2 < length (lesser_of_pairs keys)
pair_within [] at within = absurd (omega arith)
pair_within (a ∷ []) zero within = omega arith
pair_within (a ∷ []) (suc at) within = absurd (omega arith)
pair_within (a ∷ b ∷ keys) zero within = omega arith
pair_within (a ∷ b ∷ keys) (suc zero) within = omega arith
pair_within (a ∷ b ∷ keys) (suc (suc at)) within =
    let less : at < length keys = omega arith in
    let rest : at / 2 < length (lesser_of_pairs keys) = pair_within keys at less in
    omega arith

-- a pair has its first key
pub key_within : (keys : List ℕ) (pair : ℕ) → pair < length (lesser_of_pairs keys) → pair * 2 < length keys
key_within [] pair within = absurd (omega arith)
key_within (a ∷ []) zero within = omega arith
key_within (a ∷ []) (suc pair) within = absurd (omega arith)
key_within (a ∷ b ∷ keys) zero within = omega arith
key_within (a ∷ b ∷ keys) (suc pair) within =
    let less : pair < length (lesser_of_pairs keys) = omega arith in
    let rest : pair * 2 < length keys = key_within keys pair less in
    omega arith

-- ---- Another key, and one more

-- a key that is replaced changes its own pair alone
pair_set : (keys : List ℕ) (at key least : ℕ) → at < length keys → slice_get (lesser_of_pairs (slice_set keys at key)) (at / 2) ≡ Some least →
    slice_set (lesser_of_pairs keys) (at / 2) least ≡ lesser_of_pairs (slice_set keys at key)
pair_set [] at key least within is = absurd (omega arith)
pair_set (a ∷ []) zero key least within is = cc
pair_set (a ∷ []) (suc at) key least within is = absurd (omega arith)
pair_set (a ∷ b ∷ keys) zero key least within is = cc
pair_set (a ∷ b ∷ keys) (suc zero) key least within is = cc
pair_set (a ∷ b ∷ keys) (suc (suc at)) key least within is =
    let less : at < length keys = omega arith in
    let there = subst (λ n. slice_get (min a b ∷ lesser_of_pairs (slice_set keys at key)) n ≡ Some least) (half at) is in
    subst (λ n. slice_set (min a b ∷ lesser_of_pairs keys) n least ≡ min a b ∷ lesser_of_pairs (slice_set keys at key)) (sym (half at))
    (ap (λ l. min a b ∷ l) (pair_set keys at key least less there))

-- one more key makes one more pair behind pairs that are whole
pair_opened : (keys : List ℕ) (key least : ℕ) → length keys % 2 ≡ 0 → slice_get (lesser_of_pairs (keys ++ key ∷ [])) (length keys / 2) ≡ Some least →
    lesser_of_pairs keys ++ least ∷ [] ≡ lesser_of_pairs (keys ++ key ∷ [])
pair_opened [] key least even is = cc
pair_opened (a ∷ []) key least even is = absurd (omega arith)
pair_opened (a ∷ b ∷ keys) key least even is =
    let rest : length keys % 2 ≡ 0 = omega arith in
    let there = subst (λ n. slice_get (min a b ∷ lesser_of_pairs (keys ++ key ∷ [])) n ≡ Some least) (half (length keys)) is in
    ap (λ l. min a b ∷ l) (pair_opened keys key least rest there)

-- one more key makes a pair of a key that was alone
pair_filled : (keys : List ℕ) (key least : ℕ) → length keys % 2 ≡ 1 → slice_get (lesser_of_pairs (keys ++ key ∷ [])) (length keys / 2) ≡ Some least →
    slice_set (lesser_of_pairs keys) (length keys / 2) least ≡ lesser_of_pairs (keys ++ key ∷ [])
pair_filled [] key least odd is = absurd (omega arith)
pair_filled (a ∷ []) key least odd is = cc
pair_filled (a ∷ b ∷ keys) key least odd is =
    let rest : length keys % 2 ≡ 1 = omega arith in
    let there = subst (λ n. slice_get (min a b ∷ lesser_of_pairs (keys ++ key ∷ [])) n ≡ Some least) (half (length keys)) is in
    subst (λ n. slice_set (min a b ∷ lesser_of_pairs keys) n least ≡ min a b ∷ lesser_of_pairs (keys ++ key ∷ [])) (sym (half (length keys)))
    (ap (λ l. min a b ∷ l) (pair_filled keys key least rest there))

-- a number of keys that isn't even is odd
not_even : (keys : List ℕ) → (length keys % 2 ≡ 0 → ⊥) → length keys % 2 ≡ 1
not_even keys odd = by (length keys % 2) odd (omega arith)
  where
    by : (n : ℕ) → (n ≡ 0 → ⊥) → n < 2 → n ≡ 1
    by zero odd less = absurd (odd refl)
    by (suc zero) odd less = refl
    by (suc (suc n)) odd less = absurd (omega arith)

-- a key that is alone stands in a pair
odd_within : (keys : List ℕ) → length keys % 2 ≡ 1 → length keys / 2 < length (lesser_of_pairs keys)
odd_within [] odd = absurd (omega arith)
odd_within (a ∷ []) odd = omega arith
odd_within (a ∷ b ∷ keys) odd =
    let rest : length keys / 2 < length (lesser_of_pairs keys) = odd_within keys (omega arith) in
    omega arith

-- so it does in the pairs as they are stored
pub alone_within : (keys pairs : List ℕ) (at : ℕ) → pairs ≡ lesser_of_pairs keys → at ≡ length keys → (at % 2 ≡ 0 → ⊥) → at / 2 < length pairs
alone_within keys pairs at is counted odd =
    let there : length keys / 2 < length (lesser_of_pairs keys) = odd_within keys (not_even keys (λ even. odd (ap (λ n. n % 2) counted ∙ even))) in
    subst (λ l. at / 2 < length l) (sym is) (subst (λ n. n / 2 < length (lesser_of_pairs keys)) (sym counted) there)

-- ---- The first key below a limit

module _ (limit : ℕ) where
  -- it is the very first
  first_here : (k : ℕ) (keys : List ℕ) → k < limit → IsFirstBelow (k ∷ keys) limit 0
  first_here k keys below = record { key = k; there = refl; below = below; before = λ i x less is. absurd (omega arith) }

  -- one more before it that is no less than the limit
  first_later : (k : ℕ) (keys : List ℕ) (at : ℕ) → limit ≤ k → IsFirstBelow keys limit at → IsFirstBelow (k ∷ keys) limit (suc at)
  first_later k keys at passed first = record {
    key = first.key;
    there = first.there;
    below = first.below;
    before = before;
  }
    where
      before : (i x : ℕ) → i < suc at → slice_get (k ∷ keys) i ≡ Some x → limit ≤ x
      before zero x less is = let same : k ≡ x = cc in subst (λ n. limit ≤ n) same passed
      before (suc i) x less is = first.before i x (omega arith) is

  -- the first one behind the first key
  pub first_rest : (k : ℕ) (keys : List ℕ) (at : ℕ) → IsFirstBelow (k ∷ keys) limit (suc at) → IsFirstBelow keys limit at
  first_rest k keys at first = record {
    key = first.key;
    there = first.there;
    below = first.below;
    before = λ i x less is. first.before (suc i) x (omega arith) is;
  }

  -- of the first pair whose lesser key is below the limit the first key is found, if that is below
  -- the limit
  pub first_key_of_pair : (keys : List ℕ) (pair : ℕ) → IsFirstBelow (lesser_of_pairs keys) limit pair → slice_index_or keys (pair * 2) 0 < limit → IsFirstBelow keys limit (pair * 2)
  first_key_of_pair [] pair first below = absurd (never first.there)
    where
      never : None ≡ Some first.key → ⊥
      never e = cc
  first_key_of_pair (a ∷ []) zero first below = first_here a [] below
  first_key_of_pair (a ∷ []) (suc pair) first below = absurd (never first.there)
    where
      never : None ≡ Some first.key → ⊥
      never e = cc
  first_key_of_pair (a ∷ b ∷ keys) zero first below = first_here a (b ∷ keys) below
  first_key_of_pair (a ∷ b ∷ keys) (suc pair) first below =
      let place : suc pair * 2 ≡ suc (suc (pair * 2)) = omega arith in
      let least : limit ≤ min a b = first.before 0 (min a b) (omega arith) refl in
      let one : limit ≤ a = omega (arith, min-le_left a b) in
      let two : limit ≤ b = omega (arith, min-le_right a b) in
      let rest = first_rest (min a b) (lesser_of_pairs keys) pair first in
      let less = subst (λ n. slice_index_or (a ∷ b ∷ keys) n 0 < limit) place below in
      subst (IsFirstBelow (a ∷ b ∷ keys) limit) (sym place)
      (first_later a (b ∷ keys) (suc (pair * 2)) one (first_later b keys (pair * 2) two (first_key_of_pair keys pair rest less)))

  -- and the second if that isn't
  pub second_key_of_pair : (keys : List ℕ) (pair : ℕ) → IsFirstBelow (lesser_of_pairs keys) limit pair → limit ≤ slice_index_or keys (pair * 2) 0 → IsFirstBelow keys limit (pair * 2 + 1)
  second_key_of_pair [] pair first above = absurd (never first.there)
    where
      never : None ≡ Some first.key → ⊥
      never e = cc
  second_key_of_pair (a ∷ []) zero first above = let same : a ≡ first.key = the_key first.there in absurd (omega arith)
    where
      the_key : Some a ≡ Some first.key → a ≡ first.key
      the_key e = cc
  second_key_of_pair (a ∷ []) (suc pair) first above = absurd (never first.there)
    where
      never : None ≡ Some first.key → ⊥
      never e = cc
  second_key_of_pair (a ∷ b ∷ keys) zero first above =
      let same : min a b ≡ first.key = the_key first.there in
      let least : b < limit = omega arith in
      first_later a (b ∷ keys) 0 above (first_here b keys least)
    where
      the_key : Some (min a b) ≡ Some first.key → min a b ≡ first.key
      the_key e = cc
  second_key_of_pair (a ∷ b ∷ keys) (suc pair) first above =
      let place : suc pair * 2 ≡ suc (suc (pair * 2)) = omega arith in
      let place_1 : suc pair * 2 + 1 ≡ suc (suc (pair * 2 + 1)) = omega arith in
      let least : limit ≤ min a b = first.before 0 (min a b) (omega arith) refl in
      let one : limit ≤ a = omega (arith, min-le_left a b) in
      let two : limit ≤ b = omega (arith, min-le_right a b) in
      let rest = first_rest (min a b) (lesser_of_pairs keys) pair first in
      let more = subst (λ n. limit ≤ slice_index_or (a ∷ b ∷ keys) n 0) place above in
      subst (IsFirstBelow (a ∷ b ∷ keys) limit) (sym place_1)
      (first_later a (b ∷ keys) (suc (pair * 2 + 1)) one (first_later b keys (pair * 2 + 1) two (second_key_of_pair keys pair rest more)))

  -- if no pair has a key below the limit, no key is below it
  pub no_pair : (keys : List ℕ) → All (λ k. limit ≤ k) (lesser_of_pairs keys) → All (λ k. limit ≤ k) keys
  no_pair [] none i d within = absurd (omega arith)
  no_pair (a ∷ []) none i d within = none i d within
  no_pair (a ∷ b ∷ keys) none zero d within = let least : limit ≤ min a b = none 0 0 (omega arith) in omega (arith, min-le_left a b)
  no_pair (a ∷ b ∷ keys) none (suc zero) d within = let least : limit ≤ min a b = none 0 0 (omega arith) in omega (arith, min-le_right a b)
  no_pair (a ∷ b ∷ keys) none (suc (suc i)) d within = no_pair keys (λ k e less. none (suc k) e (omega arith)) i d (omega arith)

  -- if no key of the last level is below the limit, no key is
  pub none_below : (keys : List ℕ) (levels : List (Vec ℕ Global)) → AreAbove keys levels → All (λ k. limit ≤ k) (last_of keys levels) → All (λ k. limit ≤ k) keys
  none_below keys [] above none = none
  none_below keys (l ∷ ls) above none = no_pair keys (subst (All (λ k. limit ≤ k)) above.0 (none_below l.items ls above.1 none))

-- ---- The level so many above the keys

-- it has the lesser keys of the level below it
pub pairs_of_level : (keys : List ℕ) (levels : List (Vec ℕ Global)) (place : ℕ) → AreAbove keys levels → place < length levels → level_at keys levels (suc place) ≡ lesser_of_pairs (level_at keys levels place)
pairs_of_level keys [] place above within = absurd (omega arith)
pairs_of_level keys (l ∷ ls) zero above within = above.0
pairs_of_level keys (l ∷ ls) (suc place) above within = pairs_of_level l.items ls place above.1 (omega arith)

-- the last one
pub last_place : (keys : List ℕ) (levels : List (Vec ℕ Global)) → last_of keys levels ≡ level_at keys levels (length levels)
last_place keys [] = refl
last_place keys (l ∷ ls) = last_place l.items ls

-- one that stands above the keys
pub level_found : (keys : List ℕ) (levels : List (Vec ℕ Global)) (at : ℕ) (l : Vec ℕ Global) → at < length levels → l ≡ slice_index_or levels at l → l.items ≡ level_at keys levels (suc at)
level_found keys [] at l within is = absurd (omega arith)
level_found keys (x ∷ levels) zero l within is = ap (λ v. v.items) is
level_found keys (x ∷ levels) (suc at) l within is = level_found x.items levels at l (omega arith) is

-- ---- The last level

-- a level of one key above the last, of which that is the one pair
one_above : (keys : List ℕ) (levels : List (Vec ℕ Global)) (level : Vec ℕ Global) → AreAbove keys levels → level.items ≡ lesser_of_pairs (last_of keys levels) → AreAbove keys (levels ++ level ∷ [])
one_above keys [] level above is = (is, tt)
one_above keys (l ∷ ls) level above is = (above.0, one_above l.items ls level above.1 is)

-- of two keys the lesser is all that stands above them
one_pair : (keys : List ℕ) (least : ℕ) → length keys ≡ 2 → slice_get (lesser_of_pairs keys) 0 ≡ Some least → least ∷ [] ≡ lesser_of_pairs keys
one_pair [] least two is = absurd (omega arith)
one_pair (a ∷ []) least two is = absurd (omega arith)
one_pair (a ∷ b ∷ []) least two is = cc
one_pair (a ∷ b ∷ c ∷ keys) least two is = absurd (omega arith)

-- the last of the levels, if there is one
pub last_found : (keys : List ℕ) (levels : List (Vec ℕ Global)) (l : Vec ℕ Global) → Some l ≡ slice_get levels (length levels - 1) → l.items ≡ last_of keys levels
last_found keys [] l is = absurd (never is)
  where
    never : Some l ≡ None → ⊥
    never e = cc
last_found keys (x ∷ []) l is = let same : l ≡ x = cc in ap (λ v. v.items) same
last_found keys (x ∷ y ∷ levels) l is =
    let place : length (x ∷ y ∷ levels) - 1 ≡ suc (length (y ∷ levels) - 1) = omega arith in
    last_found x.items (y ∷ levels) l (subst (λ n. Some l ≡ slice_get (x ∷ y ∷ levels) n) place is)

-- ---- The level above the keys

-- a pair that has the first key below a limit is within the keys
pub first_pair_within : (keys : List ℕ) (limit pair : ℕ) → IsFirstBelow (lesser_of_pairs keys) limit pair → pair * 2 < length keys
first_pair_within keys limit pair first = key_within keys pair (slice_get_within (lesser_of_pairs keys) pair first.key first.there)

-- ---- The first of the levels, parted from the others

module _ (keys : List ℕ) (levels front back : List (Vec ℕ Global)) (d : Vec ℕ Global) (split : levels ≡ front ++ back) (one : length front ≡ 1) (above : AreAbove keys levels) where
  -- the level that is parted from the others has the lesser keys, and those stand above it
  pub parted : ((slice_index_or front 0 d).items ≡ lesser_of_pairs keys) × AreAbove (slice_index_or front 0 d).items back
  parted = by front one (subst (AreAbove keys) split above)
    where
      by : (f : List (Vec ℕ Global)) → length f ≡ 1 → AreAbove keys (f ++ back) → ((slice_index_or f 0 d).items ≡ lesser_of_pairs keys) × AreAbove (slice_index_or f 0 d).items back
      by [] one are = absurd (omega arith)
      by (l ∷ []) one are = are
      by (l ∷ m ∷ ls) one are = absurd (omega arith)

  -- with the lesser keys of another row it stands above that
  joined : (others : List ℕ) (level : Vec ℕ Global) (rest : List (Vec ℕ Global)) → level.items ≡ lesser_of_pairs others → AreAbove level.items rest → AreAbove others (slice_set front 0 level ++ rest)
  joined others level rest is are = by front one
    where
      by : (f : List (Vec ℕ Global)) → length f ≡ 1 → AreAbove others (slice_set f 0 level ++ rest)
      by [] one = absurd (omega arith)
      by (l ∷ []) one = (is, are)
      by (l ∷ m ∷ ls) one = absurd (omega arith)

  module _ (level : Vec ℕ Global) (rest : List (Vec ℕ Global)) (are : AreAbove level.items rest) (read : List ℕ) (key least : ℕ) where
    -- one key is replaced
    pub set_above : (at : ℕ) → at < length keys → read ≡ slice_set keys at key → slice_get (lesser_of_pairs read) (at / 2) ≡ Some least →
        level.items ≡ slice_set (slice_index_or front 0 d).items (at / 2) least → AreAbove (slice_set keys at key) (slice_set front 0 level ++ rest)
    set_above at within is there put =
        joined (slice_set keys at key) level rest
        (put ∙ ap (λ l. slice_set l (at / 2) least) parted.0 ∙ pair_set keys at key least within (subst (λ l. slice_get (lesser_of_pairs l) (at / 2) ≡ Some least) is there)) are

    module _ (at : ℕ) (counted : at ≡ length keys) (is : read ≡ keys ++ key ∷ []) (there : slice_get (lesser_of_pairs read) (at / 2) ≡ Some least) where
      -- the lesser key of the last pair
      last_least : slice_get (lesser_of_pairs (keys ++ key ∷ [])) (length keys / 2) ≡ Some least
      last_least = ap (λ l. slice_get (lesser_of_pairs l) (length keys / 2)) (sym is) ∙ ap (λ n. slice_get (lesser_of_pairs read) (n / 2)) (sym counted) ∙ there

      -- one key more, which opens a pair
      pub opened_above : at % 2 ≡ 0 → level.items ≡ (slice_index_or front 0 d).items ++ least ∷ [] → AreAbove read (slice_set front 0 level ++ rest)
      opened_above even put =
          joined read level rest
          (put ∙ ap (λ l. l ++ least ∷ []) parted.0 ∙ pair_opened keys key least (ap (λ n. n % 2) (sym counted) ∙ even) last_least ∙ ap lesser_of_pairs (sym is)) are

      -- one key more, which fills the last pair
      pub filled_above : (at % 2 ≡ 0 → ⊥) → level.items ≡ slice_set (slice_index_or front 0 d).items (at / 2) least → AreAbove read (slice_set front 0 level ++ rest)
      filled_above odd put =
          joined read level rest
          (put ∙ ap (λ l. slice_set l (at / 2) least) parted.0 ∙ ap (λ n. slice_set (lesser_of_pairs keys) (n / 2) least) counted
          ∙ pair_filled keys key least (not_even keys (λ even. odd (ap (λ n. n % 2) counted ∙ even))) last_least ∙ ap lesser_of_pairs (sym is)) are

-- ---- One level more

-- above a last level of two keys stands one of their lesser key
pub raised : (keys last : List ℕ) (levels : List (Vec ℕ Global)) (level : Vec ℕ Global) (least : ℕ) → AreAbove keys levels → last ≡ last_of keys levels → length last ≡ 2 →
    slice_get (lesser_of_pairs last) 0 ≡ Some least → level.items ≡ least ∷ [] → AreAbove keys (levels ++ level ∷ [])
raised keys last levels level least above read two there made =
    one_above keys levels level above (made ∙ one_pair last least two there ∙ ap lesser_of_pairs read)
