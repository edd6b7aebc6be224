-- Key heads: what they say of the order of keys.
use Rattle.std.proofs.Common.{◌≡◌, ℕ, zero, suc, ◌+◌, ◌-◌, ◌<◌, ◌≤◌, min, [], ◌∷◌, ◌++◌, length, take, drop, set, replicate, get_or, true, false, leb, cond, refl, sym, ◌∙◌, ap, subst, arith}
use Rattle.std.specs.declared.cmp.Ordering.{Ordering}
use Rattle.std.specs.declared.cmp.Ordering.TheVariants.{Less, Equal, Greater}
use Rattle.std.specs.Ordering.{nat_cmp, ordering_then, ordering_reverse, MatchOrdering}
use Rattle.std.specs.Cmp.{ranks, nat_cmp_is, tied_itself}
use Rattle.std.specs.Cmp.Lexicographic.{nat_list_cmp_total}
use Rattle.std.proofs.lemmas.Bool.{leb-true, leb-false}
use borrow.Rule.Slice.PartMut.{put_mid}
use Rattle.std.proofs.lemmas.List.{length-take-le, take_at, drop_at, drop-drop}
use Rattle.cics_names.specs.Keyed.{Bytes, bytes_cmp}
use Rattle.cics_names.specs.KeyedLaws.{same_bytes}
use Rattle.cics_enqueue.specs.Keys.{first_or_zero, behind, padded, head_of, long_of, bytes_of, AreParts}

-- ---- A key and its parts
-- bytes that fit are read back from the padded ones
taken : (n : ℕ) (k r : Bytes) → length k ≤ n → take (length k) (padded n k ++ r) ≡ k
taken n [] r p = refl
taken zero (x ∷ k) r p = absurd (omega (arith, p))
taken (suc n) (x ∷ k) r p = ap (λ t. x ∷ t) (taken n k r (omega (arith, p)))

-- a key is read back from its parts
pub bytes_of-parts : (k : Bytes) → bytes_of (head_of k) (long_of k) ≡ k
bytes_of-parts k = elim (leb (length k) 23) as (λ b. leb (length k) 23 ≡ b → bytes_of (head_of k) (cond b [] k) ≡ k) [
  | true ↦ λ fits.
      let p : length k ≤ 23 = leb-true (length k) 23 fits in
      (λ i. take (n_is p i) (head_of k)) ∙ taken 23 k (min (length k) 24 ∷ []) p
  | false ↦ λ more. outside k (leb-false (length k) 23 more)
] refl
  where
    n_is : length k ≤ 23 → min (length k) 24 ≡ length k
    n_is p = omega (arith, p)

    outside : (k : Bytes) → 23 < length k → bytes_of (head_of k) k ≡ k
    outside [] p = absurd (omega (arith, p))
    outside (x ∷ k) p = refl

-- the parts of one key belong together
pub AreParts-made : (h l k : Bytes) → h ≡ head_of k → l ≡ long_of k → AreParts h l
AreParts-made h l k head long =
    let key : bytes_of h l ≡ k = (λ i. bytes_of (head i) (long i)) ∙ bytes_of-parts k in
    record { head_is = head ∙ ap head_of (sym key); long_is = long ∙ ap long_of (sym key) }

-- ---- The order of heads
-- the lesser first byte decides
by_first : (k l : Bytes) → first_or_zero k < first_or_zero l → bytes_cmp k l ≡ Less
by_first [] [] less = absurd (omega (arith, less))
by_first [] (y ∷ l) less = refl
by_first (x ∷ k) [] less = absurd (omega (arith, less))
by_first (x ∷ k) (y ∷ l) less = ap (λ o. ordering_then o (bytes_cmp k l)) (sym (nat_cmp_is x y Less less))

-- behind first bytes that are one the rest decides
by_rest : (k l : Bytes) → first_or_zero k ≡ first_or_zero l → bytes_cmp (behind k) (behind l) ≡ Less → bytes_cmp k l ≡ Less
by_rest [] [] same less = less
by_rest [] (y ∷ l) same less = refl
by_rest (x ∷ []) [] same less = cc
by_rest (x ∷ z ∷ k) [] same less = cc
by_rest (x ∷ k) (y ∷ l) same less = ap (λ o. ordering_then o (bytes_cmp k l)) (sym (nat_cmp_is x y Equal same)) ∙ less

turned : (k l : Bytes) → bytes_cmp l k ≡ Less → bytes_cmp k l ≡ Greater
turned k l less = nat_list_cmp_total.antisymm k l ∙ ap ordering_reverse less

next : (k l a b : Bytes) → (bytes_cmp a b ≡ Less → bytes_cmp (behind k) (behind l) ≡ Less) → ordering_then (nat_cmp (first_or_zero k) (first_or_zero l)) (bytes_cmp a b) ≡ Less → bytes_cmp k l ≡ Less
next k l a b rest is = by (nat_cmp (first_or_zero k) (first_or_zero l)) (ranks (first_or_zero k) (first_or_zero l)) is
  where
    by : (o : Ordering) → MatchOrdering o (first_or_zero k < first_or_zero l) (first_or_zero k ≡ first_or_zero l) (first_or_zero l < first_or_zero k) → ordering_then o (bytes_cmp a b) ≡ Less → bytes_cmp k l ≡ Less
    by Less first is = by_first k l first
    by Equal first is = by_rest k l first (rest is)
    by Greater first is = cc

-- a key is less if its padded bytes with the number behind them are less. A lesser number is that
-- of a shorter key, all of whose bytes are among the padded ones
less : (n : ℕ) (k l : Bytes) (s t : ℕ) → (s < t → (length k ≤ n) × (length k < length l)) → bytes_cmp (padded n k ++ s ∷ []) (padded n l ++ t ∷ []) ≡ Less → bytes_cmp k l ≡ Less
less zero k l s t shorter is = by (nat_cmp s t) (ranks s t) is
  where
    ended : (k l : Bytes) → length k ≤ 0 → length k < length l → bytes_cmp k l ≡ Less
    ended [] [] p q = absurd (omega (arith, q))
    ended [] (y ∷ l) p q = refl
    ended (x ∷ k) l p q = absurd (omega (arith, p))

    by : (o : Ordering) → MatchOrdering o (s < t) (s ≡ t) (t < s) → ordering_then o Equal ≡ Less → bytes_cmp k l ≡ Less
    by Less p is = ended k l (shorter p).0 (shorter p).1
    by Equal p is = cc
    by Greater p is = cc
less (suc n) [] (y ∷ l) s t shorter is = refl
less (suc n) [] [] s t shorter is = next [] [] (padded n [] ++ s ∷ []) (padded n [] ++ t ∷ []) (less n [] [] s t (λ p. let q : 0 < 0 = (shorter p).1 in absurd (omega (arith, q)))) is
less (suc n) (x ∷ k) l s t shorter is = next (x ∷ k) l (padded n k ++ s ∷ []) (padded n (behind l) ++ t ∷ []) (less n k (behind l) s t (λ p. by l (shorter p).0 (shorter p).1)) is
  where
    by : (l : Bytes) → length (x ∷ k) ≤ suc n → length (x ∷ k) < length l → (length k ≤ n) × (length k < length (behind l))
    by [] p q = absurd (omega (arith, q))
    by (y ∷ l) p q = (omega (arith, p), omega (arith, q))

decided : (n : ℕ) (k l : Bytes) (s t : ℕ) → (s < t → (length k ≤ n) × (length k < length l)) → (t < s → (length l ≤ n) × (length l < length k)) → (bytes_cmp (padded n k ++ s ∷ []) (padded n l ++ t ∷ []) ≡ Equal → ⊥) → bytes_cmp (padded n k ++ s ∷ []) (padded n l ++ t ∷ []) ≡ bytes_cmp k l
decided n k l s t shorter longer differ = by (bytes_cmp (padded n k ++ s ∷ []) (padded n l ++ t ∷ [])) refl
  where
    by : (o : Ordering) → bytes_cmp (padded n k ++ s ∷ []) (padded n l ++ t ∷ []) ≡ o → o ≡ bytes_cmp k l
    by Less is = sym (less n k l s t shorter is)
    by Equal is = absurd (differ is)
    by Greater is = sym (turned k l (less n l k t s longer (nat_list_cmp_total.antisymm (padded n l ++ t ∷ []) (padded n k ++ s ∷ []) ∙ ap ordering_reverse is)))

-- heads that differ decide
pub heads_differ : (h i l m : Bytes) → AreParts h l → AreParts i m → (bytes_cmp h i ≡ Equal → ⊥) → bytes_cmp h i ≡ bytes_cmp (bytes_of h l) (bytes_of i m)
heads_differ h i l m x y differ =
    let same : bytes_cmp h i ≡ bytes_cmp (head_of (bytes_of h l)) (head_of (bytes_of i m)) = λ j. bytes_cmp (x.head_is j) (y.head_is j) in
    same ∙ decided 23 (bytes_of h l) (bytes_of i m) (min (length (bytes_of h l)) 24) (min (length (bytes_of i m)) 24)
    (λ p. (omega (arith, p), omega (arith, p))) (λ p. (omega (arith, p), omega (arith, p))) (λ e. differ (same ∙ e))

-- a key of at most 23 bytes and one of more have different heads
apart : (h : Bytes) (b : ℕ) (m : Bytes) → AreParts h [] → AreParts h (b ∷ m) → ⊥
apart h b m x y =
    let few = fits (bytes_of h []) x.long_is in
    let many = exceeds (b ∷ m) y.long_is in
    let same : min (length (bytes_of h [])) 24 ≡ min (length (b ∷ m)) 24 = ap (λ v. get_or v 23 0) (sym x.head_is ∙ y.head_is) in
    omega (arith, few, many, same)
  where
    fits : (k : Bytes) → [] ≡ long_of k → length k ≤ 23
    fits k = elim (leb (length k) 23) as (λ t. leb (length k) 23 ≡ t → [] ≡ cond t [] k → length k ≤ 23) [
      | true ↦ λ p e. leb-true (length k) 23 p
      | false ↦ λ p e. let none : 0 ≡ length k = ap length e in omega (arith, none)
    ] refl

    exceeds : (k : Bytes) → b ∷ m ≡ long_of k → 23 < length k
    exceeds k = elim (leb (length k) 23) as (λ t. leb (length k) 23 ≡ t → b ∷ m ≡ cond t [] k → 23 < length k) [
      | true ↦ λ p e. cc
      | false ↦ λ p e. leb-false (length k) 23 p
    ] refl

-- if heads are equal, the bytes outside them decide
pub heads_level : (h i l m : Bytes) → AreParts h l → AreParts i m → bytes_cmp h i ≡ Equal → bytes_cmp l m ≡ bytes_cmp (bytes_of h l) (bytes_of i m)
heads_level h i l m x y tied = subst (λ j. AreParts j m → bytes_cmp l m ≡ bytes_cmp (bytes_of h l) (bytes_of j m)) (same_bytes h i tied) (by l m x) y
  where
    by : (l m : Bytes) → AreParts h l → AreParts h m → bytes_cmp l m ≡ bytes_cmp (bytes_of h l) (bytes_of h m)
    by [] [] x y = sym (tied_itself nat_list_cmp_total (bytes_of h []))
    by [] (b ∷ m) x y = absurd (apart h b m x y)
    by (a ∷ l) [] x y = absurd (apart h a l y x)
    by (a ∷ l) (b ∷ m) x y = refl

-- ---- How a head is made
-- a head of one part, and of two
rest_head : (b n : ℕ) (g : Bytes) (t : ℕ) → b ≡ min (length g) n → set (take b g ++ drop b (replicate (suc n) 0)) n t ≡ padded n g ++ t ∷ []
rest_head zero zero g t p = refl
rest_head zero (suc n) [] t p = ap (λ u. 0 ∷ u) (rest_head zero n [] t (omega arith))
rest_head zero (suc n) (y ∷ g) t p = absurd (omega (arith, p))
rest_head (suc b) zero g t p = absurd (omega (arith, p))
rest_head (suc b) (suc n) [] t p = absurd (omega (arith, p))
rest_head (suc b) (suc n) (y ∷ g) t p = ap (λ u. y ∷ u) (rest_head b n g t (omega (arith, p)))

two_head : (a r b n : ℕ) (f g : Bytes) (t : ℕ) → a ≡ min (length f) n → b ≡ min (length f + length g) n → b ≡ a + r → set (take a f ++ (take r g ++ drop b (replicate (suc n) 0))) n t ≡ padded n (f ++ g) ++ t ∷ []
two_head zero r b n [] g t p q e =
    let same : r ≡ b = omega (arith, e) in
    (λ i. set (take (same i) g ++ drop b (replicate (suc n) 0)) n t) ∙ rest_head b n g t (omega (arith, q))
two_head zero r b zero (x ∷ f) g t p q e =
    let no_rest : r ≡ 0 = omega (arith, q, e) in
    let none : b ≡ 0 = omega (arith, q) in
    λ i. set (take (no_rest i) g ++ drop (none i) (0 ∷ [])) 0 t
two_head zero r b (suc n) (x ∷ f) g t p q e = absurd (omega (arith, p))
two_head (suc a) r b n [] g t p q e = absurd (omega (arith, p))
two_head (suc a) r b zero (x ∷ f) g t p q e = absurd (omega (arith, p))
two_head (suc a) r zero (suc n) (x ∷ f) g t p q e = absurd (omega (arith, q))
two_head (suc a) r (suc b) (suc n) (x ∷ f) g t p q e = ap (λ u. x ∷ u) (two_head a r b n f g t (omega (arith, p)) (omega (arith, q)) (omega (arith, e)))

-- the head as it is filled: with the front u, and then with the rest v, and with a number at its end
pub filled_head : (a b n : ℕ) (f g u v : Bytes) (t : ℕ) → a ≡ min (length f) n → b ≡ min (length f + length g) n → u ≡ take a f → v ≡ take (b - a) g →
    set (put_mid a (b - a) (u ++ drop a (replicate (suc n) 0)) v) n t ≡ padded n (f ++ g) ++ t ∷ []
filled_head a b n f g u v t p q front rest =
    let zeros : Bytes = replicate (suc n) 0 in
    let long : length u ≡ a = ap length front ∙ length-take-le a f (omega (arith, p)) in
    let behind_both : drop (b - a) (drop a (u ++ drop a zeros)) ≡ drop b zeros =
    ap (drop (b - a)) (drop_at u (drop a zeros) a long) ∙ drop-drop (b - a) a zeros ∙ ap (λ m. drop m zeros) (omega (arith, p, q)) in
    (λ i. set ((take_at u (drop a zeros) a long ∙ front) i ++ (rest i ++ behind_both i)) n t) ∙ two_head a (b - a) b n f g t p q (omega (arith, p, q))
