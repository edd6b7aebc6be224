-- Keys whose first bytes are compared as one number.
use Rattle.std.proofs.Common.{◌≡◌, ℕ, zero, suc, ◌+◌, ◌*◌, ◌<◌, ◌≤◌, List, [], ◌∷◌, length, take, drop, refl, sym, ◌∙◌, ap, subst, ◌-◌, arith}
use Rattle.std.specs.declared.cmp.Ordering.{Ordering}
use Rattle.std.specs.declared.cmp.Ordering.TheVariants.{Less, Equal, Greater}
use Rattle.std.specs.Ordering.{nat_cmp, ordering_then, MatchOrdering}
use Rattle.std.specs.Cmp.{ranks, nat_cmp_is}
use Rattle.cics_names.specs.Keyed.{bytes_cmp}
use Rattle.std.proofs.lemmas.List.{length-drop}
use Rattle.cics_ksds.specs.declared.comparing.Numbers.{Numbers}
use Rattle.cics_ksds.specs.Words.{number, AreBytes, AreNumbers, second_at}

less : (x y : ℕ) → x < y → nat_cmp x y ≡ Less
less x y l = sym (nat_cmp_is x y Less l)

greater : (x y : ℕ) → y < x → nat_cmp x y ≡ Greater
greater x y l = sym (nat_cmp_is x y Greater l)

equal : (x : ℕ) → nat_cmp x x ≡ Equal
equal x = sym (nat_cmp_is x x Equal refl)

-- a greater number stays greater, whatever digits come behind both
rises : (n a b : ℕ) (us vs : List ℕ) → n ≤ length us → n ≤ length vs → AreBytes n us → a < b → number a (take n us) < number b (take n vs)
rises zero a b us vs p q small l = l
rises (suc n) a b [] vs p q small l = absurd (omega arith)
rises (suc n) a b (u ∷ us) [] p q small l = absurd (omega arith)
rises (suc n) a b (u ∷ us) (v ∷ vs) p q small l =
    let byte : u < 256 = small 0 (omega arith) in
    rises n (a * 256 + u) (b * 256 + v) us vs (omega arith) (omega arith) (λ i k. small (suc i) (omega arith)) (omega arith)

-- the first n bytes of two keys decide as the numbers that they are
pub compared : (n a : ℕ) (us vs : List ℕ) → n ≤ length us → n ≤ length vs → AreBytes n us → AreBytes n vs
    → bytes_cmp us vs ≡ ordering_then (nat_cmp (number a (take n us)) (number a (take n vs))) (bytes_cmp (drop n us) (drop n vs))
compared zero a us vs p q bu bv = ap (λ o. ordering_then o (bytes_cmp us vs)) (sym (equal a))
compared (suc n) a [] vs p q bu bv = absurd (omega arith)
compared (suc n) a (u ∷ us) [] p q bu bv = absurd (omega arith)
compared (suc n) a (u ∷ us) (v ∷ vs) p q bu bv =
    by (compared n (a * 256 + u) us vs (omega arith) (omega arith) (λ i k. bu (suc i) (omega arith)) (λ i k. bv (suc i) (omega arith))) (nat_cmp u v) refl (ranks u v)
  where
    by : bytes_cmp us vs ≡ ordering_then (nat_cmp (number (a * 256 + u) (take n us)) (number (a * 256 + u) (take n vs))) (bytes_cmp (drop n us) (drop n vs))
        → (o : Ordering) → nat_cmp u v ≡ o → MatchOrdering o (u < v) (u ≡ v) (v < u)
        → bytes_cmp (u ∷ us) (v ∷ vs) ≡ ordering_then (nat_cmp (number (a * 256 + u) (take n us)) (number (a * 256 + v) (take n vs))) (bytes_cmp (drop n us) (drop n vs))
    by rest Less e l =
        let under : u < v = l in
        ap (λ o. ordering_then o (bytes_cmp us vs)) e
        ∙ ap (λ o. ordering_then o (bytes_cmp (drop n us) (drop n vs)))
        (sym (less _ _ (rises n (a * 256 + u) (a * 256 + v) us vs (omega arith) (omega arith) (λ i k. bu (suc i) (omega arith)) (omega arith))))
    by rest Greater e l =
        let over : v < u = l in
        ap (λ o. ordering_then o (bytes_cmp us vs)) e
        ∙ ap (λ o. ordering_then o (bytes_cmp (drop n us) (drop n vs)))
        (sym (greater _ _ (rises n (a * 256 + v) (a * 256 + u) vs us (omega arith) (omega arith) (λ i k. bv (suc i) (omega arith)) (omega arith))))
    by rest Equal e l =
        let level : u ≡ v = l in
        ap (λ o. ordering_then o (bytes_cmp us vs)) e
        ∙ rest
        ∙ ap (λ w. ordering_then (nat_cmp (number (a * 256 + u) (take n us)) (number (a * 256 + w) (take n vs))) (bytes_cmp (drop n us) (drop n vs))) level

-- numbers that differ decide
pub decided : (x y : ℕ) (o : Ordering) → (x ≡ y → ⊥) → ordering_then (nat_cmp x y) o ≡ nat_cmp x y
decided x y o differ = by (nat_cmp x y) (ranks x y)
  where
    by : (r : Ordering) → MatchOrdering r (x < y) (x ≡ y) (y < x) → ordering_then r o ≡ r
    by Less l = refl
    by Equal l = absurd (differ l)
    by Greater l = refl

pub tied : (x y : ℕ) (o : Ordering) → x ≡ y → ordering_then (nat_cmp x y) o ≡ o
tied x y o same = ap (λ z. ordering_then (nat_cmp x z) o) (sym same) ∙ ap (λ r. ordering_then r o) (equal x)

-- the first bytes of a number are the higher digits
split : (s m h : ℕ) (xs : List ℕ) → s ≤ length xs → number h (take (s + m) xs) ≡ number (number h (take s xs)) (take m (drop s xs))
split zero m h xs p =
    let none : 0 + m ≡ m = omega arith in
    ap (λ k. number h (take k xs)) none
split (suc s) m h [] p = absurd (omega arith)
split (suc s) m h (x ∷ xs) p =
    let next : suc s + m ≡ suc (s + m) = omega arith in
    ap (λ k. number h (take k (x ∷ xs))) next ∙ split s m (h * 256 + x) xs (omega arith)

-- a front that is greater makes a greater number
front_rises : (s : ℕ) (us vs : List ℕ) → s ≤ 8 → s + 8 ≤ length us → s + 8 ≤ length vs → AreBytes 8 (drop s us)
    → number 0 (take s us) < number 0 (take s vs) → number 0 (take 8 us) < number 0 (take 8 vs)
front_rises s us vs p q r small l =
    let whole : s + (8 - s) ≡ 8 = omega arith in
    let left : number 0 (take 8 us) ≡ number (number 0 (take s us)) (take (8 - s) (drop s us)) = ap (λ n. number 0 (take n us)) (sym whole) ∙ split s (8 - s) 0 us (omega arith) in
    let right : number 0 (take 8 vs) ≡ number (number 0 (take s vs)) (take (8 - s) (drop s vs)) = ap (λ n. number 0 (take n vs)) (sym whole) ∙ split s (8 - s) 0 vs (omega arith) in
    let over : number (number 0 (take s us)) (take (8 - s) (drop s us)) < number (number 0 (take s vs)) (take (8 - s) (drop s vs)) =
    rises (8 - s) _ _ (drop s us) (drop s vs) (omega (arith, length-drop s us)) (omega (arith, length-drop s vs)) (λ i k. small i (omega arith)) l in
    omega arith

-- where the first eight bytes are the same number, so are fewer of them
front : (s : ℕ) (us vs : List ℕ) → s ≤ 8 → s + 8 ≤ length us → s + 8 ≤ length vs → AreBytes 8 (drop s us) → AreBytes 8 (drop s vs)
    → number 0 (take 8 us) ≡ number 0 (take 8 vs) → number 0 (take s us) ≡ number 0 (take s vs)
front s us vs p q r bu bv same = by (nat_cmp (number 0 (take s us)) (number 0 (take s vs))) (ranks (number 0 (take s us)) (number 0 (take s vs)))
  where
    by : (o : Ordering) → MatchOrdering o (number 0 (take s us) < number 0 (take s vs)) (number 0 (take s us) ≡ number 0 (take s vs)) (number 0 (take s vs) < number 0 (take s us))
        → number 0 (take s us) ≡ number 0 (take s vs)
    by Less l = let over : number 0 (take 8 us) < number 0 (take 8 vs) = front_rises s us vs p q r bu l in absurd (omega arith)
    by Equal l = l
    by Greater l = let over : number 0 (take 8 vs) < number 0 (take 8 us) = front_rises s vs us p r q bv l in absurd (omega arith)

none : (l : List ℕ) → length l ≤ 0 → l ≡ []
none [] p = refl
none (x ∷ l) p = absurd (omega arith)

-- the first eight bytes decide, then the eight from s on, then what comes behind
by_words : (s : ℕ) (us vs : List ℕ) → s ≤ 8 → s + 8 ≤ length us → s + 8 ≤ length vs → AreBytes 8 us → AreBytes 8 vs → AreBytes 8 (drop s us) → AreBytes 8 (drop s vs)
    → (o : Ordering) → nat_cmp (number 0 (take 8 us)) (number 0 (take 8 vs)) ≡ o → MatchOrdering o (number 0 (take 8 us) < number 0 (take 8 vs)) (number 0 (take 8 us) ≡ number 0 (take 8 vs)) (number 0 (take 8 vs) < number 0 (take 8 us))
    → bytes_cmp us vs ≡ ordering_then (ordering_then o (nat_cmp (number 0 (take 8 (drop s us))) (number 0 (take 8 (drop s vs))))) (bytes_cmp (drop 8 (drop s us)) (drop 8 (drop s vs)))
by_words s us vs p q r bu bv du dv Less e l = compared 8 0 us vs (omega arith) (omega arith) bu bv ∙ ap (λ o. ordering_then o (bytes_cmp (drop 8 us) (drop 8 vs))) e
by_words s us vs p q r bu bv du dv Greater e l = compared 8 0 us vs (omega arith) (omega arith) bu bv ∙ ap (λ o. ordering_then o (bytes_cmp (drop 8 us) (drop 8 vs))) e
by_words s us vs p q r bu bv du dv Equal e l =
    compared s 0 us vs (omega arith) (omega arith) (λ i k. bu i (omega arith)) (λ i k. bv i (omega arith))
    ∙ tied _ _ (bytes_cmp (drop s us) (drop s vs)) (front s us vs p q r du dv l)
    ∙ compared 8 0 (drop s us) (drop s vs) (omega (arith, length-drop s us)) (omega (arith, length-drop s vs)) du dv

-- the numbers of two keys of the same length decide, unless they are equal and the keys have more bytes
pub by_numbers : (us vs : List ℕ) (m n : Numbers) → AreNumbers us m → AreNumbers vs n → length us ≡ length vs
    → (o : Ordering) → o ≡ ordering_then (nat_cmp m.first n.first) (nat_cmp m.second n.second) → (o ≡ Equal → length us ≤ 16) → o ≡ bytes_cmp us vs
by_numbers us vs m n mu nv same o is short = by o is short
  where
    s : ℕ
    s = second_at us

    slot : second_at vs ≡ s
    slot = ap (λ l. 8 - (16 - l)) (sym same)

    second : n.second ≡ number 0 (take 8 (drop s vs))
    second = nv.second ∙ ap (λ (i : ℕ). number 0 (take 8 (drop i vs))) slot

    bytes : AreBytes 8 (drop s vs)
    bytes = subst (λ (i : ℕ). AreBytes 8 (drop i vs)) slot nv.second_bytes

    whole : bytes_cmp us vs ≡ ordering_then (ordering_then (nat_cmp m.first n.first) (nat_cmp m.second n.second)) (bytes_cmp (drop 8 (drop s us)) (drop 8 (drop s vs)))
    whole = rw (mu.first, mu.second, nv.first, second) (by_words s us vs (omega arith) (omega (arith, mu.long)) (omega (arith, mu.long, same)) mu.first_bytes nv.first_bytes mu.second_bytes bytes
        (nat_cmp (number 0 (take 8 us)) (number 0 (take 8 vs))) refl (ranks (number 0 (take 8 us)) (number 0 (take 8 vs))))

    by : (o : Ordering) → o ≡ ordering_then (nat_cmp m.first n.first) (nat_cmp m.second n.second) → (o ≡ Equal → length us ≤ 16) → o ≡ bytes_cmp us vs
    by Less e p = sym (whole ∙ ap (λ r. ordering_then r (bytes_cmp (drop 8 (drop s us)) (drop 8 (drop s vs)))) (sym e))
    by Greater e p = sym (whole ∙ ap (λ r. ordering_then r (bytes_cmp (drop 8 (drop s us)) (drop 8 (drop s vs)))) (sym e))
    by Equal e p =
        let few : length us ≤ 16 = p refl in
        let left : drop 8 (drop s us) ≡ [] = none (drop 8 (drop s us)) (omega (arith, length-drop 8 (drop s us), length-drop s us)) in
        let right : drop 8 (drop s vs) ≡ [] = none (drop 8 (drop s vs)) (omega (arith, same, length-drop 8 (drop s vs), length-drop s vs)) in
        sym (whole ∙ ap (λ r. ordering_then r (bytes_cmp (drop 8 (drop s us)) (drop 8 (drop s vs)))) (sym e) ∙ ap (λ l. bytes_cmp l (drop 8 (drop s vs))) left ∙ ap (λ l. bytes_cmp [] l) right)
