-- Stamps tell values, whatever bytes follow.
use Rattle.std.proofs.Common.{◌≡◌, ℕ, zero, suc, ◌^◌, ◌<◌, ◌≤◌, Bool, true, false, Option, Some, None, List, [], ◌∷◌, ◌++◌, ◌⊎◌, inl, inr, length, take, drop, replicate, refl, sym, ap, ◌∙◌, append_assoc, map, arith}
use Rattle.std.proofs.lemmas.Bool.{lt-ltb, le-ltb, cases_lt}
use Rattle.std.proofs.lemmas.Nat.{from_be_bytes-to_be_bytes_8}
use Rattle.std.specs.List.{flat_map}
use Rattle.std.specs.Option.{option_map}
use Rattle.std.specs.Int.{w64, to_be_bytes, from_be_bytes}
use Rattle.cics_names.specs.Stamps.{Splits, number_stamp, flag_stamp, text_stamp, option_stamp, item_stamp, list_stamp}

-- two appends, one after the other
pub appended_two : (old x y : List ℕ) {mid new : List ℕ} → mid ≡ old ++ x → new ≡ mid ++ y → new ≡ old ++ (x ++ y)
appended_two old x y first second = second ∙ ap (λ t. t ++ y) first ∙ append_assoc old x y

-- ---- Numbers

pub small_number : (n : ℕ) → n < 254 → number_stamp n ≡ n ∷ []
unfolding number_stamp
small_number n h = rw (lt-ltb n 254 h)

pub long_number : (n : ℕ) → 254 ≤ n → n < 2 ^ 64 → number_stamp n ≡ 254 ∷ to_be_bytes w64 n
unfolding number_stamp
long_number n h fits = rw (le-ltb n 254 h, lt-ltb n (2 ^ 64) fits)

huge_number : (n : ℕ) → 2 ^ 64 ≤ n → number_stamp n ≡ 255 ∷ (replicate n 1 ++ 0 ∷ [])
unfolding number_stamp
huge_number n h = rw (le-ltb n 254 (omega arith), le-ltb n (2 ^ 64) h)

-- the three forms, with what follows
data Written (n : ℕ) (r : List ℕ) : Type 0 where
  small : n < 254 → number_stamp n ++ r ≡ n ∷ r → Written n r
  long : n < 2 ^ 64 → number_stamp n ++ r ≡ 254 ∷ (to_be_bytes w64 n ++ r) → Written n r
  huge : number_stamp n ++ r ≡ 255 ∷ (replicate n 1 ++ (0 ∷ r)) → Written n r

written : (n : ℕ) (r : List ℕ) → Written n r
written n r = by_size (cases_lt n 254) (cases_lt n (2 ^ 64)) where
  by_size : (n < 254) ⊎ (254 ≤ n) → (n < 2 ^ 64) ⊎ (2 ^ 64 ≤ n) → Written n r
  by_size (inl h) _ = small h (ap (λ t. t ++ r) (small_number n h))
  by_size (inr h) (inl fits) = long fits (ap (λ t. t ++ r) (long_number n h fits))
  by_size (inr h) (inr over) = huge (ap (λ t. t ++ r) (huge_number n over) ∙ ap (λ t. 255 ∷ t) (append_assoc (replicate n 1) (0 ∷ []) r))

-- as many ones before the first zero, and the same behind it
ones : (n m : ℕ) (r s : List ℕ) → replicate n 1 ++ (0 ∷ r) ≡ replicate m 1 ++ (0 ∷ s) → (n ≡ m) × (r ≡ s)
ones zero zero r s e = (refl, cc)
ones zero (suc m) r s e = cc
ones (suc n) zero r s e = cc
ones (suc n) (suc m) r s e = let rest : (n ≡ m) × (r ≡ s) = ones n m r s (cc) in (ap suc rest.0, rest.1)

-- eight bytes tell a number that fits in them
eight : (n m : ℕ) (r s : List ℕ) → n < 2 ^ 64 → m < 2 ^ 64 → to_be_bytes w64 n ++ r ≡ to_be_bytes w64 m ++ s → (n ≡ m) × (r ≡ s)
eight n m r s hn hm e = (
  sym (from_be_bytes-to_be_bytes_8 n hn) ∙ ap (λ t. from_be_bytes w64 (take 8 t)) e ∙ from_be_bytes-to_be_bytes_8 m hm,
  ap (λ t. drop 8 t) e,
)

first_byte : {a b : ℕ} {r s : List ℕ} → a ∷ r ≡ b ∷ s → a ≡ b
first_byte e = cc

from_forms : (n m : ℕ) (r s : List ℕ) → Written n r → Written m s → number_stamp n ++ r ≡ number_stamp m ++ s → (n ≡ m) × (r ≡ s)
from_forms n m r s (small hn p) (small hm q) e = let same : n ∷ r ≡ m ∷ s = cc in (cc, cc)
from_forms n m r s (small hn p) (long hm q) e = let head : n ≡ 254 = cc in absurd (omega arith)
from_forms n m r s (small hn p) (huge q) e = let head : n ≡ 255 = cc in absurd (omega arith)
from_forms n m r s (long hn p) (small hm q) e = let head : m ≡ 254 = cc in absurd (omega arith)
from_forms n m r s (long hn p) (long hm q) e = eight n m r s hn hm (cc)
from_forms n m r s (long hn p) (huge q) e = let head : ◌≡◌ {A = ℕ} 254 255 = first_byte (sym p ∙ e ∙ q) in absurd (omega arith)
from_forms n m r s (huge p) (small hm q) e = let head : m ≡ 255 = cc in absurd (omega arith)
from_forms n m r s (huge p) (long hm q) e = let head : ◌≡◌ {A = ℕ} 255 254 = first_byte (sym p ∙ e ∙ q) in absurd (omega arith)
from_forms n m r s (huge p) (huge q) e = ones n m r s (cc)

pub splits_number : Splits number_stamp
splits_number n m r s e = from_forms n m r s (written n r) (written m s) e

-- ---- Two stamps, one after the other

pub split_two : {X Y : Type 0} (f : X → List ℕ) (g : Y → List ℕ) → Splits f → Splits g
    → (x y : X) (u v : Y) (r s : List ℕ) → (f x ++ g u) ++ r ≡ (f y ++ g v) ++ s → (x ≡ y) × (u ≡ v) × (r ≡ s)
split_two f g sf sg x y u v r s e =
    let first = sf x y (g u ++ r) (g v ++ s) (sym (append_assoc (f x) (g u) r) ∙ e ∙ append_assoc (f y) (g v) s) in
    let second = sg u v r s first.1 in
    (first.0, second.0, second.1)

pub splits_both : {X Y : Type 0} (f : X → List ℕ) (g : Y → List ℕ) → Splits f → Splits g → Splits {X = X × Y} (λ p. f p.0 ++ g p.1)
splits_both f g sf sg p q r s e =
    let both = split_two f g sf sg p.0 q.0 p.1 q.1 r s e in
    (λ i. (both.0 i, both.1 i), both.2)

-- ---- Flags and texts

flags : (a b : Bool) (r s : List ℕ) → flag_stamp a ++ r ≡ flag_stamp b ++ s → (a ≡ b) × (r ≡ s)
unfolding flag_stamp
flags true true r s e = (refl, (splits_number 1 1 r s e).1)
flags true false r s e = let same : ◌≡◌ {A = ℕ} 1 0 = (splits_number 1 0 r s e).0 in absurd (omega arith)
flags false true r s e = let same : ◌≡◌ {A = ℕ} 0 1 = (splits_number 0 1 r s e).0 in absurd (omega arith)
flags false false r s e = (refl, (splits_number 0 0 r s e).1)

pub splits_flag : Splits flag_stamp
splits_flag = flags

-- texts of the same length
same_length : (x y r s : List ℕ) → length x ≡ length y → x ++ r ≡ y ++ s → (x ≡ y) × (r ≡ s)
same_length [] [] r s l e = (refl, e)
same_length [] (b ∷ y) r s l e = absurd (omega arith)
same_length (a ∷ x) [] r s l e = absurd (omega arith)
same_length (a ∷ x) (b ∷ y) r s l e =
    let rest = same_length x y r s (omega arith) (cc) in
    (cc, rest.1)

pub splits_text : Splits text_stamp
unfolding text_stamp
splits_text x y r s e =
    let counted = splits_number (length x) (length y) (x ++ r) (y ++ s) (sym (append_assoc (number_stamp (length x)) x r) ∙ e ∙ append_assoc (number_stamp (length y)) y s) in
    same_length x y r s counted.0 counted.1

-- ---- Optional values and lists

-- the bytes of a list, with what follows, from its first value on
first_of_list : {X : Type 0} (f : X → List ℕ) (x : X) (xs : List X) (r : List ℕ) → flat_map (item_stamp f) (x ∷ xs) ++ r ≡ number_stamp 1 ++ (f x ++ (flat_map (item_stamp f) xs ++ r))
first_of_list f x xs r =
    append_assoc (item_stamp f x) (flat_map (item_stamp f) xs) r
    ∙ append_assoc (number_stamp 1) (f x) (flat_map (item_stamp f) xs ++ r)

-- What the stamps of two types tell: f x and g y begin the same bytes only if h x ≡ k y. The stamps
-- of optional values and of lists then tell as much of each value
module _ {X Y Z : Type 0} (f : X → List ℕ) (g : Y → List ℕ) (h : X → Z) (k : Y → Z) (tell : (x : X) (y : Y) (r s : List ℕ) → f x ++ r ≡ g y ++ s → (h x ≡ k y) × (r ≡ s)) where
  pub split_options : (a : Option X) (b : Option Y) (r s : List ℕ) → option_stamp f a ++ r ≡ option_stamp g b ++ s → (option_map h a ≡ option_map k b) × (r ≡ s)
  split_options None None r s e = (refl, (splits_number 0 0 r s e).1)
  split_options None (Some y) r s e =
      let same : ◌≡◌ {A = ℕ} 0 1 = (splits_number 0 1 r (g y ++ s) (e ∙ append_assoc (number_stamp 1) (g y) s)).0 in
      absurd (omega arith)
  split_options (Some x) None r s e =
      let same : ◌≡◌ {A = ℕ} 1 0 = (splits_number 1 0 (f x ++ r) s (sym (append_assoc (number_stamp 1) (f x) r) ∙ e)).0 in
      absurd (omega arith)
  split_options (Some x) (Some y) r s e =
      let front = splits_number 1 1 (f x ++ r) (g y ++ s) (sym (append_assoc (number_stamp 1) (f x) r) ∙ e ∙ append_assoc (number_stamp 1) (g y) s) in
      let both = tell x y r s front.1 in
      (ap Some both.0, both.1)

  values : (xs : List X) (ys : List Y) (r s : List ℕ) → flat_map (item_stamp f) xs ++ (number_stamp 0 ++ r) ≡ flat_map (item_stamp g) ys ++ (number_stamp 0 ++ s) → (map h xs ≡ map k ys) × (r ≡ s)
  values [] [] r s e = (refl, (splits_number 0 0 r s e).1)
  values [] (y ∷ ys) r s e =
      let same : ◌≡◌ {A = ℕ} 0 1 = (splits_number 0 1 r (g y ++ (flat_map (item_stamp g) ys ++ (number_stamp 0 ++ s))) (e ∙ first_of_list g y ys (number_stamp 0 ++ s))).0 in
      absurd (omega arith)
  values (x ∷ xs) [] r s e =
      let same : ◌≡◌ {A = ℕ} 1 0 = (splits_number 1 0 (f x ++ (flat_map (item_stamp f) xs ++ (number_stamp 0 ++ r))) s (sym (first_of_list f x xs (number_stamp 0 ++ r)) ∙ e)).0 in
      absurd (omega arith)
  values (x ∷ xs) (y ∷ ys) r s e =
      let front = splits_number 1 1 (f x ++ (flat_map (item_stamp f) xs ++ (number_stamp 0 ++ r))) (g y ++ (flat_map (item_stamp g) ys ++ (number_stamp 0 ++ s)))
      (sym (first_of_list f x xs (number_stamp 0 ++ r)) ∙ e ∙ first_of_list g y ys (number_stamp 0 ++ s)) in
      let first = tell x y (flat_map (item_stamp f) xs ++ (number_stamp 0 ++ r)) (flat_map (item_stamp g) ys ++ (number_stamp 0 ++ s)) front.1 in
      let rest = values xs ys r s first.1 in
      (cc, rest.1)

  pub split_lists : (xs : List X) (ys : List Y) (r s : List ℕ) → list_stamp f xs ++ r ≡ list_stamp g ys ++ s → (map h xs ≡ map k ys) × (r ≡ s)
  split_lists xs ys r s e =
      values xs ys r s (sym (append_assoc (flat_map (item_stamp f) xs) (number_stamp 0) r) ∙ e ∙ append_assoc (flat_map (item_stamp g) ys) (number_stamp 0) s)

same_option : {X : Type 0} (a : Option X) → option_map (λ x. x) a ≡ a
same_option None = refl
same_option (Some x) = refl

same_list : {X : Type 0} (xs : List X) → map (λ x. x) xs ≡ xs
same_list [] = refl
same_list (x ∷ xs) = ap (λ t. x ∷ t) (same_list xs)

module _ {X : Type 0} (f : X → List ℕ) (sf : Splits f) where
  pub splits_option : Splits (option_stamp f)
  splits_option a b r s e =
      let both = split_options f f (λ x. x) (λ x. x) sf a b r s e in
      (sym (same_option a) ∙ both.0 ∙ same_option b, both.1)

  pub splits_list : Splits (list_stamp f)
  splits_list xs ys r s e =
      let both = split_lists f f (λ x. x) (λ x. x) sf xs ys r s e in
      (sym (same_list xs) ∙ both.0 ∙ same_list ys, both.1)

  pub same_stamp : (x y : X) → f x ≡ f y → x ≡ y
  same_stamp x y e = (sf x y [] [] (ap (λ t. t ++ []) e)).0
