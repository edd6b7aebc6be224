-- What the units own after a change of one unit's keys.
use Rattle.std.proofs.Common.{append-nil, length-append, ◌≡◌, ℕ, ◌&&◌, Bool, true, false, cond, Option, Some, None, is_some, nat_eq, arith, refl, sym, ap, subst, ◌∙◌, ◌≤◌, [], ◌∷◌, length}
use Rattle.std.specs.Bool.{OnTrue}
use Rattle.std.specs.Prelude.{◌-◌, IfNone, IfSome, option_to_list, not, OnErr, Result, Ok, Err, slice_get, List, ◌++◌, ◌||◌, if◌then◌else◌}
use Rattle.std.specs.List.{list_any}
use Rattle.std.specs.Global.{Vec}
use Rattle.std.specs.Map.{lookup}
use Rattle.std.proofs.lemmas.Bool.{eqb-true}
use Rattle.std.proofs.lemmas.List.Folds.{list_any-append}
use Rattle.cics_names.specs.Keyed.{Bytes, is_same}
use Rattle.cics_names.specs.KeyedLaws.{is_same-eq}
use Rattle.cics_names.specs.RisingLaws.{is_same-turned}
use Rattle.cics_enqueue.specs.Kept.{Owned, has_in, owns, Adds, Drops}
use Rattle.cics_history.specs.Holding.{is_other}

module _ (ls ms : Owned) (unit : ℕ) (w : Vec Bytes) (h : (q : ℕ) → lookup (nat_eq q) ms ≡ cond (nat_eq unit q) (Some w) (lookup (nat_eq q) ls)) where
  -- a unit's keys are written, and the others stay
  pub owns-written : (u : ℕ) (k : Bytes) → owns ms u k ≡ cond (nat_eq unit u) (list_any (is_same k) w.items) (owns ls u k)
  owns-written u k = ap (λ o. has_in o k) (h u) ∙ elim (nat_eq unit u) as (λ b. has_in (cond b (Some w) (lookup (nat_eq u) ls)) k ≡ cond b (list_any (is_same k) w.items) (owns ls u k)) [ true ↦ refl | false ↦ refl ]

  module _ (v : Vec Bytes) (there : lookup (nat_eq unit) ls ≡ Some v) where
    own : (k : Bytes) (u : ℕ) → nat_eq unit u ≡ true → owns ls u k ≡ list_any (is_same k) v.items
    own k u t = ap (λ o. has_in o k) (subst (λ x. lookup (nat_eq x) ls ≡ Some v) (eqb-true unit u t) there)

    -- a unit's set that is written as it was changes nothing
    pub owns-same : w.items ≡ v.items → (u : ℕ) (k : Bytes) → owns ms u k ≡ owns ls u k
    owns-same same u k = owns-written u k ∙ elim (nat_eq unit u) as (λ t. nat_eq unit u ≡ t → cond t (list_any (is_same k) w.items) (owns ls u k) ≡ owns ls u k) [
      | true ↦ λ t. ap (list_any (is_same k)) same ∙ sym (own k u t)
      | false ↦ λ t. refl
    ] refl

  -- a unit, which may have had no list, has one key more
  pub owns-added : (o : Option (Vec Bytes)) → lookup (nat_eq unit) ls ≡ o → (key : Bytes) → ((k : Bytes) → (if is_same key k then true else has_in o k) ≡ true → list_any (is_same k) w.items ≡ true) → Adds unit key ls ms
  owns-added o there key more u k = subst (λ b. cond (nat_eq unit u && is_same key k) true (owns ls u k) ≡ true → b ≡ true) (sym (owns-written u k)) (
      elim (nat_eq unit u) as (λ t. nat_eq unit u ≡ t → cond (t && is_same key k) true (owns ls u k) ≡ true → cond t (list_any (is_same k) w.items) (owns ls u k) ≡ true) [
        | true ↦ λ t had. more k (ap (cond (is_same key k) true) (sym (ap (λ o. has_in o k) (subst (λ x. lookup (nat_eq x) ls ≡ o) (eqb-true unit u t) there))) ∙ had)
        | false ↦ λ t had. had
      ] refl)

  -- a unit may have lost a key
  pub owns-dropped : (v : Vec Bytes) → lookup (nat_eq unit) ls ≡ Some v → (key : Bytes) → ((k : Bytes) → is_same key k ≡ false → list_any (is_same k) v.items ≡ true → list_any (is_same k) w.items ≡ true) → Drops unit key ls ms
  owns-dropped v there key rest u k other = subst (λ b. owns ls u k ≡ true → b ≡ true) (sym (owns-written u k)) (
      elim (nat_eq unit u) as (λ t. nat_eq unit u ≡ t → (t && is_same key k) ≡ false → owns ls u k ≡ true → cond t (list_any (is_same k) w.items) (owns ls u k) ≡ true) [
        | true ↦ λ t other had. rest k other (sym (own v there k u t) ∙ had)
        | false ↦ λ t other had. had
      ] refl other)

-- a list with one more key at its end has this and those that it had
pub has_pushed : (xs ys : List Bytes) (key : Bytes) → ys ≡ xs ++ key ∷ [] → (k : Bytes) → (if is_same key k then true else list_any (is_same k) xs) ≡ true → list_any (is_same k) ys ≡ true
has_pushed xs ys key pushed k = subst (λ b. cond b true (list_any (is_same k) xs) ≡ true → list_any (is_same k) ys ≡ true) (is_same-turned k key) (λ had.
    ap (list_any (is_same k)) pushed ∙ list_any-append (is_same k) xs (key ∷ []) ∙ by (list_any (is_same k) xs) (is_same k key) had)
  where
    by : (a b : Bool) → cond b true a ≡ true → (a || (b || false)) ≡ true
    by true b had = refl
    by false true had = refl
    by false false had = cc

-- a list without its last key has all others that it had
pub has_popped : (xs ys : List Bytes) (key : Bytes) → xs ≡ ys ++ key ∷ [] → (k : Bytes) → is_same key k ≡ false → list_any (is_same k) xs ≡ true → list_any (is_same k) ys ≡ true
has_popped xs ys key popped k other had = by (list_any (is_same k) ys) (is_same k key) (is_same-turned k key ∙ other) (sym (list_any-append (is_same k) ys (key ∷ [])) ∙ sym (ap (list_any (is_same k)) popped) ∙ had)
  where
    by : (a b : Bool) → b ≡ false → (a || (b || false)) ≡ true → a ≡ true
    by true b e had = refl
    by false true e had = sym e
    by false false e had = had

-- if the last key was removed, and it is this one, all others are there
pub has_dropped : (xs ys : List Bytes) (o : Option Bytes) → xs ≡ ys ++ option_to_list o → (l : Bytes) → slice_get xs (length xs - 1) ≡ Some l → (key : Bytes) → is_same l key ≡ true →
    (k : Bytes) → is_same key k ≡ false → list_any (is_same k) xs ≡ true → list_any (is_same k) ys ≡ true
has_dropped xs ys None popped l last key same k other had = ap (list_any (is_same k)) (sym (popped ∙ append-nil ys)) ∙ had
has_dropped xs ys (Some x) popped l last key same k other had =
    let there : Some x ≡ Some l = sym (at_end ys) ∙ (λ i. slice_get (sym popped i) (length (sym popped i) - 1)) ∙ last in
    let one : x ≡ l = cc in
    has_popped xs ys x popped k (ap (λ b. is_same b k) (one ∙ is_same-eq l key same) ∙ other) had
  where
    at_end : (ys : List Bytes) → slice_get (ys ++ x ∷ []) (length (ys ++ x ∷ []) - 1) ≡ Some x
    at_end ys = ap (λ n. slice_get (ys ++ x ∷ []) (n - 1)) (length-append ys (x ∷ [])) ∙ ap (slice_get (ys ++ x ∷ [])) (omega arith) ∙ stands ys
      where
        stands : (ys : List Bytes) → slice_get (ys ++ x ∷ []) (length ys) ≡ Some x
        stands [] = refl
        stands (y ∷ ys) = stands ys

-- if a key was removed from a unit's list, only this one was
pub drops_if_some : (ls ms : Owned) (unit : ℕ) (w : Vec Bytes) → ((q : ℕ) → lookup (nat_eq q) ms ≡ cond (nat_eq unit q) (Some w) (lookup (nat_eq q) ls)) → (v : Vec Bytes) → lookup (nat_eq unit) ls ≡ Some v →
    (o : Option Bytes) → v.items ≡ w.items ++ option_to_list o → IfSome o (λ key. Drops unit key ls ms)
drops_if_some ls ms unit w h v there None popped = tt
drops_if_some ls ms unit w h v there (Some key) popped = owns-dropped ls ms unit w h v there key (has_popped v.items w.items key popped)

-- what is not there is nothing
pub none_from : {X : Type 0} (o : Option X) → is_some o ≡ false → o ≡ None
none_from None e = refl
none_from (Some x) e = cc

-- what holds anyway holds on a refusal
pub on_err_anyway : {X E Q : Type 0} (r : Result X E) → Q → OnErr r Q
on_err_anyway (Ok x) q = tt
on_err_anyway (Err e) q = q

-- if nothing was removed, nothing changed
pub owns-popped : (ls ms : Owned) (unit : ℕ) (w : Vec Bytes) → ((q : ℕ) → lookup (nat_eq q) ms ≡ cond (nat_eq unit q) (Some w) (lookup (nat_eq q) ls)) → (v : Vec Bytes) → lookup (nat_eq unit) ls ≡ Some v →
    (o : Option Bytes) → v.items ≡ w.items ++ option_to_list o → IfNone o ((u : ℕ) (k : Bytes) → owns ms u k ≡ owns ls u k)
owns-popped ls ms unit w h v there None popped = owns-same ls ms unit w h v there (sym (popped ∙ append-nil w.items))
owns-popped ls ms unit w h v there (Some key) popped = tt

-- what holds if a test fails holds if its opposite passes
pub on_not_by : {Q : Type 0} (b : Bool) → (b ≡ false → Q) → OnTrue (not b) Q
on_not_by true h = tt
on_not_by false h = h refl

-- if the asker alone has a list, no other unit owns a key
pub owns_alone : (own : Owned) (asker : Option ℕ) (e : ℕ × Vec Bytes) → slice_get own 0 ≡ Some e → length own ≤ 1 → is_other asker e.0 ≡ false → (u : ℕ) (k : Bytes) → is_other asker u ≡ true → owns own u k ≡ false
owns_alone [] asker e at one mine u k other = refl
owns_alone (d ∷ c ∷ rest) asker e at one mine u k other = absurd (omega arith)
owns_alone (d ∷ []) asker e at one mine u k other = elim (nat_eq u d.0) as (λ b. nat_eq u d.0 ≡ b → has_in (cond b (Some d.1) None) k ≡ false) [
  | true ↦ λ t.
      let here : d ≡ e = cc in
      let wrong : true ≡ false = sym other ∙ ap (is_other asker) (eqb-true u d.0 t ∙ ap (λ x. x.0) here) ∙ mine in cc
  | false ↦ λ f. refl
] refl
