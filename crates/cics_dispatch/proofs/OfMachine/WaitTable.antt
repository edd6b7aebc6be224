-- The waits where they are kept: what is found under a label, and what one more wait and one fewer
-- make of them.
use Rattle.std.specs.Prelude.{◌≡◌, ◌<◌, ◌≤◌, ℕ, ◌+◌, ◌==◌, Bool, true, false, not, cond, Option, Some, None, is_some, Result, Ok, Err, is_err, IsOk, OnOk, List, [], ◌∷◌, ◌++◌, refl, nat_lt, All}
use Rattle.std.proofs.Common.{sym, ap, ◌∙◌, suc, arith}
use Rattle.std.specs.declared.cmp.Ordering.TheVariants.{Less, Equal, Greater}
use Rattle.std.specs.Ordering.{nat_cmp, is_eq, is_lt, match_ordering}
use Rattle.std.specs.Cmp.{nat_cmp_is}
use Rattle.std.specs.Map.{values_of, keys_of, lookup, remove_entry}
use Rattle.std.specs.BTreeMap.{is_at, insert_entry}
use Rattle.std.proofs.lemmas.Bool.{false_from_ne_true, ltb-false}
use Rattle.cics_names.specs.Keyed.{Bytes, is_same}
use Rattle.cics_names.specs.KeyedLaws.{is_same-self, is_same-eq}
use Rattle.cics_dispatch.specs.Machine.Machine.{Suspended, is_waiting, not_waiting}
use Rattle.cics_dispatch.specs.Machine.Waits.{Rows, wait_of, wait_number, AreAbove, AreBelow, AreRising, AreOnce, AreNumbered}

-- ---- Numbers

tied : (n m : ℕ) → n ≡ m → is_eq (nat_cmp n m) ≡ true
tied n m same = ap is_eq (sym (nat_cmp_is n m Equal same))

greater : (n m : ℕ) → m < n → nat_cmp n m ≡ Greater
greater n m above = sym (nat_cmp_is n m Greater above)

later : (n m : ℕ) → m < n → is_eq (nat_cmp n m) ≡ false
later n m above = ap is_eq (greater n m above)

-- a number found above another is above it
found_above : (m n : ℕ) (label : Bytes) (es : Rows) → AreAbove m es → wait_number es label ≡ Some n → m < n
found_above m n label [] above found = cc
found_above m n label (e ∷ es) above found = elim (is_same e.1.label label) as (λ b. cond b (Some e.0) (wait_number es label) ≡ Some n → m < n) [
  | true ↦ λ h. let is : e.0 ≡ n = cc in omega (arith, above.0)
  | false ↦ λ h. found_above m n label es above.1 h
] found

-- ---- What is found

pub is_waiting-number : (es : Rows) (label : Bytes) → is_waiting (values_of es) label ≡ is_some (wait_number es label)
is_waiting-number [] label = refl
is_waiting-number (e ∷ es) label = elim (is_same e.1.label label) as (λ b. cond b true (is_waiting (values_of es) label) ≡ is_some (cond b (Some e.0) (wait_number es label))) [
  | true ↦ refl
  | false ↦ is_waiting-number es label
]

pub wait_of-none : (es : Rows) (label : Bytes) → wait_number es label ≡ None → wait_of (values_of es) label ≡ None
wait_of-none [] label none = refl
wait_of-none (e ∷ es) label none = elim (is_same e.1.label label) as (λ b. cond b (Some e.0) (wait_number es label) ≡ None → cond b (Some e.1) (wait_of (values_of es) label) ≡ None) [
  | true ↦ λ h. cc
  | false ↦ λ h. wait_of-none es label h
] none

-- what stands under the number of a label is its wait
pub wait_of-lookup : (es : Rows) (label : Bytes) (n : ℕ) → AreRising es → wait_number es label ≡ Some n → lookup (is_at (nat_cmp n)) es ≡ wait_of (values_of es) label
wait_of-lookup [] label n rising found = cc
wait_of-lookup (e ∷ es) label n rising found =
    elim (is_same e.1.label label) as (λ b. cond b (Some e.0) (wait_number es label) ≡ Some n → cond (is_eq (nat_cmp n e.0)) (Some e.1) (lookup (is_at (nat_cmp n)) es) ≡ cond b (Some e.1) (wait_of (values_of es) label)) [
      | true ↦ λ h. let is : n ≡ e.0 = cc in ap (λ c. cond c (Some e.1) (lookup (is_at (nat_cmp n)) es)) (tied n e.0 is)
      | false ↦ λ h. ap (λ c. cond c (Some e.1) (lookup (is_at (nat_cmp n)) es)) (later n e.0 (found_above e.0 n label es rising.0 h)) ∙ wait_of-lookup es label n rising.1 h
    ] found

-- a number that is found leads to a wait
pub wait_of-some : (es : Rows) (label : Bytes) (n : ℕ) → wait_number es label ≡ Some n → wait_of (values_of es) label ≡ None → ⊥
wait_of-some [] label n found none = cc
wait_of-some (e ∷ es) label n found none = elim (is_same e.1.label label) as (λ b. cond b (Some e.0) (wait_number es label) ≡ Some n → cond b (Some e.1) (wait_of (values_of es) label) ≡ None → ⊥) [
  | true ↦ λ h k. cc
  | false ↦ λ h k. wait_of-some es label n h k
] found none

-- ---- One more wait

not_below : (x y : ℕ) → is_lt (nat_cmp x y) ≡ false → y ≤ x
not_below x y e = by (nat_lt x y) refl e
  where
    by : (b : Bool) → nat_lt x y ≡ b → is_lt (cond b Less (cond (x == y) Equal Greater)) ≡ false → y ≤ x
    by true t h = cc
    by false t h = ltb-false x y t

-- the number after the greatest is above all
pub below_next : (last : ℕ) (es : Rows) → All (λ q. is_lt (nat_cmp last q) ≡ false) (keys_of es) → AreBelow (last + 1) es
below_next last [] up_to = tt
below_next last (e ∷ es) up_to =
    let least : e.0 ≤ last = not_below last e.0 (up_to 0 0 (omega arith)) in
    (omega arith, below_next last es (λ k d within. up_to (suc k) d (omega arith)))

module _ (n : ℕ) (w : Suspended) where
  pub values_of-push : (es : Rows) → values_of (es ++ (n, w) ∷ []) ≡ values_of es ++ w ∷ []
  values_of-push [] = refl
  values_of-push (e ∷ es) = ap (λ r. e.1 ∷ r) (values_of-push es)

  pub insert_entry-push : (es : Rows) → AreBelow n es → insert_entry nat_cmp es n w ≡ es ++ (n, w) ∷ []
  insert_entry-push [] below = refl
  insert_entry-push (e ∷ es) below =
      ap (λ o. match_ordering o ((n, w) ∷ e ∷ es) ((e.0, w) ∷ es) (e ∷ insert_entry nat_cmp es n w)) (greater n e.0 below.0)
      ∙ ap (λ r. e ∷ r) (insert_entry-push es below.1)

  above-push : (m : ℕ) (es : Rows) → m < n → AreAbove m es → AreAbove m (es ++ (n, w) ∷ [])
  above-push m [] within above = (within, tt)
  above-push m (e ∷ es) within above = (above.0, above-push m es within above.1)

  rising-push : (es : Rows) → AreBelow n es → AreRising es → AreRising (es ++ (n, w) ∷ [])
  rising-push [] below rising = (tt, tt)
  rising-push (e ∷ es) below rising = (above-push e.0 es below.0 rising.0, rising-push es below.1 rising.1)

  -- no wait of the label
  apart : (e : ℕ × Suspended) (es : Rows) → wait_number (e ∷ es) w.label ≡ None → (is_same e.1.label w.label ≡ false) × (wait_number es w.label ≡ None)
  apart e es none = by (is_same e.1.label w.label) none
    where
      by : (b : Bool) → cond b (Some e.0) (wait_number es w.label) ≡ None → (b ≡ false) × (wait_number es w.label ≡ None)
      by true h = absurd (never h)
        where
          never : Some e.0 ≡ None → ⊥
          never h = cc
      by false h = (refl, h)

  -- a label that is one entry's is not the other's
  other_label : (e : ℕ × Suspended) (label : Bytes) → is_same e.1.label w.label ≡ false → is_same e.1.label label ≡ true → is_same w.label label ≡ false
  other_label e label differ one = false_from_ne_true (is_same w.label label) (λ two.
      let same : e.1.label ≡ w.label = is_same-eq e.1.label label one ∙ sym (is_same-eq w.label label two) in
      let tied : is_same e.1.label w.label ≡ true = ap (λ l. is_same l w.label) same ∙ is_same-self w.label in
      differs tied differ)
    where
      differs : {b : Bool} → b ≡ true → b ≡ false → ⊥
      differs t f = cc

  pub wait_number-push : (es : Rows) (label : Bytes) → wait_number es w.label ≡ None → wait_number (es ++ (n, w) ∷ []) label ≡ cond (is_same w.label label) (Some n) (wait_number es label)
  wait_number-push [] label none = refl
  wait_number-push (e ∷ es) label none =
      let a = apart e es none in
      elim (is_same e.1.label label) as (λ b. is_same e.1.label label ≡ b → cond b (Some e.0) (wait_number (es ++ (n, w) ∷ []) label) ≡ cond (is_same w.label label) (Some n) (cond b (Some e.0) (wait_number es label))) [
        | true ↦ λ one. sym (ap (λ c. cond c (Some n) (Some e.0)) (other_label e label a.0 one))
        | false ↦ λ one. wait_number-push es label a.1
      ] refl

  once-push : (es : Rows) → wait_number es w.label ≡ None → AreOnce es → AreOnce (es ++ (n, w) ∷ [])
  once-push [] none once = (refl, tt)
  once-push (e ∷ es) none once =
      let a = apart e es none in
      (wait_number-push es e.1.label a.1 ∙ (λ i. cond (turned a.0 i) (Some n) (once.0 i)), once-push es a.1 once.1)
    where
      turned : is_same e.1.label w.label ≡ false → is_same w.label e.1.label ≡ false
      turned differ = other_label e e.1.label differ (is_same-self e.1.label)

  module _ (es : Rows) (numbers new : List (Bytes × ℕ)) (kept : AreNumbered es numbers) (none : is_waiting (values_of es) w.label ≡ false) (below : AreBelow n es) where
    no_number : wait_number es w.label ≡ None
    no_number = nothing (wait_number es w.label) (sym (is_waiting-number es w.label) ∙ none)
      where
        nothing : (o : Option ℕ) → is_some o ≡ false → o ≡ None
        nothing None h = refl
        nothing (Some k) h = cc

    pub pushed : ((label : Bytes) → lookup (is_same label) new ≡ cond (is_same w.label label) (Some n) (lookup (is_same label) numbers)) → AreNumbered (es ++ (n, w) ∷ []) new
    pushed put = record {
      rising = rising-push es below kept.rising;
      once = once-push es no_number kept.once;
      found = λ label. put label ∙ ap (cond (is_same w.label label) (Some n)) (kept.found label) ∙ sym (wait_number-push es label no_number);
    }

-- ---- One wait fewer

-- no wait is the label's
not_waiting-none : (es : Rows) (label : Bytes) → wait_number es label ≡ None → not_waiting (values_of es) label ≡ values_of es
not_waiting-none [] label none = refl
not_waiting-none (e ∷ es) label none =
    elim (is_same e.1.label label) as (λ b. cond b (Some e.0) (wait_number es label) ≡ None → cond (not b) (e.1 ∷ not_waiting (values_of es) label) (not_waiting (values_of es) label) ≡ e.1 ∷ values_of es) [
      | true ↦ λ h. cc
      | false ↦ λ h. ap (λ r. e.1 ∷ r) (not_waiting-none es label h)
    ] none

module _ (test : ℕ → Bool) where
  wait_number-fewer : (es : Rows) (label : Bytes) → wait_number es label ≡ None → wait_number (remove_entry test es) label ≡ None
  wait_number-fewer [] label none = refl
  wait_number-fewer (e ∷ es) label none =
      elim (is_same e.1.label label) as (λ b. is_same e.1.label label ≡ b → cond b (Some e.0) (wait_number es label) ≡ None → wait_number (cond (test e.0) es (e ∷ remove_entry test es)) label ≡ None) [
        | true ↦ λ one h. cc
        | false ↦ λ one h. elim (test e.0) as (λ c. wait_number (cond c es (e ∷ remove_entry test es)) label ≡ None) [
          | true ↦ h
          | false ↦ ap (λ b. cond b (Some e.0) (wait_number (remove_entry test es) label)) one ∙ wait_number-fewer es label h
        ]
      ] refl none

  above-fewer : (m : ℕ) (es : Rows) → AreAbove m es → AreAbove m (remove_entry test es)
  above-fewer m [] above = tt
  above-fewer m (e ∷ es) above = elim (test e.0) as (λ c. AreAbove m (cond c es (e ∷ remove_entry test es))) [
    | true ↦ above.1
    | false ↦ (above.0, above-fewer m es above.1)
  ]

  rising-fewer : (es : Rows) → AreRising es → AreRising (remove_entry test es)
  rising-fewer [] rising = tt
  rising-fewer (e ∷ es) rising = elim (test e.0) as (λ c. AreRising (cond c es (e ∷ remove_entry test es))) [
    | true ↦ rising.1
    | false ↦ (above-fewer e.0 es rising.0, rising-fewer es rising.1)
  ]

  once-fewer : (es : Rows) → AreOnce es → AreOnce (remove_entry test es)
  once-fewer [] once = tt
  once-fewer (e ∷ es) once = elim (test e.0) as (λ c. AreOnce (cond c es (e ∷ remove_entry test es))) [
    | true ↦ once.1
    | false ↦ (wait_number-fewer es e.1.label once.0, once-fewer es once.1)
  ]

module _ (label : Bytes) (n : ℕ) where
  -- without its number the wait of the label is gone, and the others stay
  values_of-removed : (es : Rows) → AreRising es → AreOnce es → wait_number es label ≡ Some n → values_of (remove_entry (is_at (nat_cmp n)) es) ≡ not_waiting (values_of es) label
  values_of-removed [] rising once found = cc
  values_of-removed (e ∷ es) rising once found =
      elim (is_same e.1.label label) as (λ b. is_same e.1.label label ≡ b → cond b (Some e.0) (wait_number es label) ≡ Some n →
      values_of (cond (is_eq (nat_cmp n e.0)) es (e ∷ remove_entry (is_at (nat_cmp n)) es)) ≡ cond (not b) (e.1 ∷ not_waiting (values_of es) label) (not_waiting (values_of es) label)) [
        | true ↦ λ one h. let is : n ≡ e.0 = cc in
            ap (λ c. values_of (cond c es (e ∷ remove_entry (is_at (nat_cmp n)) es))) (tied n e.0 is)
            ∙ sym (not_waiting-none es label (ap (wait_number es) (sym (is_same-eq e.1.label label one)) ∙ once.0))
        | false ↦ λ one h.
            ap (λ c. values_of (cond c es (e ∷ remove_entry (is_at (nat_cmp n)) es))) (later n e.0 (found_above e.0 n label es rising.0 h))
            ∙ ap (λ r. e.1 ∷ r) (values_of-removed es rising.1 once.1 h)
      ] refl found

  wait_number-removed : (es : Rows) (q : Bytes) → AreRising es → AreOnce es → wait_number es label ≡ Some n → wait_number (remove_entry (is_at (nat_cmp n)) es) q ≡ cond (is_same label q) None (wait_number es q)
  wait_number-removed [] q rising once found = cc
  wait_number-removed (e ∷ es) q rising once found =
      elim (is_same e.1.label label) as (λ b. is_same e.1.label label ≡ b → cond b (Some e.0) (wait_number es label) ≡ Some n →
      wait_number (cond (is_eq (nat_cmp n e.0)) es (e ∷ remove_entry (is_at (nat_cmp n)) es)) q ≡ cond (is_same label q) None (wait_number (e ∷ es) q)) [
        | true ↦ λ one h. let is : n ≡ e.0 = cc in
            ap (λ c. wait_number (cond c es (e ∷ remove_entry (is_at (nat_cmp n)) es)) q) (tied n e.0 is)
            ∙ own (is_same-eq e.1.label label one)
        | false ↦ λ one h.
            ap (λ c. wait_number (cond c es (e ∷ remove_entry (is_at (nat_cmp n)) es)) q) (later n e.0 (found_above e.0 n label es rising.0 h))
            ∙ rest one (wait_number-removed es q rising.1 once.1 h)
      ] refl found
    where
      own : e.1.label ≡ label → wait_number es q ≡ cond (is_same label q) None (wait_number (e ∷ es) q)
      own same = elim (is_same label q) as (λ b. is_same label q ≡ b → wait_number es q ≡ cond b None (cond (is_same e.1.label q) (Some e.0) (wait_number es q))) [
        | true ↦ λ two. ap (wait_number es) (sym (same ∙ is_same-eq label q two)) ∙ once.0
        | false ↦ λ two. sym (ap (λ c. cond c (Some e.0) (wait_number es q)) (ap (λ l. is_same l q) same ∙ two))
      ] refl

      differs : {b : Bool} → b ≡ true → b ≡ false → ⊥
      differs t f = cc

      rest : is_same e.1.label label ≡ false → wait_number (remove_entry (is_at (nat_cmp n)) es) q ≡ cond (is_same label q) None (wait_number es q) →
          wait_number (e ∷ remove_entry (is_at (nat_cmp n)) es) q ≡ cond (is_same label q) None (wait_number (e ∷ es) q)
      rest differ same = elim (is_same e.1.label q) as (λ b. is_same e.1.label q ≡ b → cond b (Some e.0) (wait_number (remove_entry (is_at (nat_cmp n)) es) q) ≡ cond (is_same label q) None (cond b (Some e.0) (wait_number es q))) [
        | true ↦ λ two. sym (ap (λ c. cond c None (Some e.0)) (false_from_ne_true (is_same label q) (λ three.
            differs (ap (λ l. is_same l label) (is_same-eq e.1.label q two ∙ sym (is_same-eq label q three)) ∙ is_same-self label) differ)))
        | false ↦ λ two. same
      ] refl

  module _ (es : Rows) (numbers new : List (Bytes × ℕ)) (kept : AreNumbered es numbers) (found : wait_number es label ≡ Some n)
      (taken : (q : Bytes) → lookup (is_same q) new ≡ cond (is_same label q) None (lookup (is_same q) numbers)) where
    pub removed : values_of (remove_entry (is_at (nat_cmp n)) es) ≡ not_waiting (values_of es) label
    removed = values_of-removed es kept.rising kept.once found

    pub removed-kept : AreNumbered (remove_entry (is_at (nat_cmp n)) es) new
    removed-kept = record {
      rising = rising-fewer (is_at (nat_cmp n)) es kept.rising;
      once = once-fewer (is_at (nat_cmp n)) es kept.once;
      found = λ q. taken q ∙ ap (cond (is_same label q) None) (kept.found q) ∙ sym (wait_number-removed es q kept.rising kept.once found);
    }

-- a label that leads to no number has no wait to take away
pub removed-none : (es : Rows) (label : Bytes) → wait_number es label ≡ None → not_waiting (values_of es) label ≡ values_of es
removed-none es label none = not_waiting-none es label none

-- ---- The test of the program

module _ (eq : Bytes → Bytes → Bool) (same : (a b : Bytes) → eq a b ≡ is_same a b) where
  at : (q : Bytes) (es : List (Bytes × ℕ)) → lookup (eq q) es ≡ lookup (is_same q) es
  at q es i = lookup (λ k. same q k i) es

  -- what a label leads to
  pub looked_up : (label : Bytes) (es : Rows) (numbers : List (Bytes × ℕ)) → AreNumbered es numbers → lookup (eq label) numbers ≡ wait_number es label
  looked_up label es numbers kept = at label numbers ∙ kept.found label

  -- one label leads to another number or to none, and the others where they did
  pub led_anew : (label : Bytes) (o : Option ℕ) (numbers old new : List (Bytes × ℕ)) → old ≡ numbers → ((q : Bytes) → lookup (eq q) new ≡ cond (eq label q) o (lookup (eq q) old)) →
      (q : Bytes) → lookup (is_same q) new ≡ cond (is_same label q) o (lookup (is_same q) numbers)
  led_anew label o numbers old new is updated q =
      sym (at q new) ∙ updated q ∙ (λ i. cond (same label q i) o (lookup (eq q) (is i))) ∙ ap (cond (is_same label q) o) (at q numbers)

-- if room was made, what may want room succeeds
pub made_room : {A E B F Q : Type 0} (n : ℕ) (r : Result A E) (s : Result B F) → is_err r ≡ false → OnOk r (1 ≤ n) → (0 < n → IsOk s) → OnOk s Q → Q
made_room n (Ok a) (Ok b) ok room succeeds q = q
made_room n (Ok a) (Err f) ok room succeeds q = absurd (never (succeeds (omega arith)))
  where
    never : false ≡ true → ⊥
    never e = cc
made_room n (Err e) s ok room succeeds q = cc
