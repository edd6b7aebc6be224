-- After each change of the notes the commands that must be looked at have their keys.
use Rattle.std.specs.Prelude.{All, ◌+◌, unwrap_or, IfSome, ◌≡◌, ◌<◌, ◌≤◌, ℕ, Bool, true, false, Option, Some, None, is_some, take, length, List, [], ◌∷◌, ◌++◌, slice_get, slice_set, refl}
use Rattle.std.specs.BTreeSet.{BTreeSet, Updates}
use Rattle.std.specs.BTreeMap.{is_at}
use Rattle.std.specs.List.{list_any}
use Rattle.std.specs.Ordering.{nat_cmp, is_eq}
use Rattle.std.specs.Cmp.{nat_cmp_is}
use Rattle.std.specs.declared.cmp.Ordering.TheVariants.{Less, Greater}
use Rattle.std.proofs.Common.{◌⊎◌, inl, inr, zero, suc, sym, ap, ◌∙◌, subst, arith}
use Rattle.std.proofs.lemmas.Bool.{true≢false}
use Rattle.std.proofs.lemmas.List.{length-set}
use Rattle.std.proofs.lemmas.Option.{slice_get_within, slice_get_past, get_or_from_slice_get}
use Rattle.cics_dispatch.specs.declared.notes.groups.WaitNote.{WaitNote}
use Rattle.cics_names.specs.Keyed.{Bytes}
use Rattle.cics_dispatch.specs.Notes.Notes.{of_group, blocker_by, blocker_in, new_note, in_group, AreClosed}
use Rattle.cics_dispatch.specs.Notes.Firsts.{IsFirstBelow}
use Rattle.cics_dispatch.specs.Notes.Filed.{has, IsMember, IsInGroup, IsShownBy, IsShown, IsFirstShown, IsPut, HasLeft, IsLeft}

-- ---- Indexes

pub get_set : {X : Type 0} (xs : List X) (i j : ℕ) (x y : X) → slice_get (slice_set xs i x) j ≡ Some y → ((j ≡ i) × (x ≡ y)) ⊎ ((j ≡ i → ⊥) × (slice_get xs j ≡ Some y))
get_set [] i j x y there = cc
get_set (z ∷ xs) zero zero x y there = inl (refl, let same : x ≡ y = cc in same)
get_set (z ∷ xs) zero (suc j) x y there = inr ((λ e. omega (arith, e)), there)
get_set (z ∷ xs) (suc i) zero x y there = inr ((λ e. omega (arith, e)), there)
get_set (z ∷ xs) (suc i) (suc j) x y there = elim (get_set xs i j x y there) [ inl now ↦ inl (ap suc now.0, now.1) | inr was ↦ inr ((λ e. was.0 (omega (arith, e))), was.1) ]

pub set_cases : {X : Type 0} (xs : List X) (i j : ℕ) (x y : X) → slice_get xs j ≡ Some y → ((j ≡ i) × (slice_get (slice_set xs i x) j ≡ Some x)) ⊎ ((j ≡ i → ⊥) × (slice_get (slice_set xs i x) j ≡ Some y))
set_cases [] i j x y there = cc
set_cases (z ∷ xs) zero zero x y there = inl (refl, refl)
set_cases (z ∷ xs) zero (suc j) x y there = inr ((λ e. omega (arith, e)), there)
set_cases (z ∷ xs) (suc i) zero x y there = inr ((λ e. omega (arith, e)), there)
set_cases (z ∷ xs) (suc i) (suc j) x y there = elim (set_cases xs i j x y there) [ inl now ↦ inl (ap suc now.0, now.1) | inr was ↦ inr ((λ e. was.0 (omega (arith, e))), was.1) ]

pub set_here : {X : Type 0} (xs : List X) (i : ℕ) (x : X) → i < length xs → slice_get (slice_set xs i x) i ≡ Some x
set_here [] i x within = absurd (never within)
  where
    never : i < 0 → ⊥
    never less = omega (arith, less)
set_here (z ∷ xs) zero x within = refl
set_here (z ∷ xs) (suc i) x within = set_here xs i x (omega (arith, within))

pub set_apart : {X : Type 0} (xs : List X) (i j : ℕ) (x y : X) → (j ≡ i → ⊥) → slice_get xs j ≡ Some y → slice_get (slice_set xs i x) j ≡ Some y
set_apart xs i j x y apart there = elim (set_cases xs i j x y there) [ inl now ↦ absurd (apart now.0) | inr was ↦ was.1 ]

pub zero_kept : (ks : List ℕ) (at i : ℕ) → slice_get ks i ≡ Some 0 → slice_get (slice_set ks at 0) i ≡ Some 0
zero_kept ks at i there = elim (set_cases ks at i 0 0 there) [ inl now ↦ now.1 | inr was ↦ was.1 ]

pub length_set : {X : Type 0} (xs : List X) (i : ℕ) (x : X) → length (slice_set xs i x) ≡ length xs
length_set xs i x = length-set xs i x

pub longer : {X : Type 0} (xs : List X) (x : X) → length (xs ++ x ∷ []) ≡ suc (length xs)
longer [] x = refl
longer (y ∷ ys) x = ap suc (longer ys x)

pub push_here : {X : Type 0} (xs : List X) (x : X) → slice_get (xs ++ x ∷ []) (length xs) ≡ Some x
push_here [] x = refl
push_here (y ∷ ys) x = push_here ys x

pub push_there : {X : Type 0} (xs : List X) (i : ℕ) (x y : X) → slice_get xs i ≡ Some y → slice_get (xs ++ x ∷ []) i ≡ Some y
push_there [] i x y there = cc
push_there (z ∷ xs) zero x y there = there
push_there (z ∷ xs) (suc i) x y there = push_there xs i x y there

pub get_push : {X : Type 0} (xs : List X) (j : ℕ) (x y : X) → slice_get (xs ++ x ∷ []) j ≡ Some y → ((j ≡ length xs) × (x ≡ y)) ⊎ (slice_get xs j ≡ Some y)
get_push [] zero x y there = inl (refl, let same : x ≡ y = cc in same)
get_push [] (suc j) x y there = cc
get_push (z ∷ xs) zero x y there = inr there
get_push (z ∷ xs) (suc j) x y there = elim (get_push xs j x y there) [ inl now ↦ inl (ap suc now.0, now.1) | inr was ↦ inr was ]

take_get : {X : Type 0} (at i : ℕ) (xs : List X) (x : X) → slice_get (take at xs) i ≡ Some x → (i < at) × (slice_get xs i ≡ Some x)
take_get zero i xs x there = cc
take_get (suc at) i [] x there = cc
take_get (suc at) zero (y ∷ ys) x there = (omega arith, there)
take_get (suc at) (suc i) (y ∷ ys) x there = let rest = take_get at i ys x there in let less = rest.0 in (omega (arith, less), rest.1)

pub one : {X : Type 0} (o : Option X) (x y : X) → o ≡ Some x → o ≡ Some y → x ≡ y
one None x y is same = cc
one (Some z) x y is same = cc

pub of_group_set : (bs : List (Option ℕ)) (g h : ℕ) (b v : Option ℕ) → of_group (slice_set bs g b) h ≡ v → ((h ≡ g) × (b ≡ v)) ⊎ (of_group bs h ≡ v)
of_group_set [] g h b v is = inr is
of_group_set (c ∷ bs) zero zero b v is = inl (refl, is)
of_group_set (c ∷ bs) zero (suc h) b v is = inr is
of_group_set (c ∷ bs) (suc g) zero b v is = inr is
of_group_set (c ∷ bs) (suc g) (suc h) b v is = elim (of_group_set bs g h b v is) [ inl now ↦ inl (ap suc now.0, now.1) | inr was ↦ inr was ]

pub of_group_at : (bs : List (Option ℕ)) (g : ℕ) (b : Option ℕ) → slice_get bs g ≡ Some b → of_group bs g ≡ b
of_group_at bs g b there = ap (λ o. unwrap_or o None) there

pub of_group_here : (bs : List (Option ℕ)) (g : ℕ) (b : Option ℕ) → g < length bs → of_group (slice_set bs g b) g ≡ b
of_group_here bs g b within = of_group_at (slice_set bs g b) g b (set_here bs g b within)

pub of_group_more : (bs : List (Option ℕ)) (g : ℕ) → of_group (bs ++ None ∷ []) g ≡ of_group bs g
of_group_more [] zero = refl
of_group_more [] (suc g) = refl
of_group_more (b ∷ bs) zero = refl
of_group_more (b ∷ bs) (suc g) = of_group_more bs g

same_or_apart : (a b : ℕ) → (a ≡ b) ⊎ (a ≡ b → ⊥)
same_or_apart zero zero = inl refl
same_or_apart zero (suc b) = inr (λ e. omega (arith, e))
same_or_apart (suc a) zero = inr (λ e. omega (arith, e))
same_or_apart (suc a) (suc b) = elim (same_or_apart a b) [ inl same ↦ inl (ap suc same) | inr apart ↦ inr (λ e. apart (omega (arith, e))) ]

in_group_kept : (rows : List (Option WaitNote)) (at i g : ℕ) (c : Option WaitNote) → (i ≡ at → ⊥) → IsInGroup rows i g → IsInGroup (slice_set rows at c) i g
in_group_kept rows at i g c apart is = record { note = is.note; there = set_apart rows at i c (Some is.note) apart is.there; own = is.own }

put_there : (at : ℕ) (b : Bool) (s t : BTreeSet ℕ) (i : ℕ) → IsPut at b s t → (i ≡ at → ⊥) → has s i ≡ true → has t i ≡ true
put_there at b s t i put apart there = put.others i apart ∙ there

put_was : (at : ℕ) (b : Bool) (s t : BTreeSet ℕ) (i : ℕ) → IsPut at b s t → (i ≡ at → ⊥) → has t i ≡ true → has s i ≡ true
put_was at b s t i put apart there = sym (put.others i apart) ∙ there

-- ---- Closed

closed_from : (bs : List (Option ℕ)) (ns : List (Option WaitNote)) → ((i : ℕ) (n : WaitNote) → slice_get ns i ≡ Some (Some n) → is_some (blocker_in bs n) ≡ true) → AreClosed bs ns
closed_from bs [] known = tt
closed_from bs (None ∷ ns) known = closed_from bs ns (λ i n there. known (suc i) n there)
closed_from bs (Some n ∷ ns) known = (known 0 n refl, closed_from bs ns (λ i n there. known (suc i) n there))

-- a note that has to wait for a unit in no wait group, or none
abbrev pub IsAside : Option WaitNote → Type 0
IsAside None = Unit {0}
IsAside (Some m) = (m.group ≡ None) × (m.blocker ≡ None → ⊥)

aside_closed : (c : Option WaitNote) (m : WaitNote) → IsAside c → c ≡ Some m → m.blocker ≡ None → ⊥
aside_closed None m aside is none = cc
aside_closed (Some k) m aside is none = let same : k ≡ m = cc in aside.1 (ap (λ x. x.blocker) same ∙ none)

aside_group : (c : Option WaitNote) (m : WaitNote) (g : ℕ) → IsAside c → c ≡ Some m → m.group ≡ Some g → ⊥
aside_group None m g aside is own = cc
aside_group (Some k) m g aside is own = let same : k ≡ m = cc in let none : None ≡ Some g = sym aside.0 ∙ ap (λ x. x.group) same ∙ own in cc

module _ (rows : List (Option WaitNote)) (bs : List (Option ℕ)) (ms : List (BTreeSet ℕ)) (keys : List ℕ) (is : IsShown rows bs ms keys) where
  pub shown_push : (label : Bytes) → IsShown (rows ++ Some (new_note label) ∷ []) bs ms (keys ++ 0 ∷ [])
  shown_push label = record {
    even = longer keys 0 ∙ ap suc is.even ∙ sym (longer rows (Some (new_note label)));
    sized = is.sized;
    alone = λ i n there group own. elim (get_push rows i (Some (new_note label)) (Some n) there) [
      | inl now ↦ subst (λ k. slice_get (keys ++ 0 ∷ []) k ≡ Some 0) (is.even ∙ sym now.0) (push_here keys 0)
      | inr was ↦ push_there keys i 0 0 (is.alone i n was group own)
    ];
    member = λ i n g there own. elim (get_push rows i (Some (new_note label)) (Some n) there) [
      | inl now ↦ absurd (none n g now.1 own)
      | inr was ↦ is.member i n g was own
    ];
    row = λ g s i there member. let was = is.row g s i there member in record { note = was.note; there = push_there rows i (Some (new_note label)) (Some was.note) was.there; own = was.own };
    first = λ g s i there none member. let was = is.first g s i there none member in record { place = was.place; before = was.before; member = was.member; key = push_there keys was.place 0 0 was.key };
  }
    where
      none : (n : WaitNote) (g : ℕ) → Some (new_note label) ≡ Some n → n.group ≡ Some g → ⊥
      none n g is own = let same : new_note label ≡ n = cc in let never : None ≡ Some g = ap (λ x. x.group) same ∙ own in cc

  pub shown_left : (at : ℕ) (n : WaitNote) (c : Option WaitNote) (ls : List (BTreeSet ℕ)) (new : List ℕ) → slice_get rows at ≡ Some (Some n) → IsAside c → IsLeft at n.group bs ms keys ls new → IsShown (slice_set rows at c) bs ls new
  shown_left at n c ls new there aside going = by n.group refl going
    where
      from_none : n.group ≡ None → IsShown (slice_set rows at c) bs ms keys
      from_none none = record {
        even = is.even ∙ sym (length_set rows at c);
        sized = is.sized;
        alone = λ i m was group own. elim (get_set rows at i c (Some m) was) [ inl now ↦ absurd (aside_closed c m aside now.1 own) | inr old ↦ is.alone i m old.1 group own ];
        member = λ i m g was own. elim (get_set rows at i c (Some m) was) [ inl now ↦ absurd (aside_group c m g aside now.1 own) | inr old ↦ is.member i m g old.1 own ];
        row = λ g s i put member. let was = is.row g s i put member in in_group_kept rows at i g c (apart i g was) was;
        first = is.first;
      }
        where
          apart : (i g : ℕ) → IsInGroup rows i g → i ≡ at → ⊥
          apart i g was same =
              let m : was.note ≡ n = let e : Some was.note ≡ Some n = one (slice_get rows i) (Some was.note) (Some n) was.there (ap (slice_get rows) same ∙ there) in cc in
              let never : Some g ≡ None = sym was.own ∙ ap (λ x. x.group) m ∙ none in cc

      from_group : (g : ℕ) → n.group ≡ Some g → (left : HasLeft at g bs ms keys ls new) → IsShown (slice_set rows at c) bs (slice_set ms g left.rest) new
      from_group g own left = record {
        even = left.first.even ∙ is.even ∙ sym (length_set rows at c);
        sized = length_set ms g left.rest ∙ is.sized;
        alone = λ i m was group none. elim (get_set rows at i c (Some m) was) [ inl now ↦ absurd (aside_closed c m aside now.1 none) | inr old ↦ left.first.kept i (is.alone i m old.1 group none) ];
        member = λ i m h was group. elim (get_set rows at i c (Some m) was) [ inl now ↦ absurd (aside_group c m h aside now.1 group) | inr old ↦ member_kept i h old.0 (is.member i m h old.1 group) ];
        row = λ h s i put member. elim (get_set ms g h left.rest s put) [
          | inl now ↦
              let in_rest : has left.rest i ≡ true = subst (λ t. has t i ≡ true) (sym now.1) member in
              let apart : i ≡ at → ⊥ = λ e. absurd (true≢false (sym in_rest ∙ ap (has left.rest) e ∙ left.gone.here)) in
              subst (IsInGroup (slice_set rows at c) i) (sym now.0) (in_group_kept rows at i g c apart (is.row g left.old i left.there (put_was at false left.old left.rest i left.gone apart in_rest)))
          | inr old ↦ let was = is.row h s i old.1 member in in_group_kept rows at i h c (other i h old.0 was) was
        ];
        first = λ h s i put none member. elim (get_set ms g h left.rest s put) [
          | inl now ↦ subst (λ t. IsShownBy t new i) now.1 (left.first.shown i (ap (of_group bs) (sym now.0) ∙ none) (subst (λ t. has t i ≡ true) (sym now.1) member))
          | inr old ↦ let was = is.first h s i old.1 none member in record { place = was.place; before = was.before; member = was.member; key = left.first.kept was.place was.key }
        ];
      }
        where
          member_kept : (i h : ℕ) → (i ≡ at → ⊥) → IsMember ms h i → IsMember (slice_set ms g left.rest) h i
          member_kept i h apart m = elim (set_cases ms g h left.rest m.members m.there) [
            | inl now ↦
                let same : m.members ≡ left.old = one (slice_get ms g) m.members left.old (ap (slice_get ms) (sym now.0) ∙ m.there) left.there in
                record { members = left.rest; there = now.1; member = put_there at false left.old left.rest i left.gone apart (subst (λ t. has t i ≡ true) same m.member) }
            | inr old ↦ record { members = m.members; there = old.1; member = m.member }
          ]

          other : (i h : ℕ) → (h ≡ g → ⊥) → IsInGroup rows i h → i ≡ at → ⊥
          other i h apart was same =
              let m : was.note ≡ n = let e : Some was.note ≡ Some n = one (slice_get rows i) (Some was.note) (Some n) was.there (ap (slice_get rows) same ∙ there) in cc in
              let groups : Some h ≡ Some g = sym was.own ∙ ap (λ x. x.group) m ∙ own in
              let group : h ≡ g = cc in
              apart group

      by : (group : Option ℕ) → n.group ≡ group → IsLeft at group bs ms keys ls new → IsShown (slice_set rows at c) bs ls new
      by None none left = subst (λ l. IsShown (slice_set rows at c) bs l new) (sym left.0) (subst (λ k. IsShown (slice_set rows at c) bs ms k) (sym left.1) (from_none none))
      by (Some g) own left = subst (λ l. IsShown (slice_set rows at c) bs l new) (sym left.put) (from_group g own left)

  pub shown_closed : (at g u : ℕ) (n : WaitNote) (s t : BTreeSet ℕ) → slice_get rows at ≡ Some (Some n) → ((h : ℕ) → n.group ≡ Some h → h ≡ g) → slice_get ms g ≡ Some s → IsPut at true s t →
      IsShown (slice_set rows at (Some (in_group g n))) (slice_set bs g (Some u)) (slice_set ms g t) keys
  shown_closed at g u n s t there only had put = record {
    even = is.even ∙ sym (length_set rows at noted);
    sized = length_set ms g t ∙ is.sized ∙ sym (length_set bs g (Some u));
    alone = λ i m was group none. elim (get_set rows at i noted (Some m) was) [ inl now ↦ absurd (not_alone m now.1 group) | inr old ↦ is.alone i m old.1 group none ];
    member = λ i m h was group. elim (get_set rows at i noted (Some m) was) [
      | inl now ↦ subst (λ l. IsMember (slice_set ms g t) l i) (own_group m h now.1 group) (record { members = t; there = set_here ms g t (slice_get_within ms g s had); member = subst (λ k. has t k ≡ true) (sym now.0) put.here })
      | inr old ↦ member_kept i h old.0 (is.member i m h old.1 group)
    ];
    row = λ h q i was member. elim (get_set ms g h t q was) [
      | inl now ↦ subst (IsInGroup (slice_set rows at noted) i) (sym now.0) (own_row i (subst (λ x. has x i ≡ true) (sym now.1) member))
      | inr old ↦ let group = is.row h q i old.1 member in in_group_kept rows at i h noted (other i h old.0 group) group
    ];
    first = λ h q i was none member. elim (get_set ms g h t q was) [
      | inl now ↦ absurd (closed_now h now.0 none)
      | inr old ↦ elim (of_group_set bs g h (Some u) None none) [ inl now ↦ absurd (old.0 now.0) | inr open_yet ↦ is.first h q i old.1 open_yet member ]
    ];
  }
    where
      noted : Option WaitNote
      noted = Some (in_group g n)

      not_alone : (m : WaitNote) → noted ≡ Some m → m.group ≡ None → ⊥
      not_alone m is group = let same : in_group g n ≡ m = cc in let never : Some g ≡ None = ap (λ x. x.group) same ∙ group in cc

      own_group : (m : WaitNote) (h : ℕ) → noted ≡ Some m → m.group ≡ Some h → g ≡ h
      own_group m h is group = let same : in_group g n ≡ m = cc in let both : Some g ≡ Some h = ap (λ x. x.group) same ∙ group in cc

      closed_now : (h : ℕ) → h ≡ g → of_group (slice_set bs g (Some u)) h ≡ None → ⊥
      closed_now h same none =
          let within : g < length bs = subst (λ k. g < k) is.sized (slice_get_within ms g s had) in
          let never : Some u ≡ None = sym (of_group_here bs g (Some u) within) ∙ ap (of_group (slice_set bs g (Some u))) (sym same) ∙ none in cc

      member_kept : (i h : ℕ) → (i ≡ at → ⊥) → IsMember ms h i → IsMember (slice_set ms g t) h i
      member_kept i h apart m = elim (set_cases ms g h t m.members m.there) [
        | inl now ↦
            let same : m.members ≡ s = one (slice_get ms g) m.members s (ap (slice_get ms) (sym now.0) ∙ m.there) had in
            record { members = t; there = now.1; member = put_there at true s t i put apart (subst (λ x. has x i ≡ true) same m.member) }
        | inr old ↦ record { members = m.members; there = old.1; member = m.member }
      ]

      own_row : (i : ℕ) → has t i ≡ true → IsInGroup (slice_set rows at noted) i g
      own_row i member = elim (same_or_apart i at) [
        | inl same ↦ subst (λ k. IsInGroup (slice_set rows at noted) k g) (sym same) (record { note = in_group g n; there = set_here rows at noted (slice_get_within rows at (Some n) there); own = refl })
        | inr apart ↦ in_group_kept rows at i g noted apart (is.row g s i had (put_was at true s t i put apart member))
      ]

      other : (i h : ℕ) → (h ≡ g → ⊥) → IsInGroup rows i h → i ≡ at → ⊥
      other i h apart was same =
          let m : was.note ≡ n = let e : Some was.note ≡ Some n = one (slice_get rows i) (Some was.note) (Some n) was.there (ap (slice_get rows) same ∙ there) in cc in
          apart (only h (sym (ap (λ x. x.group) m) ∙ was.own))

  pub shown_new_group : (s : BTreeSet ℕ) → ((i : ℕ) → has s i ≡ false) → IsShown rows (bs ++ None ∷ []) (ms ++ s ∷ []) keys
  shown_new_group s empty = record {
    even = is.even;
    sized = longer ms s ∙ ap suc is.sized ∙ sym (longer bs None);
    alone = is.alone;
    member = λ i n g there own. let was = is.member i n g there own in record { members = was.members; there = push_there ms g s was.members was.there; member = was.member };
    row = λ g q i there member. elim (get_push ms g s q there) [ inl now ↦ absurd (none q i now.1 member) | inr was ↦ is.row g q i was member ];
    first = λ g q i there open_yet member. elim (get_push ms g s q there) [ inl now ↦ absurd (none q i now.1 member) | inr was ↦ is.first g q i was (sym (of_group_more bs g) ∙ open_yet) member ];
  }
    where
      none : (q : BTreeSet ℕ) (i : ℕ) → s ≡ q → has q i ≡ true → ⊥
      none q i same member = absurd (true≢false (sym member ∙ ap (λ x. has x i) (sym same) ∙ empty i))

  -- the key of an index at which no command must be looked at is set to 1
  pub shown_passed : (at : ℕ) → ((n : WaitNote) → slice_get rows at ≡ Some (Some n) → blocker_in bs n ≡ None → ⊥) → IsShown rows bs ms (slice_set keys at 1)
  shown_passed at passed = record {
    even = length_set keys at 1 ∙ is.even;
    sized = is.sized;
    alone = λ i n there group own. set_apart keys at i 1 0 (λ e. passed n (ap (slice_get rows) (sym e) ∙ there) (ap (λ l. blocker_by bs l n.blocker) group ∙ own)) (is.alone i n there group own);
    member = is.member;
    row = is.row;
    first = λ g s i there open_yet member.
        let by = is.first g s i there open_yet member in
        let row = is.row g s by.place there by.member in
        record {
          place = by.place;
          before = by.before;
          member = by.member;
          key = set_apart keys at by.place 1 0 (λ e. passed row.note (ap (slice_get rows) (sym e) ∙ row.there) (ap (λ l. blocker_by bs l row.note.blocker) row.own ∙ open_yet)) by.key;
        };
  }

  -- a command in no wait group is looked at again
  pub shown_row : (at : ℕ) (n m : WaitNote) → slice_get rows at ≡ Some (Some n) → m.group ≡ n.group → IsShown (slice_set rows at (Some m)) bs ms (slice_set keys at 0)
  shown_row at n m there group = record {
    even = length_set keys at 0 ∙ is.even ∙ sym (length_set rows at (Some m));
    sized = is.sized;
    alone = λ i q was none own. elim (get_set rows at i (Some m) (Some q) was) [
      | inl now ↦ subst (λ k. slice_get (slice_set keys at 0) k ≡ Some 0) (sym now.0) (set_here keys at 0 (subst (λ k. at < k) (sym is.even) (slice_get_within rows at (Some n) there)))
      | inr old ↦ zero_kept keys at i (is.alone i q old.1 none own)
    ];
    member = λ i q g was own. elim (get_set rows at i (Some m) (Some q) was) [
      | inl now ↦ subst (IsMember ms g) (sym now.0) (is.member at n g there (sym group ∙ ap (λ x. x.group) (let same : m ≡ q = let both = now.1 in cc in same) ∙ own))
      | inr old ↦ is.member i q g old.1 own
    ];
    row = λ g s i put member. let was = is.row g s i put member in elim (same_or_apart i at) [
      | inl same ↦
          let k : was.note ≡ n = let e : Some was.note ≡ Some n = one (slice_get rows i) (Some was.note) (Some n) was.there (ap (slice_get rows) same ∙ there) in cc in
          record { note = m; there = ap (slice_get (slice_set rows at (Some m))) same ∙ set_here rows at (Some m) (slice_get_within rows at (Some n) there); own = group ∙ sym (ap (λ x. x.group) k) ∙ was.own }
      | inr apart ↦ in_group_kept rows at i g (Some m) apart was
    ];
    first = λ g s i put open_yet member. let was = is.first g s i put open_yet member in record { place = was.place; before = was.before; member = was.member; key = zero_kept keys at was.place was.key };
  }

  -- the commands of a wait group are
  pub shown_group : (g : ℕ) (s : BTreeSet ℕ) (new : List ℕ) → slice_get ms g ≡ Some s → IsFirstShown None s keys new → IsShown rows (slice_set bs g None) ms new
  shown_group g s new there fs = record {
    even = fs.even ∙ is.even;
    sized = is.sized ∙ sym (length_set bs g None);
    alone = λ i n was group own. fs.kept i (is.alone i n was group own);
    member = is.member;
    row = is.row;
    first = λ h q i put open_yet member. elim (of_group_set bs g h None None open_yet) [
      | inl now ↦
          let same : q ≡ s = one (slice_get ms g) q s (ap (slice_get ms) (sym now.0) ∙ put) there in
          subst (λ x. IsShownBy x new i) (sym same) (fs.shown i refl (subst (λ x. has x i ≡ true) same member))
      | inr was ↦ let by = is.first h q i put was member in record { place = by.place; before = by.before; member = by.member; key = fs.kept by.place by.key }
    ];
  }

  -- if no key up to an index is 0, the command there has a known blocker
  known : (i : ℕ) (n : WaitNote) → ((j k : ℕ) → j ≤ i → slice_get keys j ≡ Some k → 1 ≤ k) → slice_get rows i ≡ Some (Some n) → is_some (blocker_in bs n) ≡ true
  known i n none there = by (blocker_in bs n) refl
    where
      never : (j : ℕ) → j ≤ i → slice_get keys j ≡ Some 0 → ⊥
      never j before key = let least = none j 0 before key in omega (arith, least)

      open_yet : (group : Option ℕ) → n.group ≡ group → blocker_by bs group n.blocker ≡ None → ⊥
      open_yet None group own = never i (omega arith) (is.alone i n there group own)
      open_yet (Some g) group own =
          let m = is.member i n g there group in
          let by = is.first g m.members i m.there own m.member in
          never by.place by.before by.key

      by : (b : Option ℕ) → blocker_in bs n ≡ b → is_some b ≡ true
      by None own = absurd (open_yet n.group refl own)
      by (Some u) own = refl

  pub closed_all_shown : ((j k : ℕ) → slice_get keys j ≡ Some k → 1 ≤ k) → AreClosed bs rows
  closed_all_shown none = closed_from bs rows (λ i n there. known i n (λ j k before. none j k) there)

  pub closed_before_shown : (at : ℕ) → ((j k : ℕ) → j < at → slice_get keys j ≡ Some k → 1 ≤ k) → AreClosed bs (take at rows)
  closed_before_shown at none = closed_from bs (take at rows) (λ i n there. let was = take_get at i rows (Some n) there in let less = was.0 in known i n (λ j k before. none j k (omega (arith, before, less))) was.1)

-- how many keys say that a command must be looked at
abbrev pub looks : List ℕ → ℕ
looks [] = 0
looks (zero ∷ keys) = suc (looks keys)
looks (suc k ∷ keys) = looks keys

pub looks_less : (keys : List ℕ) (at : ℕ) → slice_get keys at ≡ Some 0 → looks (slice_set keys at 1) < looks keys
looks_less [] at there = cc
looks_less (zero ∷ keys) zero there = omega arith
looks_less (suc k ∷ keys) zero there = cc
looks_less (zero ∷ keys) (suc at) there = let rest = looks_less keys at there in omega (arith, rest)
looks_less (suc k ∷ keys) (suc at) there = looks_less keys at there

pub key_zero : (keys : List ℕ) (at : ℕ) → IsFirstBelow keys 1 at → slice_get keys at ≡ Some 0
key_zero keys at first = let below = first.below in let zero_key : first.key ≡ 0 = omega (arith, below) in first.there ∙ ap Some zero_key

pub key_above : (keys : List ℕ) → All (λ key. 1 ≤ key) keys → (j k : ℕ) → slice_get keys j ≡ Some k → 1 ≤ k
key_above keys all j k there = let least = all j k (slice_get_within keys j k there) in subst (λ x. 1 ≤ x) (get_or_from_slice_get keys j k k there) least

-- a row that isn't open
pub passed_row : (bs : List (Option ℕ)) (rows : List (Option WaitNote)) (at : ℕ) (c : Option WaitNote) → slice_get rows at ≡ Some c → ((n : WaitNote) → c ≡ Some n → is_some (blocker_in bs n) ≡ true) →
    (n : WaitNote) → slice_get rows at ≡ Some (Some n) → blocker_in bs n ≡ None → ⊥
passed_row bs rows at c there closed n noted own = absurd (true≢false (sym (closed n (one (slice_get rows at) c (Some n) there noted)) ∙ ap is_some own))

-- an empty wait group has no index
pub none_in : (s : BTreeSet ℕ) → s.keys ≡ [] → (i : ℕ) → has s i ≡ false
none_in s empty i = ap (list_any (is_at (nat_cmp i))) empty

module _ (rows : List (Option WaitNote)) (bs : List (Option ℕ)) (ms : List (BTreeSet ℕ)) (keys : List ℕ) (is : IsShown rows bs ms keys) where
  -- the wait group of a note, if it is in one, is one of these
  pub group_within : (at : ℕ) (n : WaitNote) → slice_get rows at ≡ Some (Some n) → IfSome n.group (λ g. g < length ms)
  group_within at n there = by n.group refl
    where
      by : (group : Option ℕ) → n.group ≡ group → IfSome group (λ g. g < length ms)
      by None own = tt
      by (Some g) own = let m = is.member at n g there own in slice_get_within ms g m.members m.there

  -- an index of a wait group has a key
  pub member_within : (g : ℕ) (s : BTreeSet ℕ) (i : ℕ) → slice_get ms g ≡ Some s → has s i ≡ true → i < length keys
  member_within g s i there member = let row = is.row g s i there member in subst (λ k. i < k) (sym is.even) (slice_get_within rows i (Some row.note) row.there)

  pub row_within : (at : ℕ) (c : Option WaitNote) → slice_get rows at ≡ Some c → at < length keys
  row_within at c there = subst (λ k. at < k) (sym is.even) (slice_get_within rows at c there)

pub of_group_past : (bs : List (Option ℕ)) (g : ℕ) → length bs ≤ g → of_group bs g ≡ None
of_group_past bs g past = ap (λ o. unwrap_or o None) (slice_get_past bs g past)

pub less_or_same : (k at : ℕ) → k < at + 1 → (k < at) ⊎ (k ≡ at)
less_or_same k at before = elim (same_or_apart k at) [ inl same ↦ inr same | inr apart ↦ inl (below apart) ]
  where
    below : (k ≡ at → ⊥) → k < at
    below apart = omega (arith, before, apart)

pub only_of : (group : Option ℕ) (g : ℕ) → IfSome group (λ h. h ≡ g) → (h : ℕ) → group ≡ Some h → h ≡ g
only_of None g only h own = cc
only_of (Some k) g only h own = let same : k ≡ h = cc in sym same ∙ only

pub set_same : {X : Type 0} (xs : List X) (i : ℕ) (x : X) → slice_get xs i ≡ Some x → slice_set xs i x ≡ xs
set_same [] i x there = cc
set_same (y ∷ ys) zero x there = let same : y ≡ x = cc in ap (λ z. z ∷ ys) (sym same)
set_same (y ∷ ys) (suc i) x there = ap (λ r. y ∷ r) (set_same ys i x there)

pub same_places : (s t : BTreeSet ℕ) → s.keys ≡ t.keys → s ≡ t
same_places s t same = λ i. record { keys = same i }

apart_order : (a b : ℕ) → (a ≡ b → ⊥) → (a < b) ⊎ (b < a)
apart_order zero zero apart = absurd (apart refl)
apart_order zero (suc b) apart = inl (omega arith)
apart_order (suc a) zero apart = inr (omega arith)
apart_order (suc a) (suc b) apart = elim (apart_order a b (λ e. apart (ap suc e))) [ inl less ↦ inl (omega (arith, less)) | inr more ↦ inr (omega (arith, more)) ]

not_at : (at i : ℕ) → (i ≡ at → ⊥) → is_at (nat_cmp at) i ≡ false
not_at at i apart = elim (apart_order i at apart) [
  | inl less ↦ ap is_eq (sym (nat_cmp_is at i Greater less))
  | inr more ↦ ap is_eq (sym (nat_cmp_is at i Less more))
]

-- an index that is added
pub put_by : (at : ℕ) (s t : BTreeSet ℕ) → Updates nat_cmp s t at true → IsPut at true s t
put_by at s t updates = record { here = updates.1; others = λ i apart. updates.2 i (not_at at i apart) }
