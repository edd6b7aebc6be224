-- The notes of the waiting commands are kept in order over each change.
use Rattle.std.specs.Prelude.{IfSome, ◌≡◌, ◌<◌, ℕ, ◌+◌, ◌==◌, Bool, true, false, not, cond, Option, Some, None, is_some, if◌then◌else◌, length, map, nat_eq, List, [], ◌∷◌, ◌++◌, Vec, slice_get, slice_set, refl}
use Rattle.std.specs.Map.{lookup}
use Rattle.std.specs.BTreeSet.{BTreeSet}
use Rattle.std.specs.Option.{option_eq}
use Rattle.std.specs.declared.alloc.Global.{Global}
use Rattle.std.proofs.Common.{inl, inr, zero, suc, sym, ap, ◌∙◌, subst, arith}
use Rattle.std.proofs.Math.Numerals.{add-one}
use Rattle.std.proofs.lemmas.Bool.{true≢false, eqb-true, eq-eqb}
use Rattle.std.proofs.lemmas.List.{length-map}
use Rattle.std.proofs.lemmas.Option.{slice_get_within}
use Rattle.cics_history.specs.declared.resources.Resource.{Resource}
use Rattle.cics_dispatch.specs.declared.notes.groups.WaitNote.{WaitNote}
use Rattle.cics_dispatch.specs.declared.notes.groups.Parked.{Parked}
use Rattle.cics_dispatch.specs.declared.notes.groups.Parked.TheVariants.{Group as OfGroup, Row as OfRow}
use Rattle.cics_names.specs.Keyed.{Bytes}
use Rattle.cics_dispatch.specs.Notes.Notes.{of_group, blocker_by, blocker_in, given_up, forgotten, new_note, alone, in_group, count, AreClosed, IsOpenAt, IsFirstOpen, KeepsResources, KeepsBlockers}
use Rattle.cics_dispatch.specs.Notes.Filed.{has, IsShown, IsParked, KeepParked, IsAlone, AreParked, IsFiled, IsLeft, IsPut, IsNotOf, IsReopening}
use Rattle.cics_dispatch.proofs.OfNotes.ShownNotes.{length_set, get_set, get_push, push_here, push_there, longer, of_group_set, of_group_here, of_group_more, shown_push, shown_left, shown_closed, shown_passed, shown_new_group}

-- ---- Closed

pub closed_each : (bs cs : List (Option ℕ)) → ((g : ℕ) → is_some (of_group bs g) ≡ true → is_some (of_group cs g) ≡ true) → (ns : List (Option WaitNote)) → AreClosed bs ns → AreClosed cs ns
closed_each bs cs follows [] closed = tt
closed_each bs cs follows (None ∷ ns) closed = closed_each bs cs follows ns closed
closed_each bs cs follows (Some n ∷ ns) closed = (by n.group closed.0, closed_each bs cs follows ns closed.1)
  where
    by : (group : Option ℕ) → is_some (blocker_by bs group n.blocker) ≡ true → is_some (blocker_by cs group n.blocker) ≡ true
    by None is = is
    by (Some g) is = follows g is

pub known_set : (bs : List (Option ℕ)) (g h u : ℕ) → is_some (of_group bs h) ≡ true → is_some (of_group (slice_set bs g (Some u)) h) ≡ true
known_set [] g h u is = is
known_set (b ∷ bs) zero zero u is = refl
known_set (b ∷ bs) zero (suc h) u is = is
known_set (b ∷ bs) (suc g) zero u is = is
known_set (b ∷ bs) (suc g) (suc h) u is = known_set bs g h u is

pub known_own : (bs : List (Option ℕ)) (g u : ℕ) → g < length bs → is_some (of_group (slice_set bs g (Some u)) g) ≡ true
known_own bs g u within = ap is_some (of_group_here bs g (Some u) within)

-- ---- One more, and one fewer

pub count_push : (ns : List (Option WaitNote)) (n : WaitNote) → count (ns ++ Some n ∷ []) ≡ suc (count ns)
count_push [] n = refl
count_push (None ∷ ns) n = count_push ns n
count_push (Some k ∷ ns) n = ap suc (count_push ns n)

pub count_set : (ns : List (Option WaitNote)) (i : ℕ) (k n : WaitNote) → slice_get ns i ≡ Some (Some k) → count (slice_set ns i (Some n)) ≡ count ns
count_set [] i k n there = refl
count_set (None ∷ ns) zero k n there = cc
count_set (Some j ∷ ns) zero k n there = refl
count_set (None ∷ ns) (suc i) k n there = count_set ns i k n there
count_set (Some j ∷ ns) (suc i) k n there = ap suc (count_set ns i k n there)

pub count_gone : (ns : List (Option WaitNote)) (i : ℕ) (n : WaitNote) → slice_get ns i ≡ Some (Some n) → count ns ≡ suc (count (slice_set ns i None))
count_gone [] i n there = cc
count_gone (None ∷ ns) zero n there = cc
count_gone (Some j ∷ ns) zero n there = refl
count_gone (None ∷ ns) (suc i) n there = count_gone ns i n there
count_gone (Some j ∷ ns) (suc i) n there = ap suc (count_gone ns i n there)

pub count_forgotten : (unit : Option ℕ) (ns : List (Option WaitNote)) → count (map (forgotten unit) ns) ≡ count ns
count_forgotten unit [] = refl
count_forgotten unit (None ∷ ns) = count_forgotten unit ns
count_forgotten unit (Some n ∷ ns) = ap suc (count_forgotten unit ns)

-- ---- The notes are kept

-- the lists of the units
abbrev pub Lists : Type 0
Lists = List (ℕ × Vec Parked Global)

pub none_some : (A : Type 0) (x : A) → None ≡ Some x → ⊥
none_some A x never = cc

pub some_same : (A : Type 0) (x y : A) → Some x ≡ Some y → x ≡ y
some_same A x y same = cc

module _ (rows : List (Option WaitNote)) (k : ℕ) (rs : List Resource) (bs : List (Option ℕ)) (ms : List (BTreeSet ℕ)) (parked : Lists) (keys : List ℕ) (is : IsFiled rows k rs bs ms parked keys) where
  pub filed_push : (label : Bytes) (j : ℕ) → j ≡ k + 1 → IsFiled (rows ++ Some (new_note label) ∷ []) j rs bs ms parked (keys ++ 0 ∷ [])
  filed_push label j more = record {
    counted = more ∙ add-one k ∙ ap suc is.counted ∙ sym (count_push rows (new_note label));
    resources = is.resources;
    shown = shown_push rows bs ms keys is.shown label;
    lists = record {
      rows_of = λ i u a. elim (get_push rows i (Some (new_note label)) (Some a.note) a.there) [
        | inl now ↦ absurd (none_some ℕ u (ap (λ x. x.blocker) (some_same WaitNote (new_note label) a.note now.1) ∙ a.own))
        | inr was ↦ is.lists.rows_of i u (record { note = a.note; there = was; own = a.own })
      ];
      groups_of = is.lists.groups_of;
    };
  }

  -- one note is removed or replaced, and its blocker, if it has one, has it in its list
  parked_set : (at : ℕ) (c : Option WaitNote) (cs : List (Option ℕ)) (more : Lists) → KeepParked parked more → ((n : WaitNote) (u : ℕ) → c ≡ Some n → n.blocker ≡ Some u → IsParked more u (OfRow at)) →
      ((g u : ℕ) → of_group cs g ≡ Some u → IsParked more u (OfGroup g)) → AreParked (slice_set rows at c) cs more
  parked_set at c cs more kept own groups = record {
    rows_of = λ i u a. elim (get_set rows at i c (Some a.note) a.there) [
      | inl now ↦ subst (λ x. IsParked more u (OfRow x)) (sym now.0) (own a.note u now.1 a.own)
      | inr was ↦ kept u (OfRow i) (is.lists.rows_of i u (record { note = a.note; there = was.1; own = a.own }))
    ];
    groups_of = groups;
  }

  pub filed_gone : (at j : ℕ) (n : WaitNote) (ls : List (BTreeSet ℕ)) (new : List ℕ) → slice_get rows at ≡ Some (Some n) → IsLeft at n.group bs ms keys ls new → j + 1 ≡ k → IsFiled (slice_set rows at None) j rs bs ls parked new
  filed_gone at j n ls new there left less = record {
    counted =
        let counted = is.counted in
        let gone = count_gone rows at n there in
        omega (arith, less, counted, gone);
    resources = is.resources;
    shown = shown_left rows bs ms keys is.shown at n None ls new there tt left;
    lists = parked_set at None bs parked (λ u w was. was) (λ m u never own. absurd (none_some WaitNote m never)) is.lists.groups_of;
  }

  pub filed_parked : (more : Lists) → KeepParked parked more → IsFiled rows k rs bs ms more keys
  filed_parked more kept = record {
    counted = is.counted;
    resources = is.resources;
    shown = is.shown;
    lists = record { rows_of = λ i u a. kept u (OfRow i) (is.lists.rows_of i u a); groups_of = λ g u own. kept u (OfGroup g) (is.lists.groups_of g u own) };
  }

  pub filed_alone : (at u : ℕ) (n : WaitNote) (ls : List (BTreeSet ℕ)) (new : List ℕ) (more : Lists) → slice_get rows at ≡ Some (Some n) → IsLeft at n.group bs ms keys ls new → KeepParked parked more → IsParked more u (OfRow at) →
      IsFiled (slice_set rows at (Some (alone u n))) k rs bs ls more new
  filed_alone at u n ls new more there left kept added = record {
    counted = is.counted ∙ sym (count_set rows at n (alone u n) there);
    resources = is.resources;
    shown = shown_left rows bs ms keys is.shown at n (Some (alone u n)) ls new there (refl, λ never. none_some ℕ u (sym never)) left;
    lists = parked_set at (Some (alone u n)) bs more kept
        (λ m v same own. subst (λ x. IsParked more x (OfRow at)) (some_same ℕ u v (ap (λ x. x.blocker) (some_same WaitNote (alone u n) m same) ∙ own)) added)
        (λ g v own. kept v (OfGroup g) (is.lists.groups_of g v own));
  }

  pub filed_group : (at u g : ℕ) (n : WaitNote) (s t : BTreeSet ℕ) (more : Lists) → slice_get rows at ≡ Some (Some n) → ((h : ℕ) → n.group ≡ Some h → h ≡ g) → slice_get ms g ≡ Some s → IsPut at true s t →
      KeepParked parked more → IsParked more u (OfGroup g) → IsFiled (slice_set rows at (Some (in_group g n))) k rs (slice_set bs g (Some u)) (slice_set ms g t) more keys
  filed_group at u g n s t more there only had put kept added = record {
    counted = is.counted ∙ sym (count_set rows at n (in_group g n) there);
    resources = is.resources ∙ sym (length_set bs g (Some u));
    shown = shown_closed rows bs ms keys is.shown at g u n s t there only had put;
    lists = parked_set at (Some (in_group g n)) (slice_set bs g (Some u)) more kept
        (λ m v same own. absurd (none_some ℕ v (ap (λ x. x.blocker) (some_same WaitNote (in_group g n) m same) ∙ own)))
        (λ h v own. elim (of_group_set bs g h (Some u) (Some v) own) [
          | inl now ↦ subst (λ x. IsParked more x (OfGroup h)) (some_same ℕ u v now.1) (subst (λ x. IsParked more u (OfGroup x)) (sym now.0) added)
          | inr was ↦ kept v (OfGroup h) (is.lists.groups_of h v was)
        ]);
  }

  -- the key of an index at which no command must be looked at is set to 1
  pub filed_passed : (at : ℕ) → ((n : WaitNote) → slice_get rows at ≡ Some (Some n) → blocker_in bs n ≡ None → ⊥) → IsFiled rows k rs bs ms parked (slice_set keys at 1)
  filed_passed at passed = record { counted = is.counted; resources = is.resources; shown = shown_passed rows bs ms keys is.shown at passed; lists = is.lists }

  -- a wait group more
  pub filed_new_group : (r : Resource) (s : BTreeSet ℕ) → ((i : ℕ) → has s i ≡ false) → IsFiled rows k (rs ++ r ∷ []) (bs ++ None ∷ []) (ms ++ s ∷ []) parked keys
  filed_new_group r s empty = record {
    counted = is.counted;
    resources = longer rs r ∙ ap suc is.resources ∙ sym (longer bs None);
    shown = shown_new_group rows bs ms keys is.shown s empty;
    lists = record { rows_of = is.lists.rows_of; groups_of = λ g u own. is.lists.groups_of g u (sym (of_group_more bs g) ∙ own) };
  }

  -- a unit's list is removed, and the unit blocks nothing of it any more
  module _ (u : ℕ) (list : Vec Parked Global) (there : lookup (nat_eq u) parked ≡ Some list) (ns : List (Option WaitNote)) (cs : List (Option ℕ)) (re : IsReopening u rows ns bs cs) (gone : (j : ℕ) (p : Parked) → slice_get list.items j ≡ Some p → IsNotOf ns cs u p) where
    in_list : (what : Parked) → IsParked parked u what → IsNotOf ns cs u what
    in_list what was = gone was.place what (subst (λ l. slice_get l.items was.place ≡ Some what) (some_same (Vec Parked Global) was.list list (sym was.there ∙ there)) was.at)

    pub none_alone : (i : ℕ) → IsAlone ns i u → ⊥
    none_alone i a = in_list (OfRow i) (is.lists.rows_of i u (re.rows_of i u a)) a

    pub none_grouped : (g : ℕ) → of_group cs g ≡ Some u → ⊥
    none_grouped g own = in_list (OfGroup g) (is.lists.groups_of g u (re.groups_of g u own)) own

    pub filed_reopened : (less : Lists) (ls : List (BTreeSet ℕ)) (new : List ℕ) → IsShown ns cs ls new → ((v : ℕ) → (v ≡ u → ⊥) → lookup (nat_eq v) less ≡ lookup (nat_eq v) parked) → IsFiled ns k rs cs ls less new
    filed_reopened less ls new shown others = record {
      counted = is.counted ∙ sym (count_forgotten (Some u) rows) ∙ sym (ap count re.rows_alike) ∙ count_forgotten (Some u) ns;
      resources = is.resources ∙ sym (length-map bs (given_up (Some u))) ∙ sym (ap length re.groups_alike) ∙ length-map cs (given_up (Some u));
      shown = shown;
      lists = record {
        rows_of = λ i v a. still v (OfRow i) (λ e. none_alone i (subst (IsAlone ns i) e a)) (is.lists.rows_of i v (re.rows_of i v a));
        groups_of = λ g v own. still v (OfGroup g) (λ e. none_grouped g (own ∙ ap Some e)) (is.lists.groups_of g v (re.groups_of g v own));
      };
    }
      where
        still : (v : ℕ) (what : Parked) → (v ≡ u → ⊥) → IsParked parked v what → IsParked less v what
        still v what apart was = record { list = was.list; there = others v apart ∙ was.there; place = was.place; at = was.at }

  -- if a unit has no list, it blocks nothing
  pub not_alone : (u : ℕ) → lookup (nat_eq u) parked ≡ None → (i : ℕ) → IsAlone rows i u → ⊥
  not_alone u absent i a = let was = is.lists.rows_of i u a in none_some (Vec Parked Global) was.list (sym absent ∙ was.there)

  pub not_grouped : (u : ℕ) → lookup (nat_eq u) parked ≡ None → (g : ℕ) → of_group bs g ≡ Some u → ⊥
  not_grouped u absent g own = let was = is.lists.groups_of g u own in none_some (Vec Parked Global) was.list (sym absent ∙ was.there)

-- the blockers of the wait groups where there is one more
pub blockers_more : (bs : List (Option ℕ)) → KeepsBlockers bs (bs ++ None ∷ [])
blockers_more bs = record { kept = of_group_more bs; long = let is = longer bs None in omega (arith, is) }

-- ---- The lists

module _ (ls ms : Lists) (u : ℕ) (w : Vec Parked Global) (h : (q : ℕ) → lookup (nat_eq q) ms ≡ cond (nat_eq u q) (Some w) (lookup (nat_eq q) ls)) where
  list_there : lookup (nat_eq u) ms ≡ Some w
  list_there = h u ∙ ap (λ b. cond b (Some w) (lookup (nat_eq u) ls)) (eq-eqb u u refl)

  -- where a unit's list is written over by one that has what it had
  list_kept : ((l : Vec Parked Global) (k : ℕ) (p : Parked) → lookup (nat_eq u) ls ≡ Some l → slice_get l.items k ≡ Some p → slice_get w.items k ≡ Some p) → KeepParked ls ms
  list_kept keeps v what was = by (nat_eq u v) refl
    where
      by : (t : Bool) → nat_eq u v ≡ t → IsParked ms v what
      by true is = record {
        list = w;
        there = h v ∙ ap (λ b. cond b (Some w) (lookup (nat_eq v) ls)) is;
        place = was.place;
        at = keeps was.list was.place what (subst (λ x. lookup (nat_eq x) ls ≡ Some was.list) (sym (eqb-true u v is)) was.there) was.at;
      }
      by false is = record { list = was.list; there = h v ∙ ap (λ b. cond b (Some w) (lookup (nat_eq v) ls)) is ∙ was.there; place = was.place; at = was.at }

  -- the list before is the unit's, if it has one
  module _ (l : Vec Parked Global) (own : (x : Vec Parked Global) → lookup (nat_eq u) ls ≡ Some x → l ≡ x) where
    pub list_same : w.items ≡ l.items → KeepParked ls ms
    list_same same = list_kept (λ x k p is at. subst (λ xs. slice_get xs k ≡ Some p) (sym same) (subst (λ y. slice_get y.items k ≡ Some p) (sym (own x is)) at))

    pub list_more : (what : Parked) → w.items ≡ l.items ++ what ∷ [] → KeepParked ls ms
    list_more what more = list_kept (λ x k p is at.
        subst (λ xs. slice_get xs k ≡ Some p) (sym more) (push_there l.items k what p (subst (λ y. slice_get y.items k ≡ Some p) (sym (own x is)) at)))

  pub list_added : (l : Vec Parked Global) (what : Parked) → w.items ≡ l.items ++ what ∷ [] → IsParked ms u what
  list_added l what more = record { list = w; there = list_there; place = length l.items; at = subst (λ xs. slice_get xs (length l.items) ≡ Some what) (sym more) (push_here l.items what) }

-- ---- Forgotten

-- if a unit blocks no command, all stays
unnoted : (u : ℕ) (b : Option ℕ) → (b ≡ Some u → ⊥) → b ≡ given_up (Some u) b
unnoted u None none = refl
unnoted u (Some v) none = by (v == u) refl
  where
    by : (t : Bool) → (v == u) ≡ t → Some v ≡ cond t None (Some v)
    by true is = absurd (none (ap Some (eqb-true v u is)))
    by false is = refl

pub rows_unnoted : (u : ℕ) (ns : List (Option WaitNote)) → ((i : ℕ) → IsAlone ns i u → ⊥) → ns ≡ map (forgotten (Some u)) ns
rows_unnoted u [] none = refl
rows_unnoted u (None ∷ ns) none = ap (λ r. None ∷ r) (rows_unnoted u ns (λ i a. none (suc i) (record { note = a.note; there = a.there; own = a.own })))
rows_unnoted u (Some n ∷ ns) none =
    let rest = rows_unnoted u ns (λ i a. none (suc i) (record { note = a.note; there = a.there; own = a.own })) in
    let same = unnoted u n.blocker (λ own. none 0 (record { note = n; there = refl; own = own })) in
    λ i. Some (record n { blocker = same i }) ∷ rest i

pub groups_unnoted : (u : ℕ) (bs : List (Option ℕ)) → ((g : ℕ) → of_group bs g ≡ Some u → ⊥) → bs ≡ map (given_up (Some u)) bs
groups_unnoted u [] none = refl
groups_unnoted u (b ∷ bs) none =
    let rest = groups_unnoted u bs (λ g. none (suc g)) in
    let same = unnoted u b (none 0) in
    λ i. same i ∷ rest i

-- if no unit released anything
pub rows_none : (unit : Option ℕ) (ns : List (Option WaitNote)) → unit ≡ None → ns ≡ map (forgotten unit) ns
rows_none None [] none = refl
rows_none None (None ∷ ns) none = ap (λ r. None ∷ r) (rows_none None ns refl)
rows_none None (Some n ∷ ns) none = ap (λ r. Some n ∷ r) (rows_none None ns refl)
rows_none (Some u) ns none = cc

pub groups_none : (unit : Option ℕ) (bs : List (Option ℕ)) → unit ≡ None → bs ≡ map (given_up unit) bs
groups_none None [] none = refl
groups_none None (b ∷ bs) none = ap (λ r. b ∷ r) (groups_none None bs refl)
groups_none (Some u) bs none = cc

-- ---- Looked at again

map_set : {X : Type 0} (f : X → X) (xs : List X) (i : ℕ) (x y : X) → slice_get xs i ≡ Some x → f y ≡ f x → map f (slice_set xs i y) ≡ map f xs
map_set f [] i x y there same = refl
map_set f (z ∷ xs) zero x y there same = ap (λ r. r ∷ map f xs) (same ∙ ap f (sym (some_same _ z x there)))
map_set f (z ∷ xs) (suc i) x y there same = ap (λ r. f z ∷ r) (map_set f xs i x y there same)

own_given : (u : ℕ) (b : Option ℕ) → b ≡ Some u → None ≡ given_up (Some u) b
own_given u b own = ap (λ t. cond t None (Some u)) (sym (eq-eqb u u refl)) ∙ ap (given_up (Some u)) (sym own)

pub reopening_row : (u at : ℕ) (rows : List (Option WaitNote)) (bs : List (Option ℕ)) (n : WaitNote) → slice_get rows at ≡ Some (Some n) → n.blocker ≡ Some u → IsReopening u rows (slice_set rows at (Some (record n { blocker = None }))) bs bs
reopening_row u at rows bs n there own = record {
  rows_alike = map_set (forgotten (Some u)) rows at (Some n) (Some (record n { blocker = None })) there (ap (λ b. Some (record n { blocker = b })) (own_given u n.blocker own));
  groups_alike = refl;
  rows_of = λ i v a. elim (get_set rows at i (Some (record n { blocker = None })) (Some a.note) a.there) [
    | inl now ↦ absurd (none_some ℕ v (ap (λ x. x.blocker) (some_same WaitNote (record n { blocker = None }) a.note now.1) ∙ a.own))
    | inr was ↦ record { note = a.note; there = was.1; own = a.own }
  ];
  groups_of = λ g v own. own;
}

pub row_opened : (u at : ℕ) (rows : List (Option WaitNote)) (n : WaitNote) → slice_get rows at ≡ Some (Some n) → IsAlone (slice_set rows at (Some (record n { blocker = None }))) at u → ⊥
row_opened u at rows n there a = elim (get_set rows at at (Some (record n { blocker = None })) (Some a.note) a.there) [
  | inl now ↦ none_some ℕ u (ap (λ x. x.blocker) (some_same WaitNote (record n { blocker = None }) a.note now.1) ∙ a.own)
  | inr was ↦ was.0 refl
]

pub reopening_group : (u g : ℕ) (rows : List (Option WaitNote)) (bs : List (Option ℕ)) → slice_get bs g ≡ Some (Some u) → IsReopening u rows rows bs (slice_set bs g None)
reopening_group u g rows bs own = record {
  rows_alike = refl;
  groups_alike = map_set (given_up (Some u)) bs g (Some u) None own (own_given u (Some u) refl);
  rows_of = λ i v a. a;
  groups_of = λ h v is. elim (of_group_set bs g h None (Some v) is) [ inl now ↦ absurd (none_some ℕ v now.1) | inr was ↦ was ];
}

pub reopening_more : (u : ℕ) (rows ns qs : List (Option WaitNote)) (bs cs ds : List (Option ℕ)) → IsReopening u rows ns bs cs → IsReopening u ns qs cs ds → IsReopening u rows qs bs ds
reopening_more u rows ns qs bs cs ds first next = record {
  rows_alike = next.rows_alike ∙ first.rows_alike;
  groups_alike = next.groups_alike ∙ first.groups_alike;
  rows_of = λ i v a. first.rows_of i v (next.rows_of i v a);
  groups_of = λ g v own. first.groups_of g v (next.groups_of g v own);
}

pub not_of_kept : (u : ℕ) (rows ns : List (Option WaitNote)) (bs cs : List (Option ℕ)) (p : Parked) → IsReopening u rows ns bs cs → IsNotOf rows bs u p → IsNotOf ns cs u p
not_of_kept u rows ns bs cs (OfRow i) re none = λ a. none (re.rows_of i u a)
not_of_kept u rows ns bs cs (OfGroup g) re none = λ own. none (re.groups_of g u own)

-- the lists of the other units
pub other_lists : (ls ms : Lists) (u : ℕ) → ((q : ℕ) → lookup (nat_eq q) ms ≡ cond (nat_eq u q) None (lookup (nat_eq q) ls)) → (v : ℕ) → (v ≡ u → ⊥) → lookup (nat_eq v) ms ≡ lookup (nat_eq v) ls
other_lists ls ms u h v apart = h v ∙ by (nat_eq u v) refl
  where
    by : (t : Bool) → nat_eq u v ≡ t → cond t None (lookup (nat_eq v) ls) ≡ lookup (nat_eq v) ls
    by true is = absurd (apart (sym (eqb-true u v is)))
    by false is = refl

-- the first command that must be looked at
pub first_found : (rows : List (Option WaitNote)) (rs : List Resource) (bs : List (Option ℕ)) (ms : List (BTreeSet ℕ)) (keys : List ℕ) → IsShown rows bs ms keys →
    (due : List ℕ) (o : Option (ℕ × WaitNote)) → IfSome o (λ p. IsOpenAt rows bs p.0 p.1) →
    IfSome o (λ p. IsFirstOpen (record { rows = rows; resources = rs; blockers = bs; deadlines = due }) p.0 p.1)
first_found rows rs bs ms keys is due None first = tt
first_found rows rs bs ms keys is due (Some p) first = record {
  there = first.there;
  open_yet = first.open_yet;
  before = first.before;
  group = λ g own. let m = is.member p.0 p.1 g first.there own in subst (λ k. g < k) is.sized (slice_get_within ms g m.members m.there);
}

-- a key that is new comes last
pub pushed_key : (rs new : List Resource) (r : Resource) (there is_new : Bool) → new ≡ (if there then rs else rs ++ r ∷ []) → is_new ≡ not there → is_new ≡ true → new ≡ rs ++ r ∷ []
pushed_key rs new r true is_new put added is = absurd (true≢false (sym is ∙ added))
pushed_key rs new r false is_new put added is = put

pub same_key : (rs new : List Resource) (r : Resource) (there is_new : Bool) → new ≡ (if there then rs else rs ++ r ∷ []) → is_new ≡ not there → is_new ≡ false → new ≡ rs
same_key rs new r true is_new put added is = put
same_key rs new r false is_new put added is = absurd (true≢false (sym added ∙ is))

pub resources_more : (rs : List Resource) (r : Resource) → KeepsResources rs (rs ++ r ∷ [])
resources_more rs r = record { kept = kept rs }
  where
    kept : (rs : List Resource) (g : ℕ) (x : Resource) → slice_get rs g ≡ Some x → slice_get (rs ++ r ∷ []) g ≡ Some x
    kept [] g x there = cc
    kept (y ∷ ys) zero x there = there
    kept (y ∷ ys) (suc g) x there = kept ys g x there

-- the test of the program
pub same_unit : (o : Option ℕ) (u : ℕ) (t : Bool) → t ≡ option_eq nat_eq o (Some u) → t ≡ true → o ≡ Some u
same_unit None u t is holds = absurd (true≢false (sym holds ∙ is))
same_unit (Some v) u t is holds = ap Some (eqb-true v u (sym is ∙ holds))

pub other_unit : (o : Option ℕ) (u : ℕ) (t : Bool) → t ≡ option_eq nat_eq o (Some u) → t ≡ false → o ≡ Some u → ⊥
other_unit None u t is fails own = none_some ℕ u own
other_unit (Some v) u t is fails own = true≢false (sym (eq-eqb v u (some_same ℕ v u own)) ∙ sym is ∙ fails)

-- the index at which a note with a known blocker was put has no note of a command that must be
-- looked at
pub known_there : (rows : List (Option WaitNote)) (at : ℕ) (bs : List (Option ℕ)) (m : WaitNote) (u : ℕ) → blocker_in bs m ≡ Some u →
    (n : WaitNote) → slice_get (slice_set rows at (Some m)) at ≡ Some (Some n) → blocker_in bs n ≡ None → ⊥
known_there rows at bs m u known n is own = elim (get_set rows at at (Some m) (Some n) is) [
  | inl here ↦ none_some ℕ u (sym own ∙ ap (blocker_in bs) (sym (some_same WaitNote m n here.1)) ∙ known)
  | inr other ↦ absurd (other.0 refl)
]
