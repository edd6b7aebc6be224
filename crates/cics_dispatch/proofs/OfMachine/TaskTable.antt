-- The tasks of a region where they are kept: what is found under a label and a unit, and what one
-- more task and a changed one make of them.
use Rattle.std.specs.Prelude.{◌≡◌, ℕ, Bool, true, false, cond, if◌then◌else◌, Option, Some, None, is_some, IfSome, IfNone, ◌⊎◌, List, [], ◌∷◌, ◌++◌, length, slice_get, refl}
use Rattle.std.proofs.Common.{sym, ap, ◌∙◌, subst, inl, inr, zero, suc, arith, eq-eqb}
use Rattle.std.specs.Map.{values_of, lookup}
use Rattle.std.proofs.lemmas.Bool.{false_from_ne_true, eqb-true}
use Rattle.indexmap.specs.IndexMap.{set_value_at}
use Rattle.cics_names.specs.Keyed.{Bytes, Map, is_same}
use Rattle.cics_names.specs.KeyedLaws.{is_same-self, is_same-eq}
use Rattle.cics_names.specs.RisingLaws.{is_same-turned}
use Rattle.cics_browse.specs.Positions.{Position}
use Rattle.cics_dispatch.specs.Machine.Machine.{Task, task_at, replaced, label_of, with_browses}
use Rattle.cics_dispatch.specs.Notes.Notes.{is_unit}
use Rattle.cics_dispatch.specs.Machine.TasksLoans.{with_browses_of, with_browses_at}
use Rattle.cics_dispatch.specs.Machine.Tasks.{AreLabelled, AreTaskRowsKept, IsOwn, HasNoOwner, own_label, own_unit, had_by, had_at}

-- ---- What is found

-- the task of a label is the one that stands under it
module _ (eq : Bytes → Bytes → Bool) (same : (a b : Bytes) → eq a b ≡ is_same a b) where
  pub task_at-lookup : (label : Bytes) (es : List (Bytes × Task)) → AreLabelled es → task_at (values_of es) label ≡ lookup (eq label) es
  task_at-lookup label [] labelled = refl
  task_at-lookup label (e ∷ es) labelled =
      let test : is_same e.1.label label ≡ eq label e.0 = ap (λ l. is_same l label) (sym labelled.0) ∙ is_same-turned e.0 label ∙ sym (same label e.0) in
      λ i. cond (test i) (Some e.1) (task_at-lookup label es labelled.1 i)

-- the place that a look-up answers is that of the task
module _ (ts : List Task) (label : Bytes) (vs : List Task) (o : Option Task) where
  pub found_at : (r : Option ℕ) → vs ≡ ts → task_at vs label ≡ o → IfSome r (λ i. slice_get vs i ≡ o) → IfSome r (λ i. slice_get ts i ≡ task_at ts label)
  found_at None view by found = tt
  found_at (Some i) view by found = ap (λ l. slice_get l i) (sym view) ∙ found ∙ sym by ∙ ap (λ l. task_at l label) view

  pub found_none : (r : Option ℕ) → vs ≡ ts → task_at vs label ≡ o → is_some r ≡ is_some o → IfNone r (task_at ts label ≡ None)
  found_none None view by found = ap (λ l. task_at l label) (sym view) ∙ by ∙ none o (sym found)
    where
      none : (p : Option Task) → is_some p ≡ false → p ≡ None
      none None e = refl
      none (Some t) e = cc
  found_none (Some i) view by found = tt

-- a label that no task is found by is no task's
pub not_found : (label : Bytes) (ts : List Task) → task_at ts label ≡ None → (i : ℕ) → had_at own_label ts i ≡ Some label → ⊥
not_found label [] none i there = cc
not_found label (t ∷ ts) none zero there =
    let one : t.label ≡ label = cc in
    let found : (if is_same t.label label then Some t else task_at ts label) ≡ Some t = ap (λ b. cond b (Some t) (task_at ts label)) (ap (λ l. is_same l label) one ∙ is_same-self label) in
    cc
not_found label (t ∷ ts) none (suc i) there = not_found label ts (rest (is_same t.label label) none) i there
  where
    rest : (b : Bool) → cond b (Some t) (task_at ts label) ≡ None → task_at ts label ≡ None
    rest true e = cc
    rest false e = e

-- a unit that is a task's
pub is_unit-has : (o : Option ℕ) (u : ℕ) → is_unit o u ≡ true → o ≡ Some u
is_unit-has None u e = cc
is_unit-has (Some v) u e = ap Some (eqb-true v u e)

is_unit-own : (o : Option ℕ) (u : ℕ) → o ≡ Some u → is_unit o u ≡ true
is_unit-own o u has = ap (λ p. is_unit p u) has ∙ eq-eqb u u refl

-- the label of the task whose unit it is
owner_label : (u : ℕ) (t : Task) (ts : List Task) (i : ℕ) → slice_get ts i ≡ Some t → t.unit ≡ Some u → ((j : ℕ) → had_at own_unit ts j ≡ Some u → j ≡ i) → label_of ts u ≡ t.label
owner_label u t [] i there has one = cc
owner_label u t (s ∷ ts) zero there has one =
    let is : s ≡ t = cc in
    ap (λ b. cond b s.label (label_of ts u)) (is_unit-own s.unit u (ap own_unit is ∙ has)) ∙ ap (λ r. r.label) is
owner_label u t (s ∷ ts) (suc i) there has one =
    ap (λ b. cond b s.label (label_of ts u)) (false_from_ne_true (is_unit s.unit u) (λ e. absurd (first (one 0 (is_unit-has s.unit u e)))))
    ∙ owner_label u t ts i there has (λ j at. let next = one (suc j) at in omega arith)
  where
    first : 0 ≡ suc i → ⊥
    first e = cc

pub label_of-owner : (ts : List Task) (u i : ℕ) (t : Task) → IsOwn own_unit ts → slice_get ts i ≡ Some t → t.unit ≡ Some u → label_of ts u ≡ t.label
label_of-owner ts u i t apart there has = owner_label u t ts i there has (λ j at. apart.one j i u at (ap (had_by own_unit) there ∙ has))

pub label_of-none : (ts : List Task) (u : ℕ) → HasNoOwner ts u → label_of ts u ≡ []
label_of-none [] u none = refl
label_of-none (t ∷ ts) u none =
    ap (λ b. cond b t.label (label_of ts u)) (false_from_ne_true (is_unit t.unit u) (λ e. none.other 0 t refl (is_unit-has t.unit u e)))
    ∙ label_of-none ts u (record { other = λ i. none.other (suc i) })

-- ---- One more task

module _ (t : Task) where
  values_of-append : (es : List (Bytes × Task)) → values_of (es ++ (t.label, t) ∷ []) ≡ values_of es ++ t ∷ []
  values_of-append [] = refl
  values_of-append (e ∷ es) = ap (λ r. e.1 ∷ r) (values_of-append es)

  labelled-append : (es : List (Bytes × Task)) → AreLabelled es → AreLabelled (es ++ (t.label, t) ∷ [])
  labelled-append [] labelled = (refl, tt)
  labelled-append (e ∷ es) labelled = (labelled.0, labelled-append es labelled.1)

  module _ {X : Type 0} (own : Task → Option X) where
    pub had_at-append : (ts : List Task) (i : ℕ) (x : X) → had_at own (ts ++ t ∷ []) i ≡ Some x → (had_at own ts i ≡ Some x) ⊎ ((i ≡ length ts) × (own t ≡ Some x))
    had_at-append [] zero x e = inr (refl, e)
    had_at-append [] (suc i) x e = inl e
    had_at-append (s ∷ ts) zero x e = inl e
    had_at-append (s ∷ ts) (suc i) x e = elim (had_at-append ts i x e) [ inl h ↦ inl h | inr h ↦ inr (ap suc h.0, h.1) ]

  -- nothing that a task has is another's, and so with one more, whose things are no other's
  own-append : {X : Type 0} (own : Task → Option X) (ts : List Task) → IsOwn own ts → ((x : X) → own t ≡ Some x → (i : ℕ) → had_at own ts i ≡ Some x → ⊥) → IsOwn own (ts ++ t ∷ [])
  own-append {X} own ts apart new = record {
    one = λ i j x at_i at_j. both i j x (had_at-append own ts i x at_i) (had_at-append own ts j x at_j);
  }
    where
      both : (i j : ℕ) (x : X) → (had_at own ts i ≡ Some x) ⊎ ((i ≡ length ts) × (own t ≡ Some x)) → (had_at own ts j ≡ Some x) ⊎ ((j ≡ length ts) × (own t ≡ Some x)) → i ≡ j
      both i j x (inl a) (inl b) = apart.one i j x a b
      both i j x (inl a) (inr b) = absurd (new x b.1 i a)
      both i j x (inr a) (inl b) = absurd (new x a.1 j b)
      both i j x (inr a) (inr b) = a.0 ∙ sym b.0

module _ (es new : List (Bytes × Task)) (t : Task) (kept : AreTaskRowsKept es) (none : task_at (values_of es) t.label ≡ None) (unit : t.unit ≡ None) (added : new ≡ es ++ (t.label, t) ∷ []) where
  pub attached-values : values_of new ≡ values_of es ++ t ∷ []
  attached-values = ap values_of added ∙ values_of-append t es

  pub attached-kept : AreTaskRowsKept new
  attached-kept = record {
    labelled = subst AreLabelled (sym added) (labelled-append t es kept.labelled);
    labels = subst (IsOwn own_label) (sym attached-values) (own-append t own_label (values_of es) kept.labels (λ l is i at. not_found t.label (values_of es) none i (at ∙ sym is)));
    units = subst (IsOwn own_unit) (sym attached-values) (own-append t own_unit (values_of es) kept.units (λ u is i at. never u (sym unit ∙ is)));
  }
    where
      never : (u : ℕ) → None ≡ Some u → ⊥
      never u e = cc

-- ---- A changed task

module _ (t w : Task) (label : w.label ≡ t.label) where
  -- a write at the place of the task of its label
  values_of-set : (es : List (Bytes × Task)) (at : ℕ) → slice_get (values_of es) at ≡ Some t → ((j : ℕ) → had_at own_label (values_of es) j ≡ Some w.label → j ≡ at) →
      values_of (set_value_at es at w) ≡ replaced (values_of es) w
  values_of-set [] at there one = cc
  values_of-set (e ∷ es) zero there one =
      let is : e.1 ≡ t = cc in
      let tied : is_same e.1.label w.label ≡ true = ap (λ l. is_same l w.label) (ap (λ r. r.label) is ∙ sym label) ∙ is_same-self w.label in
      sym (ap (λ b. cond b (w ∷ values_of es) (e.1 ∷ replaced (values_of es) w)) tied)
  values_of-set (e ∷ es) (suc at) there one =
      ap (λ r. e.1 ∷ r) (values_of-set es at there (λ j here. let next = one (suc j) here in omega arith))
      ∙ sym (ap (λ b. cond b (w ∷ values_of es) (e.1 ∷ replaced (values_of es) w)) (false_from_ne_true (is_same e.1.label w.label) (λ tied. first (one 0 (ap Some (is_same-eq e.1.label w.label tied))))))
    where
      first : 0 ≡ suc at → ⊥
      first e = cc

  labelled-set : (es : List (Bytes × Task)) (at : ℕ) → slice_get (values_of es) at ≡ Some t → AreLabelled es → AreLabelled (set_value_at es at w)
  labelled-set [] at there labelled = tt
  labelled-set (e ∷ es) zero there labelled = let is : e.1 ≡ t = cc in (labelled.0 ∙ ap (λ r. r.label) is ∙ sym label, labelled.1)
  labelled-set (e ∷ es) (suc at) there labelled = (labelled.0, labelled-set es at there labelled.1)

  module _ {X : Type 0} (own : Task → Option X) where
    had_at-set : (es : List (Bytes × Task)) (at i : ℕ) (x : X) → had_at own (values_of (set_value_at es at w)) i ≡ Some x → (had_at own (values_of es) i ≡ Some x) ⊎ ((i ≡ at) × (own w ≡ Some x))
    had_at-set [] at i x e = inl e
    had_at-set (e ∷ es) zero zero x h = inr (refl, h)
    had_at-set (e ∷ es) zero (suc i) x h = inl h
    had_at-set (e ∷ es) (suc at) zero x h = inl h
    had_at-set (e ∷ es) (suc at) (suc i) x h = elim (had_at-set es at i x h) [ inl k ↦ inl k | inr k ↦ inr (ap suc k.0, k.1) ]

    -- nothing that a task has is another's, and so once a task has what no other has
    own-set : (es : List (Bytes × Task)) (at : ℕ) → IsOwn own (values_of es) → ((x : X) → own w ≡ Some x → (i : ℕ) → had_at own (values_of es) i ≡ Some x → i ≡ at) → IsOwn own (values_of (set_value_at es at w))
    own-set es at apart fresh = record {
      one = λ i j x at_i at_j. both i j x (had_at-set es at i x at_i) (had_at-set es at j x at_j);
    }
      where
        both : (i j : ℕ) (x : X) → (had_at own (values_of es) i ≡ Some x) ⊎ ((i ≡ at) × (own w ≡ Some x)) → (had_at own (values_of es) j ≡ Some x) ⊎ ((j ≡ at) × (own w ≡ Some x)) → i ≡ j
        both i j x (inl a) (inl b) = apart.one i j x a b
        both i j x (inl a) (inr b) = fresh x b.1 i a ∙ sym b.0
        both i j x (inr a) (inl b) = a.0 ∙ sym (fresh x a.1 j b)
        both i j x (inr a) (inr b) = a.0 ∙ sym b.0

-- another task w is written over the task v at a place
module _ (es : List (Bytes × Task)) (ts : List Task) (at : ℕ) (v w : Task) (kept : AreTaskRowsKept es) (view : values_of es ≡ ts) (there : slice_get (values_of es) at ≡ Some v) where
  -- w keeps the label
  module _ (label : w.label ≡ v.label) where
    pub changed : (f : Task → Task) → w ≡ f v → (t : Task) → slice_get ts at ≡ Some t → values_of (set_value_at es at w) ≡ replaced ts (f t)
    changed f by t is =
        let one : v ≡ t = same (sym there ∙ ap (λ l. slice_get l at) view ∙ is) in
        values_of-set v w label es at there (λ j here. kept.labels.one j at w.label here (ap (had_by own_label) there ∙ ap Some (sym label)))
        ∙ (λ i. replaced (view i) ((by ∙ ap f one) i))
      where
        same : {a b : Task} → Some a ≡ Some b → a ≡ b
        same e = cc

    changed-with : ((u : ℕ) → w.unit ≡ Some u → (i : ℕ) → had_at own_unit (values_of es) i ≡ Some u → i ≡ at) → AreTaskRowsKept (set_value_at es at w)
    changed-with fresh = record {
      labelled = labelled-set v w label es at there kept.labelled;
      labels = own-set v w label own_label es at kept.labels (λ l is i here. kept.labels.one i at l here (ap (had_by own_label) there ∙ ap Some (sym label) ∙ is));
      units = own-set v w label own_unit es at kept.units fresh;
    }

    -- and the unit
    pub kept-same : w.unit ≡ v.unit → AreTaskRowsKept (set_value_at es at w)
    kept-same unit = changed-with (λ u is i here. kept.units.one i at u here (ap (had_by own_unit) there ∙ sym unit ∙ is))

    -- and gives the unit up
    pub kept-closed : w.unit ≡ None → AreTaskRowsKept (set_value_at es at w)
    kept-closed unit = changed-with (λ u is i here. absurd (never u (sym unit ∙ is)))
      where
        never : (u : ℕ) → None ≡ Some u → ⊥
        never u e = cc

    -- and has a unit that was no task's
    pub kept-begun : (u : ℕ) → HasNoOwner ts u → w.unit ≡ Some u → AreTaskRowsKept (set_value_at es at w)
    kept-begun u none unit = changed-with (λ x is i here.
        absurd (owned i (slice_get (values_of es) i) (ap (λ l. slice_get l i) (sym view)) (here ∙ sym is ∙ unit)))
      where
        owned : (i : ℕ) (o : Option Task) → slice_get ts i ≡ o → had_by own_unit o ≡ Some u → ⊥
        owned i None at_i has = cc
        owned i (Some s) at_i has = none.other i s at_i has

  -- w has other browses
  pub other-browses : (browses : Map Position) → w ≡ with_browses v browses → values_of (set_value_at es at w) ≡ with_browses_at ts at browses
  other-browses browses is = by (slice_get ts at) refl
    where
      by : (o : Option Task) → slice_get ts at ≡ o → values_of (set_value_at es at w) ≡ with_browses_of ts browses o
      by None none = absurd (never (sym there ∙ ap (λ l. slice_get l at) view ∙ none))
        where
          never : Some v ≡ None → ⊥
          never e = cc
      by (Some t) one = changed (ap (λ s. s.label) is) (λ s. with_browses s browses) is t one
