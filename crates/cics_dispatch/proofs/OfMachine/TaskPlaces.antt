-- Task control: the tasks of a region by their places and by their labels.
use Rattle.std.specs.Prelude.{◌≡◌, ◌≢◌, ℕ, true, false, cond, Option, Some, None, List, [], ◌∷◌, ◌++◌, length, slice_get, slice_set, refl}
use Rattle.std.proofs.Common.{zero, suc, ◌⊎◌, inl, inr, sym, ap, ◌∙◌, arith}
use Rattle.cics_names.specs.Keyed.{Bytes, is_same}
use Rattle.cics_names.specs.KeyedLaws.{is_same-self, is_same-eq, is_same-other}
use Rattle.cics_dispatch.specs.Machine.Machine.{Task, task_at, replaced}
use Rattle.cics_dispatch.specs.Machine.Tasks.{own_label, had_by, IsOwn}

-- ---- What tasks have

module _ {X : Type 0} (own : Task → Option X) where
  -- no two of the tasks after the first have one
  pub IsOwn-tail : (t : Task) (ts : List Task) → IsOwn own (t ∷ ts) → IsOwn own ts
  IsOwn-tail t ts is = record {
    one = λ i j x p q. let same : suc i ≡ suc j = is.one (suc i) (suc j) x p q in omega arith;
  }

  -- two places with one are one place
  pub same_place : (ts : List Task) (i j : ℕ) (t u : Task) (x : X) → IsOwn own ts → slice_get ts i ≡ Some t → slice_get ts j ≡ Some u →
      own t ≡ Some x → own u ≡ Some x → i ≡ j
  same_place ts i j t u x is at_i at_j of_t of_u = is.one i j x (ap (had_by own) at_i ∙ of_t) (ap (had_by own) at_j ∙ of_u)

  -- what a place has is a task's
  had_task : (o : Option Task) (x : X) → had_by own o ≡ Some x → (v : Task) × (o ≡ Some v) × (own v ≡ Some x)
  had_task None x has = cc
  had_task (Some v) x has = (v, refl, has)

-- ---- A task put in the place of another

-- a place has the task that was put there, or what it had
pub place-set : (ts : List Task) (at : ℕ) (owner : Task) (i : ℕ) (v : Task) → slice_get (slice_set ts at owner) i ≡ Some v →
    ((i ≡ at) × (v ≡ owner)) ⊎ ((i ≢ at) × (slice_get ts i ≡ Some v))
place-set [] at owner i v is = inr (λ e. absurd (none i is), is)
  where
    none : (i : ℕ) → slice_get (slice_set [] at owner) i ≡ Some v → ⊥
    none i is = cc
place-set (u ∷ us) zero owner zero v is = inl (refl, cc)
place-set (u ∷ us) zero owner (suc i) v is = inr (λ e. omega arith, is)
place-set (u ∷ us) (suc at) owner zero v is = inr (λ e. omega arith, is)
place-set (u ∷ us) (suc at) owner (suc i) v is =
    elim (place-set us at owner i v is) [
      | inl here ↦ inl (ap suc here.0, here.1)
      | inr other ↦ inr (λ e. other.0 (let same : i ≡ at = omega arith in same), other.1)
    ]

-- the place where it was put has it
pub set_placed : (ts : List Task) (at : ℕ) (t owner : Task) → slice_get ts at ≡ Some t → slice_get (slice_set ts at owner) at ≡ Some owner
set_placed [] at t owner placed = cc
set_placed (u ∷ us) zero t owner placed = refl
set_placed (u ∷ us) (suc at) t owner placed = set_placed us at t owner placed

-- a task in its own place
pub set_same : (ts : List Task) (at : ℕ) (t : Task) → slice_get ts at ≡ Some t → slice_set ts at t ≡ ts
set_same [] at t placed = cc
set_same (u ∷ us) zero t placed = let same : t ≡ u = cc in ap (λ x. x ∷ us) same
set_same (u ∷ us) (suc at) t placed = ap (λ r. u ∷ r) (set_same us at t placed)

-- no two tasks have one after a task is put in a place, if no other place had what it has
pub IsOwn-set : {X : Type 0} (own : Task → Option X) (ts : List Task) (at : ℕ) (owner : Task) → IsOwn own ts →
    ((i : ℕ) (v : Task) (x : X) → slice_get ts i ≡ Some v → own v ≡ Some x → own owner ≡ Some x → i ≡ at) →
    IsOwn own (slice_set ts at owner)
IsOwn-set own ts at owner is alone = record {
  one = λ i j x p q.
      let a = had_task own (slice_get (slice_set ts at owner) i) x p in
      let b = had_task own (slice_get (slice_set ts at owner) j) x q in
      elim (place-set ts at owner i a.0 a.1) [
        | inl own_i ↦ elim (place-set ts at owner j b.0 b.1) [
          | inl own_j ↦ own_i.0 ∙ sym own_j.0
          | inr other_j ↦ own_i.0 ∙ sym (alone j b.0 x other_j.1 b.2 (ap own (sym own_i.1) ∙ a.2))
        ]
        | inr other_i ↦ elim (place-set ts at owner j b.0 b.1) [
          | inl own_j ↦ alone i a.0 x other_i.1 a.2 (ap own (sym own_j.1) ∙ b.2) ∙ sym own_j.0
          | inr other_j ↦ same_place own ts i j a.0 b.0 x is other_i.1 other_j.1 a.2 b.2
        ]
      ];
}

-- ---- A task by its label

-- the first task has another label than a later one
pub first_other : (u t : Task) (us : List Task) (n : ℕ) → IsOwn own_label (u ∷ us) → slice_get us n ≡ Some t → u.label ≢ t.label
first_other u t us n own placed = λ e.
    let wrong : zero ≡ suc n = own.one zero (suc n) t.label (ap Some e) (ap (had_by own_label) placed) in
    omega arith

-- a task is the one of its label
pub task_at-place : (ts : List Task) (at : ℕ) (t : Task) → IsOwn own_label ts → slice_get ts at ≡ Some t → task_at ts t.label ≡ Some t
task_at-place [] at t own placed = cc
task_at-place (u ∷ us) zero t own placed =
    let same : u ≡ t = cc in
    ap (λ b. cond b (Some u) (task_at us t.label)) (ap (λ x. is_same x.label t.label) same ∙ is_same-self t.label) ∙ ap Some same
task_at-place (u ∷ us) (suc n) t own placed =
    ap (λ b. cond b (Some u) (task_at us t.label)) (is_same-other u.label t.label (first_other u t us n own placed))
    ∙ task_at-place us n t (IsOwn-tail own_label u us own) placed

-- the task of a label stands at a place, and has the label
pub place_of_task : (ts : List Task) (label : Bytes) (t : Task) → task_at ts label ≡ Some t →
    (i : ℕ) × (slice_get ts i ≡ Some t) × (t.label ≡ label)
place_of_task [] label t is = cc
place_of_task (u ∷ us) label t is =
    elim (is_same u.label label) as (λ b. is_same u.label label ≡ b → cond b (Some u) (task_at us label) ≡ Some t →
    (i : ℕ) × (slice_get (u ∷ us) i ≡ Some t) × (t.label ≡ label)) [
      | true ↦ λ same is. let here : t ≡ u = cc in (zero, is, ap (λ x. x.label) here ∙ is_same-eq u.label label same)
      | false ↦ λ other is. let rest = place_of_task us label t is in (suc rest.0, rest.1, rest.2)
    ] refl is

-- with a task in the place of the one of its label, it stands in that one's place
pub replaced-set : (ts : List Task) (at : ℕ) (t owner : Task) → IsOwn own_label ts → slice_get ts at ≡ Some t → owner.label ≡ t.label →
    replaced ts owner ≡ slice_set ts at owner
replaced-set [] at t owner own placed label = cc
replaced-set (u ∷ us) zero t owner own placed label =
    let same : u ≡ t = cc in
    ap (λ b. cond b (owner ∷ us) (u ∷ replaced us owner))
    (ap (λ x. is_same x.label owner.label) same ∙ ap (is_same t.label) label ∙ is_same-self t.label)
replaced-set (u ∷ us) (suc n) t owner own placed label =
    ap (λ b. cond b (owner ∷ us) (u ∷ replaced us owner))
    (ap (is_same u.label) label ∙ is_same-other u.label t.label (first_other u t us n own placed))
    ∙ ap (λ r. u ∷ r) (replaced-set us n t owner (IsOwn-tail own_label u us own) placed label)

-- there are as many tasks as before
pub replaced_long : (ts : List Task) (owner : Task) → length (replaced ts owner) ≡ length ts
replaced_long [] owner = refl
replaced_long (u ∷ us) owner =
    elim (is_same u.label owner.label) as (λ b. length (cond b (owner ∷ us) (u ∷ replaced us owner)) ≡ suc (length us)) [ true ↦ refl | false ↦ ap suc (replaced_long us owner) ]

-- and the tasks of other labels are as they were
pub task_at-replaced : (ts : List Task) (owner : Task) (label : Bytes) → owner.label ≢ label → task_at (replaced ts owner) label ≡ task_at ts label
task_at-replaced [] owner label other = refl
task_at-replaced (u ∷ us) owner label other =
    elim (is_same u.label owner.label) as (λ b. is_same u.label owner.label ≡ b → task_at (cond b (owner ∷ us) (u ∷ replaced us owner)) label ≡ task_at (u ∷ us) label) [
      | true ↦ λ same. passed_by owner other ∙ sym (passed_by u (λ e. other (sym (is_same-eq u.label owner.label same) ∙ e)))
      | false ↦ λ differs. ap (cond (is_same u.label label) (Some u)) (task_at-replaced us owner label other)
    ] refl
  where
    passed_by : (v : Task) → v.label ≢ label → task_at (v ∷ us) label ≡ task_at us label
    passed_by v differs = ap (λ b. cond b (Some v) (task_at us label)) (is_same-other v.label label differs)

-- ---- A task more

-- a place has the new task, last of all, or what it had
pub place-push : (ts : List Task) (new : Task) (i : ℕ) (v : Task) → slice_get (ts ++ new ∷ []) i ≡ Some v →
    ((i ≡ length ts) × (v ≡ new)) ⊎ (slice_get ts i ≡ Some v)
place-push [] new zero v is = inl (refl, cc)
place-push [] new (suc i) v is = inr (cc)
place-push (u ∷ us) new zero v is = inr is
place-push (u ∷ us) new (suc i) v is =
    elim (place-push us new i v is) [
      | inl last ↦ inl (ap suc last.0, last.1)
      | inr before ↦ inr before
    ]

-- no two tasks have one after a task is added, if no task had what it has
pub IsOwn-push : {X : Type 0} (own : Task → Option X) (ts : List Task) (new : Task) → IsOwn own ts →
    ((i : ℕ) (v : Task) (x : X) → slice_get ts i ≡ Some v → own v ≡ Some x → own new ≡ Some x → ⊥) →
    IsOwn own (ts ++ new ∷ [])
IsOwn-push own ts new is none = record {
  one = λ i j x p q.
      let a = had_task own (slice_get (ts ++ new ∷ []) i) x p in
      let b = had_task own (slice_get (ts ++ new ∷ []) j) x q in
      elim (place-push ts new i a.0 a.1) [
        | inl last_i ↦ elim (place-push ts new j b.0 b.1) [
          | inl last_j ↦ last_i.0 ∙ sym last_j.0
          | inr before_j ↦ absurd (none j b.0 x before_j b.2 (ap own (sym last_i.1) ∙ a.2))
        ]
        | inr before_i ↦ elim (place-push ts new j b.0 b.1) [
          | inl last_j ↦ absurd (none i a.0 x before_i a.2 (ap own (sym last_j.1) ∙ b.2))
          | inr before_j ↦ same_place own ts i j a.0 b.0 x is before_i before_j a.2 b.2
        ]
      ];
}

-- a task that was there is the one of its label yet
pub task_at-push : (ts : List Task) (new : Task) (label : Bytes) (t : Task) → task_at ts label ≡ Some t → task_at (ts ++ new ∷ []) label ≡ Some t
task_at-push [] new label t is = cc
task_at-push (u ∷ us) new label t is =
    elim (is_same u.label label) as (λ b. cond b (Some u) (task_at us label) ≡ Some t → cond b (Some u) (task_at (us ++ new ∷ []) label) ≡ Some t) [
      | true ↦ λ is. is
      | false ↦ λ is. task_at-push us new label t is
    ] is
