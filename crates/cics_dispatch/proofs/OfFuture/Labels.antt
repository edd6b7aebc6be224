-- The tasks of two regions that are alike go by their labels, and so do their units.
use Rattle.std.proofs.Common.{◌≡◌, ℕ, zero, suc, true, false, not, Option, Some, None, List, [], ◌∷◌, ◌⊎◌, inl, inr, refl, ap, sym, ◌∙◌, arith}
use Rattle.std.specs.Prelude.{option_map, map, slice_get}
use Rattle.std.proofs.lemmas.Bool.{false≢true, cases_Bool, and_parts, eqb-true}
use Rattle.std.proofs.lemmas.Option.{none-some}
use Rattle.cics_names.specs.Keyed.{Bytes, is_same}
use Rattle.cics_names.specs.KeyedLaws.{is_same-self, is_same-eq}
use Rattle.cics_history.specs.Headline.{outcome_of, is_open}
use Rattle.cics_history.specs.State.{UnitsState}
use Rattle.cics_history.specs.Holding.{held_by, is_other}
use Rattle.cics_history.specs.Events.{is_live}
use Rattle.cics_dispatch.specs.Machine.Machine.{Machine, Task, task_at, label_of, replaced}
use Rattle.cics_dispatch.specs.Machine.Blockers.{unit_of}
use Rattle.cics_dispatch.specs.Notes.Notes.{is_unit}
use Rattle.cics_dispatch.specs.Machine.Tasks.{own_unit, had_by, HasNoOwner}
use Rattle.cics_dispatch.proofs.OfMachine.TaskTable.{label_of-owner}
use Rattle.cics_dispatch.proofs.OfMachine.TaskPlaces.{place_of_task, task_at-place}
use Rattle.cics_dispatch.specs.Future.Futures.{own_by, unnumbered, IsSteady, HaveSameFuture}
use Rattle.cics_dispatch.proofs.OfFuture.Owning.{held_own, held_told}

-- ---- The other way round

pub turned : {m n : Machine} → HaveSameFuture m n → HaveSameFuture n m
turned same = record {
  first = same.second;
  second = same.first;
  alike = record {
    opening = sym same.alike.opening;
    tasks = sym same.alike.tasks;
    own = λ label. sym (same.alike.own label);
    stores = λ gone. sym (same.alike.stores gone);
    next = sym same.alike.next;
    waiting = sym same.alike.waiting;
    clock = sym same.alike.clock;
    down = sym same.alike.down;
  };
}

-- ---- Two that are there, or neither

one_there : {A : Type 0} (a b : A) → Some a ≡ Some b → a ≡ b
one_there a b e = cc

-- what holds of none in both, and of two that show the same, holds of two that show the same if
-- they are there
pub both : {X Z : Type 0} (f g : X → Z) (P : Option X → Option X → Type 0) (o p : Option X) → option_map f o ≡ option_map g p →
    (o ≡ None → p ≡ None → P None None) → ((x y : X) → o ≡ Some x → p ≡ Some y → f x ≡ g y → P (Some x) (Some y)) → P o p
both f g P None None same none some = none refl refl
both f g P (Some x) (Some y) same none some = some x y refl refl (one_there (f x) (g y) same)
both f g P None (Some y) same none some = absurd (none-some (g y) same)
both f g P (Some x) None same none some = absurd (none-some (f x) (sym same))

-- ---- The task of a unit

pub live_open : (s : UnitsState) (u : ℕ) → is_live s u ≡ true → is_open (outcome_of s.outcomes u) ≡ true
live_open s u live = (and_parts _ _ live).1

pub unit_is : (o : Option ℕ) (u : ℕ) → is_unit o u ≡ true → o ≡ Some u
unit_is None u e = absurd (false≢true e)
unit_is (Some w) u e = ap Some (eqb-true w u e)

-- the first task that has a unit gives its label
pub record HasTask (ts : List Task) (u : ℕ) : Type 0 where
  pub task : Task
  pub place : ℕ
  pub placed : slice_get ts place ≡ Some task
  pub unit : task.unit ≡ Some u
  pub label : label_of ts u ≡ task.label

task_or_none : (ts : List Task) (u : ℕ) → HasTask ts u ⊎ HasNoOwner ts u
task_or_none [] u = inr (record { other = λ i t placed has. none i t placed })
  where
    none : (i : ℕ) (t : Task) → slice_get [] i ≡ Some t → ⊥
    none i t placed = cc
task_or_none (x ∷ xs) u = elim (cases_Bool (is_unit x.unit u)) [
  | inl is ↦ inl (record { task = x; place = 0; placed = refl; unit = unit_is x.unit u is; label = rw is refl })
  | inr other ↦ elim (task_or_none xs u) [
    | inl there ↦ inl (record { task = there.task; place = suc there.place; placed = there.placed; unit = there.unit; label = rw other there.label })
    | inr none ↦ inr (record { other = nobody other none })
  ]
]
  where
    nobody : is_unit x.unit u ≡ false → HasNoOwner xs u → (i : ℕ) (t : Task) → slice_get (x ∷ xs) i ≡ Some t → t.unit ≡ Some u → ⊥
    nobody e rest zero t placed has = grind (arith, placed, has, e)
    nobody e rest (suc i) t placed has = rest.other i t placed has

pub task_of : (m : Machine) → IsSteady m → (u : ℕ) → is_live m.units u ≡ true → HasTask m.tasks u
task_of m steady u live = by (task_or_none m.tasks u)
  where
    by : HasTask m.tasks u ⊎ HasNoOwner m.tasks u → HasTask m.tasks u
    by (inl there) = there
    by (inr none) = absurd (steady.owned.owned u live none)

-- ---- A task of one region

module _ (m : Machine) (steady : IsSteady m) where
  -- the unit of a label's task is open
  pub live_at : (label : Bytes) (u : ℕ) → unit_of m label ≡ Some u → is_live m.units u ≡ true
  live_at label u has = by (task_at m.tasks label) refl has
    where
      by : (o : Option Task) → task_at m.tasks label ≡ o → had_by own_unit o ≡ Some u → is_live m.units u ≡ true
      by None there has = absurd (none-some u has)
      by (Some t) there has = let place = place_of_task m.tasks label t there in steady.tasks.open_units place.0 t u place.1 has

  -- and told by that label
  pub label_at : (label : Bytes) (u : ℕ) → unit_of m label ≡ Some u → label_of m.tasks u ≡ label
  label_at label u has = by (task_at m.tasks label) refl has
    where
      by : (o : Option Task) → task_at m.tasks label ≡ o → had_by own_unit o ≡ Some u → label_of m.tasks u ≡ label
      by None there has = absurd (none-some u has)
      by (Some t) there has = let place = place_of_task m.tasks label t there in label_of-owner m.tasks u place.0 t steady.tasks.owners place.1 has ∙ place.2

  -- an open unit is that of the task that tells it
  pub own_at : (u : ℕ) → is_live m.units u ≡ true → unit_of m (label_of m.tasks u) ≡ Some u
  own_at u live =
      let found = task_of m steady u live in
      ap (unit_of m) found.label ∙ (ap (had_by own_unit) (task_at-place m.tasks found.place found.task steady.tasks.labels found.placed) ∙ found.unit)

  -- so it is that of the task of a label exactly if it is told by that label
  pub told_by : (label : Bytes) (u : ℕ) → is_live m.units u ≡ true → is_same (label_of m.tasks u) label ≡ is_unit (unit_of m label) u
  told_by label u live =
      grind (arith, own_at u live, is_same-eq (label_of m.tasks u) label, label_at label u, unit_is (unit_of m label) u, is_same-self label)

module _ (m : Machine) (steady : IsSteady m) (t : Task) (there : task_at m.tasks t.label ≡ Some t) where
  pub live_of : (u : ℕ) → t.unit ≡ Some u → is_live m.units u ≡ true
  live_of u has = live_at m steady t.label u (ap (had_by own_unit) there ∙ has)

  pub open_of : (u : ℕ) → t.unit ≡ Some u → is_open (outcome_of m.units.outcomes u) ≡ true
  open_of u has = live_open m.units u (live_of u has)

  pub label_of_own : (u : ℕ) → t.unit ≡ Some u → label_of m.tasks u ≡ t.label
  label_of_own u has = label_at m steady t.label u (ap (had_by own_unit) there ∙ has)

  pub told_by_label : (u : ℕ) → is_live m.units u ≡ true → is_same (label_of m.tasks u) t.label ≡ is_unit t.unit u
  told_by_label u live = told_by m steady t.label u live ∙ ap (λ o. is_unit (had_by own_unit o) u) there

  -- a unit is another's exactly if another label tells it
  pub other_by_label : (u : ℕ) → is_live m.units u ≡ true → is_other t.unit u ≡ not (is_same (label_of m.tasks u) t.label)
  other_by_label u live = by t.unit ∙ ap not (sym (told_by_label u live))
    where
      by : (o : Option ℕ) → is_other o u ≡ not (is_unit o u)
      by None = refl
      by (Some w) = grind arith

-- with a task in the place of the one of its label, a unit that it has as the other had it keeps
-- its label
pub label_kept : (ts : List Task) (t v : Task) (u : ℕ) → task_at ts t.label ≡ Some t → v.label ≡ t.label → is_unit v.unit u ≡ is_unit t.unit u →
    label_of (replaced ts v) u ≡ label_of ts u
label_kept [] t v u there label same = refl
label_kept (x ∷ xs) t v u there label same = grind (arith, label_kept xs t v u, is_same-eq x.label t.label)

-- ---- A task of both regions

-- alike regions, and a task of one label in each
pub record AreActing (m n : Machine) (t u : Task) : Type 0 where
  pub same : HaveSameFuture m n
  pub there : task_at m.tasks t.label ≡ Some t
  pub too : task_at n.tasks u.label ≡ Some u
  pub bare : unnumbered t ≡ unnumbered u

pub same_label : (t u : Task) → unnumbered t ≡ unnumbered u → t.label ≡ u.label
same_label t u bare = ap (λ (x : Task). x.label) bare

-- a label is found without the numbers of units
bare-task_at : (ts : List Task) (label : Bytes) → option_map unnumbered (task_at ts label) ≡ task_at (map unnumbered ts) label
bare-task_at [] label = refl
bare-task_at (t ∷ ts) label = grind (arith, bare-task_at ts label)

-- what holds of no task in both, and of tasks that act, holds of the tasks of a label
pub both_tasks : (m n : Machine) → HaveSameFuture m n → (label : Bytes) (P : Option Task → Option Task → Type 0) →
    (task_at m.tasks label ≡ None → task_at n.tasks label ≡ None → P None None) →
    ((t u : Task) → AreActing m n t u → t.label ≡ label → P (Some t) (Some u)) → P (task_at m.tasks label) (task_at n.tasks label)
both_tasks m n same label P none some =
    both unnumbered unnumbered P (task_at m.tasks label) (task_at n.tasks label)
    (bare-task_at m.tasks label ∙ (ap (λ ts. task_at ts label) same.alike.tasks ∙ sym (bare-task_at n.tasks label))) none
    (λ t u there too bare.
    let mine = (place_of_task m.tasks label t there).2 in
    some t u (record { same = same; there = ap (task_at m.tasks) mine ∙ there; too = ap (task_at n.tasks) (sym (same_label t u bare) ∙ mine) ∙ too; bare = bare }) mine)

-- ---- What the units of both have

-- a label's task has a unit in both, or in neither
unit_bare : (ts : List Task) (label : Bytes) → option_map (λ (u : ℕ). 0) (had_by own_unit (task_at ts label)) ≡ had_by own_unit (task_at (map unnumbered ts) label)
unit_bare ts label = of_task (task_at ts label) ∙ ap (had_by own_unit) (bare-task_at ts label)
  where
    of_task : (o : Option Task) → option_map (λ (u : ℕ). 0) (had_by own_unit o) ≡ had_by own_unit (option_map unnumbered o)
    of_task None = refl
    of_task (Some t) = refl

-- the units of tasks that act have the same
pub own_acting : (m n : Machine) (t u : Task) → AreActing m n t u → own_by m.units t.unit ≡ own_by n.units u.unit
own_acting m n t u acting =
    ap (λ o. own_by m.units (had_by own_unit o)) (sym acting.there)
    ∙ (acting.same.alike.own t.label
    ∙ (ap (λ l. own_by n.units (unit_of n l)) (same_label t u acting.bare) ∙ ap (λ o. own_by n.units (had_by own_unit o)) acting.too))

-- an open unit has a partner: it holds the same and is told by the same label
pub record HasPartner (m n : Machine) (x : ℕ) : Type 0 where
  pub unit : ℕ
  pub live : is_live n.units unit ≡ true
  pub held : held_by m.units x ≡ held_by n.units unit
  pub label : label_of m.tasks x ≡ label_of n.tasks unit

pub partner : (m n : Machine) → HaveSameFuture m n → (x : ℕ) → is_live m.units x ≡ true → HasPartner m n x
partner m n same x live =
    both (λ u. 0) (λ u. 0) (λ o p. o ≡ Some x → HasPartner m n x) (unit_of m l) (unit_of n l)
    (unit_bare m.tasks l ∙ (ap (λ ts. had_by own_unit (task_at ts l)) same.alike.tasks ∙ sym (unit_bare n.tasks l)))
    (λ none none_too e. absurd (none-some x e)) (λ v w here too zero e. found w too) has
  where
    l : Bytes
    l = label_of m.tasks x

    has : unit_of m l ≡ Some x
    has = own_at m same.first x live

    found : (w : ℕ) → unit_of n l ≡ Some w → HasPartner m n x
    found w too = record {
      unit = w;
      live = live_at n same.second l w too;
      held =
          held_told m.units x (live_open m.units x live)
          ∙ ((λ i. held_own (same.alike.opening i) (owned i)) ∙ sym (held_told n.units w (live_open n.units w (live_at n same.second l w too))));
      label = sym (label_at n same.second l w too);
    }
      where
        owned : own_by m.units (Some x) ≡ own_by n.units (Some w)
        owned = ap (own_by m.units) (sym has) ∙ (same.alike.own l ∙ ap (own_by n.units) too)
