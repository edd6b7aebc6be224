-- Task control: the tasks of a region as they are stored, each under its label; no two have one
-- label or one unit.
use Rattle.std.specs.Prelude.{◌≡◌, ◌≤◌, ◌+◌, ℕ, Option, Some, None, List, [], ◌∷◌, length, nat_eq, slice_get}
use Rattle.std.specs.Map.{lookup, values_of}
use Rattle.indexmap.specs.IndexMap.{IndexMap, index_map_len, spare}
use Rattle.cics_names.specs.Keyed.{Bytes}
use Rattle.cics_dispatch.specs.Machine.Machine.{Task}

-- each task stands under its label
abbrev pub AreLabelled : List (Bytes × Task) → Type 0
AreLabelled [] = Unit {0}
AreLabelled (e ∷ es) = (e.0 ≡ e.1.label) × AreLabelled es

-- the label of a task, which each has
abbrev pub own_label : Task → Option Bytes
own_label t = Some t.label

-- the unit of a task, if it has one
abbrev pub own_unit : Task → Option ℕ
own_unit t = t.unit

-- what own gives of a task, if there is a task
abbrev pub had_by : {X : Type 0} → (Task → Option X) → Option Task → Option X
had_by own None = None
had_by own (Some t) = own t

-- what own gives of the task at an index
abbrev pub had_at : {X : Type 0} → (Task → Option X) → List Task → ℕ → Option X
had_at own ts i = had_by own (slice_get ts i)

-- no two tasks have the same of what own gives: a label, or a unit
pub record IsOwn {X : Type 0} (own : Task → Option X) (ts : List Task) : Type 0 where
  pub one : (i j : ℕ) (x : X) → had_at own ts i ≡ Some x → had_at own ts j ≡ Some x → i ≡ j

-- the tasks stand under their labels, and no two have one label or one unit
pub record AreTaskRowsKept (es : List (Bytes × Task)) : Type 0 where
  pub labelled : AreLabelled es
  pub labels : IsOwn own_label (values_of es)
  pub units : IsOwn own_unit (values_of es)

-- no task has the unit
pub record HasNoOwner (ts : List Task) (u : ℕ) : Type 0 where
  pub other : (i : ℕ) (t : Task) → slice_get ts i ≡ Some t → t.unit ≡ Some u → ⊥

-- there is room for twice as many units as tasks, less one
pub record HasRoomForUnits {S : Type 0} (ts : List Task) (owners : IndexMap ℕ (Option ℕ) S) : Type 0 where
  pub room : length ts + length ts ≤ index_map_len owners + spare owners + 1

-- each task's unit leads to the task's index, nothing else leads to an index, and there is room
pub record AreOwnersKept {S : Type 0} (ts : List Task) (owners : IndexMap ℕ (Option ℕ) S) : Type 0 where
  pub found : (i u : ℕ) → had_at own_unit ts i ≡ Some u → lookup (nat_eq u) owners.entries ≡ Some (Some i)
  pub owned : (i u : ℕ) → lookup (nat_eq u) owners.entries ≡ Some (Some i) → had_at own_unit ts i ≡ Some u
  pub room : HasRoomForUnits ts owners
