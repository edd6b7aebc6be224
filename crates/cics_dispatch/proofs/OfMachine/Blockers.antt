-- Task control: the number of a task, and the task for which a waiting command has to wait now.
use Rattle.std.specs.Prelude.{◌≡◌, ◌<◌, ℕ, true, false, cond, Option, Some, None, option_map, unwrap_or, IfSome, IfNone, List, [], ◌∷◌, length, slice_get, refl}
use Rattle.std.proofs.Common.{zero, suc, sym, ap, ◌∙◌}
use Rattle.std.proofs.lemmas.Bool.{and_from, lt-ltb}
use Rattle.cics_names.specs.Keyed.{Bytes, is_same}
use Rattle.cics_names.specs.KeyedLaws.{is_same-self, is_same-other}
use Rattle.cics_history.specs.Execution.{IsOpenUnit}
use Rattle.cics_dispatch.specs.Machine.Machine.{Machine, Task, Suspended, task_at, label_of}
use Rattle.cics_dispatch.specs.Machine.Tasks.{own_label, IsOwn, HasNoOwner}
use Rattle.cics_dispatch.specs.Machine.OwnedUnits.{AreUnitsOwned}
use Rattle.cics_dispatch.specs.Machine.Waits.{wait_of}
use Rattle.cics_dispatch.specs.Machine.Waking.{awaited_by}
use Rattle.cics_dispatch.specs.Machine.Blockers.{awaited_of, awaited_at, blocker_of, number_of}
use Rattle.cics_dispatch.proofs.OfMachine.TaskPlaces.{IsOwn-tail, first_other, place_of_task}
use Rattle.cics_dispatch.proofs.OfMachine.RegionSteps.{task_there}

-- ---- The number of a task

-- the task at a place has the place as its number
number_of-place : (ts : List Task) (at : ℕ) (t : Task) → IsOwn own_label ts → slice_get ts at ≡ Some t → number_of ts t.label ≡ Some at
number_of-place [] at t own placed = cc
number_of-place (u ∷ us) zero t own placed =
    let same : u ≡ t = cc in
    ap (λ b. cond b (Some 0) (option_map suc (number_of us t.label))) (ap (λ x. is_same x.label t.label) same ∙ is_same-self t.label)
number_of-place (u ∷ us) (suc n) t own placed =
    ap (λ b. cond b (Some 0) (option_map suc (number_of us t.label))) (is_same-other u.label t.label (first_other u t us n own placed))
    ∙ ap (option_map suc) (number_of-place us n t (IsOwn-tail own_label u us own) placed)

-- a label that is no task's has none
number_of-none : (ts : List Task) (label : Bytes) → task_at ts label ≡ None → number_of ts label ≡ None
number_of-none [] label none = refl
number_of-none (u ∷ us) label none =
    elim (is_same u.label label) as (λ b. cond b (Some u) (task_at us label) ≡ None → cond b (Some 0) (option_map suc (number_of us label)) ≡ None) [
      | true ↦ λ e. cc
      | false ↦ λ e. ap (option_map suc) (number_of-none us label e)
    ] none

-- so the place that is found is the number
pub number_found : (ts : List Task) (label : Bytes) (r : Option ℕ) → IsOwn own_label ts → IfSome r (λ at. slice_get ts at ≡ task_at ts label) →
    IfSome r (λ at. at < length ts) → IfNone r (task_at ts label ≡ None) → r ≡ number_of ts label
number_found ts label None own task within none = sym (number_of-none ts label none)
number_found ts label (Some at) own task within none = task_there ts at within (λ t there.
    let found = place_of_task ts label t (sym task ∙ there) in
    sym (ap (number_of ts) (sym found.2) ∙ number_of-place ts at t own there))

-- ---- Whom a task has to wait for

module _ (m : Machine) (label : Bytes) where
  -- nobody if no command of it waits
  pub nobody_waits : wait_of m.waiting label ≡ None → awaited_at m label ≡ None
  nobody_waits none = ap (λ w. awaited_of m w (task_at m.tasks label)) none

  module _ (w : Suspended) (waits : wait_of m.waiting label ≡ Some w) where
    -- nor if it is no task's label
    pub no_task_waits : task_at m.tasks label ≡ None → awaited_at m label ≡ None
    no_task_waits none = ap (λ w. awaited_of m w (task_at m.tasks label)) waits ∙ ap (awaited_of m (Some w)) none

    -- else whom the command has to wait for
    pub task_waits : (t : Task) → task_at m.tasks label ≡ Some t → awaited_at m label ≡ awaited_by m.units t.unit w.command.verb w.op
    task_waits t of_label = ap (λ w. awaited_of m w (task_at m.tasks label)) waits ∙ ap (awaited_of m (Some w)) of_label

  -- if it is an open unit, that is a task's
  pub owner_found : (u : ℕ) (r : Option Bytes) → AreUnitsOwned m → awaited_at m label ≡ Some u → IsOpenUnit m.units u →
      unwrap_or r [] ≡ label_of m.tasks u → IfNone r (HasNoOwner m.tasks u) → r ≡ blocker_of m label
  owner_found u None owned awaits open_unit is none = absurd (owned.owned u (and_from _ _ (lt-ltb u (length m.units.outcomes) open_unit.0) open_unit.1) none)
  owner_found u (Some owner) owned awaits open_unit is none = ap Some is ∙ sym (ap (option_map (label_of m.tasks)) awaits)
