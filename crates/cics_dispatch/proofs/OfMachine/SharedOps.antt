-- A waiting command that may wait for more than one unit is ready, and whom it waits for is found
-- task by task.
use Rattle.std.proofs.Common.{◌≡◌, ◌∙◌, ◌+◌, ◌++◌, ℕ, suc, List, [], ◌∷◌, take, sym, ap, subst, true, Option, Some, None, refl, arith}
use Rattle.std.specs.Prelude.{is_some, slice_get}
use Rattle.std.specs.List.{filter_map}
use Rattle.std.proofs.lemmas.List.Elements.{filter_map-append}
use Rattle.std.proofs.lemmas.Bool.{false≢true}
use Rattle.cics_names.specs.Keyed.{Bytes}
use Rattle.cics_history.specs.Execution.{is_ready_op}
use Rattle.cics_history.specs.declared.ops.Op.{Op}
use Rattle.cics_dispatch.specs.Machine.Machine.{Machine, Task, Suspended, task_at}
use Rattle.cics_dispatch.specs.Machine.Tasks.{had_by, own_unit}
use Rattle.cics_dispatch.specs.Machine.KeptTasks.{IsReady, IsWaitKept, AreTasksKept}
use Rattle.cics_dispatch.specs.Machine.Waits.{wait_of}
use Rattle.cics_dispatch.specs.Machine.Blockers.{unit_of}
use Rattle.cics_dispatch.proofs.OfMachine.RegionListing.{take_there}
use Rattle.cics_dispatch.proofs.OfMachine.Looks.{wait_of_has, wait_of_label}

pub waiting_ready : (m : Machine) (label : Bytes) (w : Suspended) (op : Op) → AreTasksKept m → wait_of m.waiting label ≡ Some w → w.op ≡ Some op → is_ready_op m.units (unit_of m label) op ≡ true
waiting_ready m label w op kept found its = by (task_at m.tasks label) refl
  where
    is_kept : IsWaitKept m w
    is_kept = wait_of_has (IsWaitKept m) w m.waiting label kept.waits found

    own : task_at m.tasks w.label ≡ task_at m.tasks label
    own = ap (task_at m.tasks) (wait_of_label w m.waiting label found)

    by : (t : Option Task) → task_at m.tasks label ≡ t → is_ready_op m.units (had_by own_unit t) op ≡ true
    by None none = absurd (false≢true (sym (ap is_some (own ∙ none)) ∙ is_kept.of_task))
    by (Some t) there = subst (IsReady m.units t.unit w.command.verb) its (is_kept.ready t (own ∙ there))

-- one more task
pub mapped_more : (f : Task → Option Bytes) (ts : List Task) (at : ℕ) (t : Task) → slice_get ts at ≡ Some t →
    filter_map f (take (at + 1) ts) ≡ filter_map f (take at ts) ++ filter_map f (t ∷ [])
mapped_more f ts at t there =
    ap (λ n. filter_map f (take n ts)) (let next : at + 1 ≡ suc at = omega arith in next)
    ∙ ap (filter_map f) (take_there ts at t there) ∙ filter_map-append f (take at ts) (t ∷ [])
