-- In two regions that have the same future, the same tasks block the waiting command of a label.
use Rattle.std.proofs.Common.{◌≡◌, ℕ, suc, not, ◌&&◌, ◌||◌, Option, Some, None, List, [], ◌∷◌, refl, ap, sym, ◌∙◌, arith}
use Rattle.std.specs.Prelude.{if◌then◌else◌, map, slice_get, option_and_then}
use Rattle.std.specs.List.{filter_map, list_any}
use Rattle.std.specs.Option.{option_to_list}
use Rattle.cics_names.specs.Keyed.{Bytes, is_same}
use Rattle.cics_history.specs.Holding.{conflicts, held_by, is_other, records_under, end_read_of, end_written_of}
use Rattle.cics_history.specs.State.{queue_logical}
use Rattle.cics_history.specs.declared.ops.Op.{Op}
use Rattle.cics_history.specs.declared.ops.Op.TheVariants.{DeleteGeneric, TdDelete}
use Rattle.cics_units.specs.Blocking.{owns_used}
use Rattle.cics_dispatch.specs.Notes.Notes.{is_unit}
use Rattle.cics_dispatch.specs.Machine.Machine.{Machine, Task, task_at}
use Rattle.cics_dispatch.specs.Machine.Tasks.{own_unit, had_by}
use Rattle.cics_dispatch.specs.Machine.Waits.{wait_of}
use Rattle.cics_dispatch.specs.Machine.Blockers.{unit_of, shared, unit_blocks, blocking_label, blockers_by, blockers_of}
use Rattle.cics_dispatch.specs.Future.Futures.{own_by, unnumbered, IsSteady, HaveSameFuture}
use Rattle.cics_dispatch.proofs.OfMachine.TaskPlaces.{task_at-place}
use Rattle.cics_dispatch.proofs.OfFuture.Labels.{both, told_by, live_of, open_of, label_of_own, AreActing, same_label}
use Rattle.cics_dispatch.proofs.OfFuture.Owning.{held_own, held_told}
use Rattle.cics_dispatch.proofs.OfFuture.Events.{blocker_same}

-- these tasks are those of their labels
abbrev Stand : Machine → List Task → Type 0
Stand m ts = (j : ℕ) (t : Task) → slice_get ts j ≡ Some t → task_at m.tasks t.label ≡ Some t

stand : (m : Machine) → IsSteady m → Stand m m.tasks
stand m steady j t at = task_at-place m.tasks j t steady.tasks.labels at

-- a unit is another's exactly if another label tells it
other_told : (m : Machine) (steady : IsSteady m) (t : Task) (there : task_at m.tasks t.label ≡ Some t) (x : ℕ) → t.unit ≡ Some x →
    (label : Bytes) → is_other (unit_of m label) x ≡ not (is_same t.label label)
other_told m steady t there x has label =
    by (unit_of m label)
    ∙ ap not (sym (told_by m steady label x (live_of m steady t there x has)) ∙ ap (λ l. is_same l label) (label_of_own m steady t there x has))
  where
    by : (o : Option ℕ) → is_other o x ≡ not (is_unit o x)
    by None = refl
    by (Some w) = grind arith

module _ (m n : Machine) (same : HaveSameFuture m n) where
  -- the units of tasks that act own the same
  held_same : (t u : Task) → AreActing m n t u → (x y : ℕ) → t.unit ≡ Some x → u.unit ≡ Some y → held_by m.units x ≡ held_by n.units y
  held_same t u acting x y has too =
      held_told m.units x (open_of m same.first t acting.there x has)
      ∙ (λ i. held_own (same.alike.opening i) (owned i)) ∙ sym (held_told n.units y (open_of n same.second u acting.too y too))
    where
      owned : own_by m.units (Some x) ≡ own_by n.units (Some y)
      owned =
          ap (own_by m.units) (sym (ap (had_by own_unit) acting.there ∙ has)) ∙ same.alike.own t.label
          ∙ ap (λ l. own_by n.units (unit_of n l)) (same_label t u acting.bare) ∙ ap (own_by n.units) (ap (had_by own_unit) acting.too ∙ too)

  used_same : (x y : ℕ) → held_by m.units x ≡ held_by n.units y → (op : Op) → owns_used m.units x op ≡ owns_used n.units y op
  used_same x y held (DeleteGeneric f p) = ap (list_any (conflicts (records_under f p))) held
  used_same x y held (TdDelete q) = λ i. queue_logical (same.alike.opening i) q && (list_any (conflicts (end_read_of q)) (held i) || list_any (conflicts (end_written_of q)) (held i))
  used_same x y held _ = refl

  module _ (label : Bytes) (op : Op) where
    way_same : (t u : Task) → AreActing m n t u → blocking_label m.units (unit_of m label) op t ≡ blocking_label n.units (unit_of n label) op u
    way_same t u acting = λ i. if inside i then Some (same_label t u acting.bare i) else None
      where
        inside : unit_blocks m.units (unit_of m label) op t.unit ≡ unit_blocks n.units (unit_of n label) op u.unit
        inside =
            both (λ x. 0) (λ x. 0) (λ o p. unit_blocks m.units (unit_of m label) op o ≡ unit_blocks n.units (unit_of n label) op p) t.unit u.unit
            (ap (λ (x : Task). x.unit) acting.bare) (λ none none_too. refl)
            (λ x y has too zero.
            let other = other_told m same.first t acting.there x has label ∙ ap (λ l. not (is_same l label)) (same_label t u acting.bare) ∙ sym (other_told n same.second u acting.too y too label) in
            λ i. other i && used_same x y (held_same t u acting x y has too) op i)

    ways_same : (ts us : List Task) → map unnumbered ts ≡ map unnumbered us → Stand m ts → Stand n us →
        filter_map (blocking_label m.units (unit_of m label) op) ts ≡ filter_map (blocking_label n.units (unit_of n label) op) us
    ways_same [] [] bare stands stands_too = refl
    ways_same [] (u ∷ us) bare stands stands_too = cc
    ways_same (t ∷ ts) [] bare stands stands_too = cc
    ways_same (t ∷ ts) (u ∷ us) bare stands stands_too =
        let first : unnumbered t ≡ unnumbered u = cc in
        let rest : map unnumbered ts ≡ map unnumbered us = cc in
        rw (
          way_same t u (record { same = same; there = stands 0 t refl; too = stands_too 0 u refl; bare = first }),
          ways_same ts us rest (λ j x at. stands (suc j) x at) (λ j x at. stands_too (suc j) x at),
        ) refl

  pub blockers_same : (label : Bytes) → blockers_of m label ≡ blockers_of n label
  blockers_same label =
      ap (λ ws. blockers_by m label (option_and_then (λ w. shared w.op) (wait_of ws label))) same.alike.waiting
      ∙ by (option_and_then (λ w. shared w.op) (wait_of n.waiting label))
    where
      by : (o : Option Op) → blockers_by m label o ≡ blockers_by n label o
      by None = ap option_to_list (blocker_same m n same label)
      by (Some op) = ways_same label op m.tasks n.tasks same.alike.tasks (stand m same.first) (stand n same.second)
