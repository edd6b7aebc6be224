-- The blocker of a label's task is among all that block it, and without it there are none.
use Rattle.std.proofs.Common.{◌≡◌, ◌<◌, ◌∙◌, ℕ, Bool, true, false, ◌&&◌, ◌||◌, Option, Some, None, List, [], ◌∷◌, ◌++◌, length, zero, suc, sym, ap, subst, refl, inl, inr}
use Rattle.std.specs.Prelude.{if◌then◌else◌, option_map, option_and_then, slice_get, nat_lt, cond}
use Rattle.std.specs.List.{filter_map, cons_option, list_any}
use Rattle.std.specs.Option.{option_to_list}
use Rattle.std.proofs.lemmas.Bool.{true≢false, cases_Bool, eq-eqb, ltb-true, and_parts, and_from, or_left, or_right}
use Rattle.cics_names.specs.Keyed.{Bytes, is_same}
use Rattle.cics_names.specs.KeyedLaws.{is_same-self}
use Rattle.cics_history.specs.State.{UnitsState, queue_logical}
use Rattle.cics_history.specs.Headline.{outcome_of, is_open}
use Rattle.cics_history.specs.Events.{is_live}
use Rattle.cics_history.specs.Holding.{Owned, owned, conflicts, held_by, is_other, records_under, end_read_of, end_written_of, named_if, smaller, smallest_conflict, blocker_at, blocker_among, first_some, awaited}
use Rattle.cics_history.specs.declared.resources.Resource.{Resource}
use Rattle.cics_history.specs.declared.ops.Op.{Op}
use Rattle.cics_history.specs.declared.ops.Op.TheVariants.{Write, Rewrite, Delete, DeleteGeneric, ReadUpdate, TsWrite, TsRewrite, TsDelete, TdWrite, TdRead, TdDelete}
use Rattle.cics_history.proofs.Waiting.{is_of, table_names, in_table, lesser_cases, none_first, none_either}
use Rattle.cics_history.proofs.Holders.{any_if, found_holds, found_other}
use Rattle.cics_units.specs.Blocking.{owns_over, blocks}
use Rattle.cics_dispatch.specs.Machine.Machine.{Machine, Task, Suspended, task_at, label_of}
use Rattle.cics_dispatch.specs.Notes.Notes.{is_unit}
use Rattle.cics_dispatch.specs.Machine.Tasks.{HasNoOwner, had_by, own_unit}
use Rattle.cics_dispatch.specs.Machine.KeptTasks.{AreTasksKept}
use Rattle.cics_dispatch.specs.Machine.OwnedUnits.{AreUnitsOwned}
use Rattle.cics_dispatch.specs.Machine.Waits.{wait_of}
use Rattle.cics_dispatch.specs.Machine.Waking.{awaited_by}
use Rattle.cics_dispatch.specs.Machine.Blockers.{blocker_of, shared, shared_op, unit_blocks, blocking_label, blockers_by, blockers_of, HaveBlocker}
use Rattle.cics_dispatch.proofs.OfMachine.Blockers.{task_waits}
use Rattle.cics_dispatch.proofs.OfMachine.Looks.{wait_has_task}
use Rattle.cics_dispatch.proofs.OfMachine.TaskTable.{is_unit-has}

-- ---- Whom a command waits for owns what it uses, and nobody else does if it waits for nobody

none_some : {X : Type 0} {x : X} → None ≡ Some x → ⊥
none_some e = cc

some_same : {X : Type 0} {x y : X} → Some x ≡ Some y → x ≡ y
some_same e = cc

alone : (x : Option ℕ) → first_some (first_some x None) None ≡ x
alone None = refl
alone (Some v) = refl

none_of : (a b c : Bool) → (a && b) ≡ false → (a && c) ≡ false → (a && (b || c)) ≡ false
none_of false b c x y = refl
none_of true false c x y = y
none_of true true c x y = absurd (true≢false x)

first_of : (a b c : Bool) → (a && b) ≡ true → (a && (b || c)) ≡ true
first_of a b c x = let p = and_parts a b x in and_from _ _ p.0 (or_left b c p.1)

second_of : (a b c : Bool) → (a && c) ≡ true → (a && (b || c)) ≡ true
second_of a b c x = let p = and_parts a c x in and_from _ _ p.0 (or_right b c p.1)

neither : (a : Bool) → (a && false) ≡ false
neither false = refl
neither true = refl

module _ (s : UnitsState) (asking : Option ℕ) where
  found_at : (r : Resource) (v : ℕ) → blocker_at (owned s) asking r ≡ Some v → (is_other asking v && owns_over s v r) ≡ true
  found_at r v e = and_from _ _ (found_other (owned s) asking r v e) (found_holds s asking r v e)

  free_at : (r : Resource) (v : ℕ) → v < length s.outcomes → blocker_at (owned s) asking r ≡ None → (is_other asking v && owns_over s v r) ≡ false
  free_at r v begun free = elim (cases_Bool (is_other asking v && owns_over s v r)) [
    | inr free_here ↦ free_here
    | inl owns ↦
        let both = and_parts (is_other asking v) (owns_over s v r) owns in
        absurd (true≢false (sym (in_table s (conflicts r) asking v begun both.0 both.1) ∙ none_first (owned s) asking r free))
  ]

  -- a blocker has begun
  named : (r : Resource) (t : Owned) (v : ℕ) → blocker_at t asking r ≡ Some v → list_any (is_of (λ _. true) v) t ≡ true
  named r [] v e = absurd (none_some e)
  named r (d ∷ t) v e = by (named r t v) (conflicts r d.0 && is_other asking d.1) e
    where
      by : (blocker_at t asking r ≡ Some v → list_any (is_of (λ _. true) v) t ≡ true) → (b : Bool) →
          option_map (λ e. e.1) (if b then smaller (Some d) (smallest_conflict t asking r) else smallest_conflict t asking r) ≡ Some v →
          list_any (is_of (λ _. true) v) (d ∷ t) ≡ true
      by behind false e = or_right (is_of (λ _. true) v d) _ (behind e)
      by behind true e = lesser_cases d (smallest_conflict t asking r) (λ e. e.1) v e
          (λ own. or_left _ (list_any (is_of (λ _. true) v) t) (eq-eqb d.1 v own))
          (λ rest. or_right (is_of (λ _. true) v d) _ (behind rest))

  -- and is open
  owner_open : (p : Resource → Bool) (v : ℕ) → list_any p (held_by s v) ≡ true → is_open (outcome_of s.outcomes v) ≡ true
  owner_open p v own = (any_if p (is_open (outcome_of s.outcomes v)) _ own).0

  live_at : (r : Resource) (v : ℕ) → blocker_at (owned s) asking r ≡ Some v → is_live s v ≡ true
  live_at r v e =
      and_from _ _ (and_parts (nat_lt v (length s.outcomes)) _ (sym (table_names s (λ _. true) v) ∙ named r (owned s) v e)).0
      (owner_open (conflicts r) v (found_holds s asking r v e))

  -- of DELETEQ TD, by whether the queue is LOGICAL
  module _ (q : Bytes) where
    abbrev of_read : Option ℕ
    of_read = blocker_at (owned s) asking (end_read_of q)

    abbrev of_written : Option ℕ
    of_written = blocker_at (owned s) asking (end_written_of q)

    abbrev by_ends : Bool → Option ℕ
    by_ends logical = first_some (blocker_among (owned s) asking (named_if logical (end_read_of q) ++ named_if logical (end_written_of q))) None

    abbrev owns_read : ℕ → Bool
    owns_read v = owns_over s v (end_read_of q)

    abbrev owns_written : ℕ → Bool
    owns_written v = owns_over s v (end_written_of q)

    abbrev own_ends : Bool → ℕ → Bool
    own_ends logical v = is_other asking v && (logical && (owns_read v || owns_written v))

    end_found : (logical : Bool) (v : ℕ) → by_ends logical ≡ Some v → (own_ends logical v ≡ true) × (is_live s v ≡ true)
    end_found false v e = absurd (none_some e)
    end_found true v e = by of_read refl e
      where
        by : (o : Option ℕ) → of_read ≡ o → first_some (first_some o (first_some of_written None)) None ≡ Some v → (own_ends true v ≡ true) × (is_live s v ≡ true)
        by (Some w) is e = (first_of (is_other asking v) (owns_read v) (owns_written v) (found_at (end_read_of q) v (is ∙ e)), live_at (end_read_of q) v (is ∙ e))
        by None is e =
            let written : of_written ≡ Some v = sym (alone of_written) ∙ e in
            (second_of (is_other asking v) (owns_read v) (owns_written v) (found_at (end_written_of q) v written), live_at (end_written_of q) v written)

    ends_free : (logical : Bool) (v : ℕ) → v < length s.outcomes → by_ends logical ≡ None → own_ends logical v ≡ false
    ends_free false v begun e = neither (is_other asking v)
    ends_free true v begun e =
        let both = none_either of_read (first_some of_written None) (none_either (first_some of_read (first_some of_written None)) None e).0 in
        let written = (none_either of_written None both.1).0 in
        none_of (is_other asking v) (owns_read v) (owns_written v) (free_at (end_read_of q) v begun both.0) (free_at (end_written_of q) v begun written)

  pub waited_for : (op o : Op) (v : ℕ) → shared (Some op) ≡ Some o → awaited s asking op ≡ Some v → (blocks s asking op v ≡ true) × (is_live s v ≡ true)
  waited_for (DeleteGeneric f p) o v sh e =
      let one : blocker_at (owned s) asking (records_under f p) ≡ Some v = sym (alone (blocker_at (owned s) asking (records_under f p))) ∙ e in
      (found_at (records_under f p) v one, live_at (records_under f p) v one)
  waited_for (TdDelete q) o v sh e = end_found q (queue_logical s.opening q) v e
  waited_for (Write f k r) o v sh e = absurd (none_some sh)
  waited_for (Rewrite f k r) o v sh e = absurd (none_some sh)
  waited_for (Delete f k) o v sh e = absurd (none_some sh)
  waited_for (ReadUpdate f k) o v sh e = absurd (none_some sh)
  waited_for (TsWrite q d) o v sh e = absurd (none_some sh)
  waited_for (TsRewrite q n d) o v sh e = absurd (none_some sh)
  waited_for (TsDelete q) o v sh e = absurd (none_some sh)
  waited_for (TdWrite q d) o v sh e = absurd (none_some sh)
  waited_for (TdRead q) o v sh e = absurd (none_some sh)

  pub free_of : (op o : Op) (v : ℕ) → shared (Some op) ≡ Some o → v < length s.outcomes → awaited s asking op ≡ None → blocks s asking op v ≡ false
  free_of (DeleteGeneric f p) o v sh begun e = free_at (records_under f p) v begun (sym (alone (blocker_at (owned s) asking (records_under f p))) ∙ e)
  free_of (TdDelete q) o v sh begun e = ends_free q (queue_logical s.opening q) v begun e
  free_of (Write f k r) o v sh begun e = absurd (none_some sh)
  free_of (Rewrite f k r) o v sh begun e = absurd (none_some sh)
  free_of (Delete f k) o v sh begun e = absurd (none_some sh)
  free_of (ReadUpdate f k) o v sh begun e = absurd (none_some sh)
  free_of (TsWrite q d) o v sh begun e = absurd (none_some sh)
  free_of (TsRewrite q n d) o v sh begun e = absurd (none_some sh)
  free_of (TsDelete q) o v sh begun e = absurd (none_some sh)
  free_of (TdWrite q d) o v sh begun e = absurd (none_some sh)
  free_of (TdRead q) o v sh begun e = absurd (none_some sh)

shared_is : (x : Option Op) (op : Op) → shared x ≡ Some op → x ≡ Some op
shared_is None op sh = absurd (none_some sh)
shared_is (Some (DeleteGeneric f p)) op sh = sh
shared_is (Some (TdDelete q)) op sh = sh
shared_is (Some (Write f k r)) op sh = absurd (none_some sh)
shared_is (Some (Rewrite f k r)) op sh = absurd (none_some sh)
shared_is (Some (Delete f k)) op sh = absurd (none_some sh)
shared_is (Some (ReadUpdate f k)) op sh = absurd (none_some sh)
shared_is (Some (TsWrite q d)) op sh = absurd (none_some sh)
shared_is (Some (TsRewrite q n d)) op sh = absurd (none_some sh)
shared_is (Some (TsDelete q)) op sh = absurd (none_some sh)
shared_is (Some (TdWrite q d)) op sh = absurd (none_some sh)
shared_is (Some (TdRead q)) op sh = absurd (none_some sh)

-- ---- Task by task

any_more_labels : (p : Bytes → Bool) (o : Option Bytes) (ls : List Bytes) → list_any p ls ≡ true → list_any p (cons_option o ls) ≡ true
any_more_labels p None ls h = h
any_more_labels p (Some l) ls h = or_right (p l) _ h

module _ (f : Task → Option Bytes) (v : ℕ) where
  has_unit : (o : Option ℕ) → o ≡ Some v → is_unit o v ≡ true
  has_unit o is = ap (λ o. is_unit o v) is ∙ eq-eqb v v refl

  among : (ts : List Task) → ((t : Task) → t.unit ≡ Some v → f t ≡ Some t.label) → (HasNoOwner ts v → ⊥) → list_any (is_same (label_of ts v)) (filter_map f ts) ≡ true
  among [] own owner = absurd (owner (record { other = λ i t at of. none_at i t at }))
    where
      none_at : (i : ℕ) (t : Task) → slice_get [] i ≡ Some t → ⊥
      none_at i t at = cc
  among (t ∷ ts) own owner = elim (cases_Bool (is_unit t.unit v)) [
    | inl its ↦
        let here = own t (is_unit-has t.unit v its) in
        ap (λ l. list_any (is_same l) (cons_option (f t) (filter_map f ts))) (ap (λ b. cond b t.label (label_of ts v)) its)
        ∙ ap (λ o. list_any (is_same t.label) (cons_option o (filter_map f ts))) here
        ∙ or_left _ _ (is_same-self t.label)
    | inr other_unit ↦
        ap (λ l. list_any (is_same l) (cons_option (f t) (filter_map f ts))) (ap (λ b. cond b t.label (label_of ts v)) other_unit)
        ∙ any_more_labels (is_same (label_of ts v)) (f t) (filter_map f ts) (among ts own (λ none. owner (further none other_unit)))
  ]
    where
      further : HasNoOwner ts v → is_unit t.unit v ≡ false → HasNoOwner (t ∷ ts) v
      further none other_unit = record { other = other }
        where
          other : (i : ℕ) (u : Task) → slice_get (t ∷ ts) i ≡ Some u → u.unit ≡ Some v → ⊥
          other zero u at of = true≢false (sym (has_unit u.unit of) ∙ ap (λ x. is_unit x.unit v) (sym (some_same at)) ∙ other_unit)
          other (suc i) u at of = none.other i u at of

nobody : (f : Task → Option Bytes) (ts : List Task) → ((i : ℕ) (t : Task) → slice_get ts i ≡ Some t → f t ≡ None) → filter_map f ts ≡ []
nobody f [] free = refl
nobody f (t ∷ ts) free =
    ap (λ o. cons_option o (filter_map f ts)) (free zero t refl) ∙ nobody f ts (λ i u at. free (suc i) u at)

-- ---- All blockers of a task

alone_listed : (o : Option Bytes) → HaveBlocker o (option_to_list o)
alone_listed None = refl
alone_listed (Some l) = or_left _ _ (is_same-self l)

module _ (m : Machine) (label : Bytes) (kept : AreTasksKept m) (units : AreUnitsOwned m) where
  -- a command that may wait for more than one unit
  module _ (t : Task) (op : Op) (sh : shared (Some op) ≡ Some op) where
    abbrev listed : List Bytes
    listed = filter_map (blocking_label m.units t.unit op) m.tasks

    by_task : (o : Option ℕ) → awaited m.units t.unit op ≡ o → HaveBlocker (option_map (label_of m.tasks) o) listed
    by_task None e = nobody (blocking_label m.units t.unit op) m.tasks
        (λ i u at. ap (λ b. cond b (Some u.label) None) (of_unit i u at u.unit refl))
      where
        of_unit : (i : ℕ) (u : Task) → slice_get m.tasks i ≡ Some u → (o : Option ℕ) → u.unit ≡ o → unit_blocks m.units t.unit op o ≡ false
        of_unit i u at None is = refl
        of_unit i u at (Some v) is =
            let live = kept.open_units i u v at is in
            free_of m.units t.unit op op v sh (ltb-true v (length m.units.outcomes) (and_parts (nat_lt v (length m.units.outcomes)) _ live).0) e
    by_task (Some v) e =
        let found = waited_for m.units t.unit op op v sh e in
        among (blocking_label m.units t.unit op) v m.tasks
        (λ u is. ap (λ o. cond (unit_blocks m.units t.unit op o) (Some u.label) None) is ∙ ap (λ b. cond b (Some u.label) None) found.0)
        (units.owned v found.1)

  module _ (w : Suspended) (there : wait_of m.waiting label ≡ Some w) (op : Op) (sh : shared w.op ≡ Some op) where
    its : w.op ≡ Some op
    its = shared_is w.op op sh

    of_task : (t : Task) → task_at m.tasks label ≡ Some t → HaveBlocker (blocker_of m label) (blockers_of m label)
    of_task t own =
        let one : blocker_of m label ≡ option_map (label_of m.tasks) (awaited m.units t.unit op) =
        ap (option_map (label_of m.tasks)) (task_waits m label w there t own ∙ ap (awaited_by m.units t.unit w.command.verb) its) in
        let all : blockers_of m label ≡ filter_map (blocking_label m.units t.unit op) m.tasks =
        ap (blockers_by m label) (ap (option_and_then (λ x. shared x.op)) there ∙ sh)
        ∙ ap (λ u. filter_map (blocking_label m.units (had_by own_unit u) op) m.tasks) own in
        subst (λ o. HaveBlocker o (blockers_of m label)) (sym one)
        (subst (HaveBlocker (option_map (label_of m.tasks) (awaited m.units t.unit op))) (sym all)
        (by_task t op (sym (ap shared its) ∙ sh) (awaited m.units t.unit op) refl))

    shared_have : (t : Option Task) → task_at m.tasks label ≡ t → HaveBlocker (blocker_of m label) (blockers_of m label)
    shared_have None none = absurd (wait_has_task m w label kept.waits (sym there) none)
    shared_have (Some t) own = of_task t own

  -- a command that may wait for one unit alone
  one_have : shared_op m label ≡ None → HaveBlocker (blocker_of m label) (blockers_of m label)
  one_have sh = subst (λ o. HaveBlocker (blocker_of m label) (blockers_by m label o)) (sym sh) (alone_listed (blocker_of m label))

  waiting_have : (w : Suspended) → wait_of m.waiting label ≡ Some w → (o : Option Op) → shared w.op ≡ o → HaveBlocker (blocker_of m label) (blockers_of m label)
  waiting_have w there None sh = one_have (ap (option_and_then (λ x. shared x.op)) there ∙ sh)
  waiting_have w there (Some op) sh = shared_have w there op sh (task_at m.tasks label) refl

  all_have : (w : Option Suspended) → wait_of m.waiting label ≡ w → HaveBlocker (blocker_of m label) (blockers_of m label)
  all_have None none = one_have (ap (option_and_then (λ x. shared x.op)) none)
  all_have (Some w) there = waiting_have w there (shared w.op) refl

  pub blockers_have : HaveBlocker (blocker_of m label) (blockers_of m label)
  blockers_have = all_have (wait_of m.waiting label) refl
