-- Waiting commands that are blocked: what is awaited blocks, and what is blocked may not resume.
use Rattle.std.specs.Prelude.{◌≡◌, ℕ, Bool, true, false, cond, ◌&&◌, if◌then◌else◌, Option, Some, None, is_none, List, [], ◌∷◌, All, take, length, refl}
use Rattle.std.specs.List.{list_any}
use Rattle.std.proofs.Common.{◌⊎◌, inl, inr, sym, ap, ◌∙◌}
use Rattle.std.proofs.lemmas.Bool.{false≢true, true≢false, and_from, or_cases, or_left, or_right, lt-ltb}
use Rattle.std.proofs.lemmas.List.Elements.{All-nil, All-cons, All-head, All-tail}
use Rattle.cics_names.specs.Keyed.{Bytes}
use Rattle.cics_history.specs.Resources.{bytes_of}
use Rattle.cics_history.specs.declared.resources.Resource.{Resource}
use Rattle.cics_history.specs.declared.resources.Resource.TheVariants.{TdRead as ReadingEnd, TdWrite as WritingEnd, User}
use Rattle.cics_history.specs.State.{queue_logical, UnitsState}
use Rattle.cics_history.specs.Holding.{uses_of, held_by, conflicts, is_other, owned, blocker_at, first_some, blocker_among, committed_for, is_nothing, writer_awaited, awaited}
use Rattle.cics_history.specs.Execution.{IsOpenUnit}
use Rattle.cics_history.specs.Events.{is_live, may_act}
use Rattle.cics_history.specs.Isolation.{IsSound}
use Rattle.cics_history.specs.declared.ops.Op.{Op}
use Rattle.cics_history.specs.declared.ops.Op.TheVariants.{TdRead}
use Rattle.cics_history.proofs.Waiting.{none_either}
use Rattle.cics_history.proofs.States.{holder_holds}
use Rattle.cics_dispatch.specs.Machine.Machine.{Machine, Task, Suspended, task_at}
use Rattle.cics_dispatch.specs.Machine.Waking.{awaited_by, may_go_on, is_late, first_late}
use Rattle.cics_dispatch.specs.Machine.Settled.{reads_queue, holds_one, holds_back, IsStarved, Starves, KeepsWaiting, IsBlocked, IsInTime}
use Rattle.cics_names.specs.declared.commands.Verb.{Verb}
use Rattle.cics_names.specs.declared.commands.Verb.TheVariants.{Enq}
use Rattle.cics_dispatch.specs.Machine.KeptTasks.{IsReady, AreTasksKept}
use Rattle.cics_dispatch.proofs.OfMachine.TaskPlaces.{place_of_task}
use Rattle.cics_dispatch.proofs.OfMachine.KeptTasks.{acts}
use Rattle.cics_dispatch.proofs.OfMachine.Starved.{held_first, starved_waits, is_starved}

-- a task of which a command waits may act
pub task_acts : (m : Machine) (label : Bytes) (t : Task) → AreTasksKept m → task_at m.tasks label ≡ Some t → may_act m.units t.unit ≡ true
task_acts m label t kept is = let place = place_of_task m.tasks label t is in acts m place.0 t kept place.1

-- ---- A unit that is found owns what was asked for, or has written what would be read

-- one of two
either_some : {X : Type 0} (x y : Option X) (h : X) → first_some x y ≡ Some h → (x ≡ Some h) ⊎ ((x ≡ None) × (y ≡ Some h))
either_some None y h is = inr (refl, is)
either_some (Some x) y h is = inl is

found_among : (s : UnitsState) (u : Option ℕ) (h : ℕ) (rs : List Resource) → blocker_among (owned s) u rs ≡ Some h →
    (is_other u h ≡ true) × (holds_one s h rs ≡ true)
found_among s u h [] is = cc
found_among s u h (r ∷ rs) is =
    elim (either_some (blocker_at (owned s) u r) (blocker_among (owned s) u rs) h is) [
      | inl first ↦ let found = holder_holds s u r h first in (found.0, or_left _ _ found.1)
      | inr later ↦ let found = found_among s u h rs later.1 in (found.0, or_right _ _ found.1)
    ]

-- a command waits for a unit that owns nothing of what it uses: it is READQ TD, and the unit has
-- written to its queue
found_writer : (s : UnitsState) (u : Option ℕ) (h : ℕ) (o : Op) → (reads_queue (Some o) ≡ true → IsSound s) → may_act s u ≡ true → blocker_among (owned s) u (uses_of s.opening o) ≡ None →
    writer_awaited s u o ≡ Some h → (is_other u h ≡ true) × Starves s u h (Some o)
found_writer s u h (TdRead q) sound acts free is = by (queue_logical s.opening q) refl (is_nothing (committed_for s u q)) refl is
  where
    by : (logical : Bool) → queue_logical s.opening q ≡ logical → (nothing : Bool) → is_nothing (committed_for s u q) ≡ nothing →
        (if logical && nothing then blocker_at (owned s) u (WritingEnd q) else None) ≡ Some h → (is_other u h ≡ true) × IsStarved s u h q
    by true logical true nothing writer =
        let reader : blocker_among (owned s) u (ReadingEnd q ∷ []) ≡ None = ap (λ b. blocker_among (owned s) u (if b then ReadingEnd q ∷ [] else [])) (sym logical) ∙ free in
        ((holder_holds s u (WritingEnd q) h writer).0, is_starved s u h q (sound refl) acts logical nothing (none_either _ _ reader).0 writer)
    by true logical false nothing writer = cc
    by false logical nothing is writer = cc
found_writer s u h o sound acts free is = let none : None ≡ Some h = is in cc

found_awaited : (s : UnitsState) (u : Option ℕ) (h : ℕ) (verb : Verb) (o : Op) → (reads_queue (Some o) ≡ true → IsSound s) → may_act s u ≡ true → awaited s u o ≡ Some h →
    (is_other u h ≡ true) × KeepsWaiting s u h verb (Some o)
found_awaited s u h verb o sound acts is =
    elim (either_some (blocker_among (owned s) u (uses_of s.opening o)) (writer_awaited s u o) h is) [
      | inl held ↦ let found = found_among s u h (uses_of s.opening o) held in (found.0, inl found.1)
      | inr writer ↦ let found = found_writer s u h o sound acts writer.0 writer.1 in (found.0, inr found.1)
    ]

-- the unit that a command must wait for keeps it waiting
found_for : (s : UnitsState) (u : Option ℕ) (h : ℕ) (verb : Verb) (o : Option Op) → (reads_queue o ≡ true → IsSound s) → may_act s u ≡ true → IsReady s u verb o → awaited_by s u verb o ≡ Some h →
    (is_other u h ≡ true) × KeepsWaiting s u h verb o
found_for s u h verb (Some o) sound acts ready is = found_awaited s u h verb o sound acts is
found_for s u h (Enq value n nosuspend) None sound acts ready is =
    let found = holder_holds s u (User (bytes_of (take n value))) h is in
    (found.0, inl (or_left (list_any (conflicts (User (bytes_of (take n value)))) (held_by s h)) false found.1))
found_for s u h verb None sound acts ready is = absurd ready

-- the unit that a waiting command must wait for blocks it
pub blocked_by : (m : Machine) (w : Suspended) (t : Task) (h : ℕ) → AreTasksKept m → (reads_queue w.op ≡ true → IsSound m.units) → task_at m.tasks w.label ≡ Some t →
    IsReady m.units t.unit w.command.verb w.op → IsOpenUnit m.units h → awaited_by m.units t.unit w.command.verb w.op ≡ Some h → IsBlocked m h w
blocked_by m w t h kept sound of_task ready is_open is =
    let found = found_for m.units t.unit h w.command.verb w.op sound (task_acts m w.label t kept of_task) ready is in
    record {
      task = t;
      of_task = of_task;
      is_open = and_from _ _ (lt-ltb h (length m.units.outcomes) is_open.0) is_open.1;
      other = found.0;
      keeps = found.1;
    }

-- a unit that a command has to wait for, which isn't READQ TD, owns what the command uses
pub held_back : (m : Machine) (u : ℕ) (w : Suspended) → IsBlocked m u w → reads_queue w.op ≡ false → holds_back m.units u w.command.verb w.op ≡ true
held_back m u w is no_reader = elim is.keeps [ inl holds ↦ holds | inr starves ↦ absurd (never m.units is.task.unit u w.op no_reader starves) ]
  where
    never : (s : UnitsState) (own : Option ℕ) (h : ℕ) (o : Option Op) → reads_queue o ≡ false → Starves s own h o → ⊥
    never s own h (Some (TdRead q)) no_reader starves = true≢false no_reader
    never s own h (Some o) no_reader starves = starves
    never s own h None no_reader starves = starves

-- ---- What is blocked may not resume

held_among : (s : UnitsState) (u : Option ℕ) (h : ℕ) (rs : List Resource) → is_live s h ≡ true → is_other u h ≡ true → holds_one s h rs ≡ true →
    blocker_among (owned s) u rs ≡ None → ⊥
held_among s u h [] live other holds none = false≢true holds
held_among s u h (r ∷ rs) live other holds none =
    let both = none_either (blocker_at (owned s) u r) (blocker_among (owned s) u rs) none in
    elim (or_cases (list_any (conflicts r) (held_by s h)) (holds_one s h rs) holds) [
      | inl first ↦ held_first s u r h live other first both.0
      | inr later ↦ held_among s u h rs live other later both.1
    ]

held_for : (s : UnitsState) (u : Option ℕ) (h : ℕ) (verb : Verb) (o : Option Op) → is_live s h ≡ true → is_other u h ≡ true →
    holds_back s h verb o ≡ true → awaited_by s u verb o ≡ None → ⊥
held_for s u h verb (Some o) live other holds none =
    held_among s u h (uses_of s.opening o) live other holds
    (none_either (blocker_among (owned s) u (uses_of s.opening o)) (writer_awaited s u o) none).0
held_for s u h (Enq value n nosuspend) None live other holds none =
    elim (or_cases (list_any (conflicts (User (bytes_of (take n value)))) (held_by s h)) false holds) [
      | inl first ↦ held_first s u (User (bytes_of (take n value))) h live other first none
      | inr later ↦ absurd (false≢true later)
    ]
held_for s u h verb None live other holds none = absurd (false≢true holds)

starved_for : (s : UnitsState) (u : Option ℕ) (h : ℕ) (verb : Verb) (o : Option Op) → may_act s u ≡ true → is_live s h ≡ true → is_other u h ≡ true →
    Starves s u h o → awaited_by s u verb o ≡ None → ⊥
starved_for s u h verb (Some (TdRead q)) acts live other starves none = starved_waits s u h q acts live other starves none
starved_for s u h verb (Some o) acts live other starves none = absurd starves
starved_for s u h verb None acts live other starves none = absurd starves

-- one that is there is not none
not_none : {X : Type 0} (o : Option X) → (o ≡ None → ⊥) → is_none o ≡ false
not_none None there = absurd (there refl)
not_none (Some x) there = refl

pub blocked_stays : (m : Machine) (u : ℕ) (w : Suspended) → AreTasksKept m → IsBlocked m u w → may_go_on m w (task_at m.tasks w.label) ≡ false
blocked_stays m u w kept is =
    ap (may_go_on m w) is.of_task
    ∙ not_none (awaited_by m.units is.task.unit w.command.verb w.op) (elim is.keeps [
      | inl holds ↦ held_for m.units is.task.unit u w.command.verb w.op is.is_open is.other holds
      | inr starves ↦ starved_for m.units is.task.unit u w.command.verb w.op (task_acts m w.label is.task kept is.of_task) is.is_open is.other starves
    ])

-- ---- Waits that are in time

pub none_late : (m : Machine) (ws : List Suspended) → All (IsInTime m) ws → first_late m ws ≡ None
none_late m [] all = refl
none_late m (w ∷ ws) all =
    ap (λ b. cond b (task_at m.tasks w.label) (first_late m ws)) (All-head (IsInTime m) w ws all)
    ∙ none_late m ws (All-tail (IsInTime m) w ws all)

-- a task that has waited too long is there
late_there : (m : Machine) (w : Suspended) (o : Option Task) → is_late m w o ≡ true → o ≡ None → ⊥
late_there m w None late none = false≢true late
late_there m w (Some t) late none = cc

pub all_in_time : (m : Machine) (ws : List Suspended) → first_late m ws ≡ None → All (IsInTime m) ws
all_in_time m [] none = All-nil (IsInTime m)
all_in_time m (w ∷ ws) none =
    elim (is_late m w (task_at m.tasks w.label)) as
    (λ b. is_late m w (task_at m.tasks w.label) ≡ b → cond b (task_at m.tasks w.label) (first_late m ws) ≡ None → All (IsInTime m) (w ∷ ws)) [
      | true ↦ λ late none. absurd (late_there m w (task_at m.tasks w.label) late none)
      | false ↦ λ early none. All-cons (IsInTime m) w ws early (all_in_time m ws none)
    ] refl none
