-- The deadlines of waiting commands: the first key below the clock is that of the first task that
-- has waited too long. What a command that begins to wait, or waits no more, makes of the keys.
use Rattle.std.specs.Prelude.{◌≡◌, ◌≢◌, ℕ, ◌+◌, ◌-◌, ◌<◌, ◌≤◌, min, Bool, true, false, not, cond, ◌&&◌, Option, Some, None, is_some, nat_lt, nat_le, List, [], ◌∷◌, ◌++◌, All, length, map, drop, slice_get, slice_set, refl}
use Rattle.std.proofs.Common.{zero, suc, sym, ap, ◌∙◌, subst, arith}
use Rattle.std.proofs.lemmas.Bool.{false≢true, true≢false, false_from_ne_true, ltb-true, lt-ltb, le-ltb, leb-true, leb-false}
use Rattle.std.proofs.lemmas.List.Elements.{All-head, All-tail}
use Rattle.std.proofs.Math.Nat.{min-le_left, le-min}
use Rattle.cics_names.specs.Keyed.{Bytes, is_same}
use Rattle.cics_names.specs.KeyedLaws.{is_same-self, is_same-eq}
use Rattle.cics_dispatch.specs.declared.notes.groups.WaitNote.{WaitNote}
use Rattle.cics_dispatch.specs.Machine.Machine.{Machine, Task, Suspended, task_at, is_waiting, not_waiting}
use Rattle.cics_dispatch.specs.Machine.Waits.{AreApart}
use Rattle.cics_dispatch.specs.Machine.Waking.{is_late, first_late}
use Rattle.cics_dispatch.specs.Machine.KeptTasks.{IsWaitKept}
use Rattle.cics_dispatch.specs.Notes.Notes.{count, new_note, given_note, forgotten, HasNone, IsPlaceOf, without, without_deadline}
use Rattle.cics_dispatch.specs.Notes.Firsts.{IsFirstBelow}
use Rattle.cics_dispatch.specs.Machine.Deadlines.{deadline_of, IsDue, AreDue}
use Rattle.cics_dispatch.specs.Notes.Notes.{never}
use Rattle.cics_dispatch.proofs.OfMachine.ActsAlone.{LeavesTasks}
use Rattle.cics_dispatch.proofs.OfNotes.LesserKeys.{first_rest}
use Rattle.cics_dispatch.proofs.OfMachine.TaskPlaces.{place_of_task}

-- ---- A deadline beside the clock

-- a task has waited too long if the clock is past its deadline, and only then
late_by_key : (m : Machine) (w : Suspended) (t : Task) → m.clock ≤ never → is_late m w (Some t) ≡ nat_lt (deadline_of t w.since) m.clock
late_by_key m w t clock =
    elim (nat_lt 0 t.dtimout) as (λ b. nat_lt 0 t.dtimout ≡ b → (b && nat_le t.dtimout (m.clock - w.since)) ≡ nat_lt (cond b (min (w.since + (t.dtimout - 1)) never) never) m.clock) [
      | true ↦ λ limited. by (ltb-true 0 t.dtimout limited) (nat_le t.dtimout (m.clock - w.since)) refl
      | false ↦ λ none. sym (le-ltb never m.clock clock)
    ] refl
  where
    by : 0 < t.dtimout → (b : Bool) → nat_le t.dtimout (m.clock - w.since) ≡ b → nat_le t.dtimout (m.clock - w.since) ≡ nat_lt (min (w.since + (t.dtimout - 1)) never) m.clock
    by some true over =
        let waited : t.dtimout ≤ m.clock - w.since = leb-true t.dtimout (m.clock - w.since) over in
        let past : w.since + (t.dtimout - 1) < m.clock = omega arith in
        let key : min (w.since + (t.dtimout - 1)) never < m.clock = omega (arith, min-le_left (w.since + (t.dtimout - 1)) never) in
        over ∙ sym (lt-ltb (min (w.since + (t.dtimout - 1)) never) m.clock key)
    by some false within =
        let waited : m.clock - w.since < t.dtimout = leb-false t.dtimout (m.clock - w.since) within in
        let past : m.clock ≤ w.since + (t.dtimout - 1) = omega arith in
        let key : m.clock ≤ min (w.since + (t.dtimout - 1)) never = le-min past clock in
        within ∙ sym (le-ltb (min (w.since + (t.dtimout - 1)) never) m.clock key)

-- ---- The first task that has waited too long

-- the note of a place is that of the first task that has waited too long
pub record IsLateAt (m : Machine) (ns : List (Option WaitNote)) (ws : List Suspended) (at : ℕ) : Type 0 where
  pub note : WaitNote
  pub there : slice_get ns at ≡ Some (Some note)
  pub wait : Suspended
  pub own : note.label ≡ wait.label
  pub late : is_late m wait (task_at m.tasks wait.label) ≡ true
  pub first : first_late m ws ≡ task_at m.tasks wait.label

-- a task that has waited too long has a waiting command
late_waits : (m : Machine) (t : Task) (ws : List Suspended) → first_late m ws ≡ Some t → is_waiting ws t.label ≡ true
late_waits m t [] is = cc
late_waits m t (w ∷ ws) is =
    elim (is_late m w (task_at m.tasks w.label)) as (λ b. cond b (task_at m.tasks w.label) (first_late m ws) ≡ Some t → is_waiting (w ∷ ws) t.label ≡ true) [
      | true ↦ λ here.
          let same : t.label ≡ w.label = (place_of_task m.tasks w.label t here).2 in
          ap (λ l. cond (is_same w.label l) true (is_waiting ws l)) same ∙ ap (λ b. cond b true (is_waiting ws w.label)) (is_same-self w.label)
      | false ↦ λ later. elim (is_same w.label t.label) as (λ b. cond b true (is_waiting ws t.label) ≡ true) [ true ↦ refl | false ↦ late_waits m t ws later ]
    ] is

-- no note is of a label, nor one more
none_more : (label : Bytes) (o : Option WaitNote) (ns : List (Option WaitNote)) → ((n : WaitNote) → o ≡ Some n → n.label ≡ label → ⊥) → HasNone label ns → HasNone label (o ∷ ns)
none_more label o ns here rest zero n there own = let same : o ≡ Some n = cc in here n same own
none_more label o ns here rest (suc i) n there own = rest i n there own

module _ (m : Machine) (clock : m.clock ≤ never) where
  -- a command's task has waited too long if its key is below the clock, and only then
  late_due : (n : WaitNote) (w : Suspended) (k : ℕ) → IsDue m.tasks n w k → is_late m w (task_at m.tasks w.label) ≡ nat_lt k m.clock
  late_due n w k due = ap (is_late m w) due.of_task ∙ late_by_key m w due.task clock ∙ ap (λ d. nat_lt d m.clock) (sym due.deadline)

  -- a command whose key isn't below the clock is passed
  passed : (n : WaitNote) (w : Suspended) (ws : List Suspended) (k : ℕ) → IsDue m.tasks n w k → m.clock ≤ k → first_late m (w ∷ ws) ≡ first_late m ws
  passed n w ws k due early = ap (λ b. cond b (task_at m.tasks w.label) (first_late m ws)) (late_due n w k due ∙ le-ltb k m.clock early)

  -- the first key below the clock is that of the first task that has waited too long
  pub late_at : (ns : List (Option WaitNote)) (ws : List Suspended) (ks : List ℕ) (at : ℕ) → AreDue m.tasks ns ws ks → IsFirstBelow ks m.clock at → IsLateAt m ns ws at
  late_at [] ws [] at are first = absurd (nothing first.there)
    where
      nothing : None ≡ Some first.key → ⊥
      nothing e = cc
  late_at [] ws (k ∷ ks) at are first = absurd are
  late_at (None ∷ ns) ws [] at are first = absurd are
  late_at (None ∷ ns) ws (k ∷ ks) zero are first = let same : k ≡ first.key = the_key first.there in let over : never < m.clock = omega (arith, are.0, first.below) in absurd (omega arith)
    where
      the_key : Some k ≡ Some first.key → k ≡ first.key
      the_key e = cc
  late_at (None ∷ ns) ws (k ∷ ks) (suc at) are first =
      let later = late_at ns ws ks at are.1 (first_rest m.clock k ks at first) in
      record { note = later.note; there = later.there; wait = later.wait; own = later.own; late = later.late; first = later.first }
  late_at (Some n ∷ ns) [] ks at are first = absurd are
  late_at (Some n ∷ ns) (w ∷ ws) [] at are first = absurd are
  late_at (Some n ∷ ns) (w ∷ ws) (k ∷ ks) zero are first =
      let same : k ≡ first.key = the_key first.there in
      let past : k < m.clock = omega (arith, first.below) in
      let late : is_late m w (task_at m.tasks w.label) ≡ true = late_due n w k are.0 ∙ lt-ltb k m.clock past in
      record { note = n; there = refl; wait = w; own = are.0.label; late = late; first = ap (λ b. cond b (task_at m.tasks w.label) (first_late m ws)) late }
    where
      the_key : Some k ≡ Some first.key → k ≡ first.key
      the_key e = cc
  late_at (Some n ∷ ns) (w ∷ ws) (k ∷ ks) (suc at) are first =
      let later = late_at ns ws ks at are.1 (first_rest m.clock k ks at first) in
      let early : m.clock ≤ k = first.before 0 k (omega arith) refl in
      record { note = later.note; there = later.there; wait = later.wait; own = later.own; late = later.late; first = passed n w ws k are.0 early ∙ later.first }

  -- if no key is below the clock the first task that has waited too long is one whose command has
  -- no note yet
  pub none_late_noted : (ns : List (Option WaitNote)) (ws : List Suspended) (ks : List ℕ) → AreDue m.tasks ns ws ks → All (λ k. m.clock ≤ k) ks → first_late m ws ≡ first_late m (drop (count ns) ws)
  none_late_noted [] ws [] are early = refl
  none_late_noted [] ws (k ∷ ks) are early = absurd are
  none_late_noted (None ∷ ns) ws [] are early = absurd are
  none_late_noted (None ∷ ns) ws (k ∷ ks) are early = none_late_noted ns ws ks are.1 (All-tail (λ k. m.clock ≤ k) k ks early)
  none_late_noted (Some n ∷ ns) [] ks are early = absurd are
  none_late_noted (Some n ∷ ns) (w ∷ ws) [] are early = absurd are
  none_late_noted (Some n ∷ ns) (w ∷ ws) (k ∷ ks) are early =
      passed n w ws k are.0 (All-head (λ k. m.clock ≤ k) k ks early) ∙ none_late_noted ns ws ks are.1 (All-tail (λ k. m.clock ≤ k) k ks early)

  -- and that one has none
  pub late_unnoted : (ns : List (Option WaitNote)) (ws : List Suspended) (ks : List ℕ) (t : Task) → AreApart ws → AreDue m.tasks ns ws ks → All (λ k. m.clock ≤ k) ks → first_late m ws ≡ Some t → HasNone t.label ns
  late_unnoted [] ws ks t apart are early late = λ i n there own. cc
  late_unnoted (None ∷ ns) ws [] t apart are early late = absurd are
  late_unnoted (None ∷ ns) ws (k ∷ ks) t apart are early late =
      none_more t.label None ns (λ n is own. cc) (late_unnoted ns ws ks t apart are.1 (All-tail (λ k. m.clock ≤ k) k ks early) late)
  late_unnoted (Some x ∷ ns) [] ks t apart are early late = absurd are
  late_unnoted (Some x ∷ ns) (w ∷ ws) [] t apart are early late = absurd are
  late_unnoted (Some x ∷ ns) (w ∷ ws) (k ∷ ks) t apart are early late =
      let rest : first_late m ws ≡ Some t = sym (passed x w ws k are.0 (All-head (λ k. m.clock ≤ k) k ks early)) ∙ late in
      none_more t.label (Some x) ns (λ n is own.
      let same : x ≡ n = cc in
      let one : w.label ≡ t.label = sym are.0.label ∙ ap (λ y. y.label) same ∙ own in
      true≢false (sym (late_waits m t ws rest) ∙ ap (is_waiting ws) (sym one) ∙ apart.0)) (late_unnoted ns ws ks t apart.1 are.1 (All-tail (λ k. m.clock ≤ k) k ks early) rest)

  -- and if each command has its note no task has waited too long
  pub none_late_at_all : (ns : List (Option WaitNote)) (ws : List Suspended) (ks : List ℕ) → AreDue m.tasks ns ws ks → All (λ k. m.clock ≤ k) ks → count ns ≡ length ws → first_late m ws ≡ None
  none_late_at_all ns ws ks are early all = none_late_noted ns ws ks are early ∙ ap (first_late m) (ap (λ i. drop i ws) all ∙ drop_all ws)
    where
      drop_all : (ws : List Suspended) → drop (length ws) ws ≡ []
      drop_all [] = refl
      drop_all (w ∷ ws) = drop_all ws

-- ---- Other tasks, other waits, other notes

-- the tasks are there yet, as after one more is attached
pub due_kept : (ts us : List Task) → ((l : Bytes) (t : Task) → task_at ts l ≡ Some t → task_at us l ≡ Some t) → (ns : List (Option WaitNote)) (ws : List Suspended) (ks : List ℕ) →
    AreDue ts ns ws ks → AreDue us ns ws ks
due_kept ts us there [] ws [] are = tt
due_kept ts us there [] ws (k ∷ ks) are = absurd are
due_kept ts us there (None ∷ ns) ws [] are = absurd are
due_kept ts us there (None ∷ ns) ws (k ∷ ks) are = (are.0, due_kept ts us there ns ws ks are.1)
due_kept ts us there (Some n ∷ ns) [] ks are = absurd are
due_kept ts us there (Some n ∷ ns) (w ∷ ws) [] are = absurd are
due_kept ts us there (Some n ∷ ns) (w ∷ ws) (k ∷ ks) are =
    let due = are.0 in
    (record { task = due.task; label = due.label; of_task = there w.label due.task due.of_task; deadline = due.deadline }, due_kept ts us there ns ws ks are.1)

-- after a step of a task of which none of these commands waits
pub due_others : (ts us : List Task) (label : Bytes) → ((l : Bytes) → label ≢ l → task_at us l ≡ task_at ts l) → (ns : List (Option WaitNote)) (ws : List Suspended) (ks : List ℕ) → is_waiting ws label ≡ false →
    AreDue ts ns ws ks → AreDue us ns ws ks
due_others ts us label same [] ws [] awake are = tt
due_others ts us label same [] ws (k ∷ ks) awake are = absurd are
due_others ts us label same (None ∷ ns) ws [] awake are = absurd are
due_others ts us label same (None ∷ ns) ws (k ∷ ks) awake are = (are.0, due_others ts us label same ns ws ks awake are.1)
due_others ts us label same (Some n ∷ ns) [] ks awake are = absurd are
due_others ts us label same (Some n ∷ ns) (w ∷ ws) [] awake are = absurd are
due_others ts us label same (Some n ∷ ns) (w ∷ ws) (k ∷ ks) awake are =
    elim (is_same w.label label) as (λ b. is_same w.label label ≡ b → cond b true (is_waiting ws label) ≡ false → AreDue us (Some n ∷ ns) (w ∷ ws) (k ∷ ks)) [
      | true ↦ λ own wrong. absurd (true≢false wrong)
      | false ↦ λ differs rest.
          let due = are.0 in
          let other : label ≢ w.label = λ e. false≢true (sym differs ∙ ap (is_same w.label) e ∙ is_same-self w.label) in
          (record { task = due.task; label = due.label; of_task = same w.label other ∙ due.of_task; deadline = due.deadline }, due_others ts us label same ns ws ks rest are.1)
    ] refl awake

module _ (ts : List Task) where
  -- more commands wait behind
  pub due_behind : (ns : List (Option WaitNote)) (ws more : List Suspended) (ks : List ℕ) → AreDue ts ns ws ks → AreDue ts ns (ws ++ more) ks
  due_behind [] ws more [] are = tt
  due_behind [] ws more (k ∷ ks) are = absurd are
  due_behind (None ∷ ns) ws more [] are = absurd are
  due_behind (None ∷ ns) ws more (k ∷ ks) are = (are.0, due_behind ns ws more ks are.1)
  due_behind (Some n ∷ ns) [] more ks are = absurd are
  due_behind (Some n ∷ ns) (w ∷ ws) more [] are = absurd are
  due_behind (Some n ∷ ns) (w ∷ ws) more (k ∷ ks) are = (are.0, due_behind ns ws more ks are.1)

  -- the first command behind the noted ones gets its note and its key
  pub due_push : (ns : List (Option WaitNote)) (ws rest : List Suspended) (ks : List ℕ) (n : WaitNote) (w : Suspended) (k : ℕ) → AreDue ts ns ws ks → drop (count ns) ws ≡ w ∷ rest → IsDue ts n w k →
      AreDue ts (ns ++ Some n ∷ []) ws (ks ++ k ∷ [])
  due_push [] [] rest [] n w k are behind due = cc
  due_push [] (v ∷ ws) rest [] n w k are behind due = let same : w ≡ v = cc in (subst (λ x. IsDue ts n x k) same due, tt)
  due_push [] ws rest (j ∷ ks) n w k are behind due = absurd are
  due_push (None ∷ ns) ws rest [] n w k are behind due = absurd are
  due_push (None ∷ ns) ws rest (j ∷ ks) n w k are behind due = (are.0, due_push ns ws rest ks n w k are.1 behind due)
  due_push (Some x ∷ ns) [] rest ks n w k are behind due = absurd are
  due_push (Some x ∷ ns) (v ∷ ws) rest [] n w k are behind due = absurd are
  due_push (Some x ∷ ns) (v ∷ ws) rest (j ∷ ks) n w k are behind due = (are.0, due_push ns ws rest ks n w k are.1 behind due)

  -- a note that says something else of the same task
  alike_due : (old new : WaitNote) (w : Suspended) (k : ℕ) → new.label ≡ old.label → IsDue ts old w k → IsDue ts new w k
  alike_due old new w k alike due = record { task = due.task; label = alike ∙ due.label; of_task = due.of_task; deadline = due.deadline }

  -- the note at a place says something else of the same task
  pub due_set : (ns : List (Option WaitNote)) (ws : List Suspended) (ks : List ℕ) (at : ℕ) (old new : WaitNote) → slice_get ns at ≡ Some (Some old) → new.label ≡ old.label → AreDue ts ns ws ks →
      AreDue ts (slice_set ns at (Some new)) ws ks
  due_set [] ws ks at old new there alike are = cc
  due_set (None ∷ ns) ws [] at old new there alike are = absurd are
  due_set (None ∷ ns) ws (k ∷ ks) zero old new there alike are = cc
  due_set (None ∷ ns) ws (k ∷ ks) (suc at) old new there alike are = (are.0, due_set ns ws ks at old new there alike are.1)
  due_set (Some n ∷ ns) [] ks at old new there alike are = absurd are
  due_set (Some n ∷ ns) (w ∷ ws) [] at old new there alike are = absurd are
  due_set (Some n ∷ ns) (w ∷ ws) (k ∷ ks) zero old new there alike are =
      let same : n ≡ old = let both : Some (Some n) ≡ Some (Some old) = there in cc in
      (alike_due old new w k alike (subst (λ x. IsDue ts x w k) same are.0), are.1)
  due_set (Some n ∷ ns) (w ∷ ws) (k ∷ ks) (suc at) old new there alike are = (are.0, due_set ns ws ks at old new there alike are.1)

  -- each note says something else of the same task
  pub due_changed : (f : Option WaitNote → Option WaitNote) (g : WaitNote → WaitNote) → f None ≡ None → ((n : WaitNote) → f (Some n) ≡ Some (g n)) → ((n : WaitNote) → (g n).label ≡ n.label) →
      (ns : List (Option WaitNote)) (ws : List Suspended) (ks : List ℕ) → AreDue ts ns ws ks → AreDue ts (map f ns) ws ks
  due_changed f g none some alike [] ws [] are = tt
  due_changed f g none some alike [] ws (k ∷ ks) are = absurd are
  due_changed f g none some alike (None ∷ ns) ws [] are = absurd are
  due_changed f g none some alike (None ∷ ns) ws (k ∷ ks) are =
      subst (λ o. AreDue ts (o ∷ map f ns) ws (k ∷ ks)) (sym none) (are.0, due_changed f g none some alike ns ws ks are.1)
  due_changed f g none some alike (Some n ∷ ns) [] ks are = absurd are
  due_changed f g none some alike (Some n ∷ ns) (w ∷ ws) [] are = absurd are
  due_changed f g none some alike (Some n ∷ ns) (w ∷ ws) (k ∷ ks) are =
      subst (λ o. AreDue ts (o ∷ map f ns) (w ∷ ws) (k ∷ ks)) (sym (some n))
      (alike_due n (g n) w k (alike n) are.0, due_changed f g none some alike ns ws ks are.1)

  -- ---- One command fewer

  -- a noted command waits
  noted_waits : (ns : List (Option WaitNote)) (ws : List Suspended) (ks : List ℕ) (at : ℕ) (n : WaitNote) → AreDue ts ns ws ks → slice_get ns at ≡ Some (Some n) → is_waiting ws n.label ≡ true
  noted_waits [] ws ks at n are there = cc
  noted_waits (None ∷ ns) ws [] at n are there = absurd are
  noted_waits (None ∷ ns) ws (k ∷ ks) zero n are there = cc
  noted_waits (None ∷ ns) ws (k ∷ ks) (suc at) n are there = noted_waits ns ws ks at n are.1 there
  noted_waits (Some x ∷ ns) [] ks at n are there = absurd are
  noted_waits (Some x ∷ ns) (w ∷ ws) [] at n are there = absurd are
  noted_waits (Some x ∷ ns) (w ∷ ws) (k ∷ ks) zero n are there =
      let same : x ≡ n = let both : Some (Some x) ≡ Some (Some n) = there in cc in
      ap (λ l. cond (is_same w.label l) true (is_waiting ws l)) (ap (λ y. y.label) (sym same) ∙ are.0.label) ∙ ap (λ b. cond b true (is_waiting ws w.label)) (is_same-self w.label)
  noted_waits (Some x ∷ ns) (w ∷ ws) (k ∷ ks) (suc at) n are there =
      elim (is_same w.label n.label) as (λ b. cond b true (is_waiting ws n.label) ≡ true) [ true ↦ refl | false ↦ noted_waits ns ws ks at n are.1 there ]

  -- without the wait of a label that has none
  awake : (ws : List Suspended) (label : Bytes) → is_waiting ws label ≡ false → not_waiting ws label ≡ ws
  awake [] label none = refl
  awake (w ∷ ws) label none =
      elim (is_same w.label label) as (λ b. cond b true (is_waiting ws label) ≡ false → cond (not b) (w ∷ not_waiting ws label) (not_waiting ws label) ≡ w ∷ ws) [
        | true ↦ λ wrong. absurd (false≢true (sym wrong))
        | false ↦ λ rest. ap (λ r. w ∷ r) (awake ws label rest)
      ] none

  -- the noted command of a place waits no more: it has no note, and its place the key of none
  pub due_without : (ns : List (Option WaitNote)) (ws : List Suspended) (ks : List ℕ) (at : ℕ) (n : WaitNote) → AreApart ws → AreDue ts ns ws ks → slice_get ns at ≡ Some (Some n) →
      AreDue ts (slice_set ns at None) (not_waiting ws n.label) (slice_set ks at never)
  due_without [] ws ks at n apart are there = cc
  due_without (None ∷ ns) ws [] at n apart are there = absurd are
  due_without (None ∷ ns) ws (k ∷ ks) zero n apart are there = cc
  due_without (None ∷ ns) ws (k ∷ ks) (suc at) n apart are there = (are.0, due_without ns ws ks at n apart are.1 there)
  due_without (Some x ∷ ns) [] ks at n apart are there = absurd are
  due_without (Some x ∷ ns) (w ∷ ws) [] at n apart are there = absurd are
  due_without (Some x ∷ ns) (w ∷ ws) (k ∷ ks) zero n apart are there =
      let same : x ≡ n = let both : Some (Some x) ≡ Some (Some n) = there in cc in
      let own : n.label ≡ w.label = ap (λ y. y.label) (sym same) ∙ are.0.label in
      let gone : not_waiting (w ∷ ws) w.label ≡ ws = ap (λ b. cond (not b) (w ∷ not_waiting ws w.label) (not_waiting ws w.label)) (is_same-self w.label) ∙ awake ws w.label apart.0 in
      (refl, subst (λ l. AreDue ts ns l ks) (sym (ap (not_waiting (w ∷ ws)) own ∙ gone)) are.1)
  due_without (Some x ∷ ns) (w ∷ ws) (k ∷ ks) (suc at) n apart are there =
      let waits = noted_waits ns ws ks at n are.1 there in
      let other : is_same w.label n.label ≡ false = false_from_ne_true (is_same w.label n.label) (λ one.
      true≢false (sym waits ∙ ap (is_waiting ws) (sym (is_same-eq w.label n.label one)) ∙ apart.0)) in
      subst (λ b. AreDue ts (Some x ∷ slice_set ns at None) (cond (not b) (w ∷ not_waiting ws n.label) (not_waiting ws n.label)) (k ∷ slice_set ks at never)) (sym other)
      (are.0, due_without ns ws ks at n apart.1 are.1 there)

  -- a command without a note waits no more
  pub due_unnoted : (label : Bytes) (ns : List (Option WaitNote)) (ws : List Suspended) (ks : List ℕ) → ((i : ℕ) (n : WaitNote) → slice_get ns i ≡ Some (Some n) → n.label ≡ label → ⊥) →
      AreDue ts ns ws ks → AreDue ts ns (not_waiting ws label) ks
  due_unnoted label [] ws [] none are = tt
  due_unnoted label [] ws (k ∷ ks) none are = absurd are
  due_unnoted label (None ∷ ns) ws [] none are = absurd are
  due_unnoted label (None ∷ ns) ws (k ∷ ks) none are = (are.0, due_unnoted label ns ws ks (λ i n there. none (suc i) n there) are.1)
  due_unnoted label (Some x ∷ ns) [] ks none are = absurd are
  due_unnoted label (Some x ∷ ns) (w ∷ ws) [] none are = absurd are
  due_unnoted label (Some x ∷ ns) (w ∷ ws) (k ∷ ks) none are =
      let other : is_same w.label label ≡ false = false_from_ne_true (is_same w.label label) (λ one. none 0 x refl (are.0.label ∙ is_same-eq w.label label one)) in
      subst (λ b. AreDue ts (Some x ∷ ns) (cond (not b) (w ∷ not_waiting ws label) (not_waiting ws label)) (k ∷ ks)) (sym other)
      (are.0, due_unnoted label ns ws ks (λ i n there. none (suc i) n there) are.1)

-- ---- The notes of a region

-- a note's place has its deadline
pub due_within : (ts : List Task) (ns : List (Option WaitNote)) (ws : List Suspended) (ks : List ℕ) (at : ℕ) (n : WaitNote) → AreDue ts ns ws ks → slice_get ns at ≡ Some (Some n) → at < length ks
due_within ts [] ws ks at n are there = cc
due_within ts (None ∷ ns) ws [] at n are there = absurd are
due_within ts (None ∷ ns) ws (k ∷ ks) zero n are there = cc
due_within ts (None ∷ ns) ws (k ∷ ks) (suc at) n are there = let rest = due_within ts ns ws ks at n are.1 there in omega (arith, rest)
due_within ts (Some x ∷ ns) [] ks at n are there = absurd are
due_within ts (Some x ∷ ns) (w ∷ ws) [] at n are there = absurd are
due_within ts (Some x ∷ ns) (w ∷ ws) (k ∷ ks) zero n are there = omega arith
due_within ts (Some x ∷ ns) (w ∷ ws) (k ∷ ks) (suc at) n are there = let rest = due_within ts ns ws ks at n are.1 there in omega (arith, rest)

-- after a step of a task of which none of these commands waits, whatever its unit released
pub due_given : (m n : Machine) (t : Task) (unit : Option ℕ) → LeavesTasks t.label t.unit m n → (ns : List (Option WaitNote)) (ws : List Suspended) (ks : List ℕ) → is_waiting ws t.label ≡ false →
    AreDue m.tasks ns ws ks → AreDue n.tasks (map (forgotten unit) ns) ws ks
due_given m n t unit others ns ws ks awake are =
    due_changed n.tasks (forgotten unit) (given_note unit) refl (λ k. refl) (λ k. refl) ns ws ks (due_others m.tasks n.tasks t.label others.tasks ns ws ks awake are)

-- without the command of a label, whether it has a note or not
pub due_dropped : (ts : List Task) (label : Bytes) (ns : List (Option WaitNote)) (ws : List Suspended) (ks : List ℕ) (at : Option ℕ) → AreApart ws → IsPlaceOf label ns at → AreDue ts ns ws ks →
    AreDue ts (without ns at) (not_waiting ws label) (without_deadline ks at)
due_dropped ts label ns ws ks None apart none are = due_unnoted ts label ns ws ks none are
due_dropped ts label ns ws ks (Some at) apart place are =
    subst (λ l. AreDue ts (slice_set ns at None) (not_waiting ws l) (slice_set ks at never)) place.2 (due_without ts ns ws ks at place.0 apart are place.1)

-- what is true of all is true of the first behind some
first_behind : (P : Suspended → Type 0) (k : ℕ) (ws rest : List Suspended) (w : Suspended) → All P ws → drop k ws ≡ w ∷ rest → P w
first_behind P zero [] rest w all is = cc
first_behind P zero (v ∷ ws) rest w all is = let same : v ≡ w = cc in subst P same (All-head P v ws all)
first_behind P (suc k) [] rest w all is = cc
first_behind P (suc k) (v ∷ ws) rest w all is = first_behind P k ws rest w (All-tail P v ws all) is

-- a new note has the deadline of its command's task
pub due_new : (m : Machine) (k : ℕ) (rest : List Suspended) (w : Suspended) (key : ℕ) → All (IsWaitKept m) m.waiting → drop k m.waiting ≡ w ∷ rest →
    ((t : Task) → task_at m.tasks w.label ≡ Some t → key ≡ deadline_of t w.since) → IsDue m.tasks (new_note w.label) w key
due_new m k rest w key kept behind given = by (task_at m.tasks w.label) refl (first_behind (IsWaitKept m) k m.waiting rest w kept behind).of_task
  where
    by : (o : Option Task) → task_at m.tasks w.label ≡ o → is_some o ≡ true → IsDue m.tasks (new_note w.label) w key
    by None none there = absurd (false≢true there)
    by (Some t) is there = record { task = t; label = refl; of_task = is; deadline = given t is }

-- the task of the label that the note of a place tells has waited too long: it is there, it is the
-- first, and that is its note
module _ (m : Machine) (ns : List (Option WaitNote)) (ws : List Suspended) (at : ℕ) (label : Bytes) (is : IsLateAt m ns ws at) (told : (n : WaitNote) → slice_get ns at ≡ Some (Some n) → label ≡ n.label) where
  late_label : label ≡ is.wait.label
  late_label = told is.note is.there ∙ is.own

  pub late_has_task : task_at m.tasks label ≡ None → ⊥
  late_has_task none = false≢true (ap (is_late m is.wait) (sym none ∙ ap (task_at m.tasks) late_label) ∙ is.late)

  pub late_first : (i : ℕ) → slice_get m.tasks i ≡ task_at m.tasks label → slice_get m.tasks i ≡ first_late m ws
  late_first i found = found ∙ ap (task_at m.tasks) late_label ∙ sym is.first

  pub late_place : (i : ℕ) → slice_get m.tasks i ≡ task_at m.tasks label → (t : Task) → slice_get m.tasks i ≡ Some t → IsPlaceOf t.label ns (Some at)
  late_place i found t there = (is.note, is.there, sym (told is.note is.there) ∙ sym (place_of_task m.tasks label t (sym found ∙ there)).2)
