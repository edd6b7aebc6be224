-- Task control: what is remembered of the last looks at the waiting commands stays true over a
-- step.
use Rattle.std.specs.Prelude.{◌≡◌, ◌≢◌, ℕ, ◌==◌, ◌-◌, ◌<◌, ◌≤◌, Bool, true, false, not, cond, if◌then◌else◌, ◌&&◌, nat_lt, nat_le, Option, Some, None, is_some, Result, Err, List, [], ◌∷◌, ◌++◌, All, refl}
use Rattle.std.specs.List.{list_any}
use Rattle.std.proofs.Common.{◌⊎◌, inl, inr, sym, ap, ◌∙◌, subst, arith}
use Rattle.std.proofs.lemmas.Bool.{false≢true, and_parts, ltb-true, leb-true, false_from_ne_true, eqb-true, eq-eqb}
use Rattle.std.proofs.lemmas.List.Elements.{All-nil, All-cons, All-head, All-tail, All-filter, All-append}
use Rattle.cics_names.specs.Keyed.{Bytes, is_same}
use Rattle.cics_names.specs.KeyedLaws.{is_same-self}
use Rattle.cics_history.specs.declared.resources.Resource.{Resource}
use Rattle.cics_history.specs.Events.{is_live, may_act}
use Rattle.cics_history.specs.declared.ops.Op.{Op}
use Rattle.cics_history.specs.declared.ops.Op.TheVariants.{TdRead}
use Rattle.cics_dispatch.proofs.OfMachine.KeptTasks.{begins_now, not_waiting_then}
use Rattle.cics_history.specs.State.{UnitsState}
use Rattle.cics_history.specs.Holding.{held_by, conflicts}
use Rattle.cics_history.proofs.Waiting.{any_more}
use Rattle.cics_dispatch.specs.Machine.Machine.{Machine, Task, Suspended, RegionValue, task_at, is_waiting, not_waiting, with_waiting}
use Rattle.cics_dispatch.specs.Machine.Checks.{fault_of}
use Rattle.cics_dispatch.specs.Machine.Steps.{Stepped, with_new_task, attach_refusal, attached, new_task, checked, issue_refusal, refused_or, issued_by, issued, by_op}
use Rattle.cics_dispatch.specs.Machine.Waking.{is_late, may_go_on, went_on, woken_first, woken}
use Rattle.cics_dispatch.specs.Machine.Notes.{IsFirstFree}
use Rattle.cics_dispatch.specs.Machine.Answers.{IsStep}
use Rattle.cics_dispatch.specs.Machine.KeptTasks.{IsWaitKept, AreTasksKept}
use Rattle.cics_dispatch.specs.Machine.Settled.{needed_by, holds_one, holds_back, Starves, IsBlocked, IsInTime}
use Rattle.cics_names.specs.declared.commands.Command.{Command}
use Rattle.cics_names.specs.declared.commands.Verb.{Verb}
use Rattle.cics_dispatch.specs.declared.machine.outcomes.Refused.{Refused}
use Rattle.cics_dispatch.specs.declared.machine.outcomes.Refused.TheVariants.{NoTask, TaskEnded, TaskWaiting, DuplicateLabel, NoMemory, ClockBack, RegionDown}
use Rattle.cics_dispatch.proofs.OfMachine.TaskPlaces.{place_of_task, task_at-push}
use Rattle.cics_dispatch.proofs.OfMachine.KeepsOwn.{Keeps}
use Rattle.cics_dispatch.proofs.OfMachine.Starved.{LeavesStarved}
use Rattle.cics_dispatch.proofs.OfMachine.ActsAlone.{LeavesTasks, Waits, by_op_alone, checked_alone}
use Rattle.cics_dispatch.proofs.OfMachine.RegionWaking.{first_free-goes}

-- ---- A call that is refused

-- it leaves the region
pub refused_leaves : {X : Type 0} (wants : Bool) (old new : RegionValue) (s : Stepped (Result X Refused)) (e : Refused) → IsStep wants old s (Err e) new → new ≡ old
refused_leaves wants old new s NoMemory step = step.1
refused_leaves wants old new s NoTask step = step.1
refused_leaves wants old new s TaskEnded step = step.1
refused_leaves wants old new s TaskWaiting step = step.1
refused_leaves wants old new s DuplicateLabel step = step.1
refused_leaves wants old new s RegionDown step = step.1
refused_leaves wants old new s ClockBack step = step.1

-- ---- A waiting command of another task

-- a unit that owns what it owned and more holds a command back yet
holds_yet : (s n : UnitsState) (h : ℕ) (verb : Verb) (o : Option Op) → n.opening ≡ s.opening →
    ((p : Resource → Bool) → list_any p (held_by s h) ≡ true → list_any p (held_by n h) ≡ true) → holds_back s h verb o ≡ true → holds_back n h verb o ≡ true
holds_yet s n h verb o opening holds is =
    (λ i. holds_one n h (needed_by (opening i) verb o))
    ∙ any_more (λ r. list_any (conflicts r) (held_by s h)) (λ r. list_any (conflicts r) (held_by n h)) (λ r. holds (conflicts r)) (needed_by s.opening verb o) is

-- a reader that was starved is so yet
starves_yet : (s n : UnitsState) (own : Option ℕ) (h : ℕ) (o : Option Op) → LeavesStarved s n → is_live s h ≡ true → Starves s own h o → Starves n own h o
starves_yet s n own h (Some (TdRead q)) leaves live is = leaves.starved own h q live is
starves_yet s n own h (Some o) leaves live is = absurd is
starves_yet s n own h None leaves live is = absurd is

-- an open task acts whose unit is another than the blocker, or owns what it owned
module _ (m n : Machine) (t : Task) (h : ℕ) (others : LeavesTasks t.label t.unit m n) (active : may_act m.units t.unit ≡ true)
    (free : (v : ℕ) → t.unit ≡ Some v → (v ≢ h) ⊎ Keeps m.units n.units v) (w : Suspended) (other : t.label ≢ w.label) (is : IsBlocked m h w) where
  -- the blocker is open, and keeps the command waiting yet
  holder_yet : ((p : Resource → Bool) → list_any p (held_by m.units h) ≡ true → list_any p (held_by n.units h) ≡ true) → is_live n.units h ≡ true → IsBlocked n h w
  holder_yet holds live = record {
    task = is.task;
    of_task = others.tasks w.label other ∙ is.of_task;
    is_open = live;
    other = is.other;
    keeps = elim is.keeps [
      | inl held ↦ inl (holds_yet m.units n.units h w.command.verb w.op others.units.opening holds held)
      | inr starves ↦ inr (starves_yet m.units n.units is.task.unit h w.op (others.starved active) is.is_open starves)
    ];
  }

  -- another unit than the one that acts
  apart : (t.unit ≡ Some h → ⊥) → IsBlocked n h w
  apart elsewhere =
      holder_yet (λ p. subst (λ rs. list_any p rs ≡ true) (sym (others.held.held h elsewhere is.is_open))) (others.units.live h elsewhere is.is_open)

  -- the one that acts
  own : t.unit ≡ Some h → IsBlocked n h w
  own acts = elim (free h acts) [
    | inl another ↦ absurd (another refl)
    | inr keeps ↦ holder_yet keeps.held (keeps.live is.is_open)
  ]

  pub blocked_yet : IsBlocked n h w
  blocked_yet = by t.unit refl
    where
      by : (o : Option ℕ) → t.unit ≡ o → IsBlocked n h w
      by None none = apart (λ acts. let both : None ≡ Some h = sym none ∙ acts in cc)
      by (Some u) acts = elim (u == h) as (λ b. (u == h) ≡ b → IsBlocked n h w) [
        | true ↦ λ same. own (acts ∙ ap Some (eqb-true u h same))
        | false ↦ λ differs. apart (λ is_own. let both : Some u ≡ Some h = sym acts ∙ is_own in let same : u ≡ h = cc in false≢true (sym differs ∙ eq-eqb u h same))
      ] refl

-- ---- The waits after a step of a task

-- the waits of the other tasks
others_all : (label : Bytes) (P Q : Suspended → Type 0) → ((w : Suspended) → label ≢ w.label → P w → Q w) → (ws : List Suspended) → is_waiting ws label ≡ false → All P ws → All Q ws
others_all label P Q follows [] none all = All-nil Q
others_all label P Q follows (w ∷ ws) none all =
    elim (is_same w.label label) as (λ b. is_same w.label label ≡ b → cond b true (is_waiting ws label) ≡ false → All Q (w ∷ ws)) [
      | true ↦ λ same wrong. absurd (false≢true (sym wrong))
      | false ↦ λ differs rest.
          All-cons Q w ws (follows w (λ e. false≢true (sym differs ∙ ap (is_same w.label) e ∙ is_same-self w.label)) (All-head P w ws all))
          (others_all label P Q follows ws rest (All-tail P w ws all))
    ] refl none

waits_all : (label : Bytes) (m n : Machine) (Q : Suspended → Type 0) → Waits label m n → All Q m.waiting →
    ((c : Command) (o : Option Op) → n.waiting ≡ m.waiting ++ begins_now label m c o ∷ [] → Q (begins_now label m c o)) → All Q n.waiting
waits_all label m n Q waits all begins = elim waits [
  | inl same ↦ subst (All Q) (sym same) all
  | inr changed ↦ elim changed [
    | inl more ↦
        let last = begins_now label m more.0 more.1 in
        subst (All Q) (sym more.2)
        (All-append Q m.waiting (last ∷ []) all (All-cons Q last [] (begins more.0 more.1 more.2) (All-nil Q)))
    | inr less ↦ subst (All Q) (sym less) (All-filter (λ w. not (is_same w.label label)) Q m.waiting all)
  ]
]

-- ---- Commands

-- a command that isn't refused is one of a task of which no command waits
pub not_refused : (has_ended waits : Bool) → (if has_ended then Some TaskEnded else if waits then Some TaskWaiting else None) ≡ None → waits ≡ false
not_refused true waits is = cc
not_refused false true is = cc
not_refused false false is = refl

-- ---- The time

-- a limit that has just begun isn't over
just_begun : (d k : ℕ) → k ≡ 0 → (nat_lt 0 d && nat_le d k) ≡ false
just_begun d k none =
    false_from_ne_true (nat_lt 0 d && nat_le d k)
    (λ both.
    let parts = and_parts (nat_lt 0 d) (nat_le d k) both in
    let above : 0 < d = ltb-true 0 d parts.0 in
    let within : d ≤ k = leb-true d k parts.1 in
    omega (arith, none))

begun_late : (n : Machine) (w : Suspended) (o : Option Task) → n.clock ≡ w.since → is_late n w o ≡ false
begun_late n w None same = refl
begun_late n w (Some t) same = just_begun t.dtimout (n.clock - w.since) (omega (arith, same))

same_clock : (m n : Machine) (w : Suspended) (o : Option Task) → n.clock ≡ m.clock → is_late n w o ≡ is_late m w o
same_clock m n w None same = refl
same_clock m n w (Some t) same = ap (λ k. nat_lt 0 t.dtimout && nat_le t.dtimout (k - w.since)) same

module _ (m : Machine) (c : Command) (all : All (IsInTime m) m.waiting) where
  checked_in_time : (t : Task) → is_waiting m.waiting t.label ≡ false → All (IsInTime (checked m t c (fault_of m t c.verb)).machine) (checked m t c (fault_of m t c.verb)).machine.waiting
  checked_in_time t awake =
      let n = (checked m t c (fault_of m t c.verb)).machine in
      let alone = checked_alone m t c in
      waits_all t.label m n (IsInTime n) alone.waits
      (others_all t.label (IsInTime m) (IsInTime n)
      (λ w other early. ap (is_late n w) (alone.others.tasks w.label other) ∙ same_clock m n w (task_at m.tasks w.label) alone.others.clock ∙ early) m.waiting awake all)
      (λ d o begins. begun_late n (begins_now t.label m d o) (task_at n.tasks t.label) alone.others.clock)

  -- after a command no task has waited too long yet
  pub issued_in_time : (label : Bytes) → All (IsInTime (issued m label c).machine) (issued m label c).machine.waiting
  issued_in_time label = by (task_at m.tasks label)
    where
      by_refusal : (t : Task) (refusal : Option Refused) → issue_refusal m (Some t) ≡ refusal →
          All (IsInTime (refused_or m refusal (checked m t c (fault_of m t c.verb))).machine) (refused_or m refusal (checked m t c (fault_of m t c.verb))).machine.waiting
      by_refusal t (Some refusal) refused = all
      by_refusal t None refused = checked_in_time t (not_refused t.has_ended (is_waiting m.waiting t.label) refused)

      by : (o : Option Task) → All (IsInTime (issued_by m c o).machine) (issued_by m c o).machine.waiting
      by None = all
      by (Some t) = by_refusal t (issue_refusal m (Some t)) refl

-- ---- Commands that resume

-- and none has after a waiting command has resumed
pub woken_in_time : (m : Machine) (label : Bytes) → IsFirstFree m label → All (IsInTime m) m.waiting → All (IsInTime (woken m).machine) (woken m).machine.waiting
woken_in_time m label free all =
    subst (λ o. All (IsInTime (woken_first m o).machine) (woken_first m o).machine.waiting) (sym free.first) (by (task_at m.tasks w.label) refl)
  where
    w : Suspended
    w = free.wait

    by : (o : Option Task) → task_at m.tasks w.label ≡ o → All (IsInTime (went_on m w o).machine) (went_on m w o).machine.waiting
    by None is = absurd (false≢true (sym (ap (may_go_on m w) is) ∙ first_free-goes m w m.waiting free.first))
    by (Some t) is =
        let ws = not_waiting m.waiting w.label in
        let a = with_waiting m ws in
        let n = (by_op a t w.command w.op).machine in
        let alone = by_op_alone a t w.command w.op in
        let awake : is_waiting ws t.label ≡ false = ap (is_waiting ws) (place_of_task m.tasks w.label t is).2 ∙ not_waiting_then m.waiting w.label in
        waits_all t.label a n (IsInTime n) alone.waits
        (others_all t.label (IsInTime m) (IsInTime n)
        (λ v other early. ap (is_late n v) (alone.others.tasks v.label other) ∙ same_clock m n v (task_at m.tasks v.label) alone.others.clock ∙ early) ws awake
        (All-filter (λ v. not (is_same v.label w.label)) (IsInTime m) m.waiting all))
        (λ d o begins. begun_late n (begins_now t.label a d o) (task_at n.tasks t.label) alone.others.clock)

-- ---- Tasks that are attached, and the clock

-- a waiting command's task is there yet after a task more
there_yet : (ts : List Task) (new : Task) (label : Bytes) → is_some (task_at ts label) ≡ true → task_at (ts ++ new ∷ []) label ≡ task_at ts label
there_yet ts new label there = by (task_at ts label) refl there
  where
    by : (o : Option Task) → task_at ts label ≡ o → is_some o ≡ true → task_at (ts ++ new ∷ []) label ≡ o
    by None is some = absurd (false≢true some)
    by (Some t) is some = task_at-push ts new label t is

-- what holds of each holds of each, by another fact of each
both_all : (P R Q : Suspended → Type 0) → ((w : Suspended) → P w → R w → Q w) → (ws : List Suspended) → All P ws → All R ws → All Q ws
both_all P R Q follows [] ps rs = All-nil Q
both_all P R Q follows (w ∷ ws) ps rs =
    All-cons Q w ws (follows w (All-head P w ws ps) (All-head R w ws rs)) (both_all P R Q follows ws (All-tail P w ws ps) (All-tail R w ws rs))

pub attached_in_time : (m : Machine) (label : Bytes) (dtimout : ℕ) → AreTasksKept m → All (IsInTime m) m.waiting → All (IsInTime (attached m label dtimout).machine) (attached m label dtimout).machine.waiting
attached_in_time m label dtimout kept all = by (attach_refusal m label)
  where
    one : (w : Suspended) → IsWaitKept m w → IsInTime m w → IsInTime (with_new_task m label dtimout) w
    one w has early =
        ap (is_late (with_new_task m label dtimout) w) (there_yet m.tasks (new_task label dtimout) w.label has.of_task)
        ∙ same_clock m (with_new_task m label dtimout) w (task_at m.tasks w.label) refl ∙ early

    by : (refusal : Option Refused) →
        All (IsInTime (refused_or m refusal (record { outcome = tt {0}; machine = with_new_task m label dtimout })).machine) (refused_or m refusal (record { outcome = tt {0}; machine = with_new_task m label dtimout })).machine.waiting
    by None = both_all (IsWaitKept m) (IsInTime m) (IsInTime (with_new_task m label dtimout)) one m.waiting kept.waits all
    by (Some refusal) = all
