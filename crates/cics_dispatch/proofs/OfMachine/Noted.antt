-- Task control: what is known of the waiting commands stays right over the steps of a region.
use Rattle.std.specs.Prelude.{◌≡◌, ◌+◌, ◌≢◌, ℕ, ◌≤◌, Bool, true, false, not, cond, Option, Some, None, is_some, map, take, drop, List, [], ◌∷◌, ◌++◌, length, slice_get, slice_set, refl}
use Rattle.std.proofs.Common.{zero, suc, inl, inr, sym, ap, ◌∙◌, subst, arith}
use Rattle.std.proofs.lemmas.Bool.{false≢true, true≢false, eq-eqb, false_from_ne_true}
use Rattle.cics_names.specs.Keyed.{Bytes, is_same}
use Rattle.cics_names.specs.KeyedLaws.{is_same-self, is_same-eq}
use Rattle.cics_history.specs.declared.resources.Resource.{Resource}
use Rattle.cics_history.specs.State.{OpeningState}
use Rattle.cics_dispatch.specs.declared.notes.groups.WaitNote.{WaitNote}
use Rattle.cics_dispatch.specs.Machine.Machine.{Machine, Task, Suspended, task_at, is_waiting, not_waiting}
use Rattle.cics_dispatch.specs.Notes.Notes.{is_unit}
use Rattle.cics_history.specs.Events.{is_live, may_act}
use Rattle.cics_dispatch.specs.Machine.Settled.{KeepsWaiting, IsBlocked}
use Rattle.cics_dispatch.specs.Machine.KeptTasks.{AreTasksKept}
use Rattle.cics_dispatch.specs.Machine.Waits.{AreApart}
use Rattle.cics_dispatch.specs.Machine.Waking.{may_go_on, first_free}
use Rattle.cics_dispatch.specs.Machine.Deadlines.{AreDue}
use Rattle.cics_dispatch.specs.Machine.Notes.{IsUse, IsNoted, AreNoted, AreNotedNow}
use Rattle.cics_dispatch.specs.Notes.Notes.{of_group, blocker_by, blocker_in, given_up, given_note, forgotten, new_note, count, AreClosed, HasNone, IsPlaceOf, without, NotesValue}
use Rattle.cics_dispatch.proofs.OfMachine.KeptTasks.{begins_now}
use Rattle.cics_dispatch.proofs.OfMachine.KeepsOwn.{Keeps}
use Rattle.cics_dispatch.proofs.OfMachine.ActsAlone.{LeavesTasks, Waits}
use Rattle.cics_dispatch.proofs.OfMachine.Blocked.{blocked_stays}
use Rattle.cics_dispatch.proofs.OfMachine.Remembered.{blocked_yet}

-- ---- Notes beside their commands

-- each note stays right
pub noted_each : (m n : Machine) (rs qs : List Resource) (bs cs : List (Option ℕ)) → ((k : WaitNote) (w : Suspended) → IsNoted m rs bs k w → IsNoted n qs cs k w) →
    (ns : List (Option WaitNote)) (ws : List Suspended) → AreNoted m rs bs ns ws → AreNoted n qs cs ns ws
noted_each m n rs qs bs cs follows [] ws is = tt
noted_each m n rs qs bs cs follows (None ∷ ns) ws is = noted_each m n rs qs bs cs follows ns ws is
noted_each m n rs qs bs cs follows (Some k ∷ ns) [] is = absurd is
noted_each m n rs qs bs cs follows (Some k ∷ ns) (w ∷ ws) is = (follows k w is.0, noted_each m n rs qs bs cs follows ns ws is.1)

-- the note at a place is changed
pub noted_set : (m : Machine) (rs : List Resource) (bs : List (Option ℕ)) (ns : List (Option WaitNote)) (ws : List Suspended) (i : ℕ) (k n : WaitNote) → AreNoted m rs bs ns ws → slice_get ns i ≡ Some (Some k) →
    ((w : Suspended) (j : ℕ) → slice_get ws j ≡ Some w → IsNoted m rs bs k w → IsNoted m rs bs n w) → AreNoted m rs bs (slice_set ns i (Some n)) ws
noted_set m rs bs [] ws i k n is there new = cc
noted_set m rs bs (None ∷ ns) ws zero k n is there new = cc
noted_set m rs bs (None ∷ ns) ws (suc i) k n is there new = noted_set m rs bs ns ws i k n is there new
noted_set m rs bs (Some j ∷ ns) [] i k n is there new = absurd is
noted_set m rs bs (Some j ∷ ns) (w ∷ ws) zero k n is there new =
    let same : j ≡ k = let both : Some (Some j) ≡ Some (Some k) = there in cc in
    (new w 0 refl (subst (λ x. IsNoted m rs bs x w) same is.0), is.1)
noted_set m rs bs (Some j ∷ ns) (w ∷ ws) (suc i) k n is there new = (is.0, noted_set m rs bs ns ws i k n is.1 there (λ v j at. new v (suc j) at))

-- more commands wait behind
pub noted_behind : (m : Machine) (rs : List Resource) (bs : List (Option ℕ)) (ns : List (Option WaitNote)) (ws more : List Suspended) → AreNoted m rs bs ns ws → AreNoted m rs bs ns (ws ++ more)
noted_behind m rs bs [] ws more is = tt
noted_behind m rs bs (None ∷ ns) ws more is = noted_behind m rs bs ns ws more is
noted_behind m rs bs (Some n ∷ ns) [] more is = absurd is
noted_behind m rs bs (Some n ∷ ns) (w ∷ ws) more is = (is.0, noted_behind m rs bs ns ws more is.1)

-- a note that says nothing of its command is right
noted_new : (m : Machine) (rs : List Resource) (bs : List (Option ℕ)) (w : Suspended) → IsNoted m rs bs (new_note w.label) w
noted_new m rs bs w = record { label = refl; blocked = λ u is. cc; use_of = λ g is. cc }

-- the first command behind the noted ones gets its note
pub noted_push : (m : Machine) (rs : List Resource) (bs : List (Option ℕ)) (ns : List (Option WaitNote)) (ws rest : List Suspended) (w : Suspended) → AreNoted m rs bs ns ws → drop (count ns) ws ≡ w ∷ rest →
    AreNoted m rs bs (ns ++ Some (new_note w.label) ∷ []) ws × (drop (count (ns ++ Some (new_note w.label) ∷ [])) ws ≡ rest)
noted_push m rs bs [] [] rest w is behind = cc
noted_push m rs bs [] (v ∷ ws) rest w is behind =
    let same : v ≡ w = cc in
    let left : ws ≡ rest = cc in
    ((subst (λ x. IsNoted m rs bs (new_note w.label) x) (sym same) (noted_new m rs bs w), tt), left)
noted_push m rs bs (None ∷ ns) ws rest w is behind = noted_push m rs bs ns ws rest w is behind
noted_push m rs bs (Some n ∷ ns) [] rest w is behind = absurd is
noted_push m rs bs (Some n ∷ ns) (v ∷ ws) rest w is behind =
    let later = noted_push m rs bs ns ws rest w is.1 behind in
    ((is.0, later.0), later.1)

-- no more notes than commands
pub noted_few : (m : Machine) (rs : List Resource) (bs : List (Option ℕ)) (ns : List (Option WaitNote)) (ws : List Suspended) → AreNoted m rs bs ns ws → count ns ≤ length ws
noted_few m rs bs [] ws is = omega arith
noted_few m rs bs (None ∷ ns) ws is = noted_few m rs bs ns ws is
noted_few m rs bs (Some n ∷ ns) [] is = absurd is
noted_few m rs bs (Some n ∷ ns) (w ∷ ws) is = let few = noted_few m rs bs ns ws is.1 in omega (arith, few)

-- notes whose parts are these
pub noted_as : (m : Machine) (v : NotesValue) (rs : List Resource) (bs : List (Option ℕ)) (ns : List (Option WaitNote)) (ks : List ℕ) → v.resources ≡ rs → v.blockers ≡ bs → v.rows ≡ ns → v.deadlines ≡ ks →
    AreNoted m rs bs ns m.waiting → AreDue m.tasks ns m.waiting ks → AreNotedNow m v
noted_as m v rs bs ns ks resources blockers rows deadlines noted due =
    subst (λ x. AreNotedNow m x) (λ i. record { rows = sym rows i; resources = sym resources i; blockers = sym blockers i; deadlines = sym deadlines i })
    (record { noted = noted; due = due })

-- if no note is made yet they are right
pub noted_empty : (m : Machine) (v : NotesValue) → v.rows ≡ [] → v.deadlines ≡ [] → AreNotedNow m v
noted_empty m v none timeless = noted_as m v v.resources v.blockers [] [] refl refl none timeless tt tt

-- those behind one more
pub drop_next : (k : ℕ) (ws rest : List Suspended) (w : Suspended) → drop k ws ≡ w ∷ rest → drop (suc k) ws ≡ rest
drop_next zero [] rest w is = cc
drop_next zero (v ∷ ws) rest w is = let left : ws ≡ rest = cc in left
drop_next (suc k) [] rest w is = cc
drop_next (suc k) (v ∷ ws) rest w is = drop_next k ws rest w is

-- none is behind all
pub drop_none : (k : ℕ) (ws : List Suspended) → drop k ws ≡ [] → length ws ≤ k
drop_none k [] none = omega arith
drop_none zero (w ∷ ws) none = cc
drop_none (suc k) (w ∷ ws) none = let rest = drop_none k ws none in omega (arith, rest)

-- the last one is behind all others
pub drop_last : (ws : List Suspended) (k : ℕ) (w : Suspended) → k + 1 ≡ length ws → slice_get ws k ≡ Some w → drop k ws ≡ w ∷ []
drop_last [] k w all there = cc
drop_last (v ∷ []) zero w all there = let same : v ≡ w = cc in ap (λ x. x ∷ []) same
drop_last (v ∷ x ∷ ws) zero w all there = absurd (omega (arith, all))
drop_last (v ∷ ws) (suc k) w all there = drop_last ws k w (omega (arith, all)) there

-- ---- The first that has to be looked at

-- the command of the note at a place before which all are closed
pub record FirstAt (m : Machine) (rs : List Resource) (bs : List (Option ℕ)) (n : WaitNote) (ws : List Suspended) : Type 0 where
  pub wait : Suspended
  pub place : ℕ
  pub there : slice_get ws place ≡ Some wait
  pub noted : IsNoted m rs bs n wait
  pub first : may_go_on m wait (task_at m.tasks wait.label) ≡ true → first_free m ws ≡ Some wait

-- a unit that is known
known : (o : Option ℕ) → is_some o ≡ true → (u : ℕ) × (o ≡ Some u)
known None is = absurd (false≢true is)
known (Some u) is = (u, refl)

-- a command that has to wait is passed
passed : (m : Machine) (rs : List Resource) (bs : List (Option ℕ)) (n : WaitNote) (w : Suspended) (ws : List Suspended) → AreTasksKept m → IsNoted m rs bs n w → is_some (blocker_in bs n) ≡ true → first_free m (w ∷ ws) ≡ first_free m ws
passed m rs bs n w ws kept is closed =
    let unit = known (blocker_in bs n) closed in
    ap (λ b. cond b (Some w) (first_free m ws)) (blocked_stays m unit.0 w kept (is.blocked unit.0 unit.1))

pub first_at : (m : Machine) (rs : List Resource) (bs : List (Option ℕ)) (ns : List (Option WaitNote)) (ws : List Suspended) (i : ℕ) (n : WaitNote) → AreTasksKept m → AreNoted m rs bs ns ws → slice_get ns i ≡ Some (Some n) →
    AreClosed bs (take i ns) → FirstAt m rs bs n ws
first_at m rs bs [] ws i n kept is there closed = cc
first_at m rs bs (None ∷ ns) ws zero n kept is there closed = cc
first_at m rs bs (None ∷ ns) ws (suc i) n kept is there closed = first_at m rs bs ns ws i n kept is there closed
first_at m rs bs (Some k ∷ ns) [] i n kept is there closed = absurd is
first_at m rs bs (Some k ∷ ns) (w ∷ ws) zero n kept is there closed =
    let same : k ≡ n = let both : Some (Some k) ≡ Some (Some n) = there in cc in
    record { wait = w; place = 0; there = refl; noted = subst (λ x. IsNoted m rs bs x w) same is.0; first = λ goes. ap (λ b. cond b (Some w) (first_free m ws)) goes }
first_at m rs bs (Some k ∷ ns) (w ∷ ws) (suc i) n kept is there closed =
    let later = first_at m rs bs ns ws i n kept is.1 there closed.1 in
    record { wait = later.wait; place = suc later.place; there = later.there; noted = later.noted; first = λ goes. passed m rs bs k w ws kept is.0 closed.0 ∙ later.first goes }

-- if each waiting command is blocked none resumes
pub none_free : (m : Machine) (rs : List Resource) (bs : List (Option ℕ)) (ns : List (Option WaitNote)) (ws : List Suspended) → AreTasksKept m → AreNoted m rs bs ns ws → AreClosed bs ns → count ns ≡ length ws → first_free m ws ≡ None
none_free m rs bs [] [] kept is closed all = refl
none_free m rs bs [] (w ∷ ws) kept is closed all = cc
none_free m rs bs (None ∷ ns) ws kept is closed all = none_free m rs bs ns ws kept is closed all
none_free m rs bs (Some n ∷ ns) [] kept is closed all = absurd is
none_free m rs bs (Some n ∷ ns) (w ∷ ws) kept is closed all = passed m rs bs n w ws kept is.0 closed.0 ∙ none_free m rs bs ns ws kept is.1 closed.1 (let k : count ns ≡ length ws = omega (arith, all) in k)

-- ---- One note fewer

-- a noted command waits
there_waits : (m : Machine) (rs : List Resource) (bs : List (Option ℕ)) (ns : List (Option WaitNote)) (ws : List Suspended) (i : ℕ) (n : WaitNote) → AreNoted m rs bs ns ws → slice_get ns i ≡ Some (Some n) → is_waiting ws n.label ≡ true
there_waits m rs bs [] ws i n is there = cc
there_waits m rs bs (None ∷ ns) ws zero n is there = cc
there_waits m rs bs (None ∷ ns) ws (suc i) n is there = there_waits m rs bs ns ws i n is there
there_waits m rs bs (Some k ∷ ns) [] i n is there = absurd is
there_waits m rs bs (Some k ∷ ns) (w ∷ ws) zero n is there =
    let same : k ≡ n = let both : Some (Some k) ≡ Some (Some n) = there in cc in
    ap (λ l. cond (is_same w.label l) true (is_waiting ws l)) (ap (λ x. x.label) (sym same) ∙ is.0.label) ∙ ap (λ b. cond b true (is_waiting ws w.label)) (is_same-self w.label)
there_waits m rs bs (Some k ∷ ns) (w ∷ ws) (suc i) n is there =
    elim (is_same w.label n.label) as (λ b. cond b true (is_waiting ws n.label) ≡ true) [ true ↦ refl | false ↦ there_waits m rs bs ns ws i n is.1 there ]

-- without the wait of a label that has none
pub not_waiting_awake : (ws : List Suspended) (label : Bytes) → is_waiting ws label ≡ false → not_waiting ws label ≡ ws
not_waiting_awake [] label awake = refl
not_waiting_awake (w ∷ ws) label awake =
    elim (is_same w.label label) as (λ b. cond b true (is_waiting ws label) ≡ false → cond (not b) (w ∷ not_waiting ws label) (not_waiting ws label) ≡ w ∷ ws) [
      | true ↦ λ wrong. absurd (false≢true (sym wrong))
      | false ↦ λ rest. ap (λ r. w ∷ r) (not_waiting_awake ws label rest)
    ] awake

-- without the note at a place, and without its command
pub noted_without : (m : Machine) (rs : List Resource) (bs : List (Option ℕ)) (ns : List (Option WaitNote)) (ws : List Suspended) (i : ℕ) (n : WaitNote) → AreApart ws → AreNoted m rs bs ns ws → slice_get ns i ≡ Some (Some n) →
    AreNoted m rs bs (slice_set ns i None) (not_waiting ws n.label)
noted_without m rs bs [] ws i n apart is there = cc
noted_without m rs bs (None ∷ ns) ws zero n apart is there = cc
noted_without m rs bs (None ∷ ns) ws (suc i) n apart is there = noted_without m rs bs ns ws i n apart is there
noted_without m rs bs (Some k ∷ ns) [] i n apart is there = absurd is
noted_without m rs bs (Some k ∷ ns) (w ∷ ws) zero n apart is there =
    let same : k ≡ n = let both : Some (Some k) ≡ Some (Some n) = there in cc in
    let own : n.label ≡ w.label = ap (λ x. x.label) (sym same) ∙ is.0.label in
    let gone : not_waiting (w ∷ ws) w.label ≡ ws = ap (λ b. cond (not b) (w ∷ not_waiting ws w.label) (not_waiting ws w.label)) (is_same-self w.label) ∙ not_waiting_awake ws w.label apart.0 in
    subst (AreNoted m rs bs ns) (sym (ap (not_waiting (w ∷ ws)) own ∙ gone)) is.1
noted_without m rs bs (Some k ∷ ns) (w ∷ ws) (suc i) n apart is there =
    let waits = there_waits m rs bs ns ws i n is.1 there in
    let other : is_same w.label n.label ≡ false = false_from_ne_true (is_same w.label n.label) (λ one.
    true≢false (sym waits ∙ ap (is_waiting ws) (sym (is_same-eq w.label n.label one)) ∙ apart.0)) in
    subst (λ b. AreNoted m rs bs (Some k ∷ slice_set ns i None) (cond (not b) (w ∷ not_waiting ws n.label) (not_waiting ws n.label))) (sym other)
    (is.0, noted_without m rs bs ns ws i n apart.1 is.1 there)

-- the notes of other labels, without a label's command
pub noted_none : (m : Machine) (rs : List Resource) (bs : List (Option ℕ)) (label : Bytes) (ns : List (Option WaitNote)) (ws : List Suspended) → HasNone label ns → AreNoted m rs bs ns ws → AreNoted m rs bs ns (not_waiting ws label)
noted_none m rs bs label [] ws none is = tt
noted_none m rs bs label (None ∷ ns) ws none is = noted_none m rs bs label ns ws (λ i n there. none (suc i) n there) is
noted_none m rs bs label (Some k ∷ ns) [] none is = absurd is
noted_none m rs bs label (Some k ∷ ns) (w ∷ ws) none is =
    let other : is_same w.label label ≡ false = false_from_ne_true (is_same w.label label) (λ one. none 0 k refl (is.0.label ∙ is_same-eq w.label label one)) in
    subst (λ b. AreNoted m rs bs (Some k ∷ ns) (cond (not b) (w ∷ not_waiting ws label) (not_waiting ws label))) (sym other)
    (is.0, noted_none m rs bs label ns ws (λ i n there. none (suc i) n there) is.1)

-- so without the command of a label, whether it has a note or not
pub noted_dropped : (m : Machine) (rs : List Resource) (bs : List (Option ℕ)) (label : Bytes) (ns : List (Option WaitNote)) (ws : List Suspended) (at : Option ℕ) → AreApart ws → IsPlaceOf label ns at → AreNoted m rs bs ns ws →
    AreNoted m rs bs (without ns at) (not_waiting ws label)
noted_dropped m rs bs label ns ws None apart none is = noted_none m rs bs label ns ws none is
noted_dropped m rs bs label ns ws (Some at) apart place is =
    subst (λ l. AreNoted m rs bs (slice_set ns at None) (not_waiting ws l)) place.2 (noted_without m rs bs ns ws at place.0 apart is place.1)

-- ---- What a note says once a unit may have given something up

-- that isn't what is forgotten
given_other : (u : ℕ) (b : Option ℕ) (v : ℕ) → given_up (Some u) b ≡ Some v → (b ≡ Some v) × (u ≢ v)
given_other u b v = by (is_unit b u) refl
  where
    by : (t : Bool) → is_unit b u ≡ t → cond t None b ≡ Some v → (b ≡ Some v) × (u ≢ v)
    by true same is = cc
    by false differs is = (is, λ e. false≢true (sym differs ∙ ap (λ x. is_unit x u) (is ∙ ap Some (sym e)) ∙ eq-eqb u u refl))

of_group_given : (unit : Option ℕ) (bs : List (Option ℕ)) (g : ℕ) → of_group (map (given_up unit) bs) g ≡ given_up unit (of_group bs g)
of_group_given None [] g = refl
of_group_given (Some u) [] g = refl
of_group_given unit (b ∷ bs) zero = refl
of_group_given unit (b ∷ bs) (suc g) = of_group_given unit bs g

module _ (unit : Option ℕ) (bs : List (Option ℕ)) where
  blocker_given : (k : WaitNote) → blocker_in (map (given_up unit) bs) (given_note unit k) ≡ given_up unit (blocker_in bs k)
  blocker_given k = by k.group
    where
      by : (group : Option ℕ) → blocker_by (map (given_up unit) bs) group (given_up unit k.blocker) ≡ given_up unit (blocker_by bs group k.blocker)
      by None = refl
      by (Some g) = of_group_given unit bs g

-- if no unit is forgotten all stays
pub given_none : (bs : List (Option ℕ)) → map (given_up None) bs ≡ bs
given_none [] = refl
given_none (b ∷ bs) = ap (λ r. b ∷ r) (given_none bs)

pub forgotten_none : (ns : List (Option WaitNote)) → map (forgotten None) ns ≡ ns
forgotten_none [] = refl
forgotten_none (None ∷ ns) = ap (λ r. None ∷ r) (forgotten_none ns)
forgotten_none (Some n ∷ ns) = ap (λ r. Some n ∷ r) (forgotten_none ns)

-- ---- A step of a task

use_yet : (o p : OpeningState) (rs : List Resource) (w : Suspended) (g : ℕ) → p ≡ o → IsUse o rs w g → IsUse p rs w g
use_yet o p rs w g same is = subst (λ x. IsUse x rs w g) (sym same) is

module _ (m n : Machine) (rs : List Resource) (bs : List (Option ℕ)) (t : Task) (others : LeavesTasks t.label t.unit m n) (active : may_act m.units t.unit ≡ true) where
  -- whose unit gives nothing up
  pub noted_kept : ((v : ℕ) → t.unit ≡ Some v → Keeps m.units n.units v) → (k : WaitNote) (w : Suspended) → t.label ≢ w.label → IsNoted m rs bs k w → IsNoted n rs bs k w
  noted_kept keeps k w other is = record {
    label = is.label;
    blocked = λ h own. blocked_yet m n t h others active (λ v of_t. inr (keeps v of_t)) w other (is.blocked h own);
    use_of = λ g own. use_yet m.units.opening n.units.opening rs w g others.units.opening (is.use_of g own);
  }

  -- or is forgotten
  pub noted_forgot : (k : WaitNote) (w : Suspended) → t.label ≢ w.label → IsNoted m rs bs k w → IsNoted n rs (map (given_up t.unit) bs) (given_note t.unit k) w
  noted_forgot k w other is = by t.unit refl
    where
      by : (o : Option ℕ) → t.unit ≡ o → IsNoted n rs (map (given_up o) bs) (given_note o k) w
      by None none = subst (λ cs. IsNoted n rs cs k w) (sym (given_none bs)) (noted_kept (λ v of_t. let both : None ≡ Some v = sym none ∙ of_t in cc) k w other is)
      by (Some u) has = record {
        label = is.label;
        blocked = λ h own.
            let rest = given_other u (blocker_in bs k) h (sym (blocker_given (Some u) bs k) ∙ own) in
            blocked_yet m n t h others active (λ v of_t. inl (λ e. rest.1 (let both : Some u ≡ Some v = sym has ∙ of_t in let same : u ≡ v = cc in same ∙ e))) w other (is.blocked h rest.0);
        use_of = λ g own. use_yet m.units.opening n.units.opening rs w g others.units.opening (is.use_of g own);
      }

-- a label that isn't a waiting command's
pub apart_label : (w : Suspended) (label : Bytes) → is_same w.label label ≡ false → label ≢ w.label
apart_label w label differs e = false≢true (sym differs ∙ ap (is_same w.label) e ∙ is_same-self w.label)

-- the notes of the other tasks' commands
noted_others : (m n : Machine) (rs : List Resource) (bs cs : List (Option ℕ)) (label : Bytes) (unit : Option ℕ) → ((k : WaitNote) (w : Suspended) → label ≢ w.label → IsNoted m rs bs k w → IsNoted n rs cs (given_note unit k) w) →
    (ns : List (Option WaitNote)) (ws : List Suspended) → is_waiting ws label ≡ false → AreNoted m rs bs ns ws → AreNoted n rs cs (map (forgotten unit) ns) ws
noted_others m n rs bs cs label unit follows [] ws awake is = tt
noted_others m n rs bs cs label unit follows (None ∷ ns) ws awake is = noted_others m n rs bs cs label unit follows ns ws awake is
noted_others m n rs bs cs label unit follows (Some k ∷ ns) [] awake is = absurd is
noted_others m n rs bs cs label unit follows (Some k ∷ ns) (w ∷ ws) awake is =
    elim (is_same w.label label) as (λ b. is_same w.label label ≡ b → cond b true (is_waiting ws label) ≡ false → AreNoted n rs cs (map (forgotten unit) (Some k ∷ ns)) (w ∷ ws)) [
      | true ↦ λ same wrong. absurd (false≢true (sym wrong))
      | false ↦ λ differs rest. (follows k w (apart_label w label differs) is.0, noted_others m n rs bs cs label unit follows ns ws rest is.1)
    ] refl awake

module _ (m n : Machine) (rs : List Resource) (bs : List (Option ℕ)) (t : Task) (others : LeavesTasks t.label t.unit m n) (active : may_act m.units t.unit ≡ true) (ns : List (Option WaitNote)) (ws : List Suspended) (awake : is_waiting ws t.label ≡ false) (is : AreNoted m rs bs ns ws) where
  -- after a step of a task whose unit is forgotten
  pub noted_given : AreNoted n rs (map (given_up t.unit) bs) (map (forgotten t.unit) ns) ws
  noted_given = noted_others m n rs bs (map (given_up t.unit) bs) t.label t.unit (noted_forgot m n rs bs t others active) ns ws awake is

  -- or gives nothing up
  pub noted_keeping : ((v : ℕ) → t.unit ≡ Some v → Keeps m.units n.units v) → AreNoted n rs bs ns ws
  noted_keeping keeps =
      subst (λ ks. AreNoted n rs bs ks ws) (forgotten_none ns) (noted_others m n rs bs bs t.label None (noted_kept m n rs bs t others active keeps) ns ws awake is)

-- a command that waits last of all waits
waits_last : (ws : List Suspended) (w : Suspended) → is_waiting (ws ++ w ∷ []) w.label ≡ true
waits_last [] w = ap (λ b. cond b true false) (is_same-self w.label)
waits_last (v ∷ ws) w = elim (is_same v.label w.label) as (λ b. cond b true (is_waiting (ws ++ w ∷ []) w.label) ≡ true) [ true ↦ refl | false ↦ waits_last ws w ]

-- after a step of a task of which no command waited the others wait, and none of it does, or one
-- behind them
pub waits_then : (m n : Machine) (label : Bytes) → Waits label m n → is_waiting m.waiting label ≡ false → (more : List Suspended) × (n.waiting ≡ m.waiting ++ more) × (is_waiting n.waiting label ≡ false → n.waiting ≡ m.waiting)
waits_then m n label waits awake = elim waits [
  | inl same ↦ as_before same
  | inr changed ↦ elim changed [
    | inl more ↦
        let last = begins_now label m more.0 more.1 in
        (last ∷ [], more.2, λ none. absurd (true≢false (sym (waits_last m.waiting last) ∙ sym (ap (λ ws. is_waiting ws label) more.2) ∙ none)))
    | inr less ↦ as_before (less ∙ not_waiting_awake m.waiting label awake)
  ]
]
  where
    none_more : (ws : List Suspended) → ws ++ [] ≡ ws
    none_more [] = refl
    none_more (w ∷ ws) = ap (λ r. w ∷ r) (none_more ws)

    as_before : n.waiting ≡ m.waiting → (more : List Suspended) × (n.waiting ≡ m.waiting ++ more) × (is_waiting n.waiting label ≡ false → n.waiting ≡ m.waiting)
    as_before same = ([], same ∙ sym (none_more m.waiting), λ none. same)

-- ---- Tasks that are attached, the clock, and waits that stand aside

-- what is the same for blocked commands
module _ (m n : Machine) (units : n.units ≡ m.units) (tasks : (l : Bytes) (t : Task) → task_at m.tasks l ≡ Some t → task_at n.tasks l ≡ Some t) where
  same_blocked : (h : ℕ) (w : Suspended) → IsBlocked m h w → IsBlocked n h w
  same_blocked h w is = record {
    task = is.task;
    of_task = tasks w.label is.task is.of_task;
    is_open = ap (λ s. is_live s h) units ∙ is.is_open;
    other = is.other;
    keeps = subst (λ s. KeepsWaiting s is.task.unit h w.command.verb w.op) (sym units) is.keeps;
  }

  pub noted_same : (rs : List Resource) (bs : List (Option ℕ)) (ns : List (Option WaitNote)) (ws : List Suspended) → AreNoted m rs bs ns ws → AreNoted n rs bs ns ws
  noted_same rs bs = noted_each m n rs rs bs bs (λ k w is. record {
    label = is.label;
    blocked = λ h own. same_blocked h w (is.blocked h own);
    use_of = λ g own. use_yet m.units.opening n.units.opening rs w g (ap (λ s. s.opening) units) (is.use_of g own);
  })
