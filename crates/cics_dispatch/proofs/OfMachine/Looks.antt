-- A look at a waiting command: the wait of a label is one, and what is found of it is so.
use Rattle.std.specs.Prelude.{◌≡◌, ℕ, ◌<◌, ◌≤◌, Bool, true, false, cond, Option, Some, None, is_some, is_none, IfSome, List, [], ◌∷◌, All, take, length, slice_get, refl}
use Rattle.std.proofs.Common.{zero, suc, sym, ap, subst, ◌∙◌}
use Rattle.std.specs.List.{list_any}
use Rattle.std.specs.Map.{values_of}
use Rattle.std.proofs.lemmas.Bool.{false≢true, true≢false, false_from_ne_true}
use Rattle.std.proofs.lemmas.List.Elements.{All-head, All-tail}
use Rattle.cics_names.specs.Keyed.{Bytes, is_same}
use Rattle.cics_names.specs.KeyedLaws.{is_same-self, is_same-eq}
use Rattle.cics_names.specs.declared.commands.Verb.TheVariants.{Enq}
use Rattle.cics_history.specs.Resources.{bytes_of}
use Rattle.cics_history.specs.declared.resources.Resource.{Resource}
use Rattle.cics_history.specs.declared.resources.Resource.TheVariants.{User}
use Rattle.cics_history.specs.Execution.{IsOpenUnit}
use Rattle.cics_history.specs.Isolation.{IsSound}
use Rattle.cics_history.specs.declared.ops.Op.{Op}
use Rattle.cics_dispatch.specs.Machine.Machine.{Machine, Task, Suspended, task_at, label_of, is_waiting, not_waiting, with_waiting}
use Rattle.cics_dispatch.specs.Machine.Tasks.{own_unit, IsOwn}
use Rattle.cics_dispatch.specs.Machine.Waits.{Rows, wait_of, AreOnce, AreApart}
use Rattle.cics_dispatch.specs.Machine.Waking.{awaited_by, may_go_on, first_free, went_on, woken_first, woken}
use Rattle.cics_dispatch.specs.Machine.KeptTasks.{IsReady, IsWaitKept, AreTasksKept}
use Rattle.cics_dispatch.specs.Machine.Calls.{OfTask, HasReady}
use Rattle.cics_dispatch.specs.Machine.Settled.{reads_queue, needed_by, IsBlocked}
use Rattle.cics_dispatch.specs.Machine.Notes.{OfWait, IsUse, IsOnlyUse, IsOnlyNeed, OwnerIsElsewhere, IsFirstFreeOf, IsFirstFree}
use Rattle.cics_dispatch.specs.Machine.Steps.{Stepped, with_outcome, by_op}
use Rattle.cics_dispatch.specs.declared.machine.outcomes.Woken.{Woken}
use Rattle.cics_dispatch.proofs.OfMachine.WaitTable.{is_waiting-number}
use Rattle.cics_dispatch.proofs.OfMachine.TaskTable.{label_of-owner}
use Rattle.cics_dispatch.proofs.OfMachine.Ready.{value_within}
use Rattle.cics_dispatch.proofs.OfMachine.RegionSteps.{task_there}
use Rattle.cics_dispatch.proofs.OfMachine.Blocked.{blocked_by}
use Rattle.cics_dispatch.proofs.OfMachine.RegionWaking.{first_free-goes, free_aside, woken_back}

-- ---- The wait of a label

-- if a label has one number, it has one wait
pub apart_rows : (es : Rows) → AreOnce es → AreApart (values_of es)
apart_rows [] once = tt
apart_rows (e ∷ es) once = (is_waiting-number es e.1.label ∙ ap is_some once.0, apart_rows es once.1)

-- what holds of each wait holds of the one of a label
pub wait_of_has : (P : Suspended → Type 0) (w : Suspended) (ws : List Suspended) (label : Bytes) → All P ws → wait_of ws label ≡ Some w → P w
wait_of_has P w [] label all is = cc
wait_of_has P w (v ∷ ws) label all is =
    elim (is_same v.label label) as (λ b. cond b (Some v) (wait_of ws label) ≡ Some w → P w) [
      | true ↦ λ is. let same : v ≡ w = cc in subst P same (All-head P v ws all)
      | false ↦ λ is. wait_of_has P w ws label (All-tail P v ws all) is
    ] is

-- it has the label
pub wait_of_label : (w : Suspended) (ws : List Suspended) (label : Bytes) → wait_of ws label ≡ Some w → w.label ≡ label
wait_of_label w [] label is = cc
wait_of_label w (v ∷ ws) label is =
    elim (is_same v.label label) as (λ b. is_same v.label label ≡ b → cond b (Some v) (wait_of ws label) ≡ Some w → w.label ≡ label) [
      | true ↦ λ one is. let same : v ≡ w = cc in ap (λ x. x.label) (sym same) ∙ is_same-eq v.label label one
      | false ↦ λ other is. wait_of_label w ws label is
    ] refl is

-- a wait at a place is one of its label
pub waits_at : (ws : List Suspended) (i : ℕ) (w : Suspended) → slice_get ws i ≡ Some w → is_waiting ws w.label ≡ true
waits_at [] i w is = cc
waits_at (v ∷ ws) zero w is =
    let same : v ≡ w = cc in
    ap (λ x. cond (is_same x.label w.label) true (is_waiting ws w.label)) same ∙ ap (λ b. cond b true (is_waiting ws w.label)) (is_same-self w.label)
waits_at (v ∷ ws) (suc i) w is =
    elim (is_same v.label w.label) as (λ b. cond b true (is_waiting ws w.label) ≡ true) [ true ↦ refl | false ↦ waits_at ws i w is ]

-- and if no two are of one label, it is that label's
pub wait_at : (ws : List Suspended) (i : ℕ) (w : Suspended) → AreApart ws → slice_get ws i ≡ Some w → wait_of ws w.label ≡ Some w
wait_at [] i w apart is = cc
wait_at (v ∷ ws) zero w apart is =
    let same : v ≡ w = cc in
    ap (λ b. cond b (Some v) (wait_of ws w.label)) (ap (λ x. is_same x.label w.label) same ∙ is_same-self w.label) ∙ ap Some same
wait_at (v ∷ ws) (suc i) w apart is =
    ap (λ b. cond b (Some v) (wait_of ws w.label)) (false_from_ne_true (is_same v.label w.label) (λ one.
    true≢false (sym (waits_at ws i w is) ∙ ap (is_waiting ws) (sym (is_same-eq v.label w.label one)) ∙ apart.0)))
    ∙ wait_at ws i w apart.1 is

-- so the one that is found by a label is each that has it
pub one_wait : (o : Option Suspended) (ws : List Suspended) (label : Bytes) (i : ℕ) (w : Suspended) → AreApart ws → o ≡ wait_of ws label →
    slice_get ws i ≡ Some w → w.label ≡ label → o ≡ Some w
one_wait o ws label i w apart is there own = is ∙ ap (wait_of ws) (sym own) ∙ wait_at ws i w apart there

pub of_wait : (P : Suspended → Type 0) (x : Suspended) (ws : List Suspended) (label : Bytes) → AreApart ws → Some x ≡ wait_of ws label → P x → OfWait ws label P
of_wait P x ws label apart is holds = λ i w there own.
    let both : Some x ≡ Some w = one_wait (Some x) ws label i w apart is there own in
    let same : x ≡ w = cc in
    subst P same holds

-- and if none is found, none has the label
pub no_wait : (P : Suspended → Type 0) (ws : List Suspended) (label : Bytes) → AreApart ws → None ≡ wait_of ws label → OfWait ws label P
no_wait P ws label apart is = λ i w there own.
    let both : None ≡ Some w = one_wait None ws label i w apart is there own in
    cc

-- but if one waits it is found, and its task is there
pub wait_there : (ws : List Suspended) (label : Bytes) → is_waiting ws label ≡ true → None ≡ wait_of ws label → ⊥
wait_there [] label waits none = false≢true waits
wait_there (w ∷ ws) label waits none =
    elim (is_same w.label label) as (λ b. cond b true (is_waiting ws label) ≡ true → None ≡ cond b (Some w) (wait_of ws label) → ⊥) [
      | true ↦ λ here none. cc
      | false ↦ λ later none. wait_there ws label later none
    ] waits none

pub wait_has_task : (m : Machine) (x : Suspended) (label : Bytes) → All (IsWaitKept m) m.waiting → Some x ≡ wait_of m.waiting label → task_at m.tasks label ≡ None → ⊥
wait_has_task m x label kept found none =
    false≢true (sym (ap is_some (ap (task_at m.tasks) (wait_of_label x m.waiting label (sym found)) ∙ none)) ∙ (wait_of_has (IsWaitKept m) x m.waiting label kept (sym found)).of_task)

-- ---- The first that may resume

-- it stands at a place
first_free_at : (m : Machine) (w : Suspended) (ws : List Suspended) → first_free m ws ≡ Some w → (i : ℕ) × (slice_get ws i ≡ Some w)
first_free_at m w [] is = cc
first_free_at m w (v ∷ ws) is =
    elim (may_go_on m v (task_at m.tasks v.label)) as (λ b. cond b (Some v) (first_free m ws) ≡ Some w → (i : ℕ) × (slice_get (v ∷ ws) i ≡ Some w)) [
      | true ↦ λ is. (zero, is)
      | false ↦ λ is. let rest = first_free_at m w ws is in (suc rest.0, rest.1)
    ] is

-- and is found by its label
pub first_found : (m : Machine) (ws : List Suspended) (label : Bytes) (o : Option Suspended) → AreApart ws → IsFirstFreeOf m ws label → o ≡ wait_of ws label → first_free m ws ≡ o
first_found m ws label o apart is found =
    let at = first_free_at m is.wait ws is.first in
    is.first ∙ sym (one_wait o ws label at.0 is.wait apart found at.1 is.own)

pub first_there : (m : Machine) (ws : List Suspended) (label : Bytes) → AreApart ws → IsFirstFreeOf m ws label → None ≡ wait_of ws label → ⊥
first_there m ws label apart is found =
    let both : None ≡ Some is.wait = sym (first_found m ws label None apart is found) ∙ is.first in
    cc

-- its task is there
pub first_has_task : (m : Machine) (ws : List Suspended) (label : Bytes) → IsFirstFreeOf m ws label → task_at m.tasks label ≡ None → ⊥
first_has_task m ws label is none =
    false≢true (sym (ap (may_go_on m is.wait) (ap (task_at m.tasks) is.own ∙ none)) ∙ first_free-goes m is.wait ws is.first)

-- also while the waits stand aside
first_aside : (m a : Machine) (ws : List Suspended) (label : Bytes) → a ≡ with_waiting m [] → ws ≡ m.waiting → IsFirstFree m label → IsFirstFreeOf a ws label
first_aside m a ws label aside same is = record {
  wait = is.wait;
  first = (λ i. first_free (aside i) (same i)) ∙ free_aside m m.waiting ∙ is.first;
  own = is.own;
}

-- what has resumed has its label
woken_label : (m n : Machine) (ws : List Suspended) (label : Bytes) (k : Woken) → IsFirstFreeOf m ws label →
    with_outcome (Some k) n ≡ woken_first m (first_free m ws) → k.label ≡ label
woken_label m n ws label k is step = by (task_at m.tasks is.wait.label) (step ∙ ap (woken_first m) is.first) ∙ is.own
  where
    by : (o : Option Task) → with_outcome (Some k) n ≡ went_on m is.wait o → k.label ≡ is.wait.label
    by None e = let none : Some k ≡ None = ap (λ (s : Stepped (Option Woken)). s.outcome) e in cc
    by (Some t) e =
        let s = by_op (with_waiting m (not_waiting m.waiting is.wait.label)) t is.wait.command is.wait.op in
        let same : Some k ≡ Some (record { label = is.wait.label; outcome = s.outcome }) = ap (λ (s : Stepped (Option Woken)). s.outcome) e in
        let one : k ≡ record { label = is.wait.label; outcome = s.outcome } = cc in
        ap (λ w. w.label) one

-- and if it has resumed, its wait is taken out of those that come back
pub went_back : (m a n : Machine) (w : Woken) (label : Bytes) (ws back : List Suspended) → All (IsWaitKept m) m.waiting → a ≡ with_waiting m [] → ws ≡ m.waiting →
    IsFirstFree m label → with_outcome (Some w) n ≡ woken_first a (first_free a ws) → back ≡ not_waiting ws label →
    with_outcome (Some w) (with_waiting n back) ≡ woken m
went_back m a n w label ws back kept aside same first step gone =
    woken_back m a n w (Some w) ws back kept aside same refl step
    (gone ∙ ap (not_waiting ws) (sym (woken_label a n ws label w (first_aside m a ws label aside same first) step)))

-- ---- What a look finds

module _ (m : Machine) (x : Suspended) (label : Bytes) (at : ℕ) (apart : AreApart m.waiting) (found : Some x ≡ wait_of m.waiting label)
    (kept : AreTasksKept m) (task : slice_get m.tasks at ≡ task_at m.tasks label) where
  is_kept : IsWaitKept m x
  is_kept = wait_of_has (IsWaitKept m) x m.waiting label kept.waits (sym found)

  of_label : (t : Task) → slice_get m.tasks at ≡ Some t → task_at m.tasks x.label ≡ Some t
  of_label t there = ap (task_at m.tasks) (wait_of_label x m.waiting label (sym found)) ∙ sym task ∙ there

  pub look_ready : HasReady m at x.command.verb x.op
  look_ready = λ t there. is_kept.ready t (of_label t there)

  module _ (within : at < length m.tasks) (o : Option ℕ) (holder : OfTask m.tasks at (λ t. o ≡ awaited_by m.units t.unit x.command.verb x.op)) where
    pub look_goes : o ≡ None → OfWait m.waiting label (λ w. may_go_on m w (task_at m.tasks w.label) ≡ true)
    look_goes none = of_wait (λ w. may_go_on m w (task_at m.tasks w.label) ≡ true) x m.waiting label apart found
        (task_there m.tasks at within (λ t there. ap (may_go_on m x) (of_label t there) ∙ ap is_none (sym (holder t there) ∙ none)))

    pub look_blocked : (u : ℕ) → o ≡ Some u → (reads_queue x.op ≡ true → IsSound m.units) → IsOpenUnit m.units u → OfWait m.waiting label (IsBlocked m u)
    look_blocked u some sound is_open = of_wait (IsBlocked m u) x m.waiting label apart found
        (task_there m.tasks at within (λ t there.
        blocked_by m x t u kept sound (of_label t there) (is_kept.ready t (of_label t there)) is_open (sym (holder t there) ∙ some)))

-- ---- What a waiting command uses

-- that of an updating command
pub need_used : (x : Suspended) (op : Op) (o : Option Resource) → x.op ≡ Some op → IfSome o (λ r. IsOnlyUse r op) → IfSome o (λ r. IsOnlyNeed r x.command.verb x.op)
need_used x op None is used = tt
need_used x op (Some r) is used = subst (λ o. IsOnlyNeed r x.command.verb o) (sym is) (record { only = used.only; no_reader = used.no_reader })

-- and that of an ENQ
pub need_value : (x : Suspended) (value : Bytes) (n : ℕ) (nosuspend : Bool) (r : Resource) → x.op ≡ None → x.command.verb ≡ Enq value n nosuspend →
    r ≡ User (bytes_of (take n value)) → IsOnlyNeed r x.command.verb x.op
need_value x value n nosuspend r none verb is =
    subst (λ o. IsOnlyNeed r x.command.verb o) (sym none)
    (subst (λ v. IsOnlyNeed r v None) (sym verb) (record { only = λ o p any. ap (λ q. q ∷ []) (sym is); no_reader = refl }))

-- whose LENGTH has passed its check
pub value_short : (m : Machine) (x : Suspended) (ws : List Suspended) (label value : Bytes) (n : ℕ) (nosuspend : Bool) → All (IsWaitKept m) ws → Some x ≡ wait_of ws label →
    x.op ≡ None → x.command.verb ≡ Enq value n nosuspend → (1 ≤ n) × (n ≤ 255) × (n ≤ length value)
value_short m x ws label value n nosuspend all found none verb = by (task_at m.tasks x.label) refl kept.of_task
  where
    kept : IsWaitKept m x
    kept = wait_of_has (IsWaitKept m) x ws label all (sym found)

    by : (o : Option Task) → task_at m.tasks x.label ≡ o → is_some o ≡ true → (1 ≤ n) × (n ≤ 255) × (n ≤ length value)
    by None is there = absurd (false≢true there)
    by (Some t) is there =
        value_within value n (subst (λ v. IsReady m.units t.unit v None) verb (subst (λ o. IsReady m.units t.unit x.command.verb o) none (kept.ready t is)))

-- a command that uses another resource than the group's isn't in it
pub not_in_group : (m : Machine) (rs : List Resource) (g : ℕ) (label : Bytes) (r : Resource) → OfWait m.waiting label (λ w. IsOnlyNeed r w.command.verb w.op) →
    (slice_get rs g ≡ Some r → ⊥) → OfWait m.waiting label (λ w. IsUse m.units.opening rs w g → ⊥)
not_in_group m rs g label r need other = λ j w at same needed.
    let needs : needed_by m.units.opening w.command.verb w.op ≡ r ∷ [] = (need j w at same).only m.units.opening (λ x. true) (ap (list_any (λ x. true)) needed.needed) in
    let both : needed.resource ∷ [] ≡ r ∷ [] = sym needed.needed ∙ needs in
    let one : needed.resource ≡ r = cc in
    other (needed.there ∙ ap Some one)

-- ---- The owner of a unit

module _ (m : Machine) (rs : List Resource) (g u : ℕ) (label : Bytes) (owners : IsOwn own_unit m.tasks) (is : label ≡ label_of m.tasks u) where
  -- no command of its task waits
  pub owner_awake : is_waiting m.waiting label ≡ false → OwnerIsElsewhere m rs g u
  owner_awake awake = λ i t there has j w at own needed.
      let same : w.label ≡ label = own ∙ sym (is ∙ label_of-owner m.tasks u i t owners there has) in
      false≢true (sym awake ∙ ap (is_waiting m.waiting) (sym same) ∙ waits_at m.waiting j w at)

  -- no command of its task that waits is in the group
  pub owner_not_in_group : OfWait m.waiting label (λ w. IsUse m.units.opening rs w g → ⊥) → OwnerIsElsewhere m rs g u
  owner_not_in_group out = λ i t there has j w at own needed. out j w at (own ∙ sym (is ∙ label_of-owner m.tasks u i t owners there has)) needed
