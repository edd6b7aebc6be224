-- The commands of the tasks of a region: what their checks tell, and what they answer.
use Rattle.std.specs.Prelude.{◌≡◌, ℕ, ◌<◌, ◌≤◌, ◌&&◌, if◌then◌else◌, Bool, true, false, Option, Some, None, option_map, is_some, is_none, IfSome, IfNone, Result, Ok, Err, OnErr, IsErr, IsErrAnd, length, slice_get, take, [], ◌∷◌, refl}
use Rattle.std.specs.Option.{option_copied}
use Rattle.std.proofs.Common.{Bor, ◌∙◌, sym, ap, subst}
use Rattle.std.proofs.lemmas.Bool.{false≢true}
use Rattle.cics_names.specs.Keyed.{Bytes, value_at}
use Rattle.cics_dispatch.specs.declared.machine.reasons.Reason.{Reason}
use Rattle.cics_browse.specs.Positions.{Position}
use Rattle.cics_ksds.specs.declared.definition.FileDef.{FileDef}
use Rattle.cics_history.specs.Records.{key_of}
use Rattle.cics_history.specs.declared.ops.Op.{Op}
use Rattle.cics_dispatch.specs.Machine.Machine.{Machine, Task, RegionValue, definition_of, task_at, is_waiting}
use Rattle.cics_dispatch.specs.Machine.Reasons.{condition_of}
use Rattle.cics_dispatch.specs.Machine.Lengths.{first_reason, key_reason}
use Rattle.cics_dispatch.specs.Machine.Checks.{file_reason, named_reason, defined_reason, browse_reason, back_reason, reason_of, fault_of, reason_by, reason_for, open_key}
use Rattle.cics_names.specs.Commands.{file_named}
use Rattle.cics_dispatch.specs.Machine.Steps.{Stepped, with_outcome, op_of, by_op, performed, checked, issue_refusal, refused_or, issued_by, issued}
use Rattle.cics_dispatch.specs.Machine.Calls.{OfTask, MayPerform, IsAwake, HasBrowse, IsStepOf, going_on}
use Rattle.cics_dispatch.specs.Machine.Answers.{is_growing, passes_checks, may_want, IsStep}
use Rattle.cics_names.specs.declared.commands.Command.{Command}
use Rattle.cics_names.specs.declared.commands.Verb.{Verb}
use Rattle.cics_names.specs.declared.commands.Verb.TheVariants.{Unlock, ResetBr, ReadNext, ReadPrev, EndBr, Deq, Syncpoint, Rollback, Return, Abend}
use Rattle.cics_dispatch.specs.declared.machine.outcomes.Outcome.{Outcome}
use Rattle.cics_dispatch.specs.declared.machine.outcomes.Refused.{Refused}
use Rattle.cics_dispatch.specs.declared.machine.outcomes.Refused.TheVariants.{NoMemory, TaskEnded, TaskWaiting}
use Rattle.cics_dispatch.proofs.OfMachine.TaskPlaces.{place_of_task}
use Rattle.cics_dispatch.proofs.OfMachine.Ready.{value_within}
use Rattle.cics_dispatch.proofs.OfMachine.RegionSteps.{task_there, one_task}
use Rattle.cics_dispatch.proofs.OfMachine.RegionEnqueuing.{first_fit}

-- ---- The updating command that is asked for

-- there is something behind a reference just if there is one
pub copied_some : {X : Type 0} (o : Option (Bor X)) → is_some (option_copied o) ≡ is_some o
copied_some None = refl
copied_some (Some x) = refl

-- a command that asks for an updating command takes memory
pub op_grows : (m : Machine) (t : Task) (verb : Verb) (c : Op) → op_of m t verb ≡ Some c → is_growing verb ≡ true
op_grows m t (Unlock f) c is = cc
op_grows m t (ResetBr f key given generic equal) c is = cc
op_grows m t (EndBr f) c is = cc
op_grows m t (Deq value n) c is = cc
op_grows m t Syncpoint c is = cc
op_grows m t Rollback c is = cc
op_grows m t Return c is = cc
op_grows m t (Abend code) c is = cc
op_grows m t verb c is = refl

-- what holds holds of a refusal
pub on_error : {A E Q : Type 0} (r : Result A E) → Q → OnErr r Q
on_error (Ok a) q = tt
on_error (Err e) q = q

-- a command that asks for an updating command is performed as that asks, or else as another
pub performed_by : (m : Machine) (t : Task) (c : Command) (o : Option Op) → op_of m t c.verb ≡ o → by_op m t c o ≡ performed m t c
performed_by m t c o is = ap (by_op m t c) (sym is)

-- ---- A command that is issued

module _ (m : Machine) (label : Bytes) (c : Command) (t : Task) (is : task_at m.tasks label ≡ Some t) where
  -- whether it is refused
  refusal : (ended waits : Bool) → t.has_ended ≡ ended → is_waiting m.waiting label ≡ waits →
      issue_refusal m (task_at m.tasks label) ≡ (if ended then Some TaskEnded else if waits then Some TaskWaiting else None)
  refusal ended waits has waiting =
      ap (issue_refusal m) is
      ∙ (λ i. if has i then Some TaskEnded else if (ap (is_waiting m.waiting) (place_of_task m.tasks label t is).2 ∙ waiting) i then Some TaskWaiting else None)

  -- of a task that waits it is refused
  pub issued_waiting : t.has_ended ≡ false → is_waiting m.waiting label ≡ true → (issued m label c).outcome ≡ Err TaskWaiting
  issued_waiting has waiting =
      ap (λ o. (issued_by m c o).outcome) is
      ∙ ap (λ r. (refused_or m r (checked m t c (fault_of m t c.verb))).outcome) (sym (ap (issue_refusal m) is) ∙ refusal false true has waiting)

  -- of a task that goes on it is checked
  pub issued_checked : (reason : Option Reason) → t.has_ended ≡ false → is_waiting m.waiting label ≡ false → reason_of m t c.verb ≡ reason →
      issued m label c ≡ refused_or m None (checked m t c (option_map condition_of reason))
  issued_checked reason has waiting checks =
      ap (issued_by m c) is
      ∙ (λ i. refused_or m ((sym (ap (issue_refusal m) is) ∙ refusal false false has waiting) i) (checked m t c (option_map condition_of (checks i))))

  -- and it may want memory if it takes some and its checks have passed
  pub wants_memory : t.has_ended ≡ false → is_waiting m.waiting label ≡ false → reason_of m t c.verb ≡ None → is_growing c.verb ≡ true → may_want m label c ≡ true
  wants_memory has waiting passes grows =
      (λ i. is_none (refusal false false has waiting i) && grows i && (ap (passes_checks m c.verb) is ∙ ap (λ r. is_none (option_map condition_of r)) passes) i)

-- the task of a command that is issued is found at its place, hasn't ended, and waits or doesn't
pub record IsIssuedTo (m : Machine) (label : Bytes) (at : ℕ) (t : Task) (waits : Bool) : Type 0 where
  pub of_label : task_at m.tasks label ≡ Some t
  pub there : slice_get m.tasks at ≡ Some t
  pub goes_on : t.has_ended ≡ false
  pub waiting : is_waiting m.waiting label ≡ waits

pub issued_to : {old : RegionValue} (now : RegionValue) (label : Bytes) (at : ℕ) (t : Task) (waits : Bool) → old ≡ now → slice_get now.machine.tasks at ≡ task_at now.machine.tasks label →
    slice_get old.machine.tasks at ≡ Some t → t.has_ended ≡ false → is_waiting old.machine.waiting label ≡ waits → IsIssuedTo now.machine label at t waits
issued_to now label at t waits seen found there goes_on waiting =
    let here = subst (λ v. slice_get v.machine.tasks at ≡ Some t) seen there in
    record {
      of_label = sym found ∙ here;
      there = here;
      goes_on = goes_on;
      waiting = subst (λ v. is_waiting v.machine.waiting label ≡ waits) seen waiting;
    }

-- it is awake if it doesn't wait
pub issued_awake : (m : Machine) (label : Bytes) (at : ℕ) (t : Task) → IsIssuedTo m label at t false → IsAwake m at
issued_awake m label at t to = λ s here.
    ap (λ x. is_waiting m.waiting x.label) (one_task m.tasks at here to.there) ∙ ap (is_waiting m.waiting) (place_of_task m.tasks label t to.of_label).2 ∙ to.waiting

-- what comes of its command is the step's
pub issued_told : (m : Machine) (label : Bytes) (c : Command) (at : ℕ) (t : Task) (reason : Option Reason) (x : Outcome) (new : Machine) → IsIssuedTo m label at t false → reason_of m t c.verb ≡ reason →
    with_outcome x new ≡ checked m t c (option_map condition_of reason) → ((issued m label c).outcome ≡ Ok x) × (new ≡ (issued m label c).machine)
issued_told m label c at t reason x new to checks told =
    let step = issued_checked m label c t to.of_label reason to.goes_on to.waiting checks in
    (ap (λ s. s.outcome) step ∙ ap (λ s. Ok s.outcome) (sym told), ap (λ s. s.machine) told ∙ ap (λ s. s.machine) (sym step))

-- and so is the check that fails
pub told_reason : (m : Machine) (label : Bytes) (verb : Verb) (at : ℕ) (t : Task) (reason : Option Reason) → IsIssuedTo m label at t false → reason_of m t verb ≡ reason →
    reason ≡ reason_for m label verb
told_reason m label verb at t reason to checks = sym checks ∙ ap (reason_by m verb) (sym to.of_label)

-- a refusal for want of memory, which may come and changes nothing, is the step's
pub refused_memory : {X : Type 0} (wants : Bool) (old : RegionValue) (s : Stepped (Result X Refused)) (r : Result X Refused) (new : RegionValue) →
    IsErr r × IsErrAnd r (λ e. e ≡ NoMemory) → wants ≡ true → new ≡ old → IsStep wants old s r new
refused_memory wants old s (Ok x) new is may same = absurd (false≢true is.0)
refused_memory wants old s (Err e) new is may same = subst (λ e. IsStep wants old s (Err e) new) (sym is.1) (may, same)

-- ---- A command that is issued, and passes its checks

-- its task may perform it
pub record IsPassed (m : Machine) (label : Bytes) (c : Command) (at : ℕ) (t : Task) : Type 0 where
  pub to : IsIssuedTo m label at t false
  pub passes : reason_of m t c.verb ≡ None
  pub may : MayPerform m at c.verb

pub passed : (m : Machine) (label : Bytes) (c : Command) (at : ℕ) (t : Task) (reason : Option Reason) → IsIssuedTo m label at t false → OfTask m.tasks at (λ s. reason ≡ reason_of m s c.verb) →
    IfNone reason (OfTask m.tasks at (λ s. IfSome (op_of m s c.verb) (λ o. length (key_of o) ≤ 255))) → reason ≡ None → IsPassed m label c at t
passed m label c at t reason to told short none = record {
  to = to;
  passes = sym (told t to.there) ∙ none;
  may = record {
    awake = issued_awake m label at t to;
    passed = λ s here. sym (told s here) ∙ none;
    short = subst (λ r. IfNone r (OfTask m.tasks at (λ s. IfSome (op_of m s c.verb) (λ o. length (key_of o) ≤ 255)))) none short;
  };
}

module _ (old : RegionValue) (label : Bytes) (c : Command) (at : ℕ) (t : Task) (p : IsPassed old.machine label c at t) where
  -- the step that its performance makes is the event's
  pub step_made : (o : Option Op) → op_of old.machine t c.verb ≡ o → (x : Outcome) (new : RegionValue) → IsStepOf old at (going_on old.machine c o) x new →
      ((issued old.machine label c).outcome ≡ Ok x) × (new.machine ≡ (issued old.machine label c).machine)
  step_made o asked x new step =
      issued_told old.machine label c at t None x new.machine p.to p.passes (step.0 t p.to.there ∙ performed_by old.machine t c o asked)

  -- and so is a refusal, if it takes memory
  pub step_refused : (r : Result Outcome Refused) (new : RegionValue) → IsErr r × IsErrAnd r (λ e. e ≡ NoMemory) → is_growing c.verb ≡ true → new ≡ old →
      IsStep (may_want old.machine label c) old (issued old.machine label c) r new
  step_refused r new is grows same =
      refused_memory (may_want old.machine label c) old (issued old.machine label c) r new is (wants_memory old.machine label c t p.to.of_label p.to.goes_on p.to.waiting p.passes grows) same

-- ---- A command that updates nothing

-- the file of a command whose checks have passed is defined
pub file_there : (m : Machine) (t : Task) (verb : Verb) (f : Bytes) → file_named verb ≡ Some f → reason_of m t verb ≡ None →
    is_some (definition_of m f) ≡ true
file_there m t verb f named passes = by (definition_of m f) (subst (λ o. named_reason m t verb o ≡ None) named passes)
  where
    by : (o : Option FileDef) → defined_reason o (λ d. file_reason d (open_key m t f) (value_at f t.browses) verb) ≡ None → is_some o ≡ true
    by None e = cc
    by (Some d) e = refl

-- a command that moves a browse
abbrev pub moves_browse : Verb → Bool
moves_browse (ResetBr f key given generic equal) = true
moves_browse (ReadNext f n) = true
moves_browse (ReadPrev f n) = true
moves_browse _ = false

-- the browse of one whose checks have passed is open
pub browse_there : (m : Machine) (t : Task) (verb : Verb) (f : Bytes) → file_named verb ≡ Some f → moves_browse verb ≡ true → reason_of m t verb ≡ None →
    is_some (value_at f t.browses) ≡ true
browse_there m t verb f named moves passes = by (definition_of m f) (subst (λ o. named_reason m t verb o ≡ None) named passes)
  where
    last : (key : Option Reason) (browse : Option Position) → first_reason (key ∷ browse_reason browse ∷ []) ≡ None → is_some browse ≡ true
    last (Some reason) browse e = cc
    last None None e = cc
    last None (Some p) e = refl

    unless_open : (browse : Option Position) → browse_reason browse ≡ None → is_some browse ≡ true
    unless_open None e = cc
    unless_open (Some p) e = refl

    back : (browse : Option Position) → back_reason browse ≡ None → is_some browse ≡ true
    back None e = cc
    back (Some p) e = refl

    moving : (d : FileDef) (v : Verb) (browse : Option Position) → moves_browse v ≡ true → file_reason d (open_key m t f) browse v ≡ None → is_some browse ≡ true
    moving d (ResetBr g key given generic equal) browse moves e = last (key_reason d key given generic) browse e
    moving d (ReadNext g n) browse moves e = unless_open browse e
    moving d (ReadPrev g n) browse moves e = back browse e
    moving d v browse moves e = cc

    by : (o : Option FileDef) → defined_reason o (λ d. file_reason d (open_key m t f) (value_at f t.browses) verb) ≡ None → is_some (value_at f t.browses) ≡ true
    by None e = cc
    by (Some d) e = moving d verb (value_at f t.browses) moves e

-- what its checks have told of the task at a place that may perform a command: its file is defined,
-- and its browse is open
module _ (m : Machine) (at : ℕ) (verb : Verb) (f : Bytes) where
  pub file_of : at < length m.tasks → MayPerform m at verb → file_named verb ≡ Some f → is_some (definition_of m f) ≡ true
  file_of within may named = task_there m.tasks at within (λ t there. file_there m t verb f named (may.passed t there))

  pub browse_of : MayPerform m at verb → file_named verb ≡ Some f → moves_browse verb ≡ true → HasBrowse m at f
  browse_of may named moves = λ t there. browse_there m t verb f named moves (may.passed t there)

-- LENGTH of a DEQ whose checks have passed
pub deq_count : (m : Machine) (t : Task) (verb : Verb) (value : Bytes) (n : ℕ) → verb ≡ Deq value n → reason_of m t verb ≡ None →
    (1 ≤ n) × (n ≤ 255) × (n ≤ length value)
deq_count m t verb value n is passes = value_within value n (subst (λ v. reason_of m t v ≡ None) is passes)

-- and the value that it names, no longer than it may be
pub deq_fits : (m : Machine) (at : ℕ) (verb : Verb) (value : Bytes) (n : ℕ) (bytes : Bytes) → at < length m.tasks → MayPerform m at verb → verb ≡ Deq value n → bytes ≡ value →
    (n ≡ length (take n bytes)) × (length (take n bytes) ≤ 255)
deq_fits m at verb value n bytes within may is own =
    first_fit n value bytes own (task_there m.tasks at within (λ t there. deq_count m t verb value n is (may.passed t there)))
