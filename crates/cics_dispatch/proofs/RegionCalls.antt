-- The step of a call of a region: refused after a shutdown, refused with an error that is passed on,
-- or made by its dispatcher. What a request leads to, and when it may take memory.
use Rattle.std.specs.Prelude.{◌≡◌, ◌&&◌, Bool, true, false, if◌then◌else◌, Option, Result, Ok, Err, IfOk, OnOk, OnErr, IsTrue, refl}
use Rattle.std.specs.Result.{IsErr, IsErrAnd}
use Rattle.std.proofs.Common.{◌∙◌, sym, ap, subst}
use Rattle.std.proofs.lemmas.Bool.{false≢true}
use Rattle.cics_dispatch.specs.Machine.Machine.{Machine, RegionValue}
use Rattle.cics_names.specs.Keyed.{Bytes}
use Rattle.cics_names.specs.declared.commands.Command.{Command}
use Rattle.cics_dispatch.specs.Machine.Checks.{reason_for}
use Rattle.cics_dispatch.specs.Machine.Events.{happened, issued_event, played, IsAsBeforeIfRefused}
use Rattle.cics_dispatch.specs.Machine.Steps.{Stepped, issued}
use Rattle.cics_dispatch.specs.Machine.Answers.{IsStep}
use Rattle.cics_dispatch.specs.Machine.Shutdown.{IsRegionStep, unless_down}
use Rattle.cics_dispatch.specs.declared.machine.outcomes.Refused.{Refused}
use Rattle.cics_dispatch.specs.declared.machine.outcomes.Refused.TheVariants.{RegionDown, NoMemory}
use Rattle.cics_dispatch.specs.declared.machine.outcomes.Outcome.{Outcome}
use Rattle.cics_dispatch.specs.declared.machine.reasons.Reason.{Reason}
use Rattle.cics_dispatch.specs.declared.machine.events.Event.{Event}
use Rattle.cics_dispatch.specs.declared.machine.events.Event.TheVariants as event
use Rattle.cics_dispatch.specs.declared.machine.events.Subject.{Subject}
use Rattle.cics_dispatch.specs.declared.machine.events.Request.TheVariants as request
use Rattle.cics_dispatch.specs.declared.machine.events.Subject.TheVariants as subject
use Rattle.cics_dispatch.proofs.OfMachine.RegionShutdown.{up_step}

module _ {X : Type 0} (wants : Machine → Bool) (step : Machine → Stepped (Result X Refused)) (r : Result X Refused) where
  -- an error that is passed on is the step's
  pub passed_on : (old new : RegionValue) (e : Refused) → IsErr r × IsErrAnd r (λ f. f ≡ e) → IsRegionStep (wants old.machine) old (step old.machine) (Err e) new →
      IsRegionStep (wants old.machine) old (step old.machine) r new
  passed_on old new e = by r
    where
      by : (s : Result X Refused) → IsErr s × IsErrAnd s (λ f. f ≡ e) → IsRegionStep (wants old.machine) old (step old.machine) (Err e) new → IsRegionStep (wants old.machine) old (step old.machine) s new
      by (Ok x) is made = absurd (false≢true is.0)
      by (Err f) is made = subst (λ g. IsRegionStep (wants old.machine) old (step old.machine) (Err g) new) (sym is.1) made

  -- a region that is shut down refuses each event
  pub refused_down : (old : RegionValue) (e : Refused) → IsErr r × IsErrAnd r (λ f. f ≡ e) → (e ≡ RegionDown) × (old.machine.is_down ≡ true) → IsRegionStep (wants old.machine) old (step old.machine) r old
  refused_down old e is down = passed_on old old e is (subst (λ f. IsRegionStep (wants old.machine) old (step old.machine) (Err f) old) (sym down.0)
      (ap (λ b. (if b then record { outcome = Err RegionDown; machine = old.machine } else step old.machine).outcome) down.1, refl))

  -- the dispatcher of a region that isn't shut down makes the region's step
  pub made_up : (d old new : RegionValue) → d ≡ old → old.machine.is_down ≡ false → IsStep (wants d.machine) d (step d.machine) r new → IsRegionStep (wants old.machine) old (step old.machine) r new
  made_up d old new same up made =
      subst (λ v. IsRegionStep (wants v.machine) v (step v.machine) r new) same (up_step (wants d.machine) d new (step d.machine) r (ap (λ v. v.machine.is_down) same ∙ up) made)

-- ---- A request that is refused for want of memory

-- it may take memory, if its step may
pub wanting : {X A E : Type 0} (Q : Type 0) (wants : Bool) (old new : RegionValue) (s : Stepped (Result X Refused)) (e : Refused) (r : Result A E) → (IsTrue wants → Q) →
    IsStep wants old s (Err e) new → OnErr r (e ≡ NoMemory) → OnErr r Q
wanting Q wants old new s e (Ok a) may step memory = tt
wanting Q wants old new s e (Err x) may step memory = may (subst (λ f. IsStep wants old s (Err f) new) memory step).0

-- any other refusal is an event
pub told_so : {A E : Type 0} (Q : Type 0) (e : Refused) (r : Result A E) → (e ≡ NoMemory → ⊥) → OnErr r (e ≡ NoMemory) → OnErr r Q
told_so Q e (Ok a) other memory = tt
told_so Q e (Err x) other memory = absurd (other memory)

pub not_down : (e : Refused) → e ≡ RegionDown → e ≡ NoMemory → ⊥
not_down e down memory = let no : false ≡ true = cc (down, memory) in false≢true no

pub never_wants : (b : Bool) → IsTrue (b && false) → IsTrue false
never_wants true is = is
never_wants false is = is

-- ---- A command that is issued

-- what it leads to, as an event
pub issued_played : (m : Machine) (label : Bytes) (c : Command) (x : Outcome) (reason : Option Reason) (next : Machine) → (unless_down m (issued m label c)).outcome ≡ Ok x →
    next ≡ (unless_down m (issued m label c)).machine → reason ≡ reason_for m label c.verb →
    (event.Issued label x reason ≡ (played m (request.Issue label c)).event) × (next ≡ (played m (request.Issue label c)).machine)
issued_played m label c x reason next is leaves fails =
    let s = unless_down m (issued m label c) in
    let told : played m (request.Issue label c) ≡ happened m (subject.Task label) (issued_event m label c) (Ok x) s.machine =
    ap (λ r. happened m (subject.Task label) (issued_event m label c) r s.machine) is in
    (ap (event.Issued label x) fails ∙ ap (λ h. h.event) (sym told), leaves ∙ ap (λ h. h.machine) (sym told))

-- a refused event of a command is its step's refusal
pub issue_refused : (wants : Bool) (old new : RegionValue) (label : Bytes) (c : Command) (who : Subject) (e : Refused) →
    event.Refused who e ≡ (played old.machine (request.Issue label c)).event → IsAsBeforeIfRefused old new (event.Refused who e) →
    IsStep wants old (unless_down old.machine (issued old.machine label c)) (Err e) new
issue_refused wants old new label c who e told left = by e left.0 (outcome s.outcome told) left.1
  where
    s : Stepped (Result Outcome Refused)
    s = unless_down old.machine (issued old.machine label c)

    outcome : (r : Result Outcome Refused) → event.Refused who e ≡ (happened old.machine (subject.Task label) (issued_event old.machine label c) r s.machine).event → r ≡ Err e
    outcome (Ok x) is = let no : false ≡ true = cc is in absurd (false≢true no)
    outcome (Err f) is = cc is

    by : (f : Refused) → (f ≡ NoMemory → ⊥) → s.outcome ≡ Err f → new ≡ old → IsStep wants old s (Err f) new
    by NoMemory other is same = absurd (other refl)
    by f other is same = (is, same)

-- what tells of a refusal
pub refused_as_before : {E : Type 0} (old new : RegionValue) (who : Subject) (e : Refused) (r : Result Event E) →
    IfOk r (λ x. x ≡ event.Refused who e) → OnOk r (e ≡ NoMemory → ⊥) → new ≡ old → IfOk r (IsAsBeforeIfRefused old new)
refused_as_before old new who e (Ok x) told other same = subst (IsAsBeforeIfRefused old new) (sym told) (other, same)
refused_as_before old new who e (Err f) told other same = tt
