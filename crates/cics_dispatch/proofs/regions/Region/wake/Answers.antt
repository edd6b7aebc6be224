use Rattle.std.specs.Prelude.{◌≡◌, Bool, true, false, All, refl}
use Rattle.std.proofs.Common.{◌∙◌, sym, ap, subst, IfSome, IfNone, Ok}
use Rattle.std.proofs.lemmas.Bool.{false≢true}
use Rattle.cics_dispatch.specs.Notes.Notes.{NotesValue}
use Rattle.cics_dispatch.specs.Machine.Machine.{Machine}
use Rattle.cics_dispatch.specs.declared.machine.findings.Free.{Free}
use Rattle.cics_dispatch.specs.Machine.Notes.{AreNotedNow, IsFreeAt, AreSettled, IsRemembered}
use Rattle.cics_dispatch.specs.Machine.Settled.{IsInTime}
use Rattle.cics_dispatch.specs.Machine.Waking.{woken}
use Rattle.cics_dispatch.specs.Machine.Answers.{IsHeadlineRegion, IsSerializableRegion}
use Rattle.cics_dispatch.specs.Machine.Tasks.{had_by, own_unit}
use Rattle.cics_dispatch.proofs.OfMachine.Deadlines.{due_within}
use Rattle.cics_dispatch.proofs.OfMachine.FirstWaits.{first_woken}
use Rattle.cics_dispatch.proofs.OfMachine.RegionPerforming.{refused_memory}
use Rattle.cics_dispatch.proofs.OfMachine.RegionRemembers.{woken_settled, settled_free, remembered_woken}
use Rattle.cics_dispatch.proofs.regions.Region.wake.Goals as goal

-- right notes are remembered while a command may have to be looked at
noted_so_far : (m : Machine) (v : NotesValue) (is_settled is_in_time : Bool) → is_settled ≡ false → AreNotedNow m v → (is_in_time ≡ true → All (IsInTime m) m.waiting) → IsRemembered m v is_settled is_in_time
noted_so_far m v is_settled is_in_time unsettled noted early = record { noted = noted; settled = λ is. absurd (false≢true (sym unsettled ∙ is)); in_time = early }

pub returns-then-self-clause-step : goal.returns-then-self-clause-step
returns-then-self-clause-step c =
    let u = c.self.inside in
    let none = woken_settled u.dispatcher.machine u.notes u.is_settled u.is_in_time c.self.invariant.0.tasks c.self.invariant.1 c.if-self.true in (
      ap (λ v. Ok (woken v.machine).outcome) (sym c.self.view_is) ∙ ap (λ s. Ok s.outcome) none,
      ap (λ v. v.machine) (sym c.self.view_is) ∙ sym (ap (λ s. s.machine) none) ∙ ap (λ v. (woken v.machine).machine) c.self.view_is,
    )

pub returns-then-self-clause-headline : goal.returns-then-self-clause-headline
returns-then-self-clause-headline c = subst IsHeadlineRegion c.self.view_is c.self.invariant.0.headline

pub returns-then-self-clause-serializable : goal.returns-then-self-clause-serializable
returns-then-self-clause-serializable c = subst IsSerializableRegion c.self.view_is c.self.invariant.0.serializable

pub returns-in_default-clause-step : goal.returns-in_default-clause-step
returns-in_default-clause-step c =
    let m = c.self.inside.dispatcher.machine in
    let settled = subst (λ o. IfNone o (AreSettled m c.first_free.new.notes)) c.in_default.is c.in_ok-free.ensures.none in
    let none = settled_free m c.first_free.new.notes c.self.invariant.0.tasks c.first_free.ensures.noted settled in (
      ap (λ v. Ok (woken v.machine).outcome) (sym c.self.view_is) ∙ ap (λ s. Ok s.outcome) none,
      sym (ap (λ s. s.machine) none) ∙ ap (λ v. (woken v.machine).machine) c.self.view_is,
    )

pub remove-requires-clause-timed : goal.remove-requires-clause-timed
remove-requires-clause-timed c =
    let m = c.self.inside.dispatcher.machine in
    let v = c.first_free.new.notes in
    let free = subst (λ o. IfSome o (λ (f : Free). IsFreeAt m v f.place f.label)) c.in-Some.is c.in_ok-free.ensures.first in
    due_within m.tasks v.rows m.waiting v.deadlines c.in-Some.free.place free.note c.first_free.ensures.noted.due free.there

pub returns : goal.returns
returns c =
    let step = c.in_ok-woken.ensures.step ∙ ap (λ v. woken v.machine) c.self.view_is in
    record {
      step = (sym (ap (λ s. Ok s.outcome) step), ap (λ s. s.machine) step);
      first = first_woken c.args.self.now.machine c.wake.new.self.machine c.in_ok-woken.woken step;
      headline = (c.in_ok-woken.ensures.kept c.self.invariant.0).headline;
      serializable = (c.in_ok-woken.ensures.kept c.self.invariant.0).serializable;
    }

pub invariant_of-self-2 : goal.invariant_of-self-2
invariant_of-self-2 c =
    let u = c.self.inside in
    let m = u.dispatcher.machine in (
      c.in_ok-woken.ensures.kept c.self.invariant.0,
      remembered_woken m c.wake.new.self.machine c.first_free.new.notes c.remove.new.self c.forget.new.self c.in-Some.free.place c.in-Some.free.label c.unit_of-unit.result u.is_settled u.is_in_time c.self.invariant.0.tasks
          c.note_rest.ensures.once c.first_free.ensures.noted (subst (λ o. IfSome o (λ (f : Free). IsFreeAt m c.first_free.new.notes f.place f.label)) c.in-Some.is c.in_ok-free.ensures.first)
          (λ t there. c.unit_of-unit.ensures ∙ ap (had_by own_unit) there) (ap (λ s. s.machine) c.in_ok-woken.ensures.step) c.remove.ensures.rows c.remove.ensures.blockers c.remove.ensures.resources c.remove.ensures.deadlines c.forget.ensures.rows
          c.forget.ensures.blockers c.forget.ensures.resources c.forget.ensures.deadlines c.if-self.false c.self.invariant.1.in_time,
    )

-- ---- The notes may change, and the machine may stay
pub invariant_of-self : goal.invariant_of-self
invariant_of-self c =
    let u = c.self.inside in
    (c.self.invariant.0, noted_so_far u.dispatcher.machine c.note_rest.new.notes u.is_settled u.is_in_time c.if-self.false c.note_rest.ensures.noted c.self.invariant.1.in_time)

pub invariant_of-self-in_err-free : goal.invariant_of-self-in_err-free
invariant_of-self-in_err-free c =
    let u = c.self.inside in
    (c.self.invariant.0, noted_so_far u.dispatcher.machine c.first_free.new.notes u.is_settled u.is_in_time c.if-self.false c.first_free.ensures.noted c.self.invariant.1.in_time)

pub invariant_of-self-in_default : goal.invariant_of-self-in_default
invariant_of-self-in_default c = (
  c.self.invariant.0,
  record {
    noted = c.first_free.ensures.noted;
    settled = λ is. subst (λ o. IfNone o (AreSettled c.self.inside.dispatcher.machine c.first_free.new.notes)) c.in_default.is c.in_ok-free.ensures.none;
    in_time = c.self.invariant.1.in_time;
  },
)

pub invariant_of-self-in_err-woken : goal.invariant_of-self-in_err-woken
invariant_of-self-in_err-woken c =
    let u = c.self.inside in (
      c.in_err-woken.ensures.kept c.self.invariant.0,
      subst (λ v. IsRemembered v.machine c.first_free.new.notes u.is_settled u.is_in_time) (sym c.in_err-woken.ensures.err)
          (noted_so_far u.dispatcher.machine c.first_free.new.notes u.is_settled u.is_in_time c.if-self.false c.first_free.ensures.noted c.self.invariant.1.in_time),
    )

pub returns-in_err-note_rest-clause-step : goal.returns-in_err-note_rest-clause-step
returns-in_err-note_rest-clause-step c = refused_memory _ _ _ c.from_residual.result _ c.from_residual.ensures refl c.self.view_is

pub returns-in_err-free-clause-step : goal.returns-in_err-free-clause-step
returns-in_err-free-clause-step c = refused_memory _ _ _ c.from_residual-in_err-free.result _ c.from_residual-in_err-free.ensures refl c.self.view_is

pub returns-in_err-woken-clause-step : goal.returns-in_err-woken-clause-step
returns-in_err-woken-clause-step c = refused_memory _ _ _ c.from_residual-in_err-woken.result _ c.from_residual-in_err-woken.ensures refl (c.in_err-woken.ensures.err ∙ c.self.view_is)

pub returns-in_err-note_rest-clause-headline : goal.returns-in_err-note_rest-clause-headline
returns-in_err-note_rest-clause-headline c = c.self.invariant.0.headline

pub returns-in_err-note_rest-clause-serializable : goal.returns-in_err-note_rest-clause-serializable
returns-in_err-note_rest-clause-serializable c = c.self.invariant.0.serializable

pub returns-in_err-free-clause-headline : goal.returns-in_err-free-clause-headline
returns-in_err-free-clause-headline c = c.self.invariant.0.headline

pub returns-in_err-free-clause-serializable : goal.returns-in_err-free-clause-serializable
returns-in_err-free-clause-serializable c = c.self.invariant.0.serializable

pub returns-in_default-clause-headline : goal.returns-in_default-clause-headline
returns-in_default-clause-headline c = c.self.invariant.0.headline

pub returns-in_default-clause-serializable : goal.returns-in_default-clause-serializable
returns-in_default-clause-serializable c = c.self.invariant.0.serializable

pub returns-in_err-woken-clause-headline : goal.returns-in_err-woken-clause-headline
returns-in_err-woken-clause-headline c = (c.in_err-woken.ensures.kept c.self.invariant.0).headline

pub returns-in_err-woken-clause-serializable : goal.returns-in_err-woken-clause-serializable
returns-in_err-woken-clause-serializable c = (c.in_err-woken.ensures.kept c.self.invariant.0).serializable

-- ---- What the calls require
pub first_free-requires-clause-kept : goal.first_free-requires-clause-kept
first_free-requires-clause-kept c = c.self.invariant.0.tasks

pub first_free-requires-clause-noted : goal.first_free-requires-clause-noted
first_free-requires-clause-noted c = c.note_rest.ensures.noted

pub first_free-requires-clause-all : goal.first_free-requires-clause-all
first_free-requires-clause-all c = c.in_ok-note_rest.ensures.all

pub wake-requires : goal.wake-requires
wake-requires c =
    let free = subst (λ o. IfSome o (λ (f : Free). IsFreeAt c.self.inside.dispatcher.machine c.first_free.new.notes f.place f.label)) c.in-Some.is c.in_ok-free.ensures.first in
    record { first = free.first }

pub remove-requires-clause-there : goal.remove-requires-clause-there
remove-requires-clause-there c =
    let free = subst (λ o. IfSome o (λ (f : Free). IsFreeAt c.self.inside.dispatcher.machine c.first_free.new.notes f.place f.label)) c.in-Some.is c.in_ok-free.ensures.first in
    (free.note, free.there)
