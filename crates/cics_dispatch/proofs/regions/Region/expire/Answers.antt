use Rattle.std.proofs.Common.{◌≡◌, ◌∙◌, sym, ap, subst, map, Some}
use Rattle.cics_dispatch.specs.Notes.Notes.{given_up, forgotten, without, without_deadline, IsPlaceOf}
use Rattle.cics_dispatch.specs.Machine.Waking.{expired, expired_task, first_late}
use Rattle.cics_dispatch.proofs.OfMachine.Deadlines.{due_dropped}
use Rattle.cics_dispatch.proofs.OfMachine.Noted.{noted_dropped}
use Rattle.cics_dispatch.specs.Machine.Answers.{IsHeadlineRegion, IsSerializableRegion}
use Rattle.cics_dispatch.proofs.OfMachine.RegionSteps.{task_there}
use Rattle.cics_dispatch.proofs.OfMachine.RegionRemembers.{expired_in_time, remembered_early, remembered_expired, note_at}
use Rattle.cics_dispatch.specs.Machine.First.{IsFirstTooLate}
use Rattle.cics_dispatch.proofs.OfMachine.FirstWaits.{first_expired}
use Rattle.cics_dispatch.proofs.regions.Region.expire.Goals as goal

pub returns-then-self-clause-outcome : goal.returns-then-self-clause-outcome
returns-then-self-clause-outcome c =
    let u = c.self.inside in
    let none = expired_in_time u.dispatcher.machine u.notes u.is_settled u.is_in_time c.self.invariant.1 c.if-self.true in
    sym (ap (λ v. (expired v.machine).outcome) (sym c.self.view_is) ∙ ap (λ s. s.outcome) none)

pub returns-then-self-clause-machine : goal.returns-then-self-clause-machine
returns-then-self-clause-machine c =
    let u = c.self.inside in
    let none = expired_in_time u.dispatcher.machine u.notes u.is_settled u.is_in_time c.self.invariant.1 c.if-self.true in
    ap (λ v. v.machine) (sym c.self.view_is) ∙ sym (ap (λ s. s.machine) none) ∙ ap (λ v. (expired v.machine).machine) c.self.view_is

pub returns-then-self-clause-headline : goal.returns-then-self-clause-headline
returns-then-self-clause-headline c = subst IsHeadlineRegion c.self.view_is c.self.invariant.0.headline

pub returns-then-self-clause-serializable : goal.returns-then-self-clause-serializable
returns-then-self-clause-serializable c = subst IsSerializableRegion c.self.view_is c.self.invariant.0.serializable

pub invariant_of-self : goal.invariant_of-self
invariant_of-self c =
    let u = c.self.inside in
    (c.self.invariant.0, remembered_early u.dispatcher.machine u.notes u.is_settled u.is_in_time c.self.invariant.1 c.in_default.ensures.none)

pub remove_any-requires : goal.remove_any-requires
remove_any-requires c =
    let u = c.self.inside in
    let m = u.dispatcher.machine in
    let late = c.in-Some.late in
    task_there m.tasks late.task c.in-Some.ensures.within (λ t there. note_at m u.notes t.label late.note c.self.invariant.1.noted (c.in-Some.ensures.note t there))

pub invariant_of-self-2 : goal.invariant_of-self-2
invariant_of-self-2 c =
    let u = c.self.inside in
    let m = u.dispatcher.machine in
    let v = u.notes in
    let n = c.time_out-expired.new.self.machine in
    let late = c.in-Some.late in
    let mid = c.remove_any.ensures in
    let new = c.forget.ensures in
    let unit = c.unit_at-unit.result in (
      c.time_out-expired.ensures.kept c.self.invariant.0,
      task_there m.tasks late.task c.in-Some.ensures.within (λ t there.
          let first : first_late m m.waiting ≡ Some t = sym c.in-Some.ensures.task ∙ there in
          let place : IsPlaceOf t.label v.rows late.note = c.in-Some.ensures.note t there in
          let noted = noted_dropped m v.resources v.blockers t.label v.rows m.waiting late.note c.in-Some.ensures.once place c.self.invariant.1.noted.noted in
          let due = due_dropped m.tasks t.label v.rows m.waiting v.deadlines late.note c.in-Some.ensures.once place c.self.invariant.1.noted.due in
          remembered_expired m n v c.forget.new.self (without v.rows late.note) (without_deadline v.deadlines late.note) u.is_in_time t unit c.self.invariant.0.tasks noted due first
          (c.unit_at-unit.ensures.unit t there) (ap (λ s. s.machine) c.time_out-expired.ensures.step) (new.rows ∙ ap (map (forgotten unit)) mid.rows) (new.blockers ∙ ap (map (given_up unit)) mid.blockers)
          (new.resources ∙ mid.resources) (new.deadlines ∙ mid.deadlines) c.if-self.false),
    )

pub returns-clause-first : goal.returns-clause-first
returns-clause-first c =
    let u = c.self.inside in
    let e = c.time_out-expired.result in
    subst (λ v. IsFirstTooLate v.machine e.label) c.self.view_is (first_expired u.dispatcher.machine c.time_out-expired.new.self.machine e c.time_out-expired.ensures.step)

pub returns-in_default-clause-outcome : goal.returns-in_default-clause-outcome
returns-in_default-clause-outcome c = sym (ap (λ o. (expired_task c.self.inside.dispatcher.machine o).outcome) c.in_default.ensures.none) ∙ ap (λ v. (expired v.machine).outcome) c.self.view_is

pub returns-in_default-clause-machine : goal.returns-in_default-clause-machine
returns-in_default-clause-machine c = sym (ap (λ o. (expired_task c.self.inside.dispatcher.machine o).machine) c.in_default.ensures.none) ∙ ap (λ v. (expired v.machine).machine) c.self.view_is

pub returns-in_default-clause-headline : goal.returns-in_default-clause-headline
returns-in_default-clause-headline c = c.self.invariant.0.headline

pub returns-in_default-clause-serializable : goal.returns-in_default-clause-serializable
returns-in_default-clause-serializable c = c.self.invariant.0.serializable

pub time_out-expired-requires-clause-within : goal.time_out-expired-requires-clause-within
time_out-expired-requires-clause-within c = c.in-Some.ensures.within

pub time_out-expired-requires-clause-first : goal.time_out-expired-requires-clause-first
time_out-expired-requires-clause-first c = c.in-Some.ensures.task

pub returns-clause-outcome : goal.returns-clause-outcome
returns-clause-outcome c = ap (λ s. s.outcome) c.time_out-expired.ensures.step ∙ ap (λ v. (expired v.machine).outcome) c.self.view_is

pub returns-clause-machine : goal.returns-clause-machine
returns-clause-machine c = ap (λ s. s.machine) c.time_out-expired.ensures.step ∙ ap (λ v. (expired v.machine).machine) c.self.view_is

pub returns-clause-headline : goal.returns-clause-headline
returns-clause-headline c = (c.time_out-expired.ensures.kept c.self.invariant.0).headline

pub returns-clause-serializable : goal.returns-clause-serializable
returns-clause-serializable c = (c.time_out-expired.ensures.kept c.self.invariant.0).serializable
