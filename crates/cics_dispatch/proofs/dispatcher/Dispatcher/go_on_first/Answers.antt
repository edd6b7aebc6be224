use Rattle.std.proofs.Common.{◌≡◌, ◌∙◌, sym, ap, subst, Some, None, ◌<◌, length}
use Rattle.std.specs.Prelude.{slice_get}
use Rattle.cics_dispatch.specs.Machine.Machine.{task_at}
use Rattle.cics_dispatch.specs.Machine.KeptTasks.{IsWaitKept}
use Rattle.cics_dispatch.specs.Machine.Steps.{with_outcome}
use Rattle.cics_dispatch.specs.Machine.Waking.{woken_first, went_on, first_free}
use Rattle.cics_dispatch.proofs.OfMachine.RegionSteps.{task_there, tried_told, tried_waits}
use Rattle.cics_dispatch.proofs.OfMachine.RegionWaking.{first_free_has, first_free_awaits, went_alone}
use Rattle.cics_dispatch.proofs.OfMachine.Looks.{wait_of_label, first_found, first_there, first_has_task}
use Rattle.cics_dispatch.proofs.dispatcher.Dispatcher.go_on_first.Goals as goal

pub unreachable-requires : goal.unreachable-requires
unreachable-requires c = first_there c.args.self.now.machine c.args.waits.now c.args.label c.get.ensures.once c.requires.first c.in_default.ensures.wait

pub unreachable-requires-in_default-find : goal.unreachable-requires-in_default-find
unreachable-requires-in_default-find c =
    first_has_task c.args.self.now.machine c.args.waits.now c.args.label c.requires.first
    (subst (λ v. task_at v.machine.tasks c.args.label ≡ None) c.self.view_is c.in_default-find.ensures.none)

pub attempt-requires-clause-ready : goal.attempt-requires-clause-ready
attempt-requires-clause-ready c = λ s there.
    let m = c.args.self.now.machine in
    let ws = c.args.waits.now in
    let w = c.in-Some.wait.now in
    let at = c.in-Some-find.at in
    let task : slice_get m.tasks at ≡ task_at m.tasks c.args.label = subst (λ v. slice_get v.machine.tasks at ≡ task_at v.machine.tasks c.args.label) c.self.view_is c.in-Some-find.ensures.task in
    let own : w.label ≡ c.args.label = wait_of_label w ws c.args.label (sym c.in-Some.ensures.wait) in
    let first : first_free m ws ≡ Some w = first_found m ws c.args.label (Some w) c.get.ensures.once c.requires.first c.in-Some.ensures.wait in
    (first_free_has (IsWaitKept m) m w ws c.requires.kept first).ready s (ap (task_at m.tasks) own ∙ sym task ∙ there)

pub unreachable-requires-in-MustWait : goal.unreachable-requires-in-MustWait
unreachable-requires-in-MustWait c =
    let m = c.args.self.now.machine in
    let ws = c.args.waits.now in
    let w = c.in-Some.wait.now in
    let at = c.in-Some-find.at in
    let task : slice_get m.tasks at ≡ task_at m.tasks c.args.label = subst (λ v. slice_get v.machine.tasks at ≡ task_at v.machine.tasks c.args.label) c.self.view_is c.in-Some-find.ensures.task in
    let own : w.label ≡ c.args.label = wait_of_label w ws c.args.label (sym c.in-Some.ensures.wait) in
    let first : first_free m ws ≡ Some w = first_found m ws c.args.label (Some w) c.get.ensures.once c.requires.first c.in-Some.ensures.wait in
    let within : at < length m.tasks = subst (λ v. at < length v.machine.tasks) c.self.view_is c.in-Some-find.ensures.within in
    let tried = tried_waits c.args.self.now c.attempt.new.self at w.command w.op c.in_ok-outcome.field-0 _ _ c.in-MustWait.is c.in_ok-outcome.ensures.attempt in
    task_there m.tasks at within (λ t there.
    let both : None ≡ Some _ = sym (first_free_awaits m w ws t first (ap (task_at m.tasks) own ∙ sym task ∙ there)) ∙ tried.0.0 t there in cc)

pub returns-clause-step : goal.returns-clause-step
returns-clause-step c =
    let m = c.args.self.now.machine in
    let ws = c.args.waits.now in
    let w = c.in-Some.wait.now in
    let at = c.in-Some-find.at in
    let task : slice_get m.tasks at ≡ task_at m.tasks c.args.label = subst (λ v. slice_get v.machine.tasks at ≡ task_at v.machine.tasks c.args.label) c.self.view_is c.in-Some-find.ensures.task in
    let within : at < length m.tasks = subst (λ v. at < length v.machine.tasks) c.self.view_is c.in-Some-find.ensures.within in
    let own : w.label ≡ c.args.label = wait_of_label w ws c.args.label (sym c.in-Some.ensures.wait) in
    let first : first_free m ws ≡ Some w = first_found m ws c.args.label (Some w) c.get.ensures.once c.requires.first c.in-Some.ensures.wait in
    let outcome = c.in-Told.outcome in
    let n = c.attempt.new.self.machine in
    let told = tried_told c.args.self.now c.attempt.new.self at w.command w.op c.in_ok-outcome.field-0 outcome c.in-Told.is c.in_ok-outcome.ensures.attempt in
    task_there m.tasks at within (λ t there.
    (λ i. with_outcome (Some (record { label = sym own i; outcome = outcome })) n)
    ∙ went_alone m w t outcome n c.requires.alone (told.0 t there)
    ∙ ap (went_on m w) (sym (ap (task_at m.tasks) own ∙ sym task ∙ there)) ∙ ap (woken_first m) (sym first))
