use Rattle.std.proofs.Common.{◌≡◌, ◌∙◌, sym, subst, refl, true, false, Ok, Err}
use Rattle.std.proofs.lemmas.Bool.{false≢true}
use Rattle.std.specs.Prelude.{◌&&◌, not, if◌then◌else◌, IsTrue, None}
use Rattle.cics_dispatch.specs.Machine.Answers.{may_want, attach_may_want}
use Rattle.cics_dispatch.specs.Machine.Checks.{reason_for}
use Rattle.cics_dispatch.specs.Machine.Events.{played, may_want_memory}
use Rattle.cics_dispatch.specs.Machine.Settled.{goes_on}
use Rattle.cics_dispatch.specs.Machine.Shutdown.{unless_down, shut_down}
use Rattle.cics_dispatch.specs.Machine.Steps.{attached, issued}
use Rattle.cics_dispatch.specs.Machine.Waking.{clock_set}
use Rattle.cics_dispatch.specs.declared.machine.events.Event.TheVariants as event
use Rattle.cics_dispatch.specs.declared.machine.outcomes.Refused.TheVariants.{NoTask}
use Rattle.cics_dispatch.proofs.OfMachine.RegionRemembers.{remembered_issued}
use Rattle.cics_dispatch.proofs.RegionCalls.{made_up, wanting, told_so, not_down, never_wants, issued_played}
use Rattle.cics_dispatch.proofs.regions.Region.play.Goals as goal

pub invariant_of-self : goal.invariant_of-self
invariant_of-self c =
    let u = c.self.inside in
    let outcome = c.in-Ok-issue.outcome in
    let forgot = c.forget-was_blocker in (
      c.in-Ok-issue.ensures.kept c.self.invariant.0,
      remembered_issued u.dispatcher.machine c.issue.new.self.machine c.in-Issue.label c.in-Issue.command outcome u.notes forgot.new.self u.is_settled u.is_in_time
          forgot.result c.is_waiting-waits.result (u.is_settled && (not forgot.result && not c.is_waiting-waits.result)) c.unit_at-unit.result c.giving_up.result c.self.invariant.0.tasks c.self.invariant.1 (λ t there. c.unit_at-unit.ensures.unit t (c.in-Some.ensures.task ∙ there))
          c.in-Ok-issue.ensures.step.0 c.in-Ok-issue.ensures.step.1 (c.giving_up.ensures ∙ (λ i. if c.is_keeping-keeps.ensures i && goes_on outcome then None else c.unit_at-unit.result))
          forgot.ensures.rows forgot.ensures.blockers forgot.ensures.none forgot.ensures.resources forgot.ensures.deadlines c.is_waiting-waits.ensures refl,
    )

pub returns-in-Ok-issue-clause-played : goal.returns-in-Ok-issue-clause-played
returns-in-Ok-issue-clause-played c =
    let label = c.in-Issue.label in
    let k = c.in-Issue.command in
    let d = c.self.inside.dispatcher in
    let m = c.args.self.now.machine in
    let step = made_up (λ m. may_want m label k) (λ m. issued m label k) (Ok c.in-Ok-issue.outcome) d c.args.self.now c.issue.new.self c.self.view_is c.in_default.ensures.up c.in-Ok-issue.ensures.step in
    subst (λ q. (event.Issued label c.in-Ok-issue.outcome c.issue.new.reason ≡ (played m q).event) × (c.issue.new.self.machine ≡ (played m q).machine)) (sym c.in-Issue.is)
    (issued_played m label k c.in-Ok-issue.outcome c.issue.new.reason c.issue.new.self.machine step.0 step.1
    (subst (λ v. c.issue.new.reason ≡ reason_for v.machine label k.verb) c.self.view_is c.in-Ok-issue.ensures.reason))

-- ---- What may take memory

pub returns-in-Err-clause-memory : goal.returns-in-Err-clause-memory
returns-in-Err-clause-memory c =
    let m = c.args.self.now.machine in
    let asks = c.in-Attach in
    wanting (IsTrue (may_want_memory m c.args.request)) (not m.is_down && attach_may_want m asks.label) c.args.self.now c.attach.new.self (unless_down m (attached m asks.label asks.dtimout)) c.in-Err.refusal c.refused.result
    (subst (λ q. IsTrue (may_want_memory m q)) (sym asks.is)) c.in-Err.ensures.step c.refused.ensures.memory

pub returns-in-Err-set_clock-clause-memory : goal.returns-in-Err-set_clock-clause-memory
returns-in-Err-set_clock-clause-memory c =
    let m = c.args.self.now.machine in
    wanting (IsTrue (may_want_memory m c.args.request)) (not m.is_down && false) c.args.self.now c.set_clock.new.self (unless_down m (clock_set m c.in-Clock.seconds)) c.in-Err-set_clock.refusal c.refused-in-Err-set_clock.result
    (λ wants. subst (λ q. IsTrue (may_want_memory m q)) (sym c.in-Clock.is) (never_wants (not m.is_down) wants)) c.in-Err-set_clock.ensures.step c.refused-in-Err-set_clock.ensures.memory

pub returns-in-Err-shutdown-clause-memory : goal.returns-in-Err-shutdown-clause-memory
returns-in-Err-shutdown-clause-memory c =
    let m = c.args.self.now.machine in
    wanting (IsTrue (may_want_memory m c.args.request)) (not m.is_down && false) c.args.self.now c.shutdown.new.self (unless_down m (shut_down m)) c.in-Err-shutdown.refusal c.refused-in-Err-shutdown.result
    (λ wants. subst (λ q. IsTrue (may_want_memory m q)) (sym c.in-Shutdown.is) (never_wants (not m.is_down) wants)) c.in-Err-shutdown.ensures.step c.refused-in-Err-shutdown.ensures.memory

pub returns-in-Err-refuse_if_down-clause-memory : goal.returns-in-Err-refuse_if_down-clause-memory
returns-in-Err-refuse_if_down-clause-memory c =
    told_so (IsTrue (may_want_memory c.args.self.now.machine c.args.request)) c.in-Err-refuse_if_down.refusal c.refused-in-Err-refuse_if_down.result
    (not_down c.in-Err-refuse_if_down.refusal c.in-Err-refuse_if_down.ensures.down.0) c.refused-in-Err-refuse_if_down.ensures.memory

pub returns-in_default-find-clause-memory : goal.returns-in_default-find-clause-memory
returns-in_default-find-clause-memory c =
    told_so (IsTrue (may_want_memory c.args.self.now.machine c.args.request)) NoTask c.refused-in_default-find.result (λ memory. let no : false ≡ true = cc memory in false≢true no) c.refused-in_default-find.ensures.memory

pub returns-in-Err-issue-clause-memory : goal.returns-in-Err-issue-clause-memory
returns-in-Err-issue-clause-memory c =
    let label = c.in-Issue.label in
    let k = c.in-Issue.command in
    let m = c.args.self.now.machine in
    let step = made_up (λ m. may_want m label k) (λ m. issued m label k) (Err c.in-Err-issue.refusal) c.self.inside.dispatcher c.args.self.now c.issue.new.self c.self.view_is c.in_default.ensures.up c.in-Err-issue.ensures.step in
    wanting (IsTrue (may_want_memory m c.args.request)) (not m.is_down && may_want m label k) c.args.self.now c.issue.new.self (unless_down m (issued m label k)) c.in-Err-issue.refusal c.refused-in-Err-issue.result
    (subst (λ q. IsTrue (may_want_memory m q)) (sym c.in-Issue.is)) step c.refused-in-Err-issue.ensures.memory
