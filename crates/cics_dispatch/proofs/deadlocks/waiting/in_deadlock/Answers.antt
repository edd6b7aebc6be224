use Rattle.std.proofs.Common.{◌≡◌, ◌∙◌, sym, ap, subst, Some, true}
use Rattle.std.specs.Prelude.{◌↔◌, slice_get}
use Rattle.std.proofs.lemmas.Result.{IfOk-weaker}
use Rattle.cics_dispatch.specs.Deadlocks.Searches.{led_back}
use Rattle.cics_dispatch.specs.Deadlocks.Circles.{Leads}
use Rattle.cics_dispatch.specs.Deadlocks.Deadlocks.{blockers_at}
use Rattle.cics_dispatch.proofs.OfDeadlocks.Told.{flag_is}
use Rattle.cics_dispatch.proofs.deadlocks.waiting.in_deadlock.Goals as goal

pub returns-clause-each : goal.returns-clause-each
returns-clause-each c =
    let m = c.args.region.now.machine in
    IfOk-weaker c.in_deadlock.result _ _
    (λ flags is task. subst (λ f. (slice_get f task ≡ Some true) ↔ Leads (blockers_at m) task task) (sym (is ∙ ap led_back (c.as_slice.ensures ∙ c.in_ok-waits.ensures))) (flag_is m task)) c.in_deadlock.ensures
