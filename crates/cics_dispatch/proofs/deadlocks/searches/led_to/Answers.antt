use Rattle.std.proofs.Common.{◌≡◌, ◌∙◌, ◌-◌, ◌+◌, ◌++◌, ◌∷◌, [], suc, sym, ap, arith, append_assoc, append-nil}
use Rattle.cics_dispatch.specs.Deadlocks.Searches.{led_to, task_at, from_at}
use Rattle.cics_dispatch.proofs.OfDeadlocks.Reached.{nowhere, led_step}
use Rattle.cics_dispatch.proofs.deadlocks.searches.led_to.Goals as goal

pub returns-then-at-eq0 : goal.returns-then-at-eq0
returns-then-at-eq0 c =
    let found = c.args.found.now in
    let n = c.args.index - c.loop-step._step in
    sym (append-nil c.loop-step.tasks.items)
    ∙ ap (λ l. c.loop-step.tasks.items ++ l) (sym (nowhere found n) ∙ ap (led_to found n) (sym c.if-at-eq0.true))
    ∙ c.loop-step.invariant

pub loop-step-preserved : goal.loop-step-preserved
loop-step-preserved c =
    let found = c.args.found.now in
    let k = c.args.index - (c.loop-step._step + 1) in
    let at = c.loop-step.at in
    let more : suc k ≡ c.args.index - c.loop-step._step = omega arith in
    (λ i. (c.in_ok-push.ensures.items ∙ (λ j. c.loop-step.tasks.items ++ (c.task_at.ensures ∙ ap (task_at found) c.from_at-at.ensures) j ∷ [])) i ++ led_to found k (c.from_at-at.ensures i))
    ∙ append_assoc c.loop-step.tasks.items (task_at found (from_at found at) ∷ []) (led_to found k (from_at found at))
    ∙ ap (λ l. c.loop-step.tasks.items ++ l) (sym (led_step found k at c.if-at-eq0.false) ∙ ap (λ n. led_to found n at) more)
    ∙ c.loop-step.invariant
