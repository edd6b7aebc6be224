use Rattle.std.proofs.Common.{◌∙◌, ap, sym, arith}
use Rattle.std.proofs.lemmas.Result.{on_ok_weaker}
use Rattle.cics_orders.specs.Plans.Taking.{is_task, with_line}
use Rattle.cics_orders.proofs.OfPlans.Changed.{within, changed, unchanged}
use Rattle.cics_orders.specs.declared.plans.plans.TaskPlan.{TaskPlan}
use Rattle.cics_orders.proofs.plans.planning.add_line.Goals as goal

-- the index that was found is in range
pub index_mut-requires : goal.index_mut-requires
index_mut-requires c =
    omega (arith, within (λ x. is_task x c.args.label.now) c.args.tasks.now.items _ c.as_slice.ensures.value c.in-Some.at (sym c.index_of.ensures ∙ c.in-Some.is))

-- the task there has the line
pub returns-in-Some : goal.returns-in-Some
returns-in-Some c =
    let task : TaskPlan = c.index_mut.result.now in
    on_ok_weaker c.push.result
    (λ lines.
    changed (λ x. is_task x c.args.label.now) c.args.tasks.now.items _ c.as_slice.ensures.value (λ x. with_line x c.args.next) c.in-Some.at
    task _ (sym c.index_of.ensures ∙ c.in-Some.is) c.index_mut.ensures.value (ap (λ ls. record task { lines = ls }) lines)) c.push.ensures.ok

-- no task has the label
pub returns-in-None : goal.returns-in-None
returns-in-None c =
    unchanged (λ x. is_task x c.args.label.now) c.args.tasks.now.items _ c.as_slice.ensures.value (λ x. with_line x c.args.next) (sym c.index_of.ensures ∙ c.in-None.is)
