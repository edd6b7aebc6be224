use Rattle.std.proofs.Common.{◌∙◌, sym, ap, arith, [], ◌∷◌, ◌++◌}
use Rattle.std.specs.Prelude.{length, slice_get}
use Rattle.std.proofs.lemmas.List.{take_all}
use Rattle.cics_dispatch.proofs.OfMachine.RegionListing.{rows_of, rows_ended, rows_more}
use Rattle.cics_dispatch.proofs.dispatcher.Dispatcher.tasks_listed.Goals.{then-not-has_ended+in_ok-push, else-not-has_ended}
use Rattle.cics_dispatch.proofs.dispatcher.Dispatcher.tasks_listed.Goals as goal

pub loop-at-preserved : goal.loop-at-preserved
loop-at-preserved c =
    let m = c.args.self.now.machine in
    let t = c.get-task.result.now in
    let there = ap (λ v. slice_get v.machine.tasks c.loop-at.at) (sym c.self.view_is) ∙ c.get-task.ensures in
    elim c.if-not-has_ended.branch [
      | then-not-has_ended+in_ok-push w ↦
          w.tasks-is ∙ w.in_ok-push.ensures.ok ∙ (λ i. c.loop-at.invariant i ++ (w.label.ensures i, w.task_state.ensures i) ∷ [])
          ∙ sym (rows_more m m.tasks c.loop-at.at t there (sym c.has_ended.ensures ∙ w.if-not-has_ended.true))
      | else-not-has_ended w ↦ w.tasks-is ∙ c.loop-at.invariant ∙ sym (rows_ended m m.tasks c.loop-at.at t there (sym c.has_ended.ensures ∙ w.if-not-has_ended.false))
    ]

pub returns : goal.returns
returns c =
    let m = c.args.self.now.machine in
    let over = c.loop-at-test.false in
    let end = c.len-at-end.ensures in
    let seen = ap (λ v. length v.machine.tasks) c.self.view_is in
    c.loop-at.invariant ∙ ap (rows_of m) (take_all c.loop-at.at m.tasks (omega (arith, over, end, seen)))
