use Rattle.std.proofs.Common.{◌≡◌, ◌<◌, ◌∙◌, ◌++◌, ◌∷◌, [], sym, ap, arith, take, length, append-nil}
use Rattle.std.specs.List.{filter_map, cons_option}
use Rattle.cics_dispatch.specs.Machine.Blockers.{blocking_label}
use Rattle.cics_dispatch.proofs.OfMachine.RegionSteps.{task_there}
use Rattle.cics_dispatch.proofs.OfMachine.SharedOps.{mapped_more}
use Rattle.cics_dispatch.proofs.dispatcher.Dispatcher.blocking_labels.Goals.{in-Some+in_ok-push, in_default}
use Rattle.cics_dispatch.proofs.dispatcher.Dispatcher.blocking_labels.Goals as goal

pub loop-at-preserved : goal.loop-at-preserved
loop-at-preserved c =
    let m = c.args.self.now.machine in
    let f = blocking_label m.units c.args.asking.now c.args.op.now in
    let at = c.loop-at.at in
    let before = c.loop-at-test.true in
    let end = c.len-at-end.ensures.length in
    let seen = ap (λ v. length v.machine.tasks) c.self.view_is in
    let within : at < length m.tasks = omega (arith, before, end, seen) in
    task_there m.tasks at within (λ t there.
    elim c.match-blocking_label.branch [
      | in-Some+in_ok-push w ↦
          w.labels-is ∙ w.in_ok-push.ensures.ok ∙ (λ i. c.loop-at.invariant i ++ w.in-Some.label ∷ [])
          ∙ sym (mapped_more f m.tasks at t there ∙ ap (λ o. filter_map f (take at m.tasks) ++ cons_option o []) (sym (c.blocking_label.ensures t there) ∙ w.in-Some.is))
      | in_default w ↦
          w.labels-is ∙ c.loop-at.invariant
          ∙ sym (mapped_more f m.tasks at t there ∙ ap (λ o. filter_map f (take at m.tasks) ++ cons_option o []) (sym (c.blocking_label.ensures t there) ∙ w.in_default.is)
          ∙ append-nil (filter_map f (take at m.tasks)))
    ])
