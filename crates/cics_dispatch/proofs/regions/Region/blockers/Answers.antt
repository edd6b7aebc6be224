use Rattle.std.proofs.Common.{sym, subst}
use Rattle.std.specs.Prelude.{IfOk}
use Rattle.cics_dispatch.specs.Machine.Blockers.{blocker_of, HaveBlocker}
use Rattle.cics_dispatch.proofs.OfMachine.AllBlockers.{blockers_have}
use Rattle.cics_dispatch.proofs.OfMachine.RegionSteps.{IfOk-then}
use Rattle.cics_dispatch.proofs.regions.Region.blockers.Goals as goal

pub returns-clause-one : goal.returns-clause-one
returns-clause-one c =
    let m = c.self.inside.dispatcher.machine in
    let label = c.args.label.now in
    let kept = c.self.invariant.0 in
    subst (λ v. IfOk c.blockers.result (HaveBlocker (blocker_of v.machine label))) c.self.view_is
    (IfOk-then c.blockers.result (λ ls is. subst (HaveBlocker (blocker_of m label)) (sym is) (blockers_have m label kept.tasks kept.owned)) c.blockers.ensures)
