use Rattle.std.proofs.Common.{◌≡◌, ◌∙◌, ap, subst, IfOk}
use Rattle.cics_dispatch.specs.Machine.Machine.{RegionValue}
use Rattle.cics_history.specs.Holding.{store_of}
use Rattle.cics_history.specs.State.{UnitsValue}
use Rattle.cics_run.specs.Reads.Changes.{doomed_by}
use Rattle.cics_run.specs.Reads.Watched.{doomed_if}
use Rattle.cics_run.proofs.OfStage.Draining.{is_region_at}
use Rattle.cics_run.proofs.reads.watching.doomed_if.Goals as goal

pub returns-in-Some : goal.returns-in-Some
returns-in-Some c =
    let r = c.args.region.now in
    let same : c.units.result.now.store ≡ store_of r.machine.units =
    ap (λ (u : UnitsValue). u.store) c.units.ensures.units ∙ ap (λ (region : RegionValue). region.store) (is_region_at r c.promises.ensures.headline) in
    subst (λ w. IfOk c.doomed_by.result (λ cells. cells ≡ doomed_if r.machine w)) c.in-Some.ensures.command
    (subst (λ s. IfOk c.doomed_by.result (λ cells. cells ≡ doomed_by s c.in-Some.command.now.verb)) same c.doomed_by.ensures)
