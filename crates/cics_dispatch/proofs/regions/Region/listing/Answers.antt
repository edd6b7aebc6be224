use Rattle.std.proofs.Common.{◌≡◌, ◌∙◌, ap, subst}
use Rattle.std.specs.Prelude.{IfOk}
use Rattle.cics_dispatch.specs.Machine.Answers.{region_listing, replayed_listing, without_tasks}
use Rattle.cics_dispatch.proofs.OfMachine.RegionSteps.{IfOk-then}
use Rattle.cics_dispatch.proofs.regions.Region.listing.Goals as goal

pub returns-clause-listing : goal.returns-clause-listing
returns-clause-listing c = subst (λ v. IfOk c.listing.result (λ l. l ≡ region_listing v)) c.self.view_is c.listing.ensures

pub returns-clause-replayed : goal.returns-clause-replayed
returns-clause-replayed c =
    let d = c.self.inside.dispatcher in
    subst (λ v. IfOk c.listing.result (λ l. without_tasks l ≡ replayed_listing v)) c.self.view_is
    (IfOk-then c.listing.result (λ l is. ap without_tasks is ∙ ap (λ s. without_tasks (region_listing (record d { store = s }))) c.self.invariant.0.headline.headline.store) c.listing.ensures)
