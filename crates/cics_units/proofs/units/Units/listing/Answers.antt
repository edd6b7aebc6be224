use Rattle.std.proofs.Common.{◌≡◌, subst, IfOk}
use Rattle.cics_units.specs.Cores.{core_value}
use Rattle.cics_units.specs.KeptUnits.{state_shown}
use Rattle.cics_units.specs.Replay.Listings.{listing_of, replayed_listing}
use Rattle.cics_units.proofs.KeptUnits.{store_is}
use Rattle.cics_units.proofs.units.Units.listing.Goals as goal

pub returns-clause-replayed : goal.returns-clause-replayed
returns-clause-replayed c =
    let u = c.self.inside in
    let s = state_shown u.opening u.trace.items u.outcomes.items u.commits.items (core_value u.core) in
    subst (λ v. IfOk c.of_store.result (λ l. l ≡ replayed_listing v.state.opening v.state.trace v.state.outcomes)) c.self.view_is
    (subst (λ m. IfOk c.of_store.result (λ l. l ≡ listing_of u.opening m))
    (store_is s (core_value u.core).stores u.core.locks c.self.invariant.0) c.of_store.ensures)
