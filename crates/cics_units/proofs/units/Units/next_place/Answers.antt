use Rattle.std.proofs.Common.{◌∙◌, sym, ap}
use Rattle.cics_history.specs.Execution.{place_at}
use Rattle.cics_tempstor.specs.Shown.{next_place-places_of}
use Rattle.cics_units.specs.Cores.{core_value}
use Rattle.cics_units.specs.KeptUnits.{state_shown}
use Rattle.cics_units.proofs.TsReadings.{place_told}
use Rattle.cics_units.proofs.units.Units.next_place.Goals as goal

pub returns : goal.returns
returns c =
    let u = c.self.inside in
    let s = state_shown u.opening u.trace.items u.outcomes.items u.commits.items (core_value u.core) in
    let q = c.args.queue.now in
    c.next_place.ensures.place
    ∙ sym (place_told s (core_value u.core).stores u.core.locks c.self.invariant.0 q ∙ next_place-places_of q u.core.store.temp_storage c.self.invariant.0.rows.rising)
    ∙ ap (λ v. place_at v.state q) c.self.view_is
