use Rattle.std.specs.Prelude.{◌≡◌, false, List, []}
use Rattle.std.proofs.Common.{ap, ◌∙◌}
use Rattle.cics_history.specs.State.{OpeningState, UnitsValue, initial_units}
use Rattle.cics_dispatch.specs.Machine.Machine.{Task, Suspended, initial_region}
use Rattle.cics_dispatch.specs.Machine.Regions.{region_of}
use Rattle.cics_dispatch.proofs.OfMachine.KeptTasks.{kept_begins}
use Rattle.cics_dispatch.proofs.OfMachine.OwnedUnits.{owned_begins}
use Rattle.cics_dispatch.proofs.OfMachine.RegionSteps.{kept_as}
use Rattle.cics_dispatch.proofs.dispatcher.Dispatcher.new.Goals as goal

-- units that have just begun, without a task or a wait, are the beginning of a region
begun : (o : OpeningState) (units : UnitsValue) (tasks : List Task) (waiting : List Suspended) → units.state ≡ initial_units o →
    tasks ≡ [] → waiting ≡ [] → (region_of units tasks waiting 0 false).machine ≡ initial_region o
begun o units tasks waiting state none none_waits =
    ap (λ s. record (initial_region o) { units = s; tasks = tasks; waiting = waiting }) state
    ∙ ap (λ ts. record (initial_region o) { tasks = ts; waiting = waiting }) none
    ∙ ap (λ ws. record (initial_region o) { waiting = ws }) none_waits

pub invariant_of-result : goal.invariant_of-result
invariant_of-result c =
    let o = c.args.opening in
    kept_as (region_of c.in_ok-units.units c.new.result c.new-2.result 0 false) (initial_region o)
    (begun o c.in_ok-units.units c.new.result c.new-2.result c.in_ok-units.ensures.state c.new.ensures c.new-2.ensures) (kept_begins o)
    (owned_begins o) (record { headline = c.in_ok-units.ensures.headline }) (record { serializable = c.in_ok-units.ensures.serializable })

pub returns-clause-kept : goal.returns-clause-kept
returns-clause-kept c =
    let o = c.args.opening in
    kept_as (region_of c.in_ok-units.units c.new.result c.new-2.result 0 false) (initial_region o)
    (begun o c.in_ok-units.units c.new.result c.new-2.result c.in_ok-units.ensures.state c.new.ensures c.new-2.ensures) (kept_begins o)
    (owned_begins o) (record { headline = c.in_ok-units.ensures.headline }) (record { serializable = c.in_ok-units.ensures.serializable })
