use Rattle.std.proofs.Common.{◌∙◌, sym, ap, refl, true, Ok, List, [], ◌∷◌}
use Rattle.std.specs.Prelude.{slice_get, All}
use Rattle.std.proofs.lemmas.List.Elements.{All-nil, All-cons, All-head, All-tail}
use Rattle.cics_dispatch.specs.Machine.Machine.{Machine, Suspended, with_waiting}
use Rattle.cics_dispatch.specs.Machine.KeptTasks.{IsWaitKept}
use Rattle.cics_dispatch.specs.Machine.Regions.{region_of}
use Rattle.cics_dispatch.specs.Machine.Shutdown.{units_of, all_ended, shut_down}
use Rattle.cics_dispatch.specs.Machine.Steps.{with_outcome}
use Rattle.cics_dispatch.proofs.OfMachine.KeptTasks.{kept_aside}
use Rattle.cics_dispatch.proofs.OfMachine.OwnedUnits.{owned_same, owned_suspended}
use Rattle.cics_dispatch.proofs.OfMachine.RegionShutdown.{none_live}
use Rattle.cics_dispatch.proofs.OfMachine.RegionSteps.{kept_as}
use Rattle.cics_dispatch.proofs.dispatcher.Dispatcher.shut_down.Goals as goal

-- what is known of waiting commands isn't about a shutdown
waits_down : (m : Machine) (ws : List Suspended) → All (IsWaitKept m) ws → All (IsWaitKept (record m { is_down = true })) ws
waits_down m [] waits = All-nil (IsWaitKept (record m { is_down = true }))
waits_down m (w ∷ ws) waits =
    let has = All-head (IsWaitKept m) w ws waits in
    All-cons (IsWaitKept (record m { is_down = true })) w ws (record { of_task = has.of_task; ready = has.ready }) (waits_down m ws (All-tail (IsWaitKept m) w ws waits))

pub invariant_of-self : goal.invariant_of-self
invariant_of-self c =
    let u = c.self.inside in
    let m = (region_of u.units u.tasks u.waits u.clock u.is_down).machine in
    kept_as (region_of u.units u.tasks c.new.result u.clock u.is_down) (with_waiting m []) (λ i. record m { waiting = c.new.ensures i })
    (kept_aside m c.self.invariant.tasks) (owned_suspended m [] c.self.invariant.owned) (record { headline = c.self.invariant.headline.headline }) (record { serializable = c.self.invariant.serializable.serializable })

pub invariant_of-self-2 : goal.invariant_of-self-2
invariant_of-self-2 c =
    let p = c.self-2.inside in
    let m = (region_of p.units p.tasks p.waits p.clock p.is_down).machine in
    let tasks = c.self-2.invariant.tasks in
    record {
      tasks = record { labels = tasks.labels; owners = tasks.owners; open_units = tasks.open_units; waits = waits_down m p.waits tasks.waits };
      owned = owned_same m (record m { is_down = true }) refl refl c.self-2.invariant.owned;
      headline = record { headline = c.self-2.invariant.headline.headline };
      serializable = record { serializable = c.self-2.invariant.serializable.serializable };
    }

pub returns-clause-machine : goal.returns-clause-machine
returns-clause-machine c =
    let u = c.self.inside in
    let m = (region_of u.units u.tasks u.waits u.clock u.is_down).machine in
    let ended = c.end_tasks-count.ensures in
    (λ i. with_outcome (Ok (ended.count i)) (record ((ap (λ v. v.machine) c.self-2.view_is ∙ ended.machine) i) { is_down = true }))
    ∙ (λ i. with_outcome (Ok (units_of u.tasks)) (record (all_ended (with_waiting m (c.new.ensures i)) u.tasks) { is_down = true }))
    ∙ ap (λ v. shut_down v.machine) c.self.view_is

pub returns-clause-none_open : goal.returns-clause-none_open
returns-clause-none_open c = λ u.
    let p = c.self-2.inside in
    none_live (region_of p.units p.tasks p.waits p.clock p.is_down).machine c.self-2.invariant.owned
    (λ i t is. c.end_tasks-count.ensures.none i t (ap (λ v. slice_get v.machine.tasks i) (sym c.self-2.view_is) ∙ is)) u

pub returns-clause-kept : goal.returns-clause-kept
returns-clause-kept c = λ was. invariant_of-self-2 c
