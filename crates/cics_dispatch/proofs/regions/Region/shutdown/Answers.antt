use Rattle.std.proofs.Common.{◌∙◌, ap}
use Rattle.cics_dispatch.specs.Machine.Machine.{with_waiting}
use Rattle.std.specs.Prelude.{[]}
use Rattle.cics_dispatch.proofs.OfMachine.RegionShutdown.{ended_waiting}
use Rattle.cics_dispatch.proofs.OfMachine.RegionRemembers.{remembered_alone}
use Rattle.cics_dispatch.proofs.regions.Region.shutdown.Goals as goal

pub returns-clause-committed : goal.returns-clause-committed
returns-clause-committed c = (c.shut_down-count.ensures.kept c.self.invariant.0).serializable.serializable.committed c.shut_down-count.ensures.none_open

pub invariant_of-self : goal.invariant_of-self
invariant_of-self c =
    let m = c.self.inside.dispatcher.machine in (
      c.shut_down-count.ensures.kept c.self.invariant.0,
      remembered_alone c.shut_down-count.new.self.machine c.clear.new.self c.clear.ensures.rows c.clear.ensures.deadlines (ap (λ s. s.machine.waiting) c.shut_down-count.ensures.machine ∙ ended_waiting (with_waiting m []) m.tasks),
    )
