use Rattle.std.proofs.Common.{◌∙◌, ap, refl, slice_get, sym}
use Rattle.cics_dispatch.specs.Machine.Machine.{with_browses}
use Rattle.cics_dispatch.proofs.OfMachine.RegionSteps.{one_task}
use Rattle.cics_dispatch.proofs.OfMachine.TaskTable.{kept-same, other-browses}
use Rattle.cics_dispatch.proofs.OfMachine.TaskOwners.{owners_kept}
use Rattle.cics_dispatch.proofs.machine.tasks.Tasks.browses_mut.Goals as goal

pub invariant_of-self-lent : goal.invariant_of-self-lent
invariant_of-self-lent c = λ w.
    let owner = with_browses c.index_mut.result.now w in (
      kept-same c.self.inside.rows.entries c.args.self.now c.args.at c.index_mut.result.now owner c.self.invariant.0 c.self.view_is c.index_mut.ensures.value refl refl,
      owners_kept c.self.inside.rows.entries c.args.at c.index_mut.result.now owner c.self.inside.owners c.self.invariant.1 c.index_mut.ensures.value refl,
    )

pub returns : goal.returns
returns c = (
  (refl, λ w. other-browses c.self.inside.rows.entries c.args.self.now c.args.at c.index_mut.result.now _ c.self.invariant.0 c.self.view_is c.index_mut.ensures.value w refl),
  record {
    writes_back = tt;
    browses = λ t there.
        let here = ap (λ ts. slice_get ts c.args.at) (sym c.self.view_is) ∙ c.index_mut.ensures.value in
        c.browses_mut.ensures.browses ∙ ap (λ x. x.browses) (one_task c.args.self.now c.args.at here there);
  },
)
