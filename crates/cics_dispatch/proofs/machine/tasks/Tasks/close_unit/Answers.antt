use Rattle.std.proofs.Common.{◌≡◌, ◌∙◌, sym, ap, subst, refl, arith, Some, None, []}
use Rattle.std.specs.Prelude.{IsSome}
use Rattle.std.specs.Map.{values_of}
use Rattle.std.specs.Option.{option_copied_mut}
use Rattle.cics_dispatch.proofs.OfMachine.TaskTable.{changed, kept-closed}
use Rattle.cics_dispatch.proofs.OfMachine.TaskOwners.{unit_there, owners_kept, owners_taken}
use Rattle.cics_dispatch.proofs.machine.tasks.Tasks.close_unit.Goals as goal

pub unreachable-requires : goal.unreachable-requires
unreachable-requires c =
    let had = unit_there (values_of c.self.inside.rows.entries) c.args.at c.index_mut.result.now c.index_mut.ensures.value ∙ sym c.close_unit.ensures.unit ∙ c.in_ok-unit.was in
    let found = c.self.invariant.1.found c.args.at c.in_ok-unit.unit had in
    let wrong : None ≡ Some (Some c.args.at) = sym (ap option_copied_mut c.in_default.is) ∙ c.get_mut.ensures.value ∙ found in cc

pub invariant_of-self : goal.invariant_of-self
invariant_of-self c = (
  kept-closed c.self.inside.rows.entries c.args.self.now c.args.at c.index_mut.result.now c.close_unit.new.self c.self.invariant.0 c.self.view_is c.index_mut.ensures.value
      (ap (λ t. t.label) c.close_unit.ensures.task) (ap (λ t. t.unit) c.close_unit.ensures.task),
  owners_kept c.self.inside.rows.entries c.args.at c.index_mut.result.now c.close_unit.new.self c.self.inside.owners c.self.invariant.1 c.index_mut.ensures.value
      (ap (λ t. t.unit) c.close_unit.ensures.task ∙ sym (sym c.close_unit.ensures.unit ∙ c.in_err-unit.was)),
)

pub returns-in_err-unit-clause-task : goal.returns-in_err-unit-clause-task
returns-in_err-unit-clause-task c =
    changed c.self.inside.rows.entries c.args.self.now c.args.at c.index_mut.result.now c.close_unit.new.self c.self.invariant.0 c.self.view_is c.index_mut.ensures.value
    (ap (λ t. t.label) c.close_unit.ensures.task) (λ t. record t { unit = None; browses = []; has_ended = c.args.has_ended }) c.close_unit.ensures.task

pub invariant_of-self-2 : goal.invariant_of-self-2
invariant_of-self-2 c =
    let had = unit_there (values_of c.self.inside.rows.entries) c.args.at c.index_mut.result.now c.index_mut.ensures.value ∙ sym c.close_unit.ensures.unit ∙ c.in_ok-unit.was in
    let found = c.self.invariant.1.found c.args.at c.in_ok-unit.unit had in
    let written = c.get_mut.follows.holds None in
    let len = written.2 in
    let spare = written.6 in (
      kept-closed c.self.inside.rows.entries c.args.self.now c.args.at c.index_mut.result.now c.close_unit.new.self c.self.invariant.0 c.self.view_is c.index_mut.ensures.value
          (ap (λ t. t.label) c.close_unit.ensures.task) (ap (λ t. t.unit) c.close_unit.ensures.task),
      owners_taken c.self.inside.rows.entries c.args.at c.index_mut.result.now c.close_unit.new.self c.self.inside.owners c.self.invariant.1 c.index_mut.ensures.value
          (c.get_mut.follows.lender None) c.in_ok-unit.unit (omega (arith, len, spare)) (ap (λ t. t.unit) c.close_unit.ensures.task) (sym c.close_unit.ensures.unit ∙ c.in_ok-unit.was)
          c.self.invariant.0.units (written.3 (subst IsSome (sym found) refl)).0,
    )

pub returns-clause-task : goal.returns-clause-task
returns-clause-task c =
    changed c.self.inside.rows.entries c.args.self.now c.args.at c.index_mut.result.now c.close_unit.new.self c.self.invariant.0 c.self.view_is c.index_mut.ensures.value
    (ap (λ t. t.label) c.close_unit.ensures.task) (λ t. record t { unit = None; browses = []; has_ended = c.args.has_ended }) c.close_unit.ensures.task
