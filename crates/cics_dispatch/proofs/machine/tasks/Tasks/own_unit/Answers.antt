use Rattle.std.proofs.Common.{◌≡◌, ◌∙◌, ◌+◌, sym, ap, subst, arith, is_some, Some}
use Rattle.std.specs.Prelude.{slice_get, if◌then◌else◌}
use Rattle.indexmap.specs.IndexMap.{index_map_len}
use Rattle.cics_dispatch.specs.Machine.Machine.{replaced, with_unit}
use Rattle.cics_dispatch.specs.Machine.Tasks.{own_label, IsOwn}
use Rattle.cics_dispatch.proofs.OfMachine.RegionSteps.{replaced_same, has_own_unit, own_unit_is}
use Rattle.cics_dispatch.proofs.OfMachine.TaskTable.{changed}
use Rattle.cics_dispatch.proofs.OfMachine.TaskOwners.{none_from, given, room_written, owners_given}
use Rattle.cics_dispatch.proofs.machine.tasks.Tasks.own_unit.Goals as goal

pub returns-then-is_some : goal.returns-then-is_some
returns-then-is_some c = λ t there.
    let got : slice_get c.args.self.now c.args.at ≡ Some c.index.result.now = subst (λ ts. slice_get ts c.args.at ≡ Some c.index.result.now) c.self.view_is c.index.ensures in
    let same : Some t ≡ Some c.index.result.now = sym there ∙ got in
    let is : t ≡ c.index.result.now = cc in
    let some = sym c.is_some.ensures ∙ c.if-is_some.true in
    sym (ap (replaced c.args.self.now) (has_own_unit t c.args.unit (own_unit_is t c.args.unit c.unit.result (ap (λ x. x.unit) is ∙ sym c.unit.ensures) some (λ u own. c.requires.own t u there own)))
    ∙ replaced_same c.args.self.now c.args.at t (subst (IsOwn own_label) c.self.view_is c.self.invariant.0.labels) there)

pub enter_all-requires-clause-units : goal.enter_all-requires-clause-units
enter_all-requires-clause-units c =
    let unit = given c.self.inside.rows.entries c.args.self.now c.args.at c.index.result.now c.index_mut.result.now c.begin_unit.new.self c.unit.result c.is_some.result c.args.unit
    c.self.invariant.0 c.self.view_is c.index.ensures c.unit.ensures c.is_some.ensures c.if-is_some.false c.index_mut.ensures.value c.requires.free c.begin_unit.ensures in
    unit.rows.units

pub enter_all-requires-clause-room : goal.enter_all-requires-clause-room
enter_all-requires-clause-room c = room_written c.self.inside.rows.entries c.args.at c.begin_unit.new.self c.self.inside.owners c.self.invariant.1.room

pub invariant_of-self : goal.invariant_of-self
invariant_of-self c =
    let unit = given c.self.inside.rows.entries c.args.self.now c.args.at c.index.result.now c.index_mut.result.now c.begin_unit.new.self c.unit.result c.is_some.result c.args.unit
    c.self.invariant.0 c.self.view_is c.index.ensures c.unit.ensures c.is_some.ensures c.if-is_some.false c.index_mut.ensures.value c.requires.free c.begin_unit.ensures in
    (unit.rows, c.enter_all.ensures)

pub returns-then-len-capacity : goal.returns-then-len-capacity
returns-then-len-capacity c =
    changed c.self.inside.rows.entries c.args.self.now c.args.at c.index_mut.result.now c.begin_unit.new.self c.self.invariant.0 c.self.view_is c.index_mut.ensures.value
    (ap (λ t. t.label) c.begin_unit.ensures) (λ t. with_unit t c.args.unit) c.begin_unit.ensures

pub invariant_of-self-2 : goal.invariant_of-self-2
invariant_of-self-2 c =
    let unit = given c.self.inside.rows.entries c.args.self.now c.args.at c.index.result.now c.index_mut.result.now c.begin_unit.new.self c.unit.result c.is_some.result c.args.unit
    c.self.invariant.0 c.self.view_is c.index.ensures c.unit.ensures c.is_some.ensures c.if-is_some.false c.index_mut.ensures.value c.requires.free c.begin_unit.ensures in
    let absent = none_from _ (sym c.contains_key.ensures ∙ c.if-contains_key.false) in
    let longer : index_map_len c.insert.new.self ≡ index_map_len c.self.inside.owners + 1
    = c.in-Ok.ensures.len ∙ ap (λ o. index_map_len c.self.inside.owners + (if is_some o then 0 else 1)) (c.in-Ok.ensures.old ∙ absent) in
    let spare = c.insert.ensures.spare in (
      unit.rows,
      owners_given c.self.inside.rows.entries c.args.at c.index_mut.result.now c.begin_unit.new.self c.self.inside.owners c.self.invariant.1 c.index_mut.ensures.value c.insert.new.self
          c.args.unit (omega (arith, longer, spare)) (ap (λ t. t.unit) c.begin_unit.ensures) unit.idle unit.free c.in-Ok.ensures.updates.0,
    )

pub returns : goal.returns
returns c =
    changed c.self.inside.rows.entries c.args.self.now c.args.at c.index_mut.result.now c.begin_unit.new.self c.self.invariant.0 c.self.view_is c.index_mut.ensures.value
    (ap (λ t. t.label) c.begin_unit.ensures) (λ t. with_unit t c.args.unit) c.begin_unit.ensures
