use Rattle.std.proofs.Common.{◌≡◌, ◌∙◌, ◌+◌, sym, ap, is_some, arith, length}
use Rattle.std.specs.Prelude.{if◌then◌else◌}
use Rattle.std.proofs.lemmas.List.{length-map}
use Rattle.std.specs.Map.{values_of}
use Rattle.indexmap.specs.IndexMap.{index_map_len}
use Rattle.cics_dispatch.proofs.OfMachine.TaskOwners.{unit_there, passed_entered, not_entered, more_entered, all_entered}
use Rattle.cics_dispatch.proofs.machine.tasks.enter_all.Goals as goal

pub loop-at-preserved-in_default : goal.loop-at-preserved-in_default
loop-at-preserved-in_default c =
    let ts = values_of c.args.rows.now.entries in
    let few = c.loop-at.invariant.few in
    record {
      entered = passed_entered c.loop-at.at ts c.loop-at.owners.entries c.loop-at.invariant.entered
          (unit_there ts c.loop-at.at c.index.result.now c.index.ensures ∙ sym c.unit.ensures ∙ c.in_default.is);
      few = omega (arith, few);
      room = c.loop-at.invariant.room;
    }

pub loop-at-preserved : goal.loop-at-preserved
loop-at-preserved c =
    let ts = values_of c.args.rows.now.entries in
    let few = c.loop-at.invariant.few in
    let room = c.loop-at.invariant.room.room in
    let has = unit_there ts c.loop-at.at c.index.result.now c.index.ensures ∙ sym c.unit.ensures ∙ c.in-Some.is in
    let absent = not_entered c.loop-at.at ts c.loop-at.owners.entries c.loop-at.invariant.entered c.in-Some.unit has c.requires.units in
    let longer : index_map_len c.insert.new.self ≡ index_map_len c.loop-at.owners + 1
    = c.in-Ok.ensures.len ∙ ap (λ o. index_map_len c.loop-at.owners + (if is_some o then 0 else 1)) (c.in-Ok.ensures.old ∙ absent) in
    let spare = c.insert.ensures.spare in
    record {
      entered = more_entered c.loop-at.at ts c.loop-at.owners.entries c.loop-at.invariant.entered c.in-Some.unit has c.requires.units c.insert.new.self.entries c.in-Ok.ensures.updates.0;
      few = omega (arith, few, longer);
      room = record { room = omega (arith, room, longer, spare) };
    }

pub returns : goal.returns
returns c =
    let ts = values_of c.args.rows.now.entries in
    let past = c.loop-at-test.false in
    let many = c.len-at-end.ensures.len in
    let alike : length ts ≡ length c.args.rows.now.entries = length-map _ _ in
    all_entered c.loop-at.at ts c.loop-at.owners (omega (arith, past, many, alike)) c.loop-at.invariant.entered c.loop-at.invariant.room
