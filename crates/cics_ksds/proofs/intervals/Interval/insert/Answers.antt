use Rattle.std.proofs.Common.{◌≤◌, [], ◌∷◌, ◌∙◌, length, ap, List, subst, arith}
use Rattle.std.proofs.lemmas.List.Edits.{length-insert}
use Rattle.cics_ksds.specs.Heads.{IsHead}
use Rattle.cics_ksds.specs.declared.slots.Slot.{Slot}
use Rattle.cics_ksds.specs.Slots.{listed}
use Rattle.cics_ksds.proofs.Counts.{records_insert, records_others}
use Rattle.cics_ksds.proofs.intervals.Interval.insert.Goals as goal

pub overflow_add-self : goal.overflow_add-self
overflow_add-self c = omega (arith, records_others c.self.inside.slots.items, records_others (c.args.slot ∷ []), c.self.invariant.counted, c.self.invariant.at_most, c.records.ensures)

pub invariant_of-self : goal.invariant_of-self
invariant_of-self c =
    let le : c.args.at ≤ length c.self.inside.slots.items = omega (arith, ap length c.self.view_is, c.requires.in_range) in
    record {
      at_most = omega (arith, ap length c.insert_reserved.ensures.items, length-insert c.self.inside.slots.items c.args.at c.args.slot le, ap length c.self.view_is, c.requires.room);
      room = c.insert_reserved.ensures.capacity ∙ c.self.invariant.room;
      counted = omega (arith, ap (λ l. length (listed l)) c.insert_reserved.ensures.items, records_insert c.self.inside.slots.items c.args.at c.args.slot le, c.self.invariant.counted, c.records.ensures);
      head = subst (λ (l : List Slot). IsHead l c.head_of-self-inside.result) c.as_slice.ensures.value c.head_of-self-inside.ensures;
    }
