use Rattle.std.proofs.Common.{◌<◌, ◌∙◌, length, ap, List, subst, arith}
use Rattle.std.proofs.lemmas.List.Edits.{length-remove}
use Rattle.cics_ksds.specs.Heads.{IsHead}
use Rattle.cics_ksds.specs.declared.slots.Slot.{Slot}
use Rattle.cics_ksds.specs.Slots.{listed}
use Rattle.cics_ksds.proofs.Counts.{records_remove}
use Rattle.cics_ksds.proofs.intervals.Interval.remove.Goals as goal
use Rattle.cics_ksds.proofs.intervals.Interval.remove.Goals.{After-remove-old}

within : (c : After-remove-old) → c.args.at < length c.self.inside.slots.items
within c = omega (arith, ap length c.self.view_is, c.requires)

pub overflow_sub-self : goal.overflow_sub-self
overflow_sub-self c =
    let lt = within (goal.at.overflow_sub-self c).After-remove-old in
    omega (arith, records_remove c.self.inside.slots.items c.args.at c.remove-old.result lt c.remove-old.ensures.value, c.self.invariant.counted, c.records.ensures)

pub invariant_of-self : goal.invariant_of-self
invariant_of-self c =
    let lt = within (goal.at.invariant_of-self c).After-remove-old in
    record {
      at_most = omega (arith, ap length c.remove-old.ensures.items, length-remove c.self.inside.slots.items c.args.at lt, c.self.invariant.at_most);
      room = c.remove-old.ensures.capacity ∙ c.self.invariant.room;
      counted = omega (
        arith,
        records_remove c.self.inside.slots.items c.args.at c.remove-old.result lt c.remove-old.ensures.value,
        ap (λ l. length (listed l)) c.remove-old.ensures.items,
        c.self.invariant.counted,
        c.records.ensures,
      );
      head = subst (λ (l : List Slot). IsHead l c.head_of-self-inside.result) c.as_slice.ensures.value c.head_of-self-inside.ensures;
    }
