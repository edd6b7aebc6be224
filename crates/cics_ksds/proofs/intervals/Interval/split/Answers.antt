use Rattle.std.proofs.Common.{◌∙◌, length, ap, List, subst, arith, length-take-le}
use Rattle.cics_ksds.specs.Heads.{IsHead}
use Rattle.cics_ksds.specs.declared.slots.Slot.{Slot}
use Rattle.cics_ksds.specs.Slots.{listed}
use Rattle.cics_ksds.proofs.Counts.{records_halves}
use Rattle.cics_ksds.proofs.intervals.Interval.split.Goals as goal

pub invariant_of-self : goal.invariant_of-self
invariant_of-self c = record {
  at_most = omega (arith, ap length c.move_tail.ensures.head, length-take-le 8 c.self.inside.slots.items (omega (arith, ap length c.self.view_is, c.requires.full)));
  room = c.move_tail.ensures.head_capacity ∙ c.self.invariant.room;
  counted = omega (
    arith,
    records_halves 8 c.self.inside.slots.items,
    ap (λ l. length (listed l)) c.move_tail.ensures.head,
    ap (λ l. length (listed l)) (c.as_slice.ensures.value ∙ c.move_tail.ensures.tail),
    c.records_in-right-inside.ensures,
    c.self.invariant.counted,
  );
  head = subst (λ (l : List Slot). IsHead l c.head_of-self-inside.result) c.as_slice-3.ensures.value c.head_of-self-inside.ensures;
}

pub overflow_sub-self : goal.overflow_sub-self
overflow_sub-self c = omega (arith, records_halves 8 c.self.inside.slots.items, ap (λ l. length (listed l)) (c.as_slice.ensures.value ∙ c.move_tail.ensures.tail), c.records_in-right-inside.ensures, c.self.invariant.counted)
