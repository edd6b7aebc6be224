use Rattle.std.proofs.Common.{List, ap, subst, length, arith, length-take-le}
use Rattle.cics_ksds.specs.Heads.{IsAreaHead}
use Rattle.cics_ksds.specs.declared.slots.Slot.{Slot}
use Rattle.cics_ksds.proofs.areas.Area.split.Goals as goal

pub invariant_of-self : goal.invariant_of-self
invariant_of-self c = record {
  at_most = omega (arith, ap length c.move_tail.ensures.head, length-take-le 32 c.self.inside.intervals.items (omega (arith, ap length c.self.view_is, c.requires.full)));
  head = subst (λ (l : List (List Slot)). IsAreaHead l c.head_of-self-inside.result) c.as_slice.ensures.value c.head_of-self-inside.ensures;
}
