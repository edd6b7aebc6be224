use Rattle.std.proofs.Common.{◌≡◌, ◌<◌, length, get_or, set, ◌∙◌, ap, List, subst, arith}
use Rattle.std.proofs.lemmas.List.{length-set, get_or_default}
use Rattle.cics_ksds.specs.Heads.{IsHead}
use Rattle.cics_ksds.specs.declared.slots.Slot.{Slot}
use Rattle.cics_ksds.specs.Slots.{listed}
use Rattle.cics_ksds.proofs.Counts.{records_set, records_remove, records_others}
use Rattle.cics_ksds.proofs.intervals.Interval.put.Goals as goal
use Rattle.cics_ksds.proofs.intervals.Interval.put.Goals.{After-replace-old}

within : (c : After-replace-old) → c.args.at < length c.self.inside.slots.items
within c = omega (arith, ap length c.self.view_is, c.requires)

stood : (c : After-replace-old) → c.replace-old.result ≡ get_or c.self.inside.slots.items c.args.at c.replace-old.result
stood c = c.replace-old.ensures.value ∙ c.index_mut.ensures.value ∙ get_or_default c.self.inside.slots.items c.args.at c.index_mut.result.now c.replace-old.result (within c)

pub overflow_sub-self : goal.overflow_sub-self
overflow_sub-self c =
    let at = (goal.at.overflow_sub-self c).After-replace-old in
    omega (arith, records_remove c.self.inside.slots.items c.args.at c.replace-old.result (within at) (stood at), c.self.invariant.counted, c.records.ensures)

pub overflow_add-self : goal.overflow_add-self
overflow_add-self c =
    let at = (goal.at.overflow_add-self c).After-replace-old in
    omega (
      arith,
      records_set c.self.inside.slots.items c.args.at c.args.slot c.replace-old.result (within at) (stood at),
      records_others (set c.self.inside.slots.items c.args.at c.args.slot),
      length-set c.self.inside.slots.items c.args.at c.args.slot,
      c.self.invariant.counted,
      c.self.invariant.at_most,
      c.records.ensures,
      c.records-comes.ensures,
    )

pub invariant_of-self : goal.invariant_of-self
invariant_of-self c =
    let at = (goal.at.invariant_of-self c).After-replace-old in
    record {
      at_most = omega (arith, length-set c.self.inside.slots.items c.args.at c.replace-old.new.dest, c.self.invariant.at_most);
      room = c.self.invariant.room;
      counted = omega (
        arith,
        records_remove c.self.inside.slots.items c.args.at c.replace-old.result (within at) (stood at),
        records_set c.self.inside.slots.items c.args.at c.args.slot c.replace-old.result (within at) (stood at),
        ap (λ p. length (listed (set c.self.inside.slots.items c.args.at p))) c.replace-old.ensures.after,
        c.self.invariant.counted,
        c.records.ensures,
        c.records-comes.ensures,
      );
      head = subst (λ (l : List Slot). IsHead l c.head_of-self-inside.result) c.as_slice.ensures.value c.head_of-self-inside.ensures;
    }
