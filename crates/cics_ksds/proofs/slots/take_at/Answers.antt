use Rattle.std.proofs.Common.{refl}
use Rattle.cics_ksds.specs.Slots.{IsSlot, IsAt, key_at, slots_in, index_of}
use Rattle.cics_ksds.proofs.Edits.{keyed_slots_remove, rising_remove, All-remove}
use Rattle.cics_ksds.proofs.IntervalEdits.{index_within}
use Rattle.cics_ksds.proofs.Values.{value_dropped}
use Rattle.cics_ksds.proofs.slots.take_at.Goals as goal
use Rattle.cics_ksds.proofs.slots.take_at.Goals.{After-remove}

stood : (c : After-remove) → IsAt c.args.definition (slots_in c.args.slots.now) (key_at c.args.definition (slots_in c.args.slots.now) (index_of c.args.slots.now c.args.at)) (index_of c.args.slots.now c.args.at)
stood c = record { in_range = index_within c.args.slots.now c.args.at c.requires.there c.requires.slot; has_key = refl }

pub returns-clause-slots : goal.returns-clause-slots
returns-clause-slots c = rw c.remove.ensures.slots (record {
  rising = rising_remove c.args.definition (slots_in c.args.slots.now) _ (index_of c.args.slots.now c.args.at) c.requires.slots.rising (stood (goal.at.returns-clause-slots c).After-remove);
  each = All-remove c.args.definition (IsSlot c.args.definition) (slots_in c.args.slots.now) (index_of c.args.slots.now c.args.at) c.requires.slots.each;
})

pub returns-clause-value : goal.returns-clause-value
returns-clause-value c = rw c.remove.ensures.slots (value_dropped c.args.definition (slots_in c.args.slots.now) _ (key_at c.args.definition (slots_in c.args.slots.now) (index_of c.args.slots.now c.args.at)) c.requires.slots.rising
    (keyed_slots_remove c.args.definition (slots_in c.args.slots.now) (key_at c.args.definition (slots_in c.args.slots.now) (index_of c.args.slots.now c.args.at)) (index_of c.args.slots.now c.args.at) c.requires.slots.rising (stood (goal.at.returns-clause-value c).After-remove)))
