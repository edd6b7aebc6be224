use Rattle.std.proofs.Common.{refl}
use Rattle.cics_ksds.specs.Slots.{IsSlot, slot_key, slots_in, index_of}
use Rattle.cics_ksds.proofs.Edits.{keyed_slots_insert, rising_insert, All-insert}
use Rattle.cics_ksds.proofs.Values.{value_placed}
use Rattle.cics_ksds.proofs.slots.insert_at.Goals as goal

pub returns-clause-slots : goal.returns-clause-slots
returns-clause-slots c = rw c.in_ok-insert.ensures.slots (record {
  rising = rising_insert c.args.definition (slots_in c.args.slots.now) _ (index_of c.args.slots.now c.args.at) c.args.slot c.requires.slots.rising c.requires.gap.gap refl;
  each = All-insert c.args.definition (IsSlot c.args.definition) (slots_in c.args.slots.now) (index_of c.args.slots.now c.args.at) c.args.slot c.requires.slots.each c.requires.slot;
})

pub returns-clause-value : goal.returns-clause-value
returns-clause-value c = rw c.in_ok-insert.ensures.slots (value_placed c.args.definition (slots_in c.args.slots.now) _ (slot_key c.args.definition c.args.slot) c.requires.slots.rising c.args.slot
    (keyed_slots_insert c.args.definition (slots_in c.args.slots.now) (slot_key c.args.definition c.args.slot) (index_of c.args.slots.now c.args.at) c.args.slot c.requires.gap.gap refl))
