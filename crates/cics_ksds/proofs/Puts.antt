-- What a file shows after a slot was replaced by one of the same key.
use Rattle.std.proofs.Common.{◌≡◌, List, subst, sym, ◌∙◌, get_or, set}
use Rattle.std.proofs.lemmas.List.Elements.{All-set}
use Rattle.cics_ksds.specs.declared.definition.FileDef.{FileDef}
use Rattle.cics_ksds.specs.declared.slots.Position.{Position}
use Rattle.cics_ksds.specs.declared.slots.Slot.{Slot}
use Rattle.cics_ksds.specs.Slots.{AreSlots, IsSlot, IsSlotOf, IsPut, slot_key, slots_in, index_of}
use Rattle.cics_ksds.proofs.Edits.{keyed_slots_set, rising_set, find_read}
use Rattle.cics_ksds.proofs.Order.{key_of_read}
use Rattle.cics_ksds.proofs.Values.{shows_found, value_placed}
use Rattle.std.specs.Prelude.{refl}

pub is_put : (d : FileDef) (old new : List (List (List Slot))) (at : Position) (slot out : Slot) → AreSlots d (slots_in old) → IsSlotOf d old (slot_key d slot) at → IsSlot d slot →
    slots_in new ≡ set (slots_in old) (index_of old at) slot → out ≡ get_or (slots_in old) (index_of old at) out → IsPut d old new slot out
is_put d old new at slot out are of is put stood = record {
  slots = rw put (record {
    rising = rising_set d (slots_in old) _ (index_of old at) slot are.rising of.is_at refl;
    each = All-set (IsSlot d) (slots_in old) (index_of old at) slot is are.each;
  });
  value = rw put (value_placed d (slots_in old) _ (slot_key d slot) are.rising slot (keyed_slots_set d (slots_in old) (slot_key d slot) (index_of old at) slot are.rising of.is_at refl));
  old = shows_found d (slots_in old) (slot_key d slot) are.rising out (find_read d (slots_in old) (slot_key d slot) (index_of old at) out are.rising of.is_at stood);
  old_slot = subst (IsSlot d) (sym stood) (are.each (index_of old at) out of.is_at.in_range);
  old_key = key_of_read d (slots_in old) (index_of old at) out stood of.is_at.in_range ∙ of.is_at.has_key;
}
