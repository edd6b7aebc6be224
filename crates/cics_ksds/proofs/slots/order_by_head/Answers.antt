use Rattle.std.proofs.Common.{◌≡◌, ◌≤◌, ◌<◌, ◌+◌, ℕ, IfSome, IsTrue, length, take, drop, false, true, sym, ◌∙◌, ap, subst, arith}
use Rattle.std.proofs.lemmas.List.{length-take-le, length-drop}
use Rattle.std.specs.declared.cmp.Ordering.TheVariants.{Equal}
use Rattle.std.specs.Ordering.{is_eq}
use Rattle.cics_names.specs.Keyed.{Bytes}
use Rattle.cics_ksds.specs.declared.definition.FileDef.{FileDef}
use Rattle.cics_ksds.specs.declared.numbered.KeyHead.{KeyHead}
use Rattle.cics_ksds.specs.declared.slots.Slot.{Slot}
use Rattle.cics_ksds.specs.declared.slots.Slot.TheVariants.{Filled, Empty}
use Rattle.cics_ksds.specs.Files.{key_of, fits_file}
use Rattle.cics_ksds.specs.Heads.{IsSlotHead}
use Rattle.cics_ksds.specs.Slots.{AreKeyNumbers, IsSlot, slot_key}
use Rattle.cics_ksds.specs.Words.{AreNumbers}
use Rattle.cics_ksds.proofs.Words.{by_numbers}
use Rattle.cics_ksds.proofs.slots.order_by_head.Goals as goal
use Rattle.cics_ksds.proofs.slots.order_by_head.Goals.{else-key-gt-BYTES-via-then-key-gt-BYTES+else-is_eq, else-key-gt-BYTES-via-else-key-gt-BYTES}

-- the key of a record that fits has its whole length
whole : (d : FileDef) (r : Bytes) → IsTrue (fits_file d r) → length (key_of d r) ≡ d.key_length
whole d r fits =
    let long : d.key_offset + d.key_length ≤ length r = grind arith in
    length-take-le d.key_length (drop d.key_offset r) (omega (arith, length-drop d.key_offset r))

-- the head's numbers are those of the slot's key
numbers : (d : FileDef) (head : KeyHead) → head.length ≡ d.key_length → head.offset ≡ d.key_offset → 0 < head.length → (slot : Slot) → IsSlot d slot → IsSlotHead slot head
    → AreKeyNumbers d (slot_key d slot) head.numbers
numbers d head same at some (Filled r) fits headed = record {
  whole = whole d r fits;
  numbers = subst (λ (n : ℕ). AreNumbers (take n (drop d.key_offset r)) head.numbers) same (subst (λ (n : ℕ). AreNumbers (take head.length (drop n r)) head.numbers) at (headed some));
}
numbers d head same at some (Empty key) fits headed = record { whole = (headed some).0 ∙ same; numbers = (headed some).1 }

pub returns : goal.returns
returns c = λ slot fits headed.
    let own = numbers c.args.definition c.args.head c.if-head-definition.false c.if-head-definition-2.false (omega (arith, c.if-head-definition.false, sought.whole, sought.numbers.long)) slot fits headed in
    by_numbers (slot_key c.args.definition slot) c.args.key.now c.args.head.numbers c.in-Some.sought own.numbers sought.numbers (own.whole ∙ sym sought.whole)
    c.order-order.result c.order-order.ensures (λ tie. omega (arith, few tie, own.whole, sought.whole))
  where
    sought : AreKeyNumbers c.args.definition c.args.key.now c.in-Some.sought
    sought = subst (λ s. IfSome s (AreKeyNumbers c.args.definition c.args.key.now)) c.in-Some.is c.requires

    few : c.order-order.result ≡ Equal → length c.args.key.now ≤ 16
    few tie = elim c.else-key-gt-BYTES.branch [
      | else-key-gt-BYTES-via-then-key-gt-BYTES+else-is_eq w ↦ let wrong : false ≡ true = sym w.if-is_eq.false ∙ w.is_eq.ensures ∙ ap is_eq tie in cc
      | else-key-gt-BYTES-via-else-key-gt-BYTES w ↦ omega (arith, w.if-key-gt-BYTES.false)
    ]
