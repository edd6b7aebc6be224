use Rattle.std.proofs.Common.{◌≡◌, ◌<◌, ◌+◌, ℕ, refl, List, [], ◌∷◌, false, T, length, get_or, drop, map, sym, ◌∙◌, ap, subst, arith}
use Rattle.std.proofs.lemmas.List.{drop_more}
use Rattle.cics_names.specs.Keyed.{is_rising}
use Rattle.cics_ksds.specs.declared.slots.Slot.{Slot}
use Rattle.cics_ksds.specs.declared.slots.Slot.TheVariants.{Empty}
use Rattle.cics_ksds.specs.Slots.{IsSlot, record_in, keyed_slots, filled_slots, slot_key, slots_in, index_of, IsPosition}
use Rattle.cics_ksds.specs.Files.{is_from}
use Rattle.cics_ksds.specs.Prefixes.{has_prefix, under}
use Rattle.cics_ksds.proofs.Bounds.{records_listed, keyed}
use Rattle.cics_ksds.proofs.IntervalEdits.{index_within}
use Rattle.cics_ksds.proofs.UnderPrefix.{none_left, read_there, rising_drop}
use Rattle.cics_ksds.proofs.prefixes.first_under.Goals as goal
use Rattle.cics_ksds.proofs.prefixes.first_under.Goals.{After-slot_at-slot}

pub loop-here-init : goal.loop-here-init
loop-here-init c = record {
  there = c.requires.there;
  slot = c.requires.slot;
  further = omega arith;
  left = refl;
}

pub next-requires-clause-there : goal.next-requires-clause-there
next-requires-clause-there c = c.loop-here.invariant.there

pub next-requires-clause-slot : goal.next-requires-clause-slot
next-requires-clause-slot c = c.loop-here.invariant.slot

-- the slot that was read, and where it stands
module _ (c : After-slot_at-slot) where
  abbrev slots : List Slot
  slots = slots_in c.args.slots.now

  abbrev index : ℕ
  index = index_of c.args.slots.now c.in-Some.here

  is : IsPosition c.args.slots.now (index_of c.args.slots.now c.loop-here.at) c.in-Some.here
  is = c.in-Some.ensures.next

  within : index < length slots
  within = index_within c.args.slots.now c.in-Some.here is.there is.slot

  stands : (get_or slots index (Empty []) ≡ c.slot_at-slot.result.now) × IsSlot c.args.definition c.slot_at-slot.result.now
  stands = read_there c.args.definition slots index c.slot_at-slot.result.now c.requires.slots within c.slot_at-slot.ensures

  parts : drop index slots ≡ c.slot_at-slot.result.now ∷ drop (index + 1) slots
  parts = drop_more slots index (Empty []) within ∙ ap (λ p. p ∷ drop (index + 1) slots) stands.0

pub key-requires : goal.key-requires
key-requires c = (stands (goal.at.key-requires c).After-slot_at-slot).1

pub returns-then-not-starts_with-clause-left : goal.returns-then-not-starts_with-clause-left
returns-then-not-starts_with-clause-left c =
    let at = (goal.at.returns-then-not-starts_with-clause-left c).After-slot_at-slot in
    let d = c.args.definition in
    let slot = c.slot_at-slot.result.now in
    let above = c.requires.from (index at) (omega (arith, (is at).same, c.loop-here.invariant.further)) (within at) in
    sym (none_left d c.args.prefix.now (slot_key d slot)
    (ap (λ p. is_from c.args.prefix.now false (slot_key d p)) (sym (stands at).0) ∙ above)
    (ap (has_prefix c.args.prefix.now) (sym c.key.ensures) ∙ sym c.starts_with.ensures.value ∙ c.if-not-starts_with.true)
    slot (drop (index at + 1) (slots at)) refl (subst (λ l. T (is_rising (keyed_slots d l))) (parts at) (rising_drop d (index at) (slots at) c.requires.slots.rising)))
    ∙ ap (λ l. under c.args.prefix.now (filled_slots (keyed_slots d l))) (sym (parts at) ∙ ap (λ n. drop n (slots at)) (is at).same)
    ∙ c.loop-here.invariant.left

pub returns-in-Filled-clause-found : goal.returns-in-Filled-clause-found
returns-in-Filled-clause-found c =
    let at = (goal.at.returns-in-Filled-clause-found c).After-slot_at-slot in
    record {
      there = (is at).there;
      slot = (is at).slot;
      at_most = (is at).at_most;
      record_there = (
        c.in-Filled.field-0,
        (stands at).0 ∙ c.in-Filled.is,
        ap (λ p. has_prefix c.args.prefix.now (slot_key c.args.definition p)) (sym c.in-Filled.is) ∙ ap (has_prefix c.args.prefix.now) (sym c.key.ensures) ∙ sym c.starts_with.ensures.value ∙ c.if-not-starts_with.false,
      );
    }

pub behind-at-requires-clause-empty : goal.behind-at-requires-clause-empty
behind-at-requires-clause-empty c = ap record_in ((stands (goal.at.behind-at-requires-clause-empty c).After-slot_at-slot).0 ∙ c.in-Empty.is)

pub loop-here-smaller : goal.loop-here-smaller
loop-here-smaller c =
    let at = (goal.at.loop-here-smaller c).After-slot_at-slot in
    omega (arith, within at, (is at).same, c.behind-at.ensures.further)

pub loop-here-preserved : goal.loop-here-preserved
loop-here-preserved c =
    let at = (goal.at.loop-here-preserved c).After-slot_at-slot in
    let d = c.args.definition in
    let next = drop (index_of c.args.slots.now c.behind-at.result) (slots at) in
    record {
      there = λ some. c.behind-at.ensures.there;
      slot = c.behind-at.ensures.slot;
      further = omega (arith, c.loop-here.invariant.further, c.behind-at.ensures.further, (is at).same);
      left = ap (under c.args.prefix.now) (records_listed d next ∙ ap (map (keyed d)) c.behind-at.ensures.records ∙ sym (records_listed d (drop (index at) (slots at))))
          ∙ ap (λ n. under c.args.prefix.now (filled_slots (keyed_slots d (drop n (slots at))))) (is at).same
          ∙ c.loop-here.invariant.left;
    }
