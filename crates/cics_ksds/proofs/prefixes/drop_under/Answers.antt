use Rattle.std.proofs.Common.{◌≡◌, true, false, [], ◌∷◌, length, map, sym, ◌∙◌, ap, arith}
use Rattle.cics_names.specs.Keyed.{Bytes, Map}
use Rattle.cics_ksds.specs.Files.{FileValue, key_of, dropped}
use Rattle.cics_ksds.specs.Slots.{IsRecordUnder, slots_in, slot_key, key_at, index_of, value_of, left_at}
use Rattle.cics_ksds.specs.Prefixes.{has_prefix, under, from, all_deleted, without_prefix}
use Rattle.cics_ksds.specs.PrefixLaws.{dropped_there}
use Rattle.cics_ksds.proofs.UnderPrefix.{above_from, start_left, from_start, from_without, fewer_under, found_at, none_found, found_left, found_key, found_slot, found_record}
use Rattle.cics_ksds.proofs.prefixes.drop_under.Goals as goal
use Rattle.cics_ksds.proofs.prefixes.drop_under.Goals.{In-Some, In_default, After-take_at-old, After-first_under-next-in-Some}

pub loop-next-init : goal.loop-next-init
loop-next-init c =
    let all = c.first_under-next.ensures.left ∙ start_left c.args.definition c.args.slots.now c.args.prefix.now c.start_of-start.result c.start_of-start.ensures.before c.start_of-start.ensures.after in
    record {
      are = c.requires;
      found = c.first_under-next.ensures.found;
      counted = omega (arith, ap length all);
      few = c.first_under-next.ensures.few;
      whole = ap (λ (es : Map Bytes). all_deleted false (value_of c.args.definition (slots_in c.args.slots.now)) (map (λ e. e.0) es)) all;
    }

-- the record that is deleted next
found : (c : In-Some) → IsRecordUnder c.args.definition c.loop-next.slots c.args.prefix.now c.in-Some.at
found c = found_at c.args.definition c.loop-next.slots c.args.prefix.now c.loop-next.next c.in-Some.at c.in-Some.is c.loop-next.invariant.found

left_now : (c : In-Some) → left_at c.args.definition c.loop-next.slots c.args.prefix.now c.loop-next.next
    ≡ (key_of c.args.definition (found c).record_there.0, (found c).record_there.0) ∷ under c.args.prefix.now (from (key_of c.args.definition (found c).record_there.0) true (value_of c.args.definition (slots_in c.loop-next.slots)).records)
left_now c = found_left c.args.definition c.loop-next.slots c.args.prefix.now c.loop-next.invariant.are c.in-Some.at (found c) c.loop-next.next c.in-Some.is

pub take_at-old-requires-clause-slots : goal.take_at-old-requires-clause-slots
take_at-old-requires-clause-slots c = c.loop-next.invariant.are

pub take_at-old-requires-clause-there : goal.take_at-old-requires-clause-there
take_at-old-requires-clause-there c = (found (goal.at.take_at-old-requires-clause-there c).In-Some).there

pub take_at-old-requires-clause-slot : goal.take_at-old-requires-clause-slot
take_at-old-requires-clause-slot c = (found (goal.at.take_at-old-requires-clause-slot c).In-Some).slot

pub overflow_add-number : goal.overflow_add-number
overflow_add-number c =
    let at = (goal.at.overflow_add-number c).In-Some in
    omega (arith, ap length (left_now at), c.loop-next.invariant.counted, c.loop-next.invariant.few, fewer_under c.args.definition c.args.prefix.now (slots_in c.args.slots.now))

pub key-requires : goal.key-requires
key-requires c = found_slot c.args.definition c.loop-next.slots c.args.prefix.now c.loop-next.invariant.are c.in-Some.at (found (goal.at.key-requires c).In-Some) c.take_at-old.result c.take_at-old.ensures.old

-- the key of the slot that was taken out, and the file without it
module _ (c : After-take_at-old) (found : IsRecordUnder c.args.definition c.loop-next.slots c.args.prefix.now c.in-Some.at) where
  key_is : slot_key c.args.definition c.take_at-old.result ≡ key_of c.args.definition found.record_there.0
  key_is = found_key c.args.definition c.loop-next.slots c.args.prefix.now c.loop-next.invariant.are c.in-Some.at found c.take_at-old.result c.take_at-old.ensures.old

  less_one : value_of c.args.definition (slots_in c.take_at-old.new.slots) ≡ dropped (value_of c.args.definition (slots_in c.loop-next.slots)) (key_of c.args.definition found.record_there.0)
  less_one = c.take_at-old.ensures.value ∙ ap (λ p. dropped (value_of c.args.definition (slots_in c.loop-next.slots)) (slot_key c.args.definition p)) found.record_there.1

pub first_under-next-requires-in-Some-clause-from : goal.first_under-next-requires-in-Some-clause-from
first_under-next-requires-in-Some-clause-from c j behind in_range =
    let at = goal.at.first_under-next-requires-in-Some-clause-from c in
    above_from c.args.prefix.now c.key.result.now (key_at c.args.definition (slots_in c.take_at-old.new.slots) j)
    (ap (has_prefix c.args.prefix.now) (c.key.ensures ∙ key_is at.After-take_at-old (found at.In-Some)) ∙ (found at.In-Some).record_there.2)
    (c.start_of-rest.ensures.after j behind in_range)

-- what is left after it
left_next : (c : After-first_under-next-in-Some) (found : IsRecordUnder c.args.definition c.loop-next.slots c.args.prefix.now c.in-Some.at) →
    slot_key c.args.definition c.take_at-old.result ≡ key_of c.args.definition found.record_there.0 →
    value_of c.args.definition (slots_in c.take_at-old.new.slots) ≡ dropped (value_of c.args.definition (slots_in c.loop-next.slots)) (key_of c.args.definition found.record_there.0) →
    left_at c.args.definition c.take_at-old.new.slots c.args.prefix.now c.first_under-next-in-Some.result
    ≡ under c.args.prefix.now (from (key_of c.args.definition found.record_there.0) true (value_of c.args.definition (slots_in c.loop-next.slots)).records)
left_next c found same less =
    let d = c.args.definition in
    let key = key_of d found.record_there.0 in
    let slots = slots_in c.take_at-old.new.slots in
    c.first_under-next-in-Some.ensures.left
    ∙ ap (under c.args.prefix.now) (sym (from_start d c.key.result.now true slots (index_of c.take_at-old.new.slots c.start_of-rest.result) c.start_of-rest.ensures.before c.start_of-rest.ensures.after)
    ∙ (λ i. from ((c.key.ensures ∙ same) i) true (less i).records) ∙ from_without key (value_of d (slots_in c.loop-next.slots)).records)

-- deleting what is left after it deletes all
whole_next : (c : After-first_under-next-in-Some) (found : IsRecordUnder c.args.definition c.loop-next.slots c.args.prefix.now c.in-Some.at) →
    left_at c.args.definition c.loop-next.slots c.args.prefix.now c.loop-next.next
    ≡ (key_of c.args.definition found.record_there.0, found.record_there.0) ∷ under c.args.prefix.now (from (key_of c.args.definition found.record_there.0) true (value_of c.args.definition (slots_in c.loop-next.slots)).records) →
    slot_key c.args.definition c.take_at-old.result ≡ key_of c.args.definition found.record_there.0 →
    value_of c.args.definition (slots_in c.take_at-old.new.slots) ≡ dropped (value_of c.args.definition (slots_in c.loop-next.slots)) (key_of c.args.definition found.record_there.0) →
    all_deleted false (value_of c.args.definition (slots_in c.take_at-old.new.slots)) (map (λ e. e.0) (left_at c.args.definition c.take_at-old.new.slots c.args.prefix.now c.first_under-next-in-Some.result))
    ≡ without_prefix false (value_of c.args.definition (slots_in c.args.slots.now)) c.args.prefix.now
whole_next c found now same less =
    let d = c.args.definition in
    let old : FileValue = value_of d (slots_in c.loop-next.slots) in
    let there = found_record d c.loop-next.slots c.args.prefix.now c.loop-next.invariant.are c.in-Some.at found in
    (λ i. all_deleted false ((less ∙ sym (dropped_there old (key_of d found.record_there.0) found.record_there.0 there)) i) (map (λ e. e.0) (left_next c found same less i)))
    ∙ ap (λ (es : Map Bytes). all_deleted false old (map (λ e. e.0) es)) (sym now)
    ∙ c.loop-next.invariant.whole

pub loop-next-smaller : goal.loop-next-smaller
loop-next-smaller c =
    let here = (goal.at.loop-next-smaller c).In-Some in
    let taken = (goal.at.loop-next-smaller c).After-take_at-old in
    omega (arith, ap length (left_now here), ap length (left_next (goal.at.loop-next-smaller c).After-first_under-next-in-Some (found here) (key_is taken (found here)) (less_one taken (found here))))

pub loop-next-preserved : goal.loop-next-preserved
loop-next-preserved c =
    let here = (goal.at.loop-next-preserved c).In-Some in
    let taken = (goal.at.loop-next-preserved c).After-take_at-old in
    let then = (goal.at.loop-next-preserved c).After-first_under-next-in-Some in
    record {
      are = c.take_at-old.ensures.slots;
      found = c.first_under-next-in-Some.ensures.found;
      counted = omega (arith, ap length (left_now here), ap length (left_next then (found here) (key_is taken (found here)) (less_one taken (found here))), c.loop-next.invariant.counted);
      few = c.loop-next.invariant.few;
      whole = whole_next then (found here) (left_now here) (key_is taken (found here)) (less_one taken (found here));
    }

-- none is left
none_left : (c : In_default) → left_at c.args.definition c.loop-next.slots c.args.prefix.now c.loop-next.next ≡ []
none_left c = none_found c.args.definition c.loop-next.slots c.args.prefix.now c.loop-next.next c.in_default.not-Some

pub returns-clause-slots : goal.returns-clause-slots
returns-clause-slots c = c.loop-next.invariant.are

pub returns-clause-value : goal.returns-clause-value
returns-clause-value c =
    ap (λ (es : Map Bytes). all_deleted false (value_of c.args.definition (slots_in c.loop-next.slots)) (map (λ e. e.0) es)) (sym (none_left (goal.at.returns-clause-value c).In_default))
    ∙ c.loop-next.invariant.whole

pub returns-clause-number : goal.returns-clause-number
returns-clause-number c = omega (arith, ap length (none_left (goal.at.returns-clause-number c).In_default), c.loop-next.invariant.counted)
