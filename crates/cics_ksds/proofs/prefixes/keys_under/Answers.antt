use Rattle.std.proofs.Common.{◌≡◌, ◌++◌, ◌∷◌, length, map, sym, ◌∙◌, ap, arith, append_assoc}
use Rattle.std.proofs.lemmas.List.{append-nil}
use Rattle.cics_ksds.specs.Files.{key_of}
use Rattle.cics_ksds.specs.Slots.{IsRecordUnder, left_at}
use Rattle.cics_ksds.proofs.UnderPrefix.{start_left, found_at, none_found, found_key, found_slot}
use Rattle.cics_ksds.proofs.prefixes.keys_under.Goals as goal
use Rattle.cics_ksds.proofs.prefixes.keys_under.Goals.{In-Some, After-next_under-next}

pub loop-next-init : goal.loop-next-init
loop-next-init c = record {
  found = c.first_under-next.ensures.found;
  whole = ap (λ l. l ++ map (λ e. e.0) (left_at c.args.definition c.args.slots.now c.args.prefix.now c.first_under-next.result)) c.new-keys.ensures
      ∙ ap (map (λ e. e.0)) (c.first_under-next.ensures.left ∙ start_left c.args.definition c.args.slots.now c.args.prefix.now c.start_of-start.result c.start_of-start.ensures.before c.start_of-start.ensures.after);
}

-- the record whose key comes next
found : (c : In-Some) → IsRecordUnder c.args.definition c.args.slots.now c.args.prefix.now c.in-Some.at
found c = found_at c.args.definition c.args.slots.now c.args.prefix.now c.loop-next.next c.in-Some.at c.in-Some.is c.loop-next.invariant.found

pub slot_at-requires-clause-there : goal.slot_at-requires-clause-there
slot_at-requires-clause-there c = (found (goal.at.slot_at-requires-clause-there c).In-Some).there

pub slot_at-requires-clause-slot : goal.slot_at-requires-clause-slot
slot_at-requires-clause-slot c = (found (goal.at.slot_at-requires-clause-slot c).In-Some).slot

pub key-key-requires : goal.key-key-requires
key-key-requires c = found_slot c.args.definition c.args.slots.now c.args.prefix.now c.requires c.in-Some.at (found (goal.at.key-key-requires c).In-Some) c.slot_at.result.now c.slot_at.ensures

-- what is left begins with it
left_now : (c : After-next_under-next) (found : IsRecordUnder c.args.definition c.args.slots.now c.args.prefix.now c.in-Some.at) →
    left_at c.args.definition c.args.slots.now c.args.prefix.now c.loop-next.next ≡ (key_of c.args.definition found.record_there.0, found.record_there.0) ∷ left_at c.args.definition c.args.slots.now c.args.prefix.now c.next_under-next.result
left_now c found = ap (λ o. left_at c.args.definition c.args.slots.now c.args.prefix.now o) c.in-Some.is ∙ c.next_under-next.ensures.left found.record_there.0 found.record_there.1

pub loop-next-smaller : goal.loop-next-smaller
loop-next-smaller c = omega (arith, ap length (left_now (goal.at.loop-next-smaller c).After-next_under-next (found (goal.at.loop-next-smaller c).In-Some)))

pub loop-next-preserved : goal.loop-next-preserved
loop-next-preserved c =
    let at = found (goal.at.loop-next-preserved c).In-Some in
    let d = c.args.definition in
    let same = c.key-key.ensures ∙ found_key d c.args.slots.now c.args.prefix.now c.requires c.in-Some.at at c.slot_at.result.now c.slot_at.ensures in
    let rest = map (λ e. e.0) (left_at d c.args.slots.now c.args.prefix.now c.next_under-next.result) in
    record {
      found = c.next_under-next.ensures.found;
      whole = ap (λ l. l ++ rest) c.in_ok-push.ensures.ok
          ∙ append_assoc c.loop-next.keys _ rest
          ∙ ap (λ k. c.loop-next.keys ++ k ∷ rest) (c.in_ok-from_slice.ensures ∙ same)
          ∙ ap (λ l. c.loop-next.keys ++ map (λ e. e.0) l) (sym (left_now (goal.at.loop-next-preserved c).After-next_under-next at))
          ∙ c.loop-next.invariant.whole;
    }

pub returns : goal.returns
returns c =
    sym (append-nil c.loop-next.keys)
    ∙ ap (λ l. c.loop-next.keys ++ map (λ e. e.0) l) (sym (none_found c.args.definition c.args.slots.now c.args.prefix.now c.loop-next.next c.in_default.not-Some))
    ∙ c.loop-next.invariant.whole
