use Rattle.std.proofs.Common.{◌≡◌, suc, ◌+◌, length, ◌∙◌, ap, subst, sym, List, arith}
use Rattle.cics_ksds.specs.declared.slots.Slot.{Slot}
use Rattle.cics_ksds.specs.declared.slots.Position.{Position}
use Rattle.cics_ksds.specs.Slots.{joined, slots_in, empty_count, number_of, interval_at, halved, IsThere, IsAreaRoom}
use Rattle.cics_ksds.proofs.Joins.{halves-length, joined_split}
use Rattle.cics_ksds.proofs.AreaEdits.{within}
use Rattle.cics_ksds.proofs.IntervalEdits.{is_room, same_interval, is_room_before, is_room_behind}
use Rattle.cics_ksds.proofs.dataset.Dataset.make_room.Goals as goal
use Rattle.cics_ksds.proofs.dataset.Dataset.make_room.Goals.{After-self-2}

count_now : (old now : List (List (List Slot))) (at : Position) → old ≡ now → length (interval_at old at) ≡ length (interval_at now at)
count_now old now at is = ap (λ (areas : List (List (List Slot))). length (interval_at areas at)) is

pub returns-then-slots_at-lt-FULL-clause-ok : goal.returns-then-slots_at-lt-FULL-clause-ok
returns-then-slots_at-lt-FULL-clause-ok c = is_room c.args.self.now c.args.at c.requires.there c.requires.slot
    (omega (arith, count_now c.self.inside.areas.items c.args.self.now c.args.at c.self.view_is, c.slots_at.ensures.count, c.if-slots_at-lt-FULL.true))

-- what is known once the area has room
full : (c : After-self-2) → length (interval_at c.args.self.now c.args.at) ≡ 16
full c = omega (arith, count_now c.self.inside.areas.items c.args.self.now c.args.at c.self.view_is, c.slots_at.ensures.count, c.slots_at.ensures.at_most, c.if-slots_at-lt-FULL.false)

same : (c : After-self-2) → joined c.self-2.inside.areas.items ≡ joined c.args.self.now
same c = ap (λ (areas : List (List (List Slot))). joined areas) c.self-2.view_is ∙ c.make_area_room.ensures.intervals

moved : (c : After-self-2) → IsAreaRoom c.args.self.now c.args.at c.self-2.inside.areas.items c.in_ok-next.next
moved c = subst (λ (mid : List (List (List Slot))). IsAreaRoom c.args.self.now c.args.at mid c.in_ok-next.next) (sym c.self-2.view_is) c.in_ok-next.ensures.ok

pub split_interval-requires-clause-full : goal.split_interval-requires-clause-full
split_interval-requires-clause-full c =
    let here = (goal.at.split_interval-requires-clause-full c).After-self-2 in
    ap (λ (l : List Slot). length l) (same_interval c.args.self.now c.self-2.inside.areas.items c.args.at c.in_ok-next.next c.requires.there (moved here).there (same here) (moved here).same) ∙ full here

-- how many intervals there are after the split
counted : (old mid new : List (List (List Slot))) (next : Position) → IsThere mid next → joined mid ≡ joined old → joined new ≡ halved (joined mid) (number_of mid next) → length (joined new) ≡ suc (length (joined old))
counted old mid new next there same split =
    ap (λ (l : List (List Slot)). length l) split ∙ halves-length (joined mid) (number_of mid next) (within mid next there) 8 ∙ ap (λ (l : List (List Slot)). suc (length l)) same

opened : (old now : List (List (List Slot))) → old ≡ now → length (joined old) ≡ length (joined now)
opened old now is = ap (λ (areas : List (List (List Slot))). length (joined areas)) is

-- a split leaves the slots as they are
same_split : (c : After-self-2) (new : List (List (List Slot))) → joined new ≡ halved (joined c.self-2.inside.areas.items) (number_of c.self-2.inside.areas.items c.in_ok-next.next) → slots_in new ≡ slots_in c.self-2.inside.areas.items
same_split c new split =
    let mid = c.self-2.inside.areas.items in
    ap (λ (l : List (List Slot)). joined l) split ∙ joined_split (joined mid) (number_of mid c.in_ok-next.next) (within mid c.in_ok-next.next (moved c).there) 8

pub invariant_of-self-then-next-le-HALF : goal.invariant_of-self-then-next-le-HALF
invariant_of-self-then-next-le-HALF c =
    let here = (goal.at.invariant_of-self-then-next-le-HALF c).After-self-2 in
    record {
      each = c.split_interval.ensures.each;
      counted = omega (
        arith,
        counted c.args.self.now c.self-2.inside.areas.items c.split_interval.new.areas.items c.in_ok-next.next (moved here).there (same here) c.in_ok-split_interval.ensures.intervals,
        opened c.self.inside.areas.items c.args.self.now c.self.view_is,
        c.self.invariant.counted,
        c.in-Some.ensures,
      );
      long = c.self-2.invariant.long ∙ sym (ap length (same_split here c.split_interval.new.areas.items c.in_ok-split_interval.ensures.intervals));
      empties = c.self-2.invariant.empties ∙ sym (ap empty_count (same_split here c.split_interval.new.areas.items c.in_ok-split_interval.ensures.intervals));
    }

pub invariant_of-self-2 : goal.invariant_of-self-2
invariant_of-self-2 c =
    let here = (goal.at.invariant_of-self-2 c).After-self-2 in
    record {
      each = c.split_interval.ensures.each;
      counted = omega (
        arith,
        counted c.args.self.now c.self-2.inside.areas.items c.split_interval.new.areas.items c.in_ok-next.next (moved here).there (same here) c.in_ok-split_interval.ensures.intervals,
        opened c.self.inside.areas.items c.args.self.now c.self.view_is,
        c.self.invariant.counted,
        c.in-Some.ensures,
      );
      long = c.self-2.invariant.long ∙ sym (ap length (same_split here c.split_interval.new.areas.items c.in_ok-split_interval.ensures.intervals));
      empties = c.self-2.invariant.empties ∙ sym (ap empty_count (same_split here c.split_interval.new.areas.items c.in_ok-split_interval.ensures.intervals));
    }

pub returns-then-next-le-HALF-clause-ok : goal.returns-then-next-le-HALF-clause-ok
returns-then-next-le-HALF-clause-ok c =
    let here = (goal.at.returns-then-next-le-HALF-clause-ok c).After-self-2 in
    is_room_before c.args.self.now c.self-2.inside.areas.items c.split_interval.new.areas.items c.args.at c.in_ok-next.next c.requires.there (same here) (moved here)
    c.in_ok-split_interval.ensures.halves c.in_ok-split_interval.ensures.intervals (full here) c.if-next-le-HALF.true

pub returns-clause-ok : goal.returns-clause-ok
returns-clause-ok c =
    let here = (goal.at.returns-clause-ok c).After-self-2 in
    is_room_behind c.args.self.now c.self-2.inside.areas.items c.split_interval.new.areas.items c.args.at c.in_ok-next.next c.requires.there (same here) (moved here)
    c.in_ok-split_interval.ensures.halves c.in_ok-split_interval.ensures.intervals (full here) c.if-next-le-HALF.false (omega (arith, full here, c.requires.slot)) (c.in_ok-next.next.interval + 1) (omega arith)
