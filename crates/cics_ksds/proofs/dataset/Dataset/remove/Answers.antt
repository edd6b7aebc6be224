use Rattle.std.proofs.Common.{◌≡◌, ◌<◌, [], length, get_or, set, sym, ◌∙◌, ap, subst, List, arith}
use Rattle.std.proofs.lemmas.List.{length-set, get_or_default}
use Rattle.std.proofs.lemmas.List.Edits.{length-remove}
use Rattle.std.specs.List.{remove, All}
use Rattle.cics_ksds.specs.declared.slots.Slot.{Slot}
use Rattle.cics_ksds.specs.Slots.{joined, slots_in, index_of, number_of, interval_at, empty_in, IsThere, IsArea, without_slot}
use Rattle.cics_ksds.proofs.AreaEdits.{within, set_one, set_each, remove_interval, interval_of}
use Rattle.cics_ksds.proofs.IntervalEdits.{remove_slots, removed_others, removed_last, read_slot, index_within}
use Rattle.cics_ksds.proofs.Counts.{Counts, after_remove}
use Rattle.cics_ksds.proofs.dataset.Dataset.remove.Goals as goal
use Rattle.cics_ksds.proofs.dataset.Dataset.remove.Goals.{After-slots_at, After-remove-old, After-remove_last-old}

there : (c : After-slots_at) → IsThere c.self.inside.areas.items c.args.at
there c = subst (λ (areas : List (List (List Slot))). IsThere areas c.args.at) (sym c.self.view_is) c.requires.there

below : (c : After-slots_at) → c.args.at.slot < length (interval_at c.self.inside.areas.items c.args.at)
below c = subst (λ (areas : List (List (List Slot))). c.args.at.slot < length (interval_at areas c.args.at)) (sym c.self.view_is) c.requires.slot

-- what is known once a slot was taken out
module _ (c : After-slots_at) (new : List (List (List Slot))) (old : Slot)
    (taken : joined new ≡ without_slot (joined c.self.inside.areas.items) (number_of c.self.inside.areas.items c.args.at) c.args.at.slot)
    (stood : old ≡ get_or (interval_at c.self.inside.areas.items c.args.at) c.args.at.slot old) where
  removed : slots_in new ≡ remove (slots_in c.self.inside.areas.items) (index_of c.self.inside.areas.items c.args.at)
  removed = ap (λ (l : List (List Slot)). joined l) taken ∙ remove_slots c.self.inside.areas.items c.args.at (there c) (below c)

  read : old ≡ get_or (slots_in c.self.inside.areas.items) (index_of c.self.inside.areas.items c.args.at) old
  read = stood ∙ sym (read_slot c.self.inside.areas.items c.args.at (there c) old (below c))

  counts : Counts (slots_in c.self.inside.areas.items) (slots_in new) (empty_in old) 0 0 1
  counts = after_remove (slots_in c.self.inside.areas.items) (slots_in new) (index_of c.self.inside.areas.items c.args.at) old removed
      (index_within c.self.inside.areas.items c.args.at (there c) (below c)) read

  intervals_seen : joined new ≡ without_slot (joined c.args.self.now) (number_of c.args.self.now c.args.at) c.args.at.slot
  intervals_seen = subst (λ (areas : List (List (List Slot))). joined new ≡ without_slot (joined areas) (number_of areas c.args.at) c.args.at.slot) c.self.view_is taken

  slots_seen : slots_in new ≡ remove (slots_in c.args.self.now) (index_of c.args.self.now c.args.at)
  slots_seen = subst (λ (areas : List (List (List Slot))). slots_in new ≡ remove (slots_in areas) (index_of areas c.args.at)) c.self.view_is removed

  old_seen : old ≡ get_or (slots_in c.args.self.now) (index_of c.args.self.now c.args.at) old
  old_seen = subst (λ (areas : List (List (List Slot))). old ≡ get_or (slots_in areas) (index_of areas c.args.at) old) c.self.view_is read

-- a slot that others stay beside, and one that is alone
module _ (c : After-remove-old) where
  there_now : IsThere c.self.inside.areas.items c.args.at
  there_now = subst (λ (areas : List (List (List Slot))). IsThere areas c.args.at) (sym c.self.view_is) c.requires.there

  below_now : c.args.at.slot < length (interval_at c.self.inside.areas.items c.args.at)
  below_now = subst (λ (areas : List (List (List Slot))). c.args.at.slot < length (interval_at areas c.args.at)) (sym c.self.view_is) c.requires.slot

  at_least : 1 < length (interval_at c.self.inside.areas.items c.args.at)
  at_least = omega (arith, c.slots_at.ensures.count, c.if-slots_at-gt1.true)

  -- the area that was edited is the position's
  row : c.index_mut.result.now ≡ get_or c.self.inside.areas.items c.args.at.area []
  row = c.index_mut.ensures.value ∙ get_or_default c.self.inside.areas.items c.args.at.area c.index_mut.result.now [] there_now.area

  made : c.remove-old.new.self ≡ set (get_or c.self.inside.areas.items c.args.at.area []) c.args.at.interval (remove (interval_at c.self.inside.areas.items c.args.at) c.args.at.slot)
  made = c.remove-old.ensures.slots ∙ ap (λ (r : List (List Slot)). set r c.args.at.interval (remove (get_or r c.args.at.interval []) c.args.at.slot)) row

  intervals : joined (set c.self.inside.areas.items c.args.at.area c.remove-old.new.self) ≡ set (joined c.self.inside.areas.items) (number_of c.self.inside.areas.items c.args.at) (remove (interval_at c.self.inside.areas.items c.args.at) c.args.at.slot)
  intervals = ap (λ (r : List (List Slot)). joined (set c.self.inside.areas.items c.args.at.area r)) made ∙ set_one c.self.inside.areas.items c.args.at there_now (remove (interval_at c.self.inside.areas.items c.args.at) c.args.at.slot)

  each : All IsArea (set c.self.inside.areas.items c.args.at.area c.remove-old.new.self)
  each = subst (λ (r : List (List Slot)). All IsArea (set c.self.inside.areas.items c.args.at.area r)) (sym made)
      (set_each c.self.inside.areas.items c.args.at there_now _ (remove_interval (interval_at c.self.inside.areas.items c.args.at) c.args.at.slot below_now at_least (interval_of c.self.inside.areas.items c.args.at there_now c.self.invariant.each)) c.self.invariant.each)

  others : joined (set c.self.inside.areas.items c.args.at.area c.remove-old.new.self) ≡ without_slot (joined c.self.inside.areas.items) (number_of c.self.inside.areas.items c.args.at) c.args.at.slot
  others = intervals ∙ removed_others c.self.inside.areas.items c.args.at there_now at_least

  stood : c.remove-old.result ≡ get_or (interval_at c.self.inside.areas.items c.args.at) c.args.at.slot c.remove-old.result
  stood = c.remove-old.ensures.old ∙ ap (λ (r : List (List Slot)). get_or (get_or r c.args.at.interval []) c.args.at.slot c.remove-old.result) row

alone : (c : After-remove_last-old) → joined c.remove_last-old.new.areas.items ≡ without_slot (joined c.self.inside.areas.items) (number_of c.self.inside.areas.items c.args.at) c.args.at.slot
alone c = c.remove_last-old.ensures.intervals ∙ removed_last c.self.inside.areas.items c.args.at (subst (λ (areas : List (List (List Slot))). IsThere areas c.args.at) (sym c.self.view_is) c.requires.there)
    (omega (arith, c.slots_at.ensures.count, c.if-slots_at-gt1.false))

pub overflow_sub-self : goal.overflow_sub-self
overflow_sub-self c =
    let here = counts (goal.at.overflow_sub-self c).After-slots_at (set c.self.inside.areas.items c.args.at.area c.remove-old.new.self) c.remove-old.result (others (goal.at.overflow_sub-self c).After-remove-old) (stood (goal.at.overflow_sub-self c).After-remove-old) in
    omega (arith, here.long, c.self.invariant.long)

pub overflow_sub-self-then-slots_at-gt1 : goal.overflow_sub-self-then-slots_at-gt1
overflow_sub-self-then-slots_at-gt1 c =
    let here = counts (goal.at.overflow_sub-self-then-slots_at-gt1 c).After-slots_at (set c.self.inside.areas.items c.args.at.area c.remove-old.new.self) c.remove-old.result (others (goal.at.overflow_sub-self-then-slots_at-gt1 c).After-remove-old) (stood (goal.at.overflow_sub-self-then-slots_at-gt1 c).After-remove-old) in
    omega (arith, here.some, c.self.invariant.empties, c.empties.ensures)

pub invariant_of-self : goal.invariant_of-self
invariant_of-self c =
    let here = counts (goal.at.invariant_of-self c).After-slots_at (set c.self.inside.areas.items c.args.at.area c.remove-old.new.self) c.remove-old.result (others (goal.at.invariant_of-self c).After-remove-old) (stood (goal.at.invariant_of-self c).After-remove-old) in
    record {
      each = each (goal.at.invariant_of-self c).After-remove-old;
      counted = c.self.invariant.counted ∙ sym (ap length (intervals (goal.at.invariant_of-self c).After-remove-old) ∙ length-set (joined c.self.inside.areas.items) (number_of c.self.inside.areas.items c.args.at) _);
      long = omega (arith, here.long, c.self.invariant.long);
      empties = omega (arith, here.some, here.empties, c.self.invariant.empties, c.empties.ensures);
    }

pub returns-then-slots_at-gt1-clause-slots : goal.returns-then-slots_at-gt1-clause-slots
returns-then-slots_at-gt1-clause-slots c =
    slots_seen (goal.at.returns-then-slots_at-gt1-clause-slots c).After-slots_at (set c.self.inside.areas.items c.args.at.area c.remove-old.new.self) c.remove-old.result (others (goal.at.returns-then-slots_at-gt1-clause-slots c).After-remove-old) (stood (goal.at.returns-then-slots_at-gt1-clause-slots c).After-remove-old)

pub returns-then-slots_at-gt1-clause-intervals : goal.returns-then-slots_at-gt1-clause-intervals
returns-then-slots_at-gt1-clause-intervals c =
    intervals_seen (goal.at.returns-then-slots_at-gt1-clause-intervals c).After-slots_at (set c.self.inside.areas.items c.args.at.area c.remove-old.new.self) c.remove-old.result (others (goal.at.returns-then-slots_at-gt1-clause-intervals c).After-remove-old) (stood (goal.at.returns-then-slots_at-gt1-clause-intervals c).After-remove-old)

pub returns-then-slots_at-gt1-clause-old : goal.returns-then-slots_at-gt1-clause-old
returns-then-slots_at-gt1-clause-old c =
    old_seen (goal.at.returns-then-slots_at-gt1-clause-old c).After-slots_at (set c.self.inside.areas.items c.args.at.area c.remove-old.new.self) c.remove-old.result (others (goal.at.returns-then-slots_at-gt1-clause-old c).After-remove-old) (stood (goal.at.returns-then-slots_at-gt1-clause-old c).After-remove-old)

pub overflow_sub-self-2 : goal.overflow_sub-self-2
overflow_sub-self-2 c =
    let lt = within c.self.inside.areas.items c.args.at (there (goal.at.overflow_sub-self-2 c).After-slots_at) in
    omega (arith, lt, c.self.invariant.counted)

pub overflow_sub-self-3 : goal.overflow_sub-self-3
overflow_sub-self-3 c =
    let here = counts (goal.at.overflow_sub-self-3 c).After-slots_at c.remove_last-old.new.areas.items c.remove_last-old.result (alone (goal.at.overflow_sub-self-3 c).After-remove_last-old) c.remove_last-old.ensures.old in
    omega (arith, here.long, c.self.invariant.long)

pub overflow_sub-self-4 : goal.overflow_sub-self-4
overflow_sub-self-4 c =
    let here = counts (goal.at.overflow_sub-self-4 c).After-slots_at c.remove_last-old.new.areas.items c.remove_last-old.result (alone (goal.at.overflow_sub-self-4 c).After-remove_last-old) c.remove_last-old.ensures.old in
    omega (arith, here.some, c.self.invariant.empties, c.empties-2.ensures)

pub invariant_of-self-2 : goal.invariant_of-self-2
invariant_of-self-2 c =
    let here = counts (goal.at.invariant_of-self-2 c).After-slots_at c.remove_last-old.new.areas.items c.remove_last-old.result (alone (goal.at.invariant_of-self-2 c).After-remove_last-old) c.remove_last-old.ensures.old in
    let lt = within c.self.inside.areas.items c.args.at (there (goal.at.invariant_of-self-2 c).After-slots_at) in
    record {
      each = c.remove_last-old.ensures.each;
      counted = omega (arith, lt, c.self.invariant.counted, ap length c.remove_last-old.ensures.intervals, length-remove (joined c.self.inside.areas.items) (number_of c.self.inside.areas.items c.args.at) lt);
      long = omega (arith, here.long, c.self.invariant.long);
      empties = omega (arith, here.some, here.empties, c.self.invariant.empties, c.empties-2.ensures);
    }

pub returns-clause-slots : goal.returns-clause-slots
returns-clause-slots c =
    slots_seen (goal.at.returns-clause-slots c).After-slots_at c.remove_last-old.new.areas.items c.remove_last-old.result (alone (goal.at.returns-clause-slots c).After-remove_last-old) c.remove_last-old.ensures.old

pub returns-clause-intervals : goal.returns-clause-intervals
returns-clause-intervals c =
    intervals_seen (goal.at.returns-clause-intervals c).After-slots_at c.remove_last-old.new.areas.items c.remove_last-old.result (alone (goal.at.returns-clause-intervals c).After-remove_last-old) c.remove_last-old.ensures.old

pub returns-clause-old : goal.returns-clause-old
returns-clause-old c =
    old_seen (goal.at.returns-clause-old c).After-slots_at c.remove_last-old.new.areas.items c.remove_last-old.result (alone (goal.at.returns-clause-old c).After-remove_last-old) c.remove_last-old.ensures.old
