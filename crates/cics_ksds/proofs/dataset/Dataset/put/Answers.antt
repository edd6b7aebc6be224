use Rattle.std.proofs.Common.{◌≡◌, ◌<◌, [], length, get_or, set, sym, ◌∙◌, ap, subst, List, arith}
use Rattle.std.proofs.lemmas.List.{length-set, get_or_default}
use Rattle.std.specs.List.{All}
use Rattle.cics_ksds.specs.declared.slots.Slot.{Slot}
use Rattle.cics_ksds.specs.Slots.{joined, slots_in, index_of, number_of, interval_at, empty_in, IsThere, IsArea}
use Rattle.cics_ksds.proofs.AreaEdits.{set_one, set_each, set_interval, interval_of}
use Rattle.cics_ksds.proofs.IntervalEdits.{put_slots, read_slot, index_within}
use Rattle.cics_ksds.proofs.Counts.{Counts, after_set}
use Rattle.cics_ksds.proofs.Puts.{is_put}
use Rattle.cics_ksds.proofs.dataset.Dataset.put.Goals as goal
use Rattle.cics_ksds.proofs.dataset.Dataset.put.Goals.{After-put-old}

there : (c : After-put-old) → IsThere c.self.inside.areas.items c.args.at
there c = subst (λ (areas : List (List (List Slot))). IsThere areas c.args.at) (sym c.self.view_is) c.requires.there

below : (c : After-put-old) → c.args.at.slot < length (interval_at c.self.inside.areas.items c.args.at)
below c = subst (λ (areas : List (List (List Slot))). c.args.at.slot < length (interval_at areas c.args.at)) (sym c.self.view_is) c.requires.slot

-- the area that was edited is the position's
row : (c : After-put-old) → c.index_mut.result.now ≡ get_or c.self.inside.areas.items c.args.at.area []
row c = c.index_mut.ensures.value ∙ get_or_default c.self.inside.areas.items c.args.at.area c.index_mut.result.now [] (there c).area

made : (c : After-put-old) → c.put-old.new.self ≡ set (get_or c.self.inside.areas.items c.args.at.area []) c.args.at.interval (set (interval_at c.self.inside.areas.items c.args.at) c.args.at.slot c.args.slot)
made c = c.put-old.ensures.slots ∙ ap (λ r. set r c.args.at.interval (set (get_or r c.args.at.interval []) c.args.at.slot c.args.slot)) (row c)

intervals : (c : After-put-old) → joined (set c.self.inside.areas.items c.args.at.area c.put-old.new.self) ≡ set (joined c.self.inside.areas.items) (number_of c.self.inside.areas.items c.args.at) (set (interval_at c.self.inside.areas.items c.args.at) c.args.at.slot c.args.slot)
intervals c = ap (λ (r : List (List Slot)). joined (set c.self.inside.areas.items c.args.at.area r)) (made c) ∙ set_one c.self.inside.areas.items c.args.at (there c) (set (interval_at c.self.inside.areas.items c.args.at) c.args.at.slot c.args.slot)

set_slots : (c : After-put-old) → slots_in (set c.self.inside.areas.items c.args.at.area c.put-old.new.self) ≡ set (slots_in c.self.inside.areas.items) (index_of c.self.inside.areas.items c.args.at) c.args.slot
set_slots c = ap (λ (l : List (List Slot)). joined l) (intervals c) ∙ put_slots c.self.inside.areas.items c.args.at (there c) c.args.slot (below c)

stood : (c : After-put-old) → c.put-old.result ≡ get_or (slots_in c.self.inside.areas.items) (index_of c.self.inside.areas.items c.args.at) c.put-old.result
stood c = c.put-old.ensures.old ∙ ap (λ (r : List (List Slot)). get_or (get_or r c.args.at.interval []) c.args.at.slot c.put-old.result) (row c) ∙ sym (read_slot c.self.inside.areas.items c.args.at (there c) c.put-old.result (below c))

counts : (c : After-put-old) → Counts (slots_in c.self.inside.areas.items) (slots_in (set c.self.inside.areas.items c.args.at.area c.put-old.new.self)) (empty_in c.put-old.result) (empty_in c.args.slot) 0 0
counts c = after_set (slots_in c.self.inside.areas.items) (slots_in (set c.self.inside.areas.items c.args.at.area c.put-old.new.self)) (index_of c.self.inside.areas.items c.args.at) c.args.slot c.put-old.result
    (set_slots c) (index_within c.self.inside.areas.items c.args.at (there c) (below c)) (stood c)

pub overflow_sub-self : goal.overflow_sub-self
overflow_sub-self c = omega (arith, (counts (goal.at.overflow_sub-self c).After-put-old).some, c.self.invariant.empties, c.empties.ensures)

pub overflow_add-self : goal.overflow_add-self
overflow_add-self c =
    let here = counts (goal.at.overflow_add-self c).After-put-old in
    omega (arith, here.some, here.empties, here.long, here.within, c.self.invariant.empties, c.self.invariant.long, c.empties.ensures, c.empties-comes.ensures)

pub invariant_of-self : goal.invariant_of-self
invariant_of-self c =
    let here = counts (goal.at.invariant_of-self c).After-put-old in
    record {
      each = subst (λ (r : List (List Slot)). All IsArea (set c.self.inside.areas.items c.args.at.area r)) (sym (made (goal.at.invariant_of-self c).After-put-old))
          (set_each c.self.inside.areas.items c.args.at (there (goal.at.invariant_of-self c).After-put-old) _ (set_interval (interval_at c.self.inside.areas.items c.args.at) c.args.at.slot c.args.slot (interval_of c.self.inside.areas.items c.args.at (there (goal.at.invariant_of-self c).After-put-old) c.self.invariant.each)) c.self.invariant.each);
      counted = c.self.invariant.counted ∙ sym (ap length (intervals (goal.at.invariant_of-self c).After-put-old) ∙ length-set (joined c.self.inside.areas.items) (number_of c.self.inside.areas.items c.args.at) _);
      long = omega (arith, here.long, c.self.invariant.long);
      empties = omega (arith, here.some, here.empties, c.self.invariant.empties, c.empties.ensures, c.empties-comes.ensures);
    }

-- as the caller sees both
set_seen : (c : After-put-old) → slots_in (set c.self.inside.areas.items c.args.at.area c.put-old.new.self) ≡ set (slots_in c.args.self.now) (index_of c.args.self.now c.args.at) c.args.slot
set_seen c = subst (λ (areas : List (List (List Slot))). slots_in (set c.self.inside.areas.items c.args.at.area c.put-old.new.self) ≡ set (slots_in areas) (index_of areas c.args.at) c.args.slot) c.self.view_is (set_slots c)

stood_seen : (c : After-put-old) → c.put-old.result ≡ get_or (slots_in c.args.self.now) (index_of c.args.self.now c.args.at) c.put-old.result
stood_seen c = subst (λ (areas : List (List (List Slot))). c.put-old.result ≡ get_or (slots_in areas) (index_of areas c.args.at) c.put-old.result) c.self.view_is (stood c)

pub returns-clause-put : goal.returns-clause-put
returns-clause-put c d are at is =
    let here = (goal.at.returns-clause-put c).After-put-old in
    is_put d c.args.self.now _ c.args.at c.args.slot c.put-old.result are at is (set_seen here) (stood_seen here)

pub returns-clause-slots : goal.returns-clause-slots
returns-clause-slots c = set_seen (goal.at.returns-clause-slots c).After-put-old

pub returns-clause-old : goal.returns-clause-old
returns-clause-old c = stood_seen (goal.at.returns-clause-old c).After-put-old
