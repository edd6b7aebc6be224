use Rattle.std.proofs.Common.{◌≡◌, [], length, get_or, set, ◌∙◌, ap, subst, sym, List, arith}
use Rattle.std.proofs.lemmas.List.{length-set, get_or_default}
use Rattle.std.specs.List.{insert, All}
use Rattle.cics_ksds.specs.declared.slots.Slot.{Slot}
use Rattle.cics_ksds.specs.Slots.{joined, with_slot, slots_in, number_of, index_of, interval_at, empty_in, IsRoom, IsArea}
use Rattle.cics_ksds.proofs.AreaEdits.{set_one, set_each, insert_interval}
use Rattle.cics_ksds.proofs.IntervalEdits.{filled, insert_slots, fill_slots, index_fits}
use Rattle.cics_ksds.proofs.Counts.{Counts, after_insert}
use Rattle.cics_ksds.proofs.dataset.Dataset.insert_among.Goals as goal
use Rattle.cics_ksds.proofs.dataset.Dataset.insert_among.Goals.{After-insert}

room : (c : After-insert) → IsRoom c.args.self.now c.args.at c.self-2.inside.areas.items c.in_ok-next.next
room c = subst (λ (mid : List (List (List Slot))). IsRoom c.args.self.now c.args.at mid c.in_ok-next.next) (sym c.self-2.view_is) c.in_ok-next.ensures.ok

module _ (c : After-insert) where
  -- the area that was edited is the position's
  row : c.index_mut.result.now ≡ get_or c.self-2.inside.areas.items c.in_ok-next.next.area []
  row = c.index_mut.ensures.value ∙ get_or_default c.self-2.inside.areas.items c.in_ok-next.next.area c.index_mut.result.now [] (room c).there.area

  made : c.insert.new.self ≡ set (get_or c.self-2.inside.areas.items c.in_ok-next.next.area []) c.in_ok-next.next.interval (insert (interval_at c.self-2.inside.areas.items c.in_ok-next.next) c.in_ok-next.next.slot c.args.slot)
  made = c.insert.ensures ∙ ap (λ (r : List (List Slot)). set r c.in_ok-next.next.interval (insert (get_or r c.in_ok-next.next.interval []) c.in_ok-next.next.slot c.args.slot)) row

  put_in_row : joined (set c.self-2.inside.areas.items c.in_ok-next.next.area c.insert.new.self) ≡ set (joined c.self-2.inside.areas.items) (number_of c.self-2.inside.areas.items c.in_ok-next.next) (insert (interval_at c.self-2.inside.areas.items c.in_ok-next.next) c.in_ok-next.next.slot c.args.slot)
  put_in_row = ap (λ (r : List (List Slot)). joined (set c.self-2.inside.areas.items c.in_ok-next.next.area r)) made ∙ set_one c.self-2.inside.areas.items c.in_ok-next.next (room c).there (insert (interval_at c.self-2.inside.areas.items c.in_ok-next.next) c.in_ok-next.next.slot c.args.slot)

  each : All IsArea (set c.self-2.inside.areas.items c.in_ok-next.next.area c.insert.new.self)
  each = subst (λ (r : List (List Slot)). All IsArea (set c.self-2.inside.areas.items c.in_ok-next.next.area r)) (sym made)
      (set_each c.self-2.inside.areas.items c.in_ok-next.next (room c).there _ (insert_interval (interval_at c.self-2.inside.areas.items c.in_ok-next.next) c.in_ok-next.next.slot c.args.slot (room c).slot (room c).room) c.self-2.invariant.each)

  intervals : joined (set c.self-2.inside.areas.items c.in_ok-next.next.area c.insert.new.self) ≡ with_slot (joined c.args.self.now) (number_of c.args.self.now c.args.at) c.args.at.slot c.args.slot
  intervals = filled c.args.self.now c.self-2.inside.areas.items (set c.self-2.inside.areas.items c.in_ok-next.next.area c.insert.new.self) c.args.at c.in_ok-next.next c.args.slot c.requires.there (room c) put_in_row

  slots : slots_in (set c.self-2.inside.areas.items c.in_ok-next.next.area c.insert.new.self) ≡ insert (slots_in c.args.self.now) (index_of c.args.self.now c.args.at) c.args.slot
  slots = ap (λ (l : List (List Slot)). joined l) intervals ∙ insert_slots c.args.self.now c.args.at c.requires.there c.args.slot c.requires.slot

  -- over what the split left, and over what there was
  counts : Counts (slots_in c.self-2.inside.areas.items) (slots_in (set c.self-2.inside.areas.items c.in_ok-next.next.area c.insert.new.self)) 0 (empty_in c.args.slot) 1 0
  counts = after_insert (slots_in c.self-2.inside.areas.items) (slots_in (set c.self-2.inside.areas.items c.in_ok-next.next.area c.insert.new.self)) (index_of c.self-2.inside.areas.items c.in_ok-next.next) c.args.slot
      (ap (λ (l : List (List Slot)). joined l) put_in_row ∙ fill_slots c.self-2.inside.areas.items c.in_ok-next.next (room c).there c.args.slot (room c).slot)
      (index_fits c.self-2.inside.areas.items c.in_ok-next.next (room c).there (room c).slot)

  counts_old : Counts (slots_in c.args.self.now) (slots_in (set c.self-2.inside.areas.items c.in_ok-next.next.area c.insert.new.self)) 0 (empty_in c.args.slot) 1 0
  counts_old = after_insert (slots_in c.args.self.now) (slots_in (set c.self-2.inside.areas.items c.in_ok-next.next.area c.insert.new.self)) (index_of c.args.self.now c.args.at) c.args.slot slots (index_fits c.args.self.now c.args.at c.requires.there c.requires.slot)

  long : c.in-Some.len ≡ length (slots_in (set c.self-2.inside.areas.items c.in_ok-next.next.area c.insert.new.self))
  long = omega (arith, counts_old.long, c.in-Some.ensures, c.self.invariant.long, ap (λ (areas : List (List (List Slot))). length (slots_in areas)) c.self.view_is)

pub overflow_add-self : goal.overflow_add-self
overflow_add-self c =
    let here = (goal.at.overflow_add-self c).After-insert in
    omega (arith, (counts here).empties, (counts here).within, long here, c.self-2.invariant.empties, c.empties-comes.ensures)

pub invariant_of-self : goal.invariant_of-self
invariant_of-self c =
    let here = (goal.at.invariant_of-self c).After-insert in
    record {
      each = each here;
      counted = c.self-2.invariant.counted ∙ sym (ap length (put_in_row here) ∙ length-set (joined c.self-2.inside.areas.items) (number_of c.self-2.inside.areas.items c.in_ok-next.next) _);
      long = long here;
      empties = omega (arith, (counts here).empties, c.self-2.invariant.empties, c.empties-comes.ensures);
    }

pub returns-clause-intervals : goal.returns-clause-intervals
returns-clause-intervals c = intervals (goal.at.returns-clause-intervals c).After-insert

pub returns-clause-slots : goal.returns-clause-slots
returns-clause-slots c = slots (goal.at.returns-clause-slots c).After-insert
