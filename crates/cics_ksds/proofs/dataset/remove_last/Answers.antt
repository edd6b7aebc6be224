use Rattle.std.proofs.Common.{◌≡◌, ℕ, ◌++◌, List, [], suc, length, get_or, set, sym, ◌∙◌, ap, subst, arith}
use Rattle.std.proofs.lemmas.List.{get_or_default, take-set, drop-set-lt}
use Rattle.std.proofs.lemmas.List.Edits.{length-remove}
use Rattle.std.specs.List.{All, remove}
use Rattle.cics_ksds.specs.declared.slots.Slot.{Slot}
use Rattle.cics_ksds.specs.Slots.{IsArea, joined, interval_at}
use Rattle.cics_ksds.proofs.AreaEdits.{remove_one, remove_each, remove_last, All-removed}
use Rattle.cics_ksds.proofs.dataset.remove_last.Goals as goal
use Rattle.cics_ksds.proofs.dataset.remove_last.Goals.{After-remove_interval-interval}

-- the area that was edited is the position's, and the interval that was taken out is too
module _ (c : After-remove_interval-interval) where
  abbrev row : List (List Slot)
  row = get_or c.args.areas.now.items c.args.at.area []

  is_row : c.index_mut-area.result.now ≡ row
  is_row = c.index_mut-area.ensures.value ∙ get_or_default c.args.areas.now.items c.args.at.area c.index_mut-area.result.now [] c.requires.there.area

  left : c.remove_interval-interval.new.self ≡ remove row c.args.at.interval
  left = c.remove_interval-interval.ensures.intervals ∙ ap (λ (r : List (List Slot)). remove r c.args.at.interval) is_row

  taken : c.remove_interval-interval.result ≡ interval_at c.args.areas.now.items c.args.at
  taken = c.remove_interval-interval.ensures.old ∙ ap (λ (r : List (List Slot)). get_or r c.args.at.interval c.remove_interval-interval.result) is_row
      ∙ get_or_default row c.args.at.interval c.remove_interval-interval.result [] c.requires.there.interval

  long : length row ≡ suc (length c.remove_interval-interval.new.self)
  long = omega (arith, ap length left, length-remove row c.args.at.interval c.requires.there.interval, c.requires.there.interval)

pub remove-old-requires : goal.remove-old-requires
remove-old-requires c = omega (arith, ap length (taken (goal.at.remove-old-requires c).After-remove_interval-interval), c.requires.slot)

pub returns-then-count-gt0-clause-each : goal.returns-then-count-gt0-clause-each
returns-then-count-gt0-clause-each c =
    let at = (goal.at.returns-then-count-gt0-clause-each c).After-remove_interval-interval in
    subst (λ (r : List (List Slot)). All IsArea (set c.args.areas.now.items c.args.at.area r)) (sym (left at))
    (remove_each c.args.areas.now.items c.args.at c.requires.there (omega (arith, long at, c.if-count-gt0.true, c.count.ensures.count)) c.requires.each)

pub returns-then-count-gt0-clause-intervals : goal.returns-then-count-gt0-clause-intervals
returns-then-count-gt0-clause-intervals c = ap (λ (r : List (List Slot)). joined (set c.args.areas.now.items c.args.at.area r)) (left (goal.at.returns-then-count-gt0-clause-intervals c).After-remove_interval-interval)
    ∙ remove_one c.args.areas.now.items c.args.at c.requires.there

pub returns-then-count-gt0-clause-old : goal.returns-then-count-gt0-clause-old
returns-then-count-gt0-clause-old c = c.remove-old.ensures.old ∙ ap (λ (l : List Slot). get_or l c.args.at.slot c.remove-old.result) (taken (goal.at.returns-then-count-gt0-clause-old c).After-remove_interval-interval)

-- the areas without the one that was left without intervals
without_area : (areas : List (List (List Slot))) (i : ℕ) (y : List (List Slot)) → remove (set areas i y) i ≡ remove areas i
without_area areas i y = λ k. take-set areas i y k ++ drop-set-lt (suc i) areas i y (omega arith) k

pub returns-clause-each : goal.returns-clause-each
returns-clause-each c = subst (λ (r : List (List (List Slot))). All IsArea r) (sym (c.remove.ensures.items ∙ without_area c.args.areas.now.items c.args.at.area c.remove_interval-interval.new.self))
    (All-removed IsArea c.args.areas.now.items c.args.at.area c.requires.each)

pub returns-clause-intervals : goal.returns-clause-intervals
returns-clause-intervals c = ap (λ (r : List (List (List Slot))). joined r) (c.remove.ensures.items ∙ without_area c.args.areas.now.items c.args.at.area c.remove_interval-interval.new.self)
    ∙ remove_last c.args.areas.now.items c.args.at c.requires.there (omega (arith, long (goal.at.returns-clause-intervals c).After-remove_interval-interval, c.if-count-gt0.false, c.count.ensures.count))

pub returns-clause-old : goal.returns-clause-old
returns-clause-old c = c.remove-old.ensures.old ∙ ap (λ (l : List Slot). get_or l c.args.at.slot c.remove-old.result) (taken (goal.at.returns-clause-old c).After-remove_interval-interval)
