use Rattle.std.proofs.Common.{◌≡◌, ◌++◌, List, [], suc, length, get_or, drop, sym, ◌∙◌, ap, arith}
use Rattle.std.proofs.lemmas.List.{get_or_default}
use Rattle.cics_ksds.specs.declared.slots.Slot.{Slot}
use Rattle.cics_ksds.specs.declared.slots.Position.{Position}
use Rattle.cics_ksds.specs.Slots.{joined, interval_at, number_of, listed}
use Rattle.cics_ksds.proofs.Counts.{none_behind}
use Rattle.cics_ksds.proofs.Walks.{listed_parts}
use Rattle.cics_ksds.proofs.ranges.behind.Goals as goal
use Rattle.cics_ksds.proofs.ranges.behind.Goals.{After-records}

-- the interval that is looked at is that of the slot
same : (c : After-records) → c.index-intervals-here.result ≡ interval_at c.args.slots.now c.args.here
same c =
    c.index-intervals-here.is ∙ ap (λ (l : List (List Slot)). get_or l c.args.here.interval c.index-intervals-here.result) c.intervals.ensures
    ∙ get_or_default (get_or c.args.slots.now c.args.here.area []) c.args.here.interval c.index-intervals-here.result [] c.requires.there.interval

pub returns-then-records-eq0-clause-records : goal.returns-then-records-eq0-clause-records
returns-then-records-eq0-clause-records c =
    let areas = c.args.slots.now in
    let here = c.args.here in
    let is = same (goal.at.returns-then-records-eq0-clause-records c).After-records in
    let end : Position = record { area = here.area; interval = here.interval; slot = c.count-count.result } in
    let none : length (listed (interval_at areas here)) ≡ 0 = omega (arith, ap (λ (l : List Slot). length (listed l)) is) in
    listed_parts areas end (record { area = c.requires.there.area; interval = c.requires.there.interval }) (omega (arith, ap (λ (l : List Slot). length l) is, c.count-count.ensures.count))
    ∙ ap (λ l. l ++ listed (joined (drop (suc (number_of areas here)) (joined areas)))) (none_behind c.count-count.result (interval_at areas here) none ∙ sym (none_behind here.slot (interval_at areas here) none))
    ∙ sym (listed_parts areas here c.requires.there (omega (arith, c.requires.slot)))
