use Rattle.std.proofs.Common.{◌≡◌, ◌+◌, ◌++◌, List, [], get_or, drop, sym, ◌∙◌, ap, append_assoc, append-nil}
use Rattle.std.proofs.lemmas.List.{get_or_default}
use Rattle.std.proofs.Math.ListN.{drop_of_length-le}
use Rattle.cics_ksds.specs.declared.slots.Slot.{Slot}
use Rattle.cics_ksds.specs.Slots.{listed, joined, slots_in}
use Rattle.cics_ksds.proofs.Walks.{listed_row, listed_area}
use Rattle.cics_ksds.proofs.ranges.copies.Goals as goal

pub loop-interval-preserved : goal.loop-interval-preserved
loop-interval-preserved c =
    let slots = c.slots-slots.result.now in
    let intervals = c.intervals-intervals.result.now in
    let at = c.loop-interval.interval-index in
    let next : slots ≡ get_or intervals at [] = c.slots-slots.ensures ∙ c.interval-item.is ∙ get_or_default intervals at c.interval-item.result [] c.loop-interval-test.true in
    let copied : c.loop-slot.records ≡ c.loop-interval.records ++ listed slots =
    sym (append-nil c.loop-slot.records) ∙ ap (λ (l : List Slot). c.loop-slot.records ++ listed l) (sym (drop_of_length-le slots c.loop-slot-test.false)) ∙ c.loop-slot.invariant in
    let rest = listed (joined (drop (at + 1) intervals)) in
    ap (λ l. l ++ rest) (copied ∙ ap (λ (l : List Slot). c.loop-interval.records ++ listed l) next)
    ∙ append_assoc c.loop-interval.records (listed (get_or intervals at [])) rest
    ∙ ap (λ l. c.loop-interval.records ++ l) (sym (listed_row intervals at c.loop-interval-test.true))
    ∙ c.loop-interval.invariant

pub loop-area-preserved : goal.loop-area-preserved
loop-area-preserved c =
    let areas = c.areas-areas.result.now in
    let intervals = c.intervals-intervals.result.now in
    let at = c.loop-area.area-index in
    let next : intervals ≡ get_or areas at [] = c.intervals-intervals.ensures.intervals ∙ c.area-item.is ∙ get_or_default areas at c.area-item.result [] c.loop-area-test.true in
    let copied : c.loop-interval.records ≡ c.loop-area.records ++ listed (joined intervals) =
    sym (append-nil c.loop-interval.records) ∙ ap (λ (l : List (List Slot)). c.loop-interval.records ++ listed (joined l)) (sym (drop_of_length-le intervals c.loop-interval-test.false)) ∙ c.loop-interval.invariant in
    let rest = listed (slots_in (drop (at + 1) areas)) in
    ap (λ l. l ++ rest) (copied ∙ ap (λ (l : List (List Slot)). c.loop-area.records ++ listed (joined l)) next)
    ∙ append_assoc c.loop-area.records (listed (joined (get_or areas at []))) rest
    ∙ ap (λ l. c.loop-area.records ++ l) (sym (listed_area areas at c.loop-area-test.true))
    ∙ c.loop-area.invariant
