use Rattle.std.proofs.Common.{◌<◌, List, [], length, get_or, All, sym, subst}
use Rattle.cics_ksds.specs.declared.slots.Slot.{Slot}
use Rattle.cics_ksds.specs.Slots.{AreSlots, IsArea, IsAt, IsGapFor, HasFirst, IsLastFrom, IsThere, first_key_of, key_at, interval_in}
use Rattle.cics_ksds.proofs.Finding.{area_firsts, interval_firsts, interval_slots, found_there, gap_there}
use Rattle.cics_ksds.proofs.slots.find.Goals as goal
use Rattle.cics_ksds.proofs.slots.find.Goals.{After-areas-2, After-intervals, After-interval_of-interval}

each : (c : After-areas-2) → All IsArea c.args.slots.now
each c = c.areas-2.ensures.each

area : (c : After-intervals) → IsLastFrom (λ i. first_key_of c.args.definition (get_or c.args.slots.now i [])) (length c.args.slots.now) c.args.key.now c.area_of-area.result
area c = subst (λ (areas : List (List (List Slot))). IsLastFrom (λ i. first_key_of c.args.definition (get_or areas i [])) (length areas) c.args.key.now c.area_of-area.result) c.areas-2.ensures.areas c.area_of-area.ensures

interval : (c : After-interval_of-interval) → IsLastFrom (λ i. key_at c.args.definition (interval_in (get_or c.args.slots.now c.area_of-area.result []) i) 0) (length (get_or c.args.slots.now c.area_of-area.result [])) c.args.key.now c.interval_of-interval.result
interval c = subst (λ (l : List (List Slot)). IsLastFrom (λ i. key_at c.args.definition (interval_in l i) 0) (length l) c.args.key.now c.interval_of-interval.result) c.intervals.ensures c.interval_of-interval.ensures

pub area_of-area-requires-clause-each : goal.area_of-area-requires-clause-each
area_of-area-requires-clause-each c =
    let here = (goal.at.area_of-area-requires-clause-each c).After-areas-2 in
    subst (λ (areas : List (List (List Slot))). All (λ area. (0 < length area) × HasFirst c.args.definition (interval_in area 0)) areas) (sym c.areas-2.ensures.areas)
    (area_firsts c.args.definition c.args.slots.now (each here) c.requires)

pub interval_of-interval-requires-clause-each : goal.interval_of-interval-requires-clause-each
interval_of-interval-requires-clause-each c =
    let here = (goal.at.interval_of-interval-requires-clause-each c).After-areas-2 in
    subst (λ (l : List (List Slot)). All (HasFirst c.args.definition) l) (sym c.intervals.ensures)
    (interval_firsts c.args.definition c.args.slots.now (each here) c.requires c.area_of-area.result (area (goal.at.interval_of-interval-requires-clause-each c).After-intervals).in_range)

pub search-requires-clause-slots : goal.search-requires-clause-slots
search-requires-clause-slots c =
    let here = (goal.at.search-requires-clause-slots c).After-areas-2 in
    subst (AreSlots c.args.definition) (sym c.slots.ensures)
    (interval_slots c.args.definition c.args.slots.now (each here) c.requires c.area_of-area.result c.interval_of-interval.result
    (area (goal.at.search-requires-clause-slots c).After-intervals).in_range (interval (goal.at.search-requires-clause-slots c).After-interval_of-interval).in_range)

pub returns-in-Ok-clause-found : goal.returns-in-Ok-clause-found
returns-in-Ok-clause-found c =
    let here = (goal.at.returns-in-Ok-clause-found c).After-areas-2 in
    let is : IsThere c.args.slots.now (record { area = c.area_of-area.result; interval = c.interval_of-interval.result; slot = c.in-Ok.slot }) =
    record { area = (area (goal.at.returns-in-Ok-clause-found c).After-intervals).in_range; interval = (interval (goal.at.returns-in-Ok-clause-found c).After-interval_of-interval).in_range } in
    found_there c.args.definition c.args.slots.now (each here) c.requires c.args.key.now (record { area = c.area_of-area.result; interval = c.interval_of-interval.result; slot = c.in-Ok.slot }) is
    (subst (λ (l : List Slot). IsAt c.args.definition l c.args.key.now c.in-Ok.slot) c.slots.ensures c.in-Ok.ensures.found)

pub returns-in-Err-clause-absent : goal.returns-in-Err-clause-absent
returns-in-Err-clause-absent c =
    let here = (goal.at.returns-in-Err-clause-absent c).After-areas-2 in
    let first = area (goal.at.returns-in-Err-clause-absent c).After-intervals in
    let second = interval (goal.at.returns-in-Err-clause-absent c).After-interval_of-interval in
    let is : IsThere c.args.slots.now (record { area = c.area_of-area.result; interval = c.interval_of-interval.result; slot = c.in-Err.slot }) = record { area = first.in_range; interval = second.in_range } in
    gap_there c.args.definition c.args.slots.now (each here) c.requires c.args.key.now (record { area = c.area_of-area.result; interval = c.interval_of-interval.result; slot = c.in-Err.slot }) is first second
    (subst (λ (l : List Slot). IsGapFor c.args.definition l c.args.key.now c.in-Err.slot) c.slots.ensures c.in-Err.ensures.absent)
