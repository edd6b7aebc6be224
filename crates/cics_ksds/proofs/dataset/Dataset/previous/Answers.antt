use Rattle.std.proofs.Common.{◌≡◌, ◌<◌, ◌-◌, [], suc, length, get_or, List, ap, subst, arith}
use Rattle.std.specs.List.{All}
use Rattle.std.proofs.lemmas.List.Elements.{All-get_or}
use Rattle.cics_ksds.specs.declared.slots.Slot.{Slot}
use Rattle.cics_ksds.specs.declared.slots.Position.{Position}
use Rattle.cics_ksds.specs.Slots.{slots_in, IsArea, IsThere}
use Rattle.cics_ksds.proofs.AreaEdits.{interval_of}
use Rattle.cics_ksds.proofs.Steps.{some_area, nothing_before, ended, ended_area}
use Rattle.cics_ksds.proofs.dataset.Dataset.previous.Goals as goal

pub returns-then-self-eq0 : goal.returns-then-self-eq0
returns-then-self-eq0 c = nothing_before c.args.self.now c.args.at
    (omega (arith, c.if-self-eq0.true, c.self.invariant.long, ap (λ (areas : List (List (List Slot))). length (slots_in areas)) c.self.view_is)) (omega (arith, c.if-at-gt0.false))

pub returns-then-at-gt0-2 : goal.returns-then-at-gt0-2
returns-then-at-gt0-2 c =
    let areas = c.args.self.now in
    let each : All IsArea areas = subst (λ (areas : List (List (List Slot))). All IsArea areas) c.self.view_is c.self.invariant.each in
    let there : IsThere areas c.args.at = c.requires.there (some_area areas (omega (arith, c.if-self-eq0.false, c.self.invariant.long, ap (λ (areas : List (List (List Slot))). length (slots_in areas)) c.self.view_is))) in
    let last : Position = record { area = c.args.at.area; interval = c.args.at.interval - 1; slot = length c.slots.result.now - 1 } in
    let is : IsThere areas last = record { area = there.area; interval = omega (arith, there.interval) } in
    ended areas c.args.at last (omega (arith, c.if-at-gt0.false)) is (omega (arith, ap length c.slots.ensures, (interval_of areas last is each).filled)) (omega (arith, c.if-at-gt0-2.true))

pub returns : goal.returns
returns c =
    let areas = c.args.self.now in
    let each : All IsArea areas = subst (λ (areas : List (List (List Slot))). All IsArea areas) c.self.view_is c.self.invariant.each in
    let there : IsThere areas c.args.at = c.requires.there (some_area areas (omega (arith, c.if-self-eq0.false, c.self.invariant.long, ap (λ (areas : List (List (List Slot))). length (slots_in areas)) c.self.view_is))) in
    let last : Position = record { area = c.args.at.area - 1; interval = length c.intervals.result.now - 1; slot = length c.slots-2.result.now - 1 } in
    let area : last.area < length areas = omega (arith, there.area) in
    let row : suc last.interval ≡ length (get_or areas last.area []) = omega (arith, ap length c.intervals.ensures, (All-get_or IsArea areas last.area [] area each).filled) in
    let is : IsThere areas last = record { area = area; interval = omega (arith, row) } in
    ended_area areas c.args.at last (omega (arith, c.if-at-gt0.false)) is (omega (arith, ap length c.slots-2.ensures, (interval_of areas last is each).filled)) (omega (arith, c.if-at-eq0.false)) row (omega (arith, c.if-at-gt0-2.false))
