use Rattle.std.proofs.Common.{◌≡◌, ◌+◌, [], length, get_or, List, ap, subst, arith}
use Rattle.std.specs.List.{All}
use Rattle.cics_ksds.specs.declared.slots.Slot.{Slot}
use Rattle.cics_ksds.specs.Slots.{slots_in, IsArea, IsThere, interval_at}
use Rattle.cics_ksds.proofs.Steps.{some_area, next_interval, next_area, none_next}
use Rattle.cics_ksds.proofs.dataset.Dataset.next.Goals as goal
use Rattle.cics_ksds.proofs.dataset.Dataset.next.Goals.{After-intervals-intervals}

module _ (c : After-intervals-intervals) where
  each : All IsArea c.args.self.now
  each = subst (λ (areas : List (List (List Slot))). All IsArea areas) c.self.view_is c.self.invariant.each

  there : IsThere c.args.self.now c.args.at
  there = c.requires.there (some_area c.args.self.now (omega (arith, c.if-self-eq0.false, c.self.invariant.long, ap (λ (areas : List (List (List Slot))). length (slots_in areas)) c.self.view_is)))

  ends : c.args.at.slot ≡ length (interval_at c.args.self.now c.args.at)
  ends = omega (arith, c.if-at-slots.false, ap length c.slots.ensures, c.requires.slot)

  row : length c.intervals-intervals.result.now ≡ length (get_or c.args.self.now c.args.at.area [])
  row = ap length c.intervals-intervals.ensures

  long : length c.self.inside.areas.items ≡ length c.args.self.now
  long = ap (λ (areas : List (List (List Slot))). length areas) c.self.view_is

pub returns-then-at-intervals-clause-next : goal.returns-then-at-intervals-clause-next
returns-then-at-intervals-clause-next c =
    let at = (goal.at.returns-then-at-intervals-clause-next c).After-intervals-intervals in
    next_interval c.args.self.now (each at) c.args.at (there at) (ends at) (c.args.at.interval + 1) (omega arith) (omega (arith, c.if-at-intervals.true, row at))

pub returns-then-at-len-clause-next : goal.returns-then-at-len-clause-next
returns-then-at-len-clause-next c =
    let at = (goal.at.returns-then-at-len-clause-next c).After-intervals-intervals in
    next_area c.args.self.now (each at) c.args.at (there at) (ends at) (omega (arith, c.if-at-intervals.false, row at)) (c.args.at.area + 1) (omega arith) (omega (arith, c.if-at-len.true, c.len.ensures, long at))

pub returns-clause-next : goal.returns-clause-next
returns-clause-next c =
    let at = (goal.at.returns-clause-next c).After-intervals-intervals in
    none_next c.args.self.now (each at) c.args.at (there at) (ends at) (omega (arith, c.if-at-intervals.false, row at)) (omega (arith, c.if-at-len.false, c.len.ensures, long at))
