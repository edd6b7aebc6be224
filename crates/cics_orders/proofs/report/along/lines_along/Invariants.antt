use Rattle.std.proofs.Common.{◌≡◌, drop}
use Rattle.std.specs.List.{fold}
use Rattle.cics_orders.specs.Report.Along.{given_more, initial_along}
use Rattle.cics_orders.proofs.report.along.lines_along.Given as goal

-- the lanes that are left give behind those so far
abbrev pub invariant-loop-lane : goal.invariant-loop-lane
invariant-loop-lane l = fold (given_more l.plan) (l.given.items, l.lines) (drop l.lane-index l.order) ≡ fold (given_more l.plan) (initial_along l.plan) l.order
