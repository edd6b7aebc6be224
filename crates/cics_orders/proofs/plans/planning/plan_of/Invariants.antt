use Rattle.std.proofs.Common.{◌≡◌, ◌+◌, drop}
use Rattle.cics_orders.specs.Plans.Taking.{initial_taken, taken_apart}
use Rattle.cics_orders.proofs.plans.planning.plan_of.Given as goal

-- the lines that are left lead to where all lead
abbrev pub invariant-loop-i : goal.invariant-loop-i
invariant-loop-i l = taken_apart l.planner (l.i + 1) (drop l.i l.lines) ≡ taken_apart initial_taken 1 l.lines
