use Rattle.std.proofs.Common.{◌≡◌, ◌++◌, take}
use Rattle.std.specs.List.{flat_map}
use Rattle.cics_names.specs.Stamps.{item_stamp}
use Rattle.cics_orders.specs.Stamps.{outcome_stamp}
use Rattle.cics_orders.proofs.stamping.stamp_outcomes.Given as goal

-- the outcomes that were passed are stamped
abbrev pub invariant-loop-outcome : goal.invariant-loop-outcome
invariant-loop-outcome l = l.out.items ≡ l.initial.out.items ++ flat_map (item_stamp outcome_stamp) (take l.outcome-index l.outcomes)
