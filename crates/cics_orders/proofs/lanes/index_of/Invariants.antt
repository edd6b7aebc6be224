use Rattle.std.proofs.Common.{◌≡◌, ◌+◌, drop, option_map}
use Rattle.cics_orders.specs.Plans.Firsts.{first_index}
use Rattle.cics_orders.specs.Giving.{is_of}
use Rattle.cics_orders.proofs.lanes.index_of.Given as goal

-- the index is the first from here on
abbrev pub invariant-loop-i : goal.invariant-loop-i
invariant-loop-i l = first_index (λ lane. is_of lane l.label) l.lanes ≡ option_map (λ n. l.i + n) (first_index (λ lane. is_of lane l.label) (drop l.i l.lanes))
