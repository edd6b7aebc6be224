use Rattle.std.proofs.Common.{◌≡◌, ◌+◌, drop, option_map}
use Rattle.cics_orders.specs.Plans.Firsts.{first_index}
use Rattle.cics_orders.specs.Plans.Taking.{is_task}
use Rattle.cics_orders.proofs.plans.planning.index_of.Given as goal

-- the index is the first from here on
abbrev pub invariant-loop-i : goal.invariant-loop-i
invariant-loop-i l = first_index (λ task. is_task task l.label) l.tasks ≡ option_map (λ n. l.i + n) (first_index (λ task. is_task task l.label) (drop l.i l.tasks))
