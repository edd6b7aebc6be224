use Rattle.std.proofs.Common.{◌≡◌, drop}
use Rattle.cics_orders.specs.AsWritten.{written_to, as_written}
use Rattle.cics_orders.specs.Giving.{initial_of}
use Rattle.cics_orders.proofs.space.states.go_as_written.Given as goal

-- the lines that are left lead to where all lead, and the plan stays
abbrev pub invariant-loop-i : goal.invariant-loop-i
invariant-loop-i l = record {
  rest : written_to l.walk (drop l.i l.walk.plan.written) ≡ as_written (initial_of l.fn.walk);
  plan : l.walk.plan ≡ (initial_of l.fn.walk).plan;
}
