use Rattle.std.proofs.Common.{◌≡◌, take}
use Rattle.std.specs.Prelude.{filter}
use Rattle.cics_orders.specs.Report.Parts.{is_in_each}
use Rattle.cics_orders.proofs.report.parts.shared.Given as goal

-- those of the parts so far
abbrev pub invariant-loop-i : goal.invariant-loop-i
invariant-loop-i l = l.all ≡ filter (is_in_each l.endings) (take l.i l.parts)
