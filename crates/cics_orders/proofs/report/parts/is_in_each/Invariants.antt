use Rattle.std.proofs.Common.{◌≡◌, drop}
use Rattle.cics_orders.specs.Report.Parts.{is_in_each}
use Rattle.cics_orders.proofs.report.parts.is_in_each.Given as goal

-- the endings that are left decide it
abbrev pub invariant-loop-i : goal.invariant-loop-i
invariant-loop-i l = is_in_each (drop l.i l.endings) l.part ≡ is_in_each l.endings l.part
