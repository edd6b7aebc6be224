use Rattle.std.proofs.Common.{◌≡◌, ◌≤◌, take}
use Rattle.cics_orders.specs.Report.Reporting.{serial_endings}
use Rattle.cics_orders.proofs.report.counts.serial_endings.Given as goal

-- those of the endings so far
abbrev pub invariant-loop-i : goal.invariant-loop-i
invariant-loop-i l = (l.count ≡ serial_endings (take l.i l.endings)) × (l.count ≤ l.i)
