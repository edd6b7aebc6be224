use Rattle.std.proofs.Common.{◌≡◌, take}
use Rattle.cics_orders.specs.Report.Reporting.{all_orders, serial_orders}
use Rattle.cics_orders.proofs.report.counts.order_counts.Given as goal

-- those of the endings so far
abbrev pub invariant-loop-i : goal.invariant-loop-i
invariant-loop-i l = (l.all ≡ all_orders (take l.i l.endings)) × (l.serial ≡ serial_orders (take l.i l.endings))
