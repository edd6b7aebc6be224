use Rattle.std.proofs.Common.{◌≡◌, false, drop}
use Rattle.cics_orders.specs.Report.Open.{may_leave}
use Rattle.cics_orders.proofs.report.open.may_leave.Given as goal

-- the lines that are left decide it
abbrev pub invariant-loop-bytes : goal.invariant-loop-bytes
invariant-loop-bytes l = may_leave l.is_open (drop l.bytes-index l.lines) ≡ may_leave false l.lines
