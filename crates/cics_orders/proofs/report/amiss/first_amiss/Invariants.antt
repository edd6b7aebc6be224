use Rattle.std.proofs.Common.{◌≡◌, ◌+◌, drop}
use Rattle.cics_orders.specs.Report.Amiss.{amiss_from, first_amiss}
use Rattle.cics_orders.proofs.report.amiss.first_amiss.Given as goal

-- the first that is amiss is among the endings that are left
abbrev pub invariant-loop-i : goal.invariant-loop-i
invariant-loop-i l = amiss_from l.report.has_all_serial (l.i + 1) (drop l.i l.endings) ≡ first_amiss l.report
