use Rattle.std.proofs.Common.{◌≡◌, ◌+◌, ◌++◌, drop}
use Rattle.cics_orders.specs.Report.Reporting.{endings_text}
use Rattle.cics_orders.proofs.report.report.push_endings.Given as goal

-- the texts so far, and those of the endings that are left, are all
abbrev pub invariant-loop-i : goal.invariant-loop-i
invariant-loop-i l =
    l.out.items ++ endings_text l.telling.reads l.telling.plan.now l.report l.telling.all.now (l.i + 1) (drop l.i l.endings) ≡ l.fn.out.items ++ endings_text l.telling.reads l.telling.plan.now l.report l.telling.all.now 1 l.endings
