use Rattle.std.proofs.Common.{◌≡◌, ◌++◌, drop}
use Rattle.std.specs.List.{flat_map}
use Rattle.cics_orders.specs.Report.Reporting.{script_line}
use Rattle.cics_orders.proofs.report.scripts.push_lines.Given as goal

-- the lines so far, and those that are left, are all
abbrev pub invariant-loop-line : goal.invariant-loop-line
invariant-loop-line l = l.out.items ++ flat_map script_line (drop l.line-index l.lines) ≡ l.fn.out.items ++ flat_map script_line l.lines
