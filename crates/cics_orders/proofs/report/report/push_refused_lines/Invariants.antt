use Rattle.std.proofs.Common.{◌≡◌, ◌++◌, drop}
use Rattle.std.specs.List.{flat_map}
use Rattle.cics_orders.specs.Report.Reporting.{refused_text}
use Rattle.cics_orders.proofs.report.report.push_refused_lines.Given as goal

-- the texts so far, and those of the lines that are left, are all
abbrev pub invariant-loop-line : goal.invariant-loop-line
invariant-loop-line l = l.out.items ++ flat_map refused_text (drop l.line-index l.lines) ≡ l.fn.out.items ++ flat_map refused_text l.lines
