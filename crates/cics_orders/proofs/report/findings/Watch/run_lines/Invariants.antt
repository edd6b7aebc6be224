use Rattle.std.proofs.Common.{◌≡◌, drop}
use Rattle.std.specs.List.{fold}
use Rattle.cics_orders.specs.Report.Findings.{with_line, watch_of}
use Rattle.cics_orders.proofs.report.findings.Watch.run_lines.Given as goal

-- the lines that are left run after those so far
abbrev pub invariant-loop-line : goal.invariant-loop-line
invariant-loop-line l = fold with_line (watch_of l.self) (drop l.line-index l.lines) ≡ fold with_line (watch_of l.fn.self) l.lines
