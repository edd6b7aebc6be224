use Rattle.std.proofs.Common.{◌≡◌, ◌++◌, drop}
use Rattle.std.specs.Prelude.{codes}
use Rattle.std.specs.List.{flat_map}
use Rattle.cics_orders.specs.Report.Reporting.{word_text}
use Rattle.cics_orders.proofs.report.report.push_order.Given as goal

-- the words so far, and those of the lines that are left, are all
abbrev pub invariant-loop-next : goal.invariant-loop-next
invariant-loop-next l = l.out.items ++ flat_map word_text (drop l.next-index l.next-items) ≡ l.fn.out.items ++ (codes "ORDER" ++ flat_map word_text l.next-items)
