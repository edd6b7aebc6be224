use Rattle.std.proofs.Common.{◌≡◌, ◌++◌, drop}
use Rattle.std.specs.List.{flat_map}
use Rattle.cics_orders.specs.Report.Parts.{own_text}
use Rattle.cics_orders.proofs.report.parts.push_own.Given as goal

-- the parts so far, and those that are left, are all
abbrev pub invariant-loop-part : goal.invariant-loop-part
invariant-loop-part l = l.out.items ++ flat_map (own_text l.all) (drop l.part-index l.parts) ≡ l.fn.out.items ++ flat_map (own_text l.all) l.parts
