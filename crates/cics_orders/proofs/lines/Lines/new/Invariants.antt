use Rattle.std.proofs.Common.{◌≡◌, ◌++◌, map, drop}
use Rattle.cics_script.specs.Lines.{line}
use Rattle.cics_orders.specs.Plans.Taking.{NumberedLine}
use Rattle.cics_orders.proofs.lines.Lines.new.Given as goal

-- the copies so far, and the lines that are left, are all; and so is what they say
abbrev pub invariant-loop-number : goal.invariant-loop-number
invariant-loop-number l =
    (l.copies ++ drop l.number-index l.lines ≡ l.lines) × (l.says ++ map (λ (n : NumberedLine). line n.1) (drop l.number-index l.lines) ≡ map (λ (n : NumberedLine). line n.1) l.lines)
