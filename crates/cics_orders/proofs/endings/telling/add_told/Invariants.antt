use Rattle.std.proofs.Common.{◌≡◌, ◌++◌, drop}
use Rattle.cics_orders.specs.Endings.Telling.{told_parts}
use Rattle.cics_orders.proofs.endings.telling.add_told.Given as goal

-- the parts so far, and those of the lines that are left, are all
abbrev pub invariant-loop-i : goal.invariant-loop-i
invariant-loop-i l =
    l.parts ++ told_parts l.label (drop l.i l.lines) (drop l.i l.told) ≡ l.fn.parts ++ told_parts l.label l.lines l.told
