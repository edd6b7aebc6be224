use Rattle.std.proofs.Common.{◌≡◌, ◌++◌, map}
use Rattle.cics_orders.specs.Space.Tallies.{ending_of}
use Rattle.cics_orders.proofs.space.endings.endings_of.Given as goal

-- the endings so far, and those of what is left
abbrev pub invariant-loop-parts : goal.invariant-loop-parts
invariant-loop-parts l = map ending_of l.fn.met.entries ≡ l.endings ++ map ending_of l.parts-iterator
