use Rattle.std.proofs.Common.{◌≡◌, ◌++◌, drop}
use Rattle.cics_units.proofs.opening.opening.Opening.copy.Given as goal

-- the copies so far, and the prefixes that are left, are all
abbrev pub invariant-loop-prefix : goal.invariant-loop-prefix
invariant-loop-prefix l = l.prefixes ++ drop l.prefix-index l.prefix-items ≡ l.prefix-items
