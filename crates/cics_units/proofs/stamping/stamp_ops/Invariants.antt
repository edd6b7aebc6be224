use Rattle.std.proofs.Common.{◌≡◌, ◌++◌, drop}
use Rattle.cics_units.proofs.Stamped.{ops_left}
use Rattle.cics_units.proofs.stamping.stamp_ops.Given as goal

-- what is written, with the stamp of the entries that are left, is what the call leaves
abbrev pub invariant-loop-entry : goal.invariant-loop-entry
invariant-loop-entry l = l.out.items ++ ops_left l.opening l.unit (drop l.entry-index l.trace) ≡ l.fn.out.items ++ ops_left l.opening l.unit l.trace
