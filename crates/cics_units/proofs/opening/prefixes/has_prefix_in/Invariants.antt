use Rattle.std.proofs.Common.{◌≡◌, drop}
use Rattle.cics_history.specs.State.{has_prefix_in}
use Rattle.cics_units.proofs.opening.prefixes.has_prefix_in.Given as goal

-- whether the name begins with one is told by those that are left
abbrev pub invariant-loop-prefix : goal.invariant-loop-prefix
invariant-loop-prefix l = has_prefix_in (drop l.prefix-index l.prefixes) l.queue ≡ has_prefix_in l.prefixes l.queue
