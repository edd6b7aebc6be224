use Rattle.std.proofs.Common.{◌≡◌, drop}
use Rattle.cics_orders.specs.Giving.{defined_more, opened}
use Rattle.cics_orders.proofs.starting.opened.Given as goal

-- the lines that are left define the rest
abbrev pub invariant-loop-bytes : goal.invariant-loop-bytes
invariant-loop-bytes l = defined_more l.opening (drop l.bytes-index l.lines) ≡ opened l.lines
