use Rattle.std.proofs.Common.{◌≡◌, ◌++◌, take}
use Rattle.std.specs.List.{flat_map}
use Rattle.cics_run.specs.Listing.Serial.{prefix_line}
use Rattle.cics_run.proofs.listing.serial.push_prefixes.Given as goal

abbrev pub invariant-loop-prefix : goal.invariant-loop-prefix
invariant-loop-prefix l = l.out.items ≡ l.fn.out.items ++ flat_map prefix_line (take l.prefix-index l.prefixes)
