use Rattle.std.proofs.Common.{◌≡◌, ◌++◌, map, take}
use Rattle.cics_script.specs.Advice.Places.{named}
use Rattle.cics_script.proofs.advice.origin.push_named.Given as goal

abbrev pub invariant-loop-byte : goal.invariant-loop-byte
invariant-loop-byte l = l.out.items ≡ l.fn.out.items ++ map named (take l.byte-index l.name)
