use Rattle.std.proofs.Common.{◌≡◌, ◌++◌, take}
use Rattle.std.specs.List.{flat_map}
use Rattle.cics_script.specs.Texts.{hexadecimal}
use Rattle.cics_script.proofs.spelling.texts.push_hexadecimal.Given as goal

abbrev pub invariant-loop-code : goal.invariant-loop-code
invariant-loop-code l = l.out.items ≡ l.fn.out.items ++ flat_map hexadecimal (take l.code-index l.bytes)
