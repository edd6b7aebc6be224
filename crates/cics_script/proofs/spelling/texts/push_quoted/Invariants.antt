use Rattle.std.proofs.Common.{◌≡◌, ◌++◌, take}
use Rattle.std.specs.List.{flat_map}
use Rattle.cics_script.specs.Texts.{quoted}
use Rattle.cics_script.proofs.spelling.texts.push_quoted.Given as goal

abbrev pub invariant-loop-code : goal.invariant-loop-code
invariant-loop-code l = l.out.items ≡ l.fn.out.items ++ flat_map quoted (take l.code-index l.bytes)
