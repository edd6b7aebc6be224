use Rattle.std.proofs.Common.{◌≡◌, true, take}
use Rattle.cics_script.proofs.tokens.begins_with.Given as goal

abbrev pub invariant-loop-i : goal.invariant-loop-i
invariant-loop-i l = l.all ≡ true → take l.i l.bytes ≡ take l.i l.text
