use Rattle.std.proofs.Common.{◌≡◌, length, map, take}
use Rattle.cics_script.specs.Literals.{ebcdic}
use Rattle.cics_script.proofs.literals.put_codes.Given as goal

abbrev pub invariant-loop-i : goal.invariant-loop-i
invariant-loop-i l = (length l.text ≡ length l.fn.text) × (take l.i l.text ≡ map ebcdic (take l.i l.plain))
