use Rattle.std.proofs.Common.{◌≡◌, map, drop}
use Rattle.std.specs.Str.{bytes_eq}
use Rattle.cics_script.specs.Tokens.{capital}
use Rattle.cics_script.proofs.words.is_spelled.Given as goal

abbrev pub invariant-loop-i : goal.invariant-loop-i
invariant-loop-i l = bytes_eq (map capital (drop l.i l.word)) (drop l.i l.name) ≡ bytes_eq (map capital l.word) l.name
