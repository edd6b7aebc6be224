use Rattle.std.proofs.Common.{◌≡◌, ◌&&◌, ◌||◌, map, take, drop}
use Rattle.std.specs.List.{list_all}
use Rattle.cics_script.specs.Tokens.{capital, is_capital, is_digit}
use Rattle.cics_script.proofs.labels.put_capitals.Given as goal

abbrev pub invariant-loop-i : goal.invariant-loop-i
invariant-loop-i l =
    (take l.i l.text ≡ map capital (take l.i l.word))
    × ((l.all && list_all (λ c. is_capital c || is_digit c) (map capital (drop l.i l.word)))
    ≡ list_all (λ c. is_capital c || is_digit c) (map capital l.word))
