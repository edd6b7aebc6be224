use Rattle.std.proofs.Common.{◌≡◌, ◌&&◌, ◌||◌, drop}
use Rattle.std.specs.List.{list_all}
use Rattle.cics_script.specs.Tokens.{is_capital, is_digit}
use Rattle.cics_script.proofs.labels.is_in_capitals.Given as goal

abbrev pub invariant-loop-byte : goal.invariant-loop-byte
invariant-loop-byte l =
    (l.all && list_all (λ c. is_capital c || is_digit c) (drop l.byte-index l.word))
    ≡ list_all (λ c. is_capital c || is_digit c) l.word
