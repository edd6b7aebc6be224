use Rattle.std.proofs.Common.{◌≡◌, ◌<◌, ◌^◌, take}
use Rattle.cics_script.specs.Tokens.{value_of}
use Rattle.cics_script.proofs.tokens.number_of.Given as goal

abbrev pub invariant-loop-digit : goal.invariant-loop-digit
invariant-loop-digit l = (l.value ≡ value_of (take l.digit-index l.digits)) × (l.value < 2 ^ 64)
