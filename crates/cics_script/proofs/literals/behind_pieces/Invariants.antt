use Rattle.std.proofs.Common.{◌≡◌, length}
use Rattle.std.specs.Prelude.{option_map}
use Rattle.cics_script.specs.Tokens.{text_in}
use Rattle.cics_script.proofs.literals.behind_pieces.Given as goal

abbrev pub invariant-pieces : goal.invariant-pieces
invariant-pieces l = option_map (λ t. t.1) (text_in l.notation l.rest) ≡ option_map (λ t. t.1) (text_in l.notation l.bytes)

abbrev pub decreases-pieces : goal.decreases-pieces
decreases-pieces l = length l.rest
