use Rattle.std.proofs.Common.{arith, sym, ◌∙◌}
use Rattle.cics_script.proofs.OfSpelling.Characters.{character_of-ascii}
use Rattle.cics_script.proofs.spelling.texts.push_bare.Goals as goal

pub overflow_cast-character : goal.overflow_cast-character
overflow_cast-character c = omega (arith, character_of-ascii _ c.in-Some.character (sym c.from_ebcdic.ensures.value ∙ c.in-Some.is))
