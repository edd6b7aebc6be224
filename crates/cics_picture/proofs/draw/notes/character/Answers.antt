use Rattle.std.proofs.Common.{arith, sym, ◌∙◌}
use Rattle.cics_script.proofs.OfSpelling.Characters.{character_of-ascii}
use Rattle.cics_picture.proofs.draw.notes.character.Goals as goal

pub overflow_cast-result : goal.overflow_cast-result
overflow_cast-result c = omega (arith, character_of-ascii _ c.in-Some.character (sym c.from_ebcdic.ensures.value ∙ c.in-Some.is))
