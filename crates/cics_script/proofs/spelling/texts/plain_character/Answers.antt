use Rattle.std.proofs.Common.{get_or, ap, ◌∙◌}
use Rattle.cics_script.specs.declared.spelling.texts.TheConstants.{CHARACTERS}
use Rattle.cics_script.proofs.OfSpelling.Tables.{read-CHARACTERS}
use Rattle.cics_script.proofs.spelling.texts.plain_character.Goals as goal

pub returns : goal.returns
returns c = ap (λ i. get_or CHARACTERS i 0) c.from.ensures ∙ read-CHARACTERS c.args.code c.ranges.code.fits
