use Rattle.std.proofs.Common.{◌==◌, get_or, ap, ◌∙◌}
use Rattle.std.specs.Prelude.{not}
use Rattle.cics_script.specs.declared.literals.TheConstants.{CLASSES}
use Rattle.cics_script.proofs.Tables.{read-plain}
use Rattle.cics_script.proofs.literals.is_plain_byte.Goals as goal

pub returns : goal.returns
returns c = ap (λ i. not (get_or CLASSES i 0 == 0)) c.from.ensures ∙ read-plain c.args.byte c.ranges.byte.fits
