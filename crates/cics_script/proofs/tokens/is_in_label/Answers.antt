use Rattle.std.proofs.Common.{get_or, ap, ◌∙◌}
use Rattle.std.specs.Prelude.{nat_lt}
use Rattle.cics_script.specs.declared.literals.TheConstants.{CLASSES}
use Rattle.cics_script.proofs.Tables.{read-label}
use Rattle.cics_script.proofs.tokens.is_in_label.Goals as goal

pub returns : goal.returns
returns c = ap (λ i. nat_lt 2 (get_or CLASSES i 0)) c.from.ensures ∙ read-label c.args.byte c.ranges.byte.fits
