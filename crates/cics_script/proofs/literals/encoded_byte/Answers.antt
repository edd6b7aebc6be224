use Rattle.std.proofs.Common.{get_or, ap, ◌∙◌, sym}
use Rattle.cics_script.specs.Literals.{encoded}
use Rattle.cics_script.specs.declared.literals.TheConstants.{EBCDIC}
use Rattle.cics_script.proofs.Tables.{read-EBCDIC}
use Rattle.cics_script.proofs.literals.encoded_byte.Goals as goal

pub returns-in-Ebcdic : goal.returns-in-Ebcdic
returns-in-Ebcdic c =
    ap (λ i. get_or EBCDIC i 0) c.from.ensures ∙ read-EBCDIC c.args.byte c.ranges.byte.fits
    ∙ ap (λ encoding. encoded encoding c.args.byte) (sym c.in-Ebcdic.is)
