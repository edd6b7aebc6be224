use Rattle.std.proofs.Common.{sym, ap, ◌∙◌, Some}
use Rattle.cics_names.specs.Ebcdic.{entry_at}
use Rattle.cics_names.specs.EbcdicLaws.{code_of-character_of}
use Rattle.cics_names.specs.declared.ebcdic.TheConstants.{CHARACTERS}
use Rattle.cics_names.proofs.EbcdicTables.{entry_at-CHARACTERS}
use Rattle.cics_names.proofs.ebcdic.from_ebcdic.Goals as goal

pub returns-in_err-character-clause-value : goal.returns-in_err-character-clause-value
returns-in_err-character-clause-value c =
    c.from_residual.ensures ∙ sym c.in_err-character.was ∙ c.entry.ensures
    ∙ ap (entry_at CHARACTERS) c.from.ensures ∙ entry_at-CHARACTERS c.args.code c.ranges.code.fits

pub returns-clause-value : goal.returns-clause-value
returns-clause-value c =
    ap Some c.from-2.ensures ∙ sym c.in_ok-character.was ∙ c.entry.ensures
    ∙ ap (entry_at CHARACTERS) c.from.ensures ∙ entry_at-CHARACTERS c.args.code c.ranges.code.fits

pub returns-clause-inverse : goal.returns-clause-inverse
returns-clause-inverse c = code_of-character_of c.args.code c.from-2.result (sym (returns-clause-value c))
