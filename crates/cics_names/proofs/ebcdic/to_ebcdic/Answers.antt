use Rattle.std.proofs.Common.{◌∙◌}
use Rattle.cics_names.specs.EbcdicLaws.{IfSome-code_of}
use Rattle.cics_names.proofs.EbcdicTables.{entry_at-CODES}
use Rattle.cics_names.proofs.ebcdic.to_ebcdic.Goals as goal

pub returns-clause-value : goal.returns-clause-value
returns-clause-value c = c.entry.ensures ∙ entry_at-CODES c.args.character

pub returns-clause-inverse : goal.returns-clause-inverse
returns-clause-inverse c = rw c.entry.ensures (rw (entry_at-CODES c.args.character) (IfSome-code_of c.args.character))
