use Rattle.cics_script.proofs.Passed.{tokens-fault, placed-token}
use Rattle.cics_script.proofs.columns.column_of.Goals as goal

pub token_column-requires : goal.token_column-requires
token_column-requires c = tokens-fault c.args.bytes.now c.args.fault c.requires c.in_default.not-TooLong c.in_default.not-NotAscii

pub returns-in_ok-token_column-in_default : goal.returns-in_ok-token_column-in_default
returns-in_ok-token_column-in_default c = placed-token c.args.fault c.args.bytes.now _ c.in_default.not-TooLong c.in_default.not-NotAscii c.in_ok-token_column-in_default.ensures
