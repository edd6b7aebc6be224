use Rattle.std.proofs.Common.{length}
use Rattle.cics_script.proofs.Passed.{Passed}
use Rattle.cics_script.proofs.columns.token_column.Given as goal

abbrev pub invariant-tokens : goal.invariant-tokens
invariant-tokens l = Passed l.fault l.bytes l.front.items l.rest

abbrev pub decreases-tokens : goal.decreases-tokens
decreases-tokens l = length l.rest
