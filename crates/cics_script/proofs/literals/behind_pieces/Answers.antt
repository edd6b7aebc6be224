use Rattle.std.proofs.Common.{◌∙◌}
use Rattle.cics_script.proofs.Copies.{rest-more, rest-ends, rest-none}
use Rattle.cics_script.proofs.literals.behind_pieces.Goals as goal

pub pieces-preserved : goal.pieces-preserved
pieces-preserved c = rest-more _ _ _ _ (c.behind_run.ensures.rest ∙ c.pieces.invariant) c.in-Byte.ensures.0

pub returns-in-End : goal.returns-in-End
returns-in-End c = rest-ends _ _ _ (c.behind_run.ensures.rest ∙ c.pieces.invariant) c.in-End.ensures.0

pub returns-in-Bad : goal.returns-in-Bad
returns-in-Bad c = rest-none _ _ (c.behind_run.ensures.rest ∙ c.pieces.invariant) c.in-Bad.ensures
