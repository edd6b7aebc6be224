use Rattle.cics_history.proofs.Joining.{apply-content, apply-answer, answer-counts, answer-local}
use Rattle.cics_history.proofs.Stores.{apply-ordered}
use Rattle.cics_history.proofs.laws.commands_act_by_cells.Goals as goal

pub returns : goal.returns
returns c = record { cells = apply-content; answer = apply-answer; generic = answer-counts; local = answer-local; ordered = apply-ordered }
