use Rattle.cics_run.specs.Session.Lines.{all_lines}
use Rattle.cics_run.specs.Session.Running.{start}
use Rattle.cics_picture.proofs.OfDraw.Journals.{lines-shown}
use Rattle.cics_picture.proofs.draw.laws.rows_are_the_journal.Goals as goal

pub returns : goal.returns
returns c script = lines-shown (all_lines script) start
