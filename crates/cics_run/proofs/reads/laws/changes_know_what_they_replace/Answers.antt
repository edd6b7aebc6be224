use Rattle.cics_run.proofs.OfReads.Knowing.{knows_what_it_replaces}
use Rattle.cics_run.proofs.reads.laws.changes_know_what_they_replace.Goals as goal

pub returns : goal.returns
returns c = knows_what_it_replaces
