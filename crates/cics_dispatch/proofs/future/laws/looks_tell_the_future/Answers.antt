use Rattle.cics_dispatch.proofs.OfFuture.Comparing.{looks_same}
use Rattle.cics_dispatch.proofs.OfFuture.Events.{same_itself}
use Rattle.cics_dispatch.proofs.future.laws.looks_tell_the_future.Goals as goal

pub returns : goal.returns
returns c = record { alike = looks_same; itself = same_itself }
