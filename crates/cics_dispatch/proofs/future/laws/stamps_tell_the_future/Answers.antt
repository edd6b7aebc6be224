use Rattle.cics_dispatch.proofs.OfFuture.Stamped.{stamps_tell, same_future, alike_stamps}
use Rattle.cics_dispatch.proofs.future.laws.stamps_tell_the_future.Goals as goal

pub returns : goal.returns
returns c = record { looks = stamps_tell; future = same_future; stamps = alike_stamps }
