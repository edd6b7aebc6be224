use Rattle.cics_dispatch.proofs.OfFuture.Acting.{same_store_now}
use Rattle.cics_dispatch.proofs.OfFuture.Events.{command_same, blocker_same}
use Rattle.cics_dispatch.proofs.future.laws.futures_tell_the_same.Goals as goal

pub returns : goal.returns
returns c = record {
  stores = same_store_now;
  tasks = λ m n same. same.alike.tasks;
  waits = λ m n label same. command_same m n same label;
  blockers = λ m n label same. blocker_same m n same label;
}
