use Rattle.cics_dispatch.proofs.OfFuture.Events.{same_begins, down_same, attached_same, issued_same, clock_same, shut_same, woken_same, expired_same}
use Rattle.cics_dispatch.specs.Machine.Steps.{attached, issued}
use Rattle.cics_dispatch.specs.Machine.Waking.{clock_set}
use Rattle.cics_dispatch.specs.Machine.Shutdown.{shut_down}
use Rattle.cics_dispatch.proofs.future.laws.events_keep_the_future.Goals as goal

pub returns : goal.returns
returns c = record {
  begins = same_begins;
  attaches = λ m n label dtimout same. down_same m n same (attached m label dtimout) (attached n label dtimout) (attached_same m n same label dtimout);
  issues = λ m n label c same. down_same m n same (issued m label c) (issued n label c) (issued_same m n same label c);
  sets = λ m n now same. down_same m n same (clock_set m now) (clock_set n now) (clock_same m n same now);
  shuts = λ m n same. down_same m n same (shut_down m) (shut_down n) (shut_same m n same);
  wakes = woken_same;
  expires = expired_same;
}
