use Rattle.cics_history.proofs.SerialRuns.{initial_units-IsInOrder, execution-IsInOrder, commit-IsInOrder, backout-IsInOrder, enqueue-IsInOrder, dequeue-IsInOrder, unlock-IsInOrder, ts_reading-IsInOrder, serializable_of}
use Rattle.cics_history.proofs.laws.calls_keep_the_order.Goals as goal

pub returns : goal.returns
returns c = record {
  begins = initial_units-IsInOrder;
  executes = execution-IsInOrder;
  commits = λ s u i live. commit-IsInOrder s u live i;
  backs_out = λ s u i live. backout-IsInOrder s u live i;
  enqueues = λ s u v i. enqueue-IsInOrder s i u v;
  dequeues = λ s u v i. dequeue-IsInOrder s i u v;
  unlocks = λ s u f i. unlock-IsInOrder s i u f;
  reads = λ s q n i. ts_reading-IsInOrder s i q n;
  serializable = λ v sound i c stands. serializable_of v i sound.known c stands;
}
