use Rattle.cics_history.proofs.States.{initial_units-IsSound, execution-IsSound, end-IsSound, agrees_of, enqueue-IsSound, dequeue-IsSound, unlock-IsSound, ts_reading-IsSound}
use Rattle.cics_history.proofs.laws.calls_keep_apart.Goals as goal

pub returns : goal.returns
returns c = record { begins = initial_units-IsSound; executes = execution-IsSound; ends = end-IsSound; enqueues = enqueue-IsSound; dequeues = dequeue-IsSound; unlocks = unlock-IsSound; reads = ts_reading-IsSound; agrees = agrees_of }
