use Rattle.cics_history.proofs.Stores.{same_store, initial-canonical, replay-canonical}
use Rattle.cics_history.proofs.laws.stores_are_their_cells.Goals as goal

pub returns : goal.returns
returns c = record { equal = same_store; initial = initial-canonical; replayed = replay-canonical }
