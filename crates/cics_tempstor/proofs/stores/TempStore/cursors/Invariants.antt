use Rattle.std.proofs.Common.{◌≡◌, ◌≤◌, length, drop}
use Rattle.cics_tempstor.specs.Tables.{cursors_of}
use Rattle.cics_tempstor.proofs.stores.TempStore.cursors.Given as goal

-- the cursors of the rows from the index on are in the map
abbrev pub invariant-loop-index : goal.invariant-loop-index
invariant-loop-index l = record {
  within : l.index ≤ length l.self-inside.queues.entries;
  sorted : l.sorted.entries ≡ cursors_of (drop l.index l.self-inside.queues.entries);
}

abbrev pub decreases-loop-index : goal.decreases-loop-index
decreases-loop-index l = l.index
