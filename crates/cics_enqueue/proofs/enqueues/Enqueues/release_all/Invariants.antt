use Rattle.std.proofs.Common.{◌≡◌}
use Rattle.cics_enqueue.specs.Kept.{table_of, own_count, IsKept}
use Rattle.cics_enqueue.specs.Table.{released}
use Rattle.cics_enqueue.proofs.enqueues.Enqueues.release_all.Given as goal

-- entries and keys stay one table. Once the unit has released what is left, the table is as if it
-- had released all at once
abbrev pub invariant-loop-key : goal.invariant-loop-key
invariant-loop-key l = record {
  kept : IsKept l.self-inside.table.entries l.self-inside.owned.entries;
  rest : released (table_of l.self-inside.table.entries) l.unit ≡ released l.fn.self l.unit;
}

abbrev pub decreases-loop-key : goal.decreases-loop-key
decreases-loop-key l = own_count l.self-inside.owned.entries l.unit
