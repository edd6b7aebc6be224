use Rattle.std.proofs.Common.{◌≡◌, ◌++◌}
use Rattle.cics_names.specs.Stamps.{list_stamp}
use Rattle.cics_enqueue.specs.Kept.{AreKeys, table_of}
use Rattle.cics_enqueue.specs.Values.{values_of, value_stamp}
use Rattle.cics_enqueue.proofs.enqueues.Enqueues.stamp_values.Given as goal

-- what is written, with the stamp of the values of the entries that are left, is what the call
-- leaves
abbrev pub invariant-loop-key : goal.invariant-loop-key
invariant-loop-key l = record {
  can : (goal.iterator-loop-key).can_next l.key-iterator;
  finite : (goal.iterator-loop-key).is_finite l.key-iterator;
  keys : AreKeys l.key-iterator;
  rest : l.out.items ++ list_stamp value_stamp (values_of l.unit (table_of l.key-iterator)) ≡ l.fn.out.items ++ list_stamp value_stamp (values_of l.unit l.self);
}
