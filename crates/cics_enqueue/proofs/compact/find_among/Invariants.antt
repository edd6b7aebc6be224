use Rattle.std.proofs.Common.{◌≡◌}
use Rattle.std.specs.Map.{lookup}
use Rattle.cics_names.specs.Keyed.{is_same}
use Rattle.cics_enqueue.proofs.compact.find_among.Given as goal

-- what is asked for is among the entries that are left
abbrev pub invariant-loop-key : goal.invariant-loop-key
invariant-loop-key l = record {
  can : (goal.iterator-loop-key).can_next l.key-iterator;
  finite : (goal.iterator-loop-key).is_finite l.key-iterator;
  rest : lookup (is_same l.bytes) l.key-iterator ≡ lookup (is_same l.bytes) l.table.entries;
}
