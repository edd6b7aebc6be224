use Rattle.std.proofs.Common.{◌≡◌, drop}
use Rattle.std.specs.List.{list_any}
use Rattle.cics_names.specs.Keyed.{is_same}
use Rattle.cics_enqueue.proofs.owned.find.Given as goal

-- what is asked for is among the keys that are left
abbrev pub invariant-loop-key : goal.invariant-loop-key
invariant-loop-key l = record {
  rest : list_any (is_same l.bytes) (drop l.key-index l.key-items) ≡ list_any (is_same l.bytes) l.key-items;
}
