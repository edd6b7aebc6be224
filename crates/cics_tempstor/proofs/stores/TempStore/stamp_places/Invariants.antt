use Rattle.std.proofs.Common.{◌≡◌, ◌++◌}
use Rattle.cics_tempstor.specs.Queues.{places_of}
use Rattle.cics_tempstor.specs.Stamps.{places_stamp}
use Rattle.cics_tempstor.specs.Tables.{those_set}
use Rattle.cics_tempstor.proofs.stores.TempStore.stamp_places.Given as goal

-- what is written, with the stamp of the cursors that are left, is what the call leaves
abbrev pub invariant-loop-name : goal.invariant-loop-name
invariant-loop-name l = record {
  can : (goal.iterator-loop-name).can_next l.name-iterator;
  finite : (goal.iterator-loop-name).is_finite l.name-iterator;
  rest : l.out.items ++ places_stamp (those_set l.name-iterator) ≡ l.fn.out.items ++ places_stamp (places_of l.self);
}
