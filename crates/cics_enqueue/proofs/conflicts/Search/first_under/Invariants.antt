use Rattle.std.proofs.Common.{◌≡◌}
use Rattle.cics_enqueue.specs.Kept.{first_entry, is_others_under}
use Rattle.cics_enqueue.proofs.Seeking.{Rises}
use Rattle.cics_enqueue.proofs.conflicts.Search.first_under.Given as goal

-- the entries that are left rise, and the first that is asked for is among them
abbrev pub invariant-loop-key : goal.invariant-loop-key
invariant-loop-key l = record {
  can : (goal.iterator-loop-key).can_next l.key-iterator;
  finite : (goal.iterator-loop-key).is_finite l.key-iterator;
  rises : Rises l.key-iterator;
  rest : first_entry (is_others_under l.start l.self.asker) l.key-iterator ≡ first_entry (is_others_under l.start l.self.asker) l.self.table.now.entries;
}
