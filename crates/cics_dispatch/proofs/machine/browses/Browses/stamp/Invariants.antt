use Rattle.std.proofs.Common.{◌≡◌, ◌++◌}
use Rattle.cics_names.specs.Stamps.{list_stamp}
use Rattle.cics_dispatch.specs.Machine.Stamps.{browse_stamp}
use Rattle.cics_dispatch.proofs.machine.browses.Browses.stamp.Given as goal

-- what is written, with the stamp of the browses that are left, is what the call leaves
abbrev pub invariant-loop-file : goal.invariant-loop-file
invariant-loop-file l = record {
  can : (goal.iterator-loop-file).can_next l.file-iterator;
  finite : (goal.iterator-loop-file).is_finite l.file-iterator;
  rest : l.out.items ++ list_stamp browse_stamp l.file-iterator ≡ l.fn.out.items ++ list_stamp browse_stamp l.self;
}
