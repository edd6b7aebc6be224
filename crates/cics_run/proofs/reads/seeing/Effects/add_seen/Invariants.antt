use Rattle.std.proofs.Common.{◌≡◌, ◌++◌}
use Rattle.std.specs.Map.{values_of}
use Rattle.cics_run.specs.Reads.Findings.{dirty_among}
use Rattle.cics_run.proofs.reads.seeing.Effects.add_seen.Given as goal

abbrev pub invariant-loop-one : goal.invariant-loop-one
invariant-loop-one l =
    l.self ≡ record l.fn.self {
      seen = l.fn.self.seen ++ values_of l.yielded;
      dirty = l.fn.self.dirty ++ dirty_among l.past (values_of l.yielded);
    }
