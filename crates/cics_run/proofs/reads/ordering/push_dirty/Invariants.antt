use Rattle.std.proofs.Common.{◌≡◌, ◌++◌, take}
use Rattle.std.specs.Prelude.{map}
use Rattle.cics_run.specs.Reads.Written.{dirty}
use Rattle.cics_run.proofs.reads.ordering.push_dirty.Given as goal

abbrev pub invariant-loop-pair : goal.invariant-loop-pair
invariant-loop-pair l = l.out ≡ l.fn.out ++ map (dirty l.past) (take l.pair-index l.pairs)
