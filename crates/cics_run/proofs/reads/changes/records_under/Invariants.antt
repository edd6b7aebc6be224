use Rattle.std.proofs.Common.{◌≡◌, ◌++◌, map}
use Rattle.std.specs.Vec.Iter.{into_iter_items}
use Rattle.cics_run.specs.Reads.Changes.{records_under}
use Rattle.cics_run.specs.declared.reads.steps.Cell.TheVariants.{Record}
use Rattle.cics_run.proofs.reads.changes.records_under.Given as goal

-- the cells so far, and those of the keys that are left, are all
abbrev pub invariant-loop-key : goal.invariant-loop-key
invariant-loop-key l =
    l.cells ++ map (λ k. Record l.fn.file k) (into_iter_items l.key-iterator) ≡ records_under l.units.store l.fn.file l.prefix
