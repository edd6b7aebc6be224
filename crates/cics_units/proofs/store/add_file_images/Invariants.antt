use Rattle.std.specs.Vec.Iter.{into_iter_items}
use Rattle.cics_units.proofs.Applied.{AreStoredOn}
use Rattle.cics_units.proofs.store.add_file_images.Given as goal

abbrev pub invariant-loop-image : goal.invariant-loop-image
invariant-loop-image l = AreStoredOn l.fn.images l.images l.fn.file l.fn.made (into_iter_items l.image-iterator)
