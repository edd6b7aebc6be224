use Rattle.std.proofs.Common.{subst}
use Rattle.cics_units.proofs.Applied.{AreStoredOn, stored_on}
use Rattle.cics_units.proofs.store.add_file_images.Goals as goal

pub loop-image-preserved : goal.loop-image-preserved
loop-image-preserved c =
    stored_on c.args.images.now c.loop-image.images c.store.new.self c.args.file c.args.made c.in-Some.image c.next.new.self.rest.items
    (subst (AreStoredOn c.args.images.now c.loop-image.images c.args.file c.args.made) c.in-Some.ensures.steps.0 c.loop-image.invariant)
    c.store.ensures.images c.store.ensures.room
