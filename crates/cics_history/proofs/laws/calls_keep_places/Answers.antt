use Rattle.cics_history.proofs.PrefixImages.{prefix_images-AreImages}
use Rattle.cics_history.proofs.Places.{initial_units-IsPlaceOf, execution-IsPlaceOf, commit-IsPlaceOf, back_out-IsPlaceOf, enqueue-IsPlaceOf, dequeue-IsPlaceOf, unlock-IsPlaceOf, ts_reading-IsPlaceOf, image_of-AreImages}
use Rattle.cics_history.proofs.laws.calls_keep_places.Goals as goal

pub returns : goal.returns
returns c = record {
  begins = initial_units-IsPlaceOf;
  executes = execution-IsPlaceOf;
  commits = commit-IsPlaceOf;
  backs_out = back_out-IsPlaceOf;
  enqueues = enqueue-IsPlaceOf;
  dequeues = dequeue-IsPlaceOf;
  unlocks = unlock-IsPlaceOf;
  reads = ts_reading-IsPlaceOf;
  image = image_of-AreImages;
  prefix = λ s f p cells i holds. prefix_images-AreImages s f p cells i holds;
}
