use Rattle.cics_history.proofs.InPlace.{cells_stay, whole_stays, images_stay_ready, mark_images_stay_ready}
use Rattle.cics_history.proofs.laws.parts_stay.Goals as goal

pub returns : goal.returns
returns c = record { cells = cells_stay; whole = whole_stays; images = images_stay_ready; marks = mark_images_stay_ready }
