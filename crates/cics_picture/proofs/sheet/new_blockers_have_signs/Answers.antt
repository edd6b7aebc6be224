use Rattle.cics_picture.proofs.Places.{signs-there}
use Rattle.cics_picture.proofs.sheet.new_blockers_have_signs.Goals as goal

pub returns : goal.returns
returns c = signs-there
