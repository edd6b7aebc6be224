use Rattle.cics_picture.proofs.Kept.{unit-barred}
use Rattle.cics_picture.proofs.sheet.units_have_bars.Goals as goal

pub returns : goal.returns
returns c = unit-barred
