use Rattle.cics_picture.proofs.Spans.{unit-spans}
use Rattle.cics_picture.proofs.sheet.bars_span_units.Goals as goal

pub returns : goal.returns
returns c = unit-spans
