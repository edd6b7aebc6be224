use Rattle.cics_script.proofs.Digits.{digit-read}
use Rattle.cics_script.proofs.literals.digit_or_16.Goals as goal

pub returns : goal.returns
returns c = digit-read c.args.byte _ c.from.ensures c.ranges.byte.fits
