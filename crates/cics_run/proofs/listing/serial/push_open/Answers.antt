use Rattle.cics_run.specs.Listing.Serial.{unit_lines}
use Rattle.cics_run.specs.Listing.UnitLines.{lines_at}
use Rattle.cics_run.proofs.OfListing.UnitLines.{open-step}
use Rattle.cics_run.proofs.listing.serial.push_open.Goals as goal

pub loop-number-preserved : goal.loop-number-preserved
loop-number-preserved c = open-step (unit_lines (lines_at c.args.rows.now)) c.args.outcomes.now c.loop-number.number c.new.result _ c.args.out.now.items _ _ c.loop-number-test.true c.new.ensures c.loop-number.invariant c.in_ok-push_if_open.ensures
