use Rattle.cics_run.proofs.OfListing.UnitLines.{gathered-more}
use Rattle.cics_run.proofs.listing.unit_lines.gathered.Goals as goal

pub loop-entry-preserved : goal.loop-entry-preserved
loop-entry-preserved c = λ unit. gathered-more c.args.opening.now c.args.trace.now unit c.loop-entry.entry-index c.entry-item.result _ _ c.loop-entry-test.true c.entry-item.is (c.loop-entry.invariant unit) (c.in_ok-gather.ensures unit)
