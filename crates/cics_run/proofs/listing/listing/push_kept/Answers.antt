use Rattle.cics_run.specs.Listing.Listings.{kept_text}
use Rattle.cics_script.proofs.OfSpelling.Each.{each-step}
use Rattle.cics_run.proofs.listing.listing.push_kept.Goals as goal

pub loop-row-preserved : goal.loop-row-preserved
loop-row-preserved c = each-step (kept_text c.args.kind.now c.args.counted.now) c.args.rows.now c.loop-row.row-index c.row-item.result c.args.out.now.items _ _ c.loop-row-test.true c.row-item.is c.loop-row.invariant c.in_ok-push_block.ensures
