use Rattle.std.proofs.Common.{◌≡◌, ◌++◌, map, take}
use Rattle.cics_run.specs.Listing.Listings.{kept_text}
use Rattle.cics_orders.proofs.endings.blocks.add_kept.Given as goal

abbrev pub invariant-loop-row : goal.invariant-loop-row
invariant-loop-row l = l.parts ≡ l.fn.parts ++ map (kept_text l.words.0.now l.words.1.now) (take l.row-index l.rows)
