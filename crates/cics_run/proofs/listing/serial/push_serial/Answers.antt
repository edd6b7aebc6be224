use Rattle.std.proofs.lemmas.Result.{on_ok_weaker}
use Rattle.cics_run.proofs.OfListing.UnitLines.{serial-joined}
use Rattle.cics_run.proofs.listing.serial.push_serial.Goals as goal

pub returns : goal.returns
returns c =
    on_ok_weaker c.push_open.result (λ last.
    serial-joined c.args.units.now.state c.in_ok-rows.rows.items c.deref.result.now c.deref-2.result.now c.opening.result.now c.opening-2.result.now c.trace.result.now
    c.commits.result.now c.outcomes.result.now c.args.out.now.items c.push_str.new.out.items c.push_opening.new.out.items c.push_committed.new.out.items c.push_open.new.out.items
    c.opening.ensures c.opening-2.ensures c.trace.ensures.trace c.commits.ensures.commits c.outcomes.ensures
    c.deref.ensures.value c.deref-2.ensures.value c.in_ok-rows.ensures c.in_ok-push_str.ensures c.in_ok-push_opening.ensures c.in_ok-push_committed.ensures last) c.push_open.ensures
