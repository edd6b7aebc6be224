use Rattle.std.proofs.Common.{codes}
use Rattle.std.specs.List.{flat_map}
use Rattle.cics_run.specs.Listing.Serial.{queue_line, queue_lines, load_line}
use Rattle.cics_script.proofs.OfSpelling.Each.{each-step}
use Rattle.cics_run.proofs.OfMessages.Put.{put-put}
use Rattle.cics_run.proofs.listing.serial.push_queues.Goals as goal

pub loop-queue-preserved : goal.loop-queue-preserved
loop-queue-preserved c =
    let (name, what, records) = c.queue-item.result in
    let head = queue_line name what in
    let loads = flat_map (load_line (codes "TDQUEUE") name) records in
    let more = put-put c.loop-queue.out.items c.push_queue_line.new.out.items c.push_loads.new.out.items head loads (rw c.bytes-name.ensures at c.in_ok-push_queue_line.ensures)
    (rw (c.bytes-name.ensures, c.as_slice.ensures) at c.in_ok-push_loads.ensures) in
    each-step queue_lines c.args.queues.now c.loop-queue.queue-index c.queue-item.result c.args.out.now.items _ _ c.loop-queue-test.true c.queue-item.is c.loop-queue.invariant more
