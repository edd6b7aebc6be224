use Rattle.std.proofs.Common.{codes}
use Rattle.std.specs.List.{flat_map}
use Rattle.cics_run.specs.Listing.Serial.{file_line, file_lines, load_line}
use Rattle.cics_script.proofs.OfSpelling.Each.{each-step}
use Rattle.cics_run.proofs.OfMessages.Put.{put-put}
use Rattle.cics_run.proofs.listing.serial.push_files.Goals as goal

pub loop-file-preserved : goal.loop-file-preserved
loop-file-preserved c =
    let (name, what, records) = c.file-item.result in
    let head = file_line name what in
    let loads = flat_map (load_line (codes "FILE") name) records in
    let more = put-put c.loop-file.out.items c.push_file_line.new.out.items c.push_loads.new.out.items head loads (rw c.bytes-name.ensures at c.in_ok-push_file_line.ensures)
    (rw (c.bytes-name.ensures, c.as_slice.ensures) at c.in_ok-push_loads.ensures) in
    each-step file_lines c.args.files.now c.loop-file.file-index c.file-item.result c.args.out.now.items _ _ c.loop-file-test.true c.file-item.is c.loop-file.invariant more
