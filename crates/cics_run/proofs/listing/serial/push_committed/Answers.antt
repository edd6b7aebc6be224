use Rattle.cics_names.specs.declared.commands.Verb.TheVariants.{Syncpoint}
use Rattle.cics_run.specs.Listing.Serial.{committed_lines, unit_command_line, unit_lines}
use Rattle.cics_run.specs.Listing.UnitLines.{lines_at}
use Rattle.cics_script.proofs.OfSpelling.Each.{each-step}
use Rattle.cics_run.proofs.OfMessages.Put.{put-put}
use Rattle.cics_run.proofs.listing.serial.push_committed.Goals as goal

pub loop-unit-preserved : goal.loop-unit-preserved
loop-unit-preserved c =
    let did = lines_at c.args.rows.now in
    let unit = c.unit-item.result in
    let more = put-put c.loop-unit.out.items c.push_unit.new.out.items c.push_command.new.out.items (unit_lines did unit) (unit_command_line unit Syncpoint) c.in_ok-push_unit.ensures c.in_ok-push_command.ensures in
    each-step (committed_lines did) c.args.commits.now c.loop-unit.unit-index unit c.args.out.now.items _ _ c.loop-unit-test.true c.unit-item.is c.loop-unit.invariant more
