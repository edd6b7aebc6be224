use Rattle.std.proofs.Common.{◌≡◌, ◌++◌, append_assoc}
use Rattle.cics_run.specs.Listing.Serial.{option_with_value, load_line}
use Rattle.cics_script.proofs.OfSpelling.Each.{each-step}
use Rattle.cics_run.proofs.listing.serial.push_loads.Goals as goal

pub loop-loaded-preserved : goal.loop-loaded-preserved
unfolding option_with_value
loop-loaded-preserved c =
    let line = load_line c.args.kind.now c.args.name.now in
    let loaded = c.loaded-item.result in
    let more : c.push_parts.new.out.items ≡ c.loop-loaded.out.items ++ line loaded = simp (append_assoc) (rw c.bytes.ensures at c.in_ok-push_parts.ensures) in
    each-step line c.args.records.now c.loop-loaded.loaded-index loaded c.args.out.now.items _ _ c.loop-loaded-test.true c.loaded-item.is c.loop-loaded.invariant more
