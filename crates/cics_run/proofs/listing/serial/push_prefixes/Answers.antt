use Rattle.std.proofs.Common.{◌≡◌, ◌++◌, append_assoc}
use Rattle.cics_run.specs.Listing.Serial.{option_with_value, prefix_line}
use Rattle.cics_script.proofs.OfSpelling.Each.{each-step}
use Rattle.cics_run.proofs.listing.serial.push_prefixes.Goals as goal

pub loop-prefix-preserved : goal.loop-prefix-preserved
unfolding option_with_value
loop-prefix-preserved c =
    let prefix = c.prefix-item.result in
    let more : c.push_parts.new.out.items ≡ c.loop-prefix.out.items ++ prefix_line prefix = simp (append_assoc) (rw c.bytes.ensures at c.in_ok-push_parts.ensures) in
    each-step prefix_line c.args.prefixes.now c.loop-prefix.prefix-index prefix c.args.out.now.items _ _ c.loop-prefix-test.true c.prefix-item.is c.loop-prefix.invariant more
