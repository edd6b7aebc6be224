use Rattle.std.proofs.Common.{◌+◌, ◌∙◌, ap, sym, drop, ◌||◌}
use Rattle.std.proofs.Math.ListN.{drop_of_length-le}
use Rattle.cics_history.specs.State.{has_prefix_in}
use Rattle.cics_units.proofs.OfOpening.Unpadded.{next_prefix}
use Rattle.cics_units.proofs.opening.prefixes.has_prefix_in.Goals as goal

pub returns-then-begins_with : goal.returns-then-begins_with
returns-then-begins_with c =
    ap (λ b. b || has_prefix_in (drop (c.loop-prefix.prefix-index + 1) c.args.prefixes.now) c.args.queue.now) c.if-begins_with.ensures
    ∙ sym (next_prefix c.args.prefixes.now c.loop-prefix.prefix-index c.prefix-item.result c.args.queue.now c.loop-prefix-test.true c.prefix-item.is)
    ∙ c.loop-prefix.invariant

pub loop-prefix-preserved : goal.loop-prefix-preserved
loop-prefix-preserved c =
    ap (λ b. b || has_prefix_in (drop (c.loop-prefix.prefix-index + 1) c.args.prefixes.now) c.args.queue.now) c.if-begins_with.ensures
    ∙ sym (next_prefix c.args.prefixes.now c.loop-prefix.prefix-index c.prefix-item.result c.args.queue.now c.loop-prefix-test.true c.prefix-item.is)
    ∙ c.loop-prefix.invariant

pub returns : goal.returns
returns c = ap (λ ps. has_prefix_in ps c.args.queue.now) (sym (drop_of_length-le c.args.prefixes.now c.loop-prefix-test.false)) ∙ c.loop-prefix.invariant
