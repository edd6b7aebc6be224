use Rattle.std.proofs.Common.{◌∙◌}
use Rattle.cics_run.proofs.OfListing.UnitLines.{added-nothing, added-row}
use Rattle.cics_run.proofs.listing.unit_lines.gather.Goals as goal

pub returns-then-not-is_done : goal.returns-then-not-is_done
returns-then-not-is_done c = λ unit.
    added-nothing c.args.opening.now c.args.entry.now unit _ c.is_done.result (cc c.op-op.ensures) c.if-not-is_done.true

pub returns : goal.returns
returns c = λ unit.
    added-row c.args.opening.now c.args.entry.now c.is_done.result c.args.rows.now.items c.grow.new.rows.items c.index_mut.result.now c.push_entry.new.out c.number-at.result unit
    (cc c.op-op.ensures) c.if-not-is_done.false (c.number-at.ensures ∙ c.unit-unit.ensures) c.in_ok-grow.ensures.there c.index_mut.ensures.value (cc (c.op-op.ensures, c.in_ok-push_entry.ensures)) c.in_ok-grow.ensures.same
