use Rattle.std.proofs.Common.{◌∙◌, ◌++◌, ap, sym}
use Rattle.std.proofs.lemmas.List.{at_drop_all}
use Rattle.std.proofs.lemmas.Result.{on_ok_weaker}
use Rattle.cics_units.proofs.Stamped.{ops_left, entry_passed}
use Rattle.cics_units.proofs.stamping.stamp_ops.Goals as goal

pub loop-entry-preserved : goal.loop-entry-preserved
loop-entry-preserved c =
    entry_passed c.args.opening.now c.args.unit c.args.trace.now c.loop-entry.entry-index c.entry-item.result _ _ _ c.loop-entry-test.true c.entry-item.is c.loop-entry.invariant c.in_ok-stamp_entry.ensures

pub returns : goal.returns
returns c =
    let o = c.args.opening.now in
    on_ok_weaker c.stamp_number.result (λ last.
    last ∙ ap (λ t. c.loop-entry.out.items ++ t) (sym (at_drop_all (ops_left o c.args.unit) c.args.trace.now c.loop-entry.entry-index c.loop-entry-test.false)) ∙ c.loop-entry.invariant) c.stamp_number.ensures
