use Rattle.std.proofs.Common.{◌≡◌, ◌∙◌, ◌<◌, ap, true, false, length, arith}
use Rattle.std.specs.Ordering.{is_lt}
use Rattle.cics_units.specs.OpenReads.{place_of}
use Rattle.cics_units.proofs.UnitReads.{place_at}
use Rattle.cics_units.proofs.open_reads.unit_reads.UnitReads.place.Goals as goal

pub loop-at-preserved : goal.loop-at-preserved
loop-at-preserved c =
    let inside : c.loop-at.at < length c.self.inside.entries.items = omega (arith, c.loop-at-test.true, c.len.ensures) in
    let step = place_at c.args.file.now c.self.inside.entries.items c.loop-at.at c.index.result.now inside c.index.ensures true (c.if-is_lt.ensures ∙ ap is_lt c.cmp.ensures) in
    (omega (arith, inside), omega (arith, step, c.loop-at.invariant.1))

pub returns-else-is_lt : goal.returns-else-is_lt
returns-else-is_lt c =
    let inside : c.loop-at.at < length c.self.inside.entries.items = omega (arith, c.loop-at-test.true, c.len.ensures) in
    let step = place_at c.args.file.now c.self.inside.entries.items c.loop-at.at c.index.result.now inside c.index.ensures false (c.if-is_lt.ensures ∙ ap is_lt c.cmp.ensures) in
    let counted : c.loop-at.at ≡ place_of c.args.file.now c.self.inside.entries.items = omega (arith, step, c.loop-at.invariant.1) in
    counted ∙ ap (place_of c.args.file.now) c.self.view_is
