use Rattle.std.proofs.Common.{sym, ap, ◌∙◌}
use Rattle.cics_names.specs.Ebcdic.{code_of}
use Rattle.cics_names.proofs.Filled.{Filled-more}
use Rattle.cics_names.proofs.names.padded.Goals as goal

pub loop-i-preserved : goal.loop-i-preserved
loop-i-preserved g c = Filled-more g.row.N c.args.text.now c.loop-i.i c.loop-i.bytes c.loop-i.is_blank c.in-Some.code c.loop-i.invariant c.loop-i-test.true (ap code_of (sym c.from.ensures) ∙ sym c.in-Some.ensures.value)
