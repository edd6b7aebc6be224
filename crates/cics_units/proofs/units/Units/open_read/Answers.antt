use Rattle.std.proofs.Common.{◌≤◌, length, sym, subst}
use Rattle.std.specs.Prelude.{IfSome}
use Rattle.cics_units.proofs.ShownUnits.{read_short}
use Rattle.cics_units.proofs.units.Units.open_read.Goals as goal

pub returns-clause-most : goal.returns-clause-most
returns-clause-most c = subst (λ k. length k ≤ 255) (sym c.bytes.ensures)
    (subst (λ o. IfSome o (λ k. length k ≤ 255)) (sym c.in_ok-key.ensures)
    (read_short c.self.inside.core.reads c.args.unit c.args.file.now c.self.invariant.0.table.keys))
