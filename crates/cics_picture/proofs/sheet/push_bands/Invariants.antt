use Rattle.std.proofs.Common.{◌≡◌, ◌++◌}
use Rattle.cics_picture.specs.Sheets.{bands}
use Rattle.cics_picture.proofs.sheet.push_bands.Given as goal

abbrev pub invariant-loop-n : goal.invariant-loop-n
invariant-loop-n l = l.out.items ≡ l.fn.out.items ++ bands l.width l.n
