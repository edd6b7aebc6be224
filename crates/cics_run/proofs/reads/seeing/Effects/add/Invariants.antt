use Rattle.std.proofs.Common.{◌≡◌, ◌++◌, take}
use Rattle.std.specs.List.{flat_map}
use Rattle.cics_run.specs.Reads.Findings.{replaced_at}
use Rattle.cics_run.proofs.reads.seeing.Effects.add.Given as goal

abbrev pub invariant-loop-cell : goal.invariant-loop-cell
invariant-loop-cell l =
    l.self ≡ record l.initial.self { lost = l.initial.self.lost ++ flat_map (replaced_at l.past l.step) (take l.cell-index l.cell-items) }
