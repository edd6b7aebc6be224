use Rattle.std.proofs.Common.{◌≡◌, take}
use Rattle.std.specs.List.{fold}
use Rattle.cics_run.specs.Reads.Past.{put_mark, mark_of}
use Rattle.cics_run.specs.Reads.Touches.{put_point}
use Rattle.cics_run.proofs.reads.past.Kept.add.Given as goal

abbrev pub invariant-loop-cell : goal.invariant-loop-cell
invariant-loop-cell l =
    l.self ≡ record l.initial.self { marks = l.self.marks; points = l.self.points }
    × (l.self.marks.entries ≡ fold (put_mark (mark_of l.step)) l.initial.self.marks.entries (take l.cell-index l.cell-items))
    × (l.self.points.entries ≡ fold (put_point l.step.moment) l.initial.self.points.entries (take l.cell-index l.cell-items))
