use Rattle.std.proofs.Common.{◌≡◌, reverse, length}
use Rattle.cics_images.specs.Cells.{all_swept}
use Rattle.cics_images.proofs.images.Images.forget.Given as goal

-- sweeping the cells of the images that are left ends where sweeping all does
abbrev pub invariant-loop-settled : goal.invariant-loop-settled
invariant-loop-settled g l =
    let undo = g.M.Undoable in
    all_swept undo.swept undo.cell l.target (reverse l.self-inside.images.items) ≡ all_swept undo.swept undo.cell l.fn.target l.fn.self.newest_first

abbrev pub decreases-loop-settled : goal.decreases-loop-settled
decreases-loop-settled g l = length l.self-inside.images.items
