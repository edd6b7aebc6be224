use Rattle.std.proofs.Common.{◌≡◌, ◌≤◌, reverse, fold, map, take, length}
use Rattle.cics_images.specs.Cells.{AreReadyInTurn}
use Rattle.cics_images.proofs.images.Images.back_out.Given as goal

-- the images that are left are ready in turn, undoing them ends where undoing all does, and all name the cells that they
-- named
abbrev pub invariant-loop-left : goal.invariant-loop-left
invariant-loop-left g l =
    let undo = g.M.Undoable in
    let left = reverse (take l.left l.self-inside.images.items) in
    record {
      inside : l.left ≤ length l.self-inside.images.items;
      ready : AreReadyInTurn undo.IsReady undo.undone l.target left;
      rest : fold undo.undone l.target left ≡ fold undo.undone l.fn.target l.fn.self.newest_first;
      cells : map undo.cell (reverse l.self-inside.images.items) ≡ map undo.cell l.fn.self.newest_first;
    }

abbrev pub decreases-loop-left : goal.decreases-loop-left
decreases-loop-left g l = l.left
