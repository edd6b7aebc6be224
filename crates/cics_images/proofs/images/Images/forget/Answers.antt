use Rattle.std.proofs.Common.{◌≡◌, ◌∙◌, ap, rules}
use Rattle.cics_images.specs.Cells.{all_swept}
use Rattle.cics_images.proofs.Undoing.{others_kept, kept, held_after_sweeps}
use Rattle.cics_images.proofs.images.Images.forget.Goals as goal

pub returns-clause-contents : goal.returns-clause-contents
returns-clause-contents g c cell =
    let undo = g.M.Undoable in
    let laws = g.met.M.Undoable in
    let whole : c.loop-settled.target ≡ all_swept undo.swept undo.cell c.args.target.now c.args.self.now.newest_first = search rules in
    ap (λ m. undo.content m cell) whole
    ∙ kept (λ m. undo.content m cell) (λ m i. undo.swept m (undo.cell i)) (λ m i. laws.swept_content m (undo.cell i) cell) c.args.target.now c.args.self.now.newest_first

pub returns-clause-others : goal.returns-clause-others
returns-clause-others g c =
    let undo = g.M.Undoable in
    let laws = g.met.M.Undoable in
    let whole : c.loop-settled.target ≡ all_swept undo.swept undo.cell c.args.target.now c.args.self.now.newest_first = search rules in
    rw whole (others_kept undo.cell undo.Keeps laws.keeps_itself laws.keeps_fewer laws.keeps_on (λ m i. undo.swept m (undo.cell i)) (λ m is. Unit {0})
    (λ m i is all. tt) (λ m i is all. laws.swept_keeps m (undo.cell i)) c.args.target.now c.args.self.now.newest_first tt)

pub returns-clause-fixed : goal.returns-clause-fixed
returns-clause-fixed g c =
    let undo = g.M.Undoable in
    let laws = g.met.M.Undoable in
    let whole : c.loop-settled.target ≡ all_swept undo.swept undo.cell c.args.target.now c.args.self.now.newest_first = search rules in
    ap undo.fixed whole
    ∙ kept undo.fixed (λ m i. undo.swept m (undo.cell i)) (λ m i. laws.swept_fixed m (undo.cell i)) c.args.target.now c.args.self.now.newest_first

pub returns-clause-swept : goal.returns-clause-swept
returns-clause-swept g c cell =
    let undo = g.M.Undoable in
    let laws = g.met.M.Undoable in
    let whole : c.loop-settled.target ≡ all_swept undo.swept undo.cell c.args.target.now c.args.self.now.newest_first = search rules in
    ap (λ m. undo.holds_back m cell) whole
    ∙ held_after_sweeps undo.holds_back undo.swept undo.cell laws.swept_holds cell c.args.target.now c.args.self.now.newest_first
