use Rattle.std.proofs.Common.{◌≡◌, ◌+◌, ◌-◌, ◌<◌, ◌∷◌, ◌∙◌, ◌&&◌, fold, reverse, take, set, length, arith, sym, ap, subst}
use Rattle.std.proofs.lemmas.List.{take-set, length-set}
use Rattle.cics_images.specs.Cells.{AreReadyInTurn, is_other, is_unnamed}
use Rattle.cics_images.proofs.Undoing.{newest_first_of, none_left, same_cells, led_back, others_kept, kept, held_after_undoing, same_sweeps, same_unnamed}
use Rattle.cics_images.proofs.images.Images.back_out.Goals as goal

pub loop-left-preserved : goal.loop-left-preserved
loop-left-preserved g c =
    let undo = g.M.Undoable in
    let items = c.loop-left.self-inside.images.items in
    let at = c.loop-left.left - 1 in
    let image = c.index_mut.result.now in
    let in_range : at < length items = omega (arith, c.loop-left.invariant.inside, c.loop-left-test.true) in
    let one_more : c.loop-left.left ≡ at + 1 = omega (arith, c.loop-left-test.true) in
    let newest : reverse (take c.loop-left.left items) ≡ image ∷ reverse (take at items) =
    ap (λ n. reverse (take n items)) one_more ∙ newest_first_of items at image in_range ∙ ap (λ i. i ∷ reverse (take at items)) (sym c.index_mut.ensures.value) in
    let ready : AreReadyInTurn undo.IsReady undo.undone c.loop-left.target (image ∷ reverse (take at items)) =
    subst (AreReadyInTurn undo.IsReady undo.undone c.loop-left.target) newest c.loop-left.invariant.ready in
    let left : reverse (take at (set items at c.undo_by_ref.new.image)) ≡ reverse (take at items) = ap reverse (take-set items at c.undo_by_ref.new.image) in
    record {
      inside = omega (arith, length-set items at c.undo_by_ref.new.image, in_range);
      ready = rw (left, c.undo_by_ref.ensures.value) ready.1;
      rest = rw (left, c.undo_by_ref.ensures.value) (sym (ap (fold undo.undone c.loop-left.target) newest) ∙ c.loop-left.invariant.rest);
      cells = same_cells undo.cell items at c.undo_by_ref.new.image image (c.undo_by_ref.ensures.cell ∙ ap undo.cell c.index_mut.ensures.value) ∙ c.loop-left.invariant.cells;
    }

pub returns-clause-led_back : goal.returns-clause-led_back
returns-clause-led_back g c cell =
    let undo = g.M.Undoable in
    let whole = none_left undo.undone c.loop-left.target _ c.loop-left.self-inside.images.items c.loop-left.left (omega (arith, c.loop-left-test.false)) c.loop-left.invariant.rest in
    let laws = g.met.M.Undoable in
    rw (c.forget.ensures.contents cell, whole) (led_back undo.content undo.cell undo.IsReady undo.leads undo.undone laws.undone_leads
    (λ m i d ready other. laws.keeps_content (is_other (undo.cell i)) m (undo.undone m i) d (laws.undone_keeps m i ready) other) cell _ _ c.requires)

pub returns-clause-others : goal.returns-clause-others
returns-clause-others g c =
    let undo = g.M.Undoable in
    let whole = none_left undo.undone c.loop-left.target _ c.loop-left.self-inside.images.items c.loop-left.left (omega (arith, c.loop-left-test.false)) c.loop-left.invariant.rest in
    let laws = g.met.M.Undoable in
    let undone : undo.Keeps (is_unnamed undo.cell c.args.self.now.newest_first) c.args.target.now c.loop-left.target =
    rw whole (others_kept undo.cell undo.Keeps laws.keeps_itself laws.keeps_fewer laws.keeps_on undo.undone (AreReadyInTurn undo.IsReady undo.undone)
    (λ m i is all. all.1) (λ m i is all. laws.undone_keeps m i all.0) c.args.target.now c.args.self.now.newest_first c.requires) in
    laws.keeps_on (is_unnamed undo.cell c.args.self.now.newest_first) c.args.target.now c.loop-left.target c.forget.new.target undone
    (laws.keeps_fewer (is_unnamed undo.cell (reverse c.loop-left.self-inside.images.items)) (is_unnamed undo.cell c.args.self.now.newest_first) c.loop-left.target c.forget.new.target
    (λ d pass. same_unnamed undo.cell d _ _ c.loop-left.invariant.cells ∙ pass) c.forget.ensures.others)

pub returns-clause-fixed : goal.returns-clause-fixed
returns-clause-fixed g c =
    let undo = g.M.Undoable in
    let whole = none_left undo.undone c.loop-left.target _ c.loop-left.self-inside.images.items c.loop-left.left (omega (arith, c.loop-left-test.false)) c.loop-left.invariant.rest in
    let laws = g.met.M.Undoable in
    c.forget.ensures.fixed ∙ ap undo.fixed whole
    ∙ kept undo.fixed undo.undone laws.undone_fixed c.args.target.now c.args.self.now.newest_first

pub returns-clause-swept : goal.returns-clause-swept
returns-clause-swept g c cell =
    let undo = g.M.Undoable in
    let whole = none_left undo.undone c.loop-left.target _ c.loop-left.self-inside.images.items c.loop-left.left (omega (arith, c.loop-left-test.false)) c.loop-left.invariant.rest in
    let laws = g.met.M.Undoable in
    c.forget.ensures.swept cell
    ∙ ap (λ b. undo.holds_back c.loop-left.target cell && b) (same_unnamed undo.cell cell _ _ c.loop-left.invariant.cells)
    ∙ ap (λ m. undo.holds_back m cell && is_unnamed undo.cell c.args.self.now.newest_first cell) whole
    ∙ held_after_undoing undo.holds_back undo.undone undo.cell laws.undone_holds cell c.args.target.now c.args.self.now.newest_first

pub returns-clause-whole : goal.returns-clause-whole
returns-clause-whole g c =
    let undo = g.M.Undoable in
    let whole = none_left undo.undone c.loop-left.target _ c.loop-left.self-inside.images.items c.loop-left.left (omega (arith, c.loop-left-test.false)) c.loop-left.invariant.rest in
    c.forget.ensures.whole ∙ same_sweeps undo.swept undo.cell c.loop-left.target _ _ c.loop-left.invariant.cells
    ∙ ap (λ m. fold (λ n i. undo.swept n (undo.cell i)) m c.args.self.now.newest_first) whole
