use Rattle.std.proofs.Common.{◌∙◌, ap, sym}
use Rattle.cics_images.specs.NamedValues.{split_swept}
use Rattle.cics_images.specs.NamedLaws.{split_cell}
use Rattle.cics_units.proofs.OfOpening.Changing.{still_rising, stepped, not_stepped}
use Rattle.cics_units.proofs.opening.named.NamedUndoable.settle.Goals as goal

pub returns-in_default : goal.returns-in_default
returns-in_default g c =
    let undo = g.M.Undoable in
    let name = c.args.image.name in
    let k = undo.cell c.args.image.image in
    not_stepped name c.self.inside.rows.entries c.args.self.now c.self.view_is (λ m. undo.swept m k) c.in_default.ensures.value _
    (ap (λ rows. rows.entries) c.get_mut.follows.holds-at-none)
    ∙ ap (split_swept undo.swept c.args.self.now) (sym (split_cell name k))

pub invariant_of-self-2 : goal.invariant_of-self-2
invariant_of-self-2 g c = still_rising c.args.image.name c.settle.new.self c.self.inside.rows.entries _
    (c.get_mut.follows.holds c.settle.new.self).0 c.self.invariant

pub returns : goal.returns
returns g c =
    let undo = g.M.Undoable in
    let name = c.args.image.name in
    let k = undo.cell c.args.image.image in
    stepped name c.self.inside.rows.entries c.args.self.now c.in-Some.value.now c.self.invariant c.in-Some.ensures.value c.self.view_is
    c.settle.new.self _ (c.get_mut.follows.holds c.settle.new.self).0 (λ m. undo.swept m k) c.settle.ensures
    ∙ ap (split_swept undo.swept c.args.self.now) (sym (split_cell name k))
