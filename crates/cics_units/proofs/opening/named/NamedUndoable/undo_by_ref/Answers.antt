use Rattle.std.proofs.Common.{◌∙◌, ap, subst, sym}
use Rattle.cics_names.specs.Keyed.{with_value, value_at}
use Rattle.cics_images.specs.NamedValues.{IsReadyIn, changed_where}
use Rattle.cics_units.proofs.OfOpening.Changing.{there_if_ready}
use Rattle.cics_units.proofs.opening.named.NamedUndoable.undo_by_ref.Goals as goal

pub at_mut-requires : goal.at_mut-requires
at_mut-requires g c = there_if_ready g.M.Undoable.IsReady (value_at c.args.image.now.name c.args.self.now) c.args.image.now.image c.requires

pub undo_by_ref-requires : goal.undo_by_ref-requires
undo_by_ref-requires g c = subst (λ o. IsReadyIn g.M.Undoable.IsReady o c.args.image.now.image) c.at_mut.ensures.value c.requires

pub returns-clause-value : goal.returns-clause-value
returns-clause-value g c =
    let name = c.args.image.now.name in
    ap (λ m. with_value name m c.args.self.now) c.undo_by_ref.ensures.value
    ∙ ap (λ o. changed_where (λ m. g.M.Undoable.undone m c.args.image.now.image) name o c.args.self.now) (sym c.at_mut.ensures.value)
