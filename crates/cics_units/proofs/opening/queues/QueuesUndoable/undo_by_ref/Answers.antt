use Rattle.std.proofs.Common.{◌∙◌, ap, subst, sym}
use Rattle.cics_names.specs.Keyed.{with_value, value_at}
use Rattle.cics_images.specs.NamedValues.{IsReadyIn, IsNamedReady, named_undone, changed_where}
use Rattle.cics_transdata.specs.Undo.{IsReadyImage, undone}
use Rattle.cics_units.proofs.OfOpening.Changing.{there_if_ready}
use Rattle.cics_units.proofs.opening.queues.QueuesUndoable.undo_by_ref.Goals as goal

pub at_mut-requires : goal.at_mut-requires
at_mut-requires c = there_if_ready IsReadyImage (value_at c.image.inside.name c.args.self.now) c.image.inside.image (subst (IsNamedReady IsReadyImage c.args.self.now) (sym c.image.view_is) c.requires)

pub undo_by_ref-requires : goal.undo_by_ref-requires
undo_by_ref-requires c = subst (λ o. IsReadyIn IsReadyImage o c.image.inside.image) c.at_mut.ensures.value (subst (IsNamedReady IsReadyImage c.args.self.now) (sym c.image.view_is) c.requires)

pub returns-clause-value : goal.returns-clause-value
returns-clause-value c =
    let name = c.image.inside.name in
    ap (λ q. with_value name q c.args.self.now) c.undo_by_ref.ensures.value
    ∙ ap (λ o. changed_where (λ q. undone q c.image.inside.image) name o c.args.self.now) (sym c.at_mut.ensures.value)
    ∙ ap (named_undone undone c.args.self.now) c.image.view_is
