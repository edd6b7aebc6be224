use Rattle.std.proofs.Common.{ap, [], ◌∷◌, ◌++◌, ◌∙◌}
use Rattle.std.specs.List.{cons_option}
use Rattle.std.proofs.lemmas.List.Elements.{filter_map-append}
use Rattle.cics_picture.specs.Page.Views.{texts_told, owner_told, owners_told}
use Rattle.cics_picture.proofs.OfViews.Silent.{untold, other-owner}
use Rattle.cics_picture.proofs.page.differences.push_owner_note.Goals as goal

pub returns-clause-silent : goal.returns-clause-silent
returns-clause-silent c = ap texts_told c.in_ok-push.ensures.items ∙ untold c.args.notes.now.items c.owner_note.result c.owner_note.ensures.silent

pub returns-clause-told : goal.returns-clause-told
returns-clause-told c =
    ap owners_told c.in_ok-push.ensures.items
    ∙ filter_map-append owner_told c.args.notes.now.items (c.owner_note.result ∷ [])
    ∙ ap (λ told. owners_told c.args.notes.now.items ++ cons_option told [])
    (other-owner c.args.held c.args.before c.args.after c.is_same_owner.result c.is_same_owner.ensures c.if-is_same_owner.false c.owner_note.result c.owner_note.ensures.told)
