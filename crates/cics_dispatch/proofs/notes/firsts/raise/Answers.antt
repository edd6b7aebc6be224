use Rattle.std.proofs.Common.{◌∷◌, [], ◌++◌, ◌∙◌, ap, sym, subst}
use Rattle.cics_dispatch.specs.Notes.Firsts.{last_of, AreAbove}
use Rattle.cics_dispatch.proofs.OfNotes.LesserKeys.{raised}
use Rattle.cics_dispatch.proofs.notes.firsts.raise.Goals as goal

pub returns : goal.returns
returns c =
    let keys = c.args.keys.now.items in
    let levels = c.args.above.now.items in
    let read = c.last_level-last.ensures ∙ ap (λ l. last_of l c.as_slice-2.result.now) c.as_slice.ensures.value ∙ ap (last_of keys) c.as_slice-2.ensures.value in
    subst (AreAbove keys) (sym c.in_ok-push-2.ensures.items)
    (raised keys c.last_level-last.result.now levels c.push.new.self c.lesser-least.result c.requires read c.if-last-ne2.false c.lesser-least.ensures
    (c.in_ok-push.ensures.items ∙ ap (λ l. l ++ c.lesser-least.result ∷ []) c.new-level.ensures.items))
