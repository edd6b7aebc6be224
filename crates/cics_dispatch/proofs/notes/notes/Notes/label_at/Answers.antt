use Rattle.std.proofs.Common.{◌∙◌, ap, Some, length, slice_get, refl}
use Rattle.std.proofs.lemmas.Option.{slice_get_within, slice_get_read}
use Rattle.cics_dispatch.proofs.notes.notes.Notes.label_at.Goals as goal

pub unreachable-requires : goal.unreachable-requires
unreachable-requires c =
    let rows = c.self.inside.groups.rows.items in
    let there = ap (λ v. slice_get v.rows c.args.at) c.self.view_is ∙ c.requires.there.1 in
    let read = slice_get_read rows (length rows) c.args.at c.index.result.now refl (slice_get_within rows c.args.at (Some c.requires.there.0) there) c.index.ensures in
    let none = c.in-None.is in
    cc
