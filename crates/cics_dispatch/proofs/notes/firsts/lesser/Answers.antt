use Rattle.std.proofs.Common.{◌∙◌, ap, Some, sym}
use Rattle.cics_dispatch.proofs.OfNotes.LesserKeys.{lesser_at, lesser_last}
use Rattle.cics_dispatch.proofs.notes.firsts.lesser.Goals as goal

pub returns-then-at-level : goal.returns-then-at-level
returns-then-at-level c = lesser_at c.args.level.now c.args.pair c.if-at-level.true ∙ ap Some (sym c.min.ensures)

pub returns-else-at-level : goal.returns-else-at-level
returns-else-at-level c = lesser_last c.args.level.now c.args.pair c.requires c.if-at-level.false
