use Rattle.std.proofs.Common.{◌∙◌}
use Rattle.cics_dispatch.proofs.OfNotes.LesserKeys.{last_found}
use Rattle.cics_dispatch.proofs.notes.firsts.last_level.Goals as goal

pub returns-in-Some : goal.returns-in-Some
returns-in-Some c = c.as_slice.ensures.value ∙ last_found c.args.keys.now c.args.above.now c.in-Some.level.now c.in-Some.ensures.value
