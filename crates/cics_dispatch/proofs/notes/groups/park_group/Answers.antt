use Rattle.cics_dispatch.proofs.OfNotes.FiledNotes.{same_unit}
use Rattle.cics_dispatch.proofs.notes.groups.park_group.Goals as goal

pub returns-then-eq-clause-added : goal.returns-then-eq-clause-added
returns-then-eq-clause-added c = c.requires (same_unit c.args.blocker c.args.unit c.eq.result c.eq.ensures c.if-eq.true)
