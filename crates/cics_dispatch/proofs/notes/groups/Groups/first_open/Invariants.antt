use Rattle.std.proofs.Common.{◌≡◌}
use Rattle.cics_dispatch.specs.Notes.Filed.{AreShown}
use Rattle.cics_dispatch.proofs.OfNotes.ShownNotes.{looks}
use Rattle.cics_dispatch.proofs.notes.groups.Groups.first_open.Given as goal

-- only keys have changed, and each command that has to be looked at is shown yet
abbrev pub invariant-loop-at : goal.invariant-loop-at
invariant-loop-at l = record {
  shown : AreShown l.self;
  rows : l.self.rows ≡ l.fn.self.rows;
  blockers : l.self.blockers ≡ l.fn.self.blockers;
}

-- each turn leaves fewer to look at
abbrev pub decreases-loop-at : goal.decreases-loop-at
decreases-loop-at l = looks l.self.keys
