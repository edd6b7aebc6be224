use Rattle.std.proofs.Common.{◌≡◌, ◌<◌, ℕ, Some, slice_get}
use Rattle.cics_dispatch.specs.Notes.Filed.{AreShown, Reopens, IsNotOf}
use Rattle.cics_dispatch.specs.declared.notes.groups.Parked.{Parked}
use Rattle.cics_dispatch.proofs.notes.groups.Groups.reopen.Given as goal

-- what comes before this index isn't blocked by the unit any more
abbrev pub invariant-loop-place : goal.invariant-loop-place
invariant-loop-place l = record {
  shown : AreShown l.self;
  reopening : Reopens l.unit l.fn.self l.self;
  opened : (k : ℕ) (p : Parked) → k < l.place → slice_get l.parked k ≡ Some p → IsNotOf l.self.rows.items l.self.blockers.items l.unit p;
}
