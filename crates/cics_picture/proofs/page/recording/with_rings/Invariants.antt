use Rattle.std.proofs.Common.{◌≡◌}
use Rattle.cics_picture.specs.Page.Recording.{told_by}
use Rattle.cics_picture.proofs.page.recording.with_rings.Given as goal

-- what the step tells beside its notes stays
abbrev pub invariant-loop-ring : goal.invariant-loop-ring
invariant-loop-ring l = told_by l.step ≡ told_by l.initial.step
