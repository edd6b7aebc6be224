use Rattle.std.proofs.Common.{◌≡◌, drop}
use Rattle.cics_script.specs.Views.{entries}
use Rattle.cics_script.specs.Values.{content_at}
use Rattle.cics_script.proofs.values.value_at.Given as goal

abbrev pub invariant-loop-one : goal.invariant-loop-one
invariant-loop-one l = content_at l.option (entries (drop l.one-index l.found)) ≡ content_at l.option (entries l.found)
