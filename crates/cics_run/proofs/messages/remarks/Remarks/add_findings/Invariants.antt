use Rattle.std.proofs.Common.{◌≡◌, take}
use Rattle.std.specs.List.{fold}
use Rattle.cics_run.specs.Messages.Findings.{with_finding}
use Rattle.cics_run.proofs.messages.remarks.Remarks.add_findings.Given as goal

abbrev pub invariant-loop-one : goal.invariant-loop-one
invariant-loop-one l = l.self ≡ fold with_finding l.fn.self (take l.one-index l.found)
