use Rattle.std.proofs.Common.{◌≡◌, ◌++◌, take}
use Rattle.cics_run.specs.Reads.Text.{findings_text}
use Rattle.cics_run.proofs.reads.writing.push_findings.Given as goal

abbrev pub invariant-loop-one : goal.invariant-loop-one
invariant-loop-one l = l.out.items ≡ l.initial.out.items ++ findings_text l.only_amiss (take l.one-index l.found)
