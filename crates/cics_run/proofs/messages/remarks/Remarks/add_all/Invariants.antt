use Rattle.std.proofs.Common.{◌≡◌, take}
use Rattle.std.specs.List.{fold}
use Rattle.cics_run.specs.Messages.Remarks.{with_notice}
use Rattle.cics_run.proofs.messages.remarks.Remarks.add_all.Given as goal

abbrev pub invariant-loop-notice : goal.invariant-loop-notice
invariant-loop-notice l = l.self ≡ fold (with_notice l.stage l.number l.line) l.fn.self (take l.notice-index l.notices)
