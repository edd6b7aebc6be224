use Rattle.std.proofs.Common.{◌≡◌, ◌++◌, take}
use Rattle.std.specs.List.{flat_map}
use Rattle.cics_run.specs.Messages.Remarks.{remark_line}
use Rattle.cics_run.proofs.messages.remarks.push_remarks.Given as goal

abbrev pub invariant-loop-remark : goal.invariant-loop-remark
invariant-loop-remark l = l.out.items ≡ l.fn.out.items ++ flat_map (remark_line l.fn.file) (take l.remark-index l.remark-items)
