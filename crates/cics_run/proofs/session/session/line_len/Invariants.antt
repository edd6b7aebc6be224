use Rattle.std.proofs.Common.{◌≡◌, ◌+◌, length}
use Rattle.std.specs.List.{prefix_len}
use Rattle.cics_run.specs.Session.Lines.{is_in_line}
use Rattle.cics_run.proofs.session.session.line_len.Given as goal

-- what was passed has no LF
abbrev pub invariant-blocks-2 : goal.invariant-blocks-2
invariant-blocks-2 l = record {
  counted : l.passed + prefix_len is_in_line l.rest ≡ prefix_len is_in_line l.bytes;
  whole : l.passed + length l.rest ≡ length l.bytes;
}

abbrev pub decreases-blocks-2 : goal.decreases-blocks-2
decreases-blocks-2 l = length l.rest
