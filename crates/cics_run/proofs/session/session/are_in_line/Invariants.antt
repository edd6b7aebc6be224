use Rattle.std.proofs.Common.{◌≡◌, ◌&&◌, drop}
use Rattle.std.specs.List.{list_all}
use Rattle.cics_run.specs.Session.Lines.{is_in_line}
use Rattle.cics_run.proofs.session.session.are_in_line.Given as goal

abbrev pub invariant-loop-byte : goal.invariant-loop-byte
invariant-loop-byte l = (l.all && list_all is_in_line (drop l.byte-index l.bytes)) ≡ list_all is_in_line l.bytes
