use Rattle.std.proofs.Common.{◌≡◌, ◌&&◌, drop}
use Rattle.std.specs.List.{list_all}
use Rattle.cics_script.specs.Lines.{is_script_byte}
use Rattle.cics_script.proofs.lines.few_are_in_script.Given as goal

abbrev pub invariant-loop-byte : goal.invariant-loop-byte
invariant-loop-byte l = (l.all && list_all is_script_byte (drop l.byte-index l.bytes)) ≡ list_all is_script_byte l.bytes
