use Rattle.std.proofs.Common.{◌≡◌, ◌≤◌, ◌-◌, drop, length}
use Rattle.std.specs.List.{list_all}
use Rattle.cics_script.specs.Lines.{is_script_byte}
use Rattle.cics_script.proofs.lines.blocks_are_in_script.Given as goal

-- what was passed has no other bytes, and the rest is the end of the line
abbrev pub invariant-blocks-2 : goal.invariant-blocks-2
invariant-blocks-2 l = record {
  passed : list_all is_script_byte l.rest ≡ list_all is_script_byte l.bytes;
  within : length l.rest ≤ length l.bytes;
  behind : l.rest ≡ drop (length l.bytes - length l.rest) l.bytes;
}

abbrev pub decreases-blocks-2 : goal.decreases-blocks-2
decreases-blocks-2 l = length l.rest
