use Rattle.std.proofs.Common.{◌≡◌, ◌+◌, length}
use Rattle.std.specs.List.{prefix_len}
use Rattle.cics_script.specs.Literals.{is_plain}
use Rattle.cics_script.proofs.literals.plain_len.Given as goal

-- what was passed stands for itself
abbrev pub invariant-blocks-2 : goal.invariant-blocks-2
invariant-blocks-2 l = record {
  counted : l.passed + prefix_len is_plain l.rest ≡ prefix_len is_plain l.bytes;
  whole : l.passed + length l.rest ≡ length l.bytes;
}

abbrev pub decreases-blocks-2 : goal.decreases-blocks-2
decreases-blocks-2 l = length l.rest
