use Rattle.std.proofs.Common.{◌≡◌, ◌-◌, ◌≤◌, drop}
use Rattle.std.specs.List.{prefix_len}
use Rattle.cics_script.specs.Literals.{is_plain}
use Rattle.cics_script.proofs.literals.group_plain_len.Given as goal

-- the last characters were counted
abbrev pub invariant-loop-i : goal.invariant-loop-i
invariant-loop-i l = record {
  counted : l.count ≡ prefix_len is_plain (drop (8 - l.i) l.group);
  within : l.count ≤ l.i;
}
