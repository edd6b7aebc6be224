use Rattle.std.proofs.Common.{◌≡◌, ◌≤◌, false, length, take, drop}
use Rattle.cics_script.specs.Tokens.{characters_from}
use Rattle.cics_script.proofs.Copies.{with_front, coded}
use Rattle.cics_script.proofs.literals.put_characters.Given as goal

abbrev pub invariant-loop-i : goal.invariant-loop-i
invariant-loop-i l = record {
  size : length l.text ≡ length l.fn.text;
  within : l.count ≤ l.i;
  so_far : with_front (take l.count l.text) (coded l.encoding (characters_from l.is_first (drop l.i l.bytes))) ≡ coded l.encoding (characters_from false l.bytes);
}
