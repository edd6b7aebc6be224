use Rattle.std.proofs.Common.{◌≡◌, ◌*◌, length, take, drop}
use Rattle.cics_script.specs.Tokens.{digit_pairs}
use Rattle.cics_script.proofs.Copies.{with_front, coded}
use Rattle.cics_script.proofs.literals.put_bytes.Given as goal

abbrev pub invariant-loop-i : goal.invariant-loop-i
invariant-loop-i l = record {
  size : length l.text ≡ length l.fn.text;
  so_far : with_front (take l.i l.text) (coded l.encoding (digit_pairs (drop (2 * l.i) l.digits))) ≡ coded l.encoding (digit_pairs l.digits);
}
