use Rattle.std.proofs.Common.{◌≡◌, ℕ, ◌<◌, length, take, drop}
use Rattle.cics_history.proofs.packing.place_in.Given as goal

-- the key begins at none of the places so far
abbrev pub invariant-loop-at : goal.invariant-loop-at
invariant-loop-at l = (k : ℕ) → k < l.at → take (length l.fn.key) (drop k l.fn.text) ≡ l.fn.key → ⊥
