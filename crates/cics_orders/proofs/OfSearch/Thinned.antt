-- The last state is followed of those of which only some are.
use Rattle.std.proofs.Common.{◌≡◌, ◌≤◌, ◌<◌, ℕ, ◌+◌, ◌*◌, ◌/◌, nat_eq, false, ap, sym, ◌∙◌, arith, mul_comm, add-mul, one-mul}
use Rattle.std.proofs.lemmas.Nat.{div_below, le-div}

pub last_apart : (at n m : ℕ) → at + 1 ≡ n → 1 ≤ m → nat_eq (at * m / n) ((at + 1) * m / n) ≡ false
last_apart at n m is any =
    let some : 0 < n = omega (arith, is) in
    let both : (at + 1) * m ≡ at * m + m = add-mul at 1 m ∙ ap (λ k. at * m + k) (one-mul m) in
    let all : m * n ≡ at * m + m = mul_comm m n ∙ ap (λ k. k * m) (sym is) ∙ both in
    let less : at * m / n < m = div_below (at * m) n m some (omega (arith, all, any)) in
    let more : m ≤ (at + 1) * m / n = le-div m ((at + 1) * m) n some (omega (arith, all, both)) in
    grind (arith, less, more)
