-- What is counted of reads, one further.
use Rattle.std.proofs.Common.{ℕ, ◌+◌, ◌≤◌, arith, Option, Some, None}
use Rattle.cics_run.specs.Session.Streams.{Rises, RisesAtMost}

pub at-most-nothing : (a : Option ℕ) (most : ℕ) → RisesAtMost a a most
at-most-nothing None most = tt
at-most-nothing (Some a) most = omega arith

-- one more
pub at-most-next : (a b c : Option ℕ) (n most : ℕ) → RisesAtMost a b n → Rises b c 1 → n + 1 ≤ most → RisesAtMost a c most
at-most-next None b c n most p q fits = tt
at-most-next (Some a) None c n most p q fits = absurd p
at-most-next (Some a) (Some b) None n most p q fits = absurd q
at-most-next (Some a) (Some b) (Some c) n most p q fits = omega (arith, p, q, fits)
