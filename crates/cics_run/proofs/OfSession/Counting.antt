-- What is counted of reads and writes, one call further.
use Rattle.std.proofs.Common.{◌≡◌, ℕ, inl, inr, ◌+◌, ◌≤◌, ◌==◌, List, [], ◌∷◌, arith, Option, Some, None}
use Rattle.std.proofs.lemmas.Bool.{cases_Bool, eqb-true}
use Rattle.std.specs.Prelude.{Ok}
use Rattle.cics_run.specs.Session.Streams.{Rises, RisesAtMost, failed_writes}
use Rattle.cics_run.specs.declared.session.streams.Failed.{Failed}

pub rises-nothing : (a : Option ℕ) → Rises a a 0
rises-nothing None = tt
rises-nothing (Some a) = omega arith

pub rises-rises : (a b c : Option ℕ) (m n : ℕ) → Rises a b m → Rises b c n → Rises a c (m + n)
rises-rises None b c m n p q = tt
rises-rises (Some a) None c m n p q = absurd p
rises-rises (Some a) (Some b) None m n p q = absurd q
rises-rises (Some a) (Some b) (Some c) m n p q = omega (arith, p, q)

-- none so far
pub rises-first : (a b c : Option ℕ) (n : ℕ) → Rises a b 0 → Rises b c n → Rises a c n
rises-first None b c n p q = tt
rises-first (Some a) None c n p q = absurd p
rises-first (Some a) (Some b) None n p q = absurd q
rises-first (Some a) (Some b) (Some c) n p q = omega (arith, p, q)

-- a write that took some bytes didn't fail
pub rises-took : (a b c : Option ℕ) (n : ℕ) (bytes : List ℕ) → Rises a b 0 → (n ≡ 0 → ⊥) → Rises b c (failed_writes {E = Failed} (Ok n) bytes) → Rises a c 0
rises-took a b c n [] p some q = rises-first a b c 0 p q
rises-took a b c n (byte ∷ bytes) p some q =
    elim (cases_Bool (n == 0)) [ inl none ↦ absurd (some (eqb-true n 0 none)) | inr other ↦ rises-first a b c 0 p (rw other at q) ]

pub rises-within : (a b : Option ℕ) (n most : ℕ) → Rises a b n → n ≤ most → RisesAtMost a b most
rises-within None b n most p fits = tt
rises-within (Some a) None n most p fits = absurd p
rises-within (Some a) (Some b) n most p fits = omega (arith, p, fits)
