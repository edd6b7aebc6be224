-- What a source and a sink tell of their calls.
use Rattle.std.specs.Prelude.{◌≡◌, ℕ, ◌+◌, ◌≤◌, ◌==◌, if◌then◌else◌, List, [], ◌∷◌, take, Option, Some, None, Result, Ok, Err, ⊤}

-- a known count rises by so many
abbrev pub Rises : Option ℕ → Option ℕ → ℕ → Type 0
Rises None new by = ⊤
Rises (Some old) None by = ⊥
Rises (Some old) (Some new) by = new ≡ old + by

-- a known count rises by so many at most
abbrev pub RisesAtMost : Option ℕ → Option ℕ → ℕ → Type 0
RisesAtMost None new most = ⊤
RisesAtMost (Some old) None most = ⊥
RisesAtMost (Some old) (Some new) most = new ≤ old + most

-- what is told is these bytes
abbrev pub Tells : Option (List ℕ) → List ℕ → Type 0
Tells None bytes = ⊤
Tells (Some told) bytes = told ≡ bytes

-- what a read gave: nothing if it failed
abbrev pub given : {E : Type 0} → Result ℕ E → List ℕ → List ℕ
given (Ok n) buffer = take n buffer
given (Err e) buffer = []

-- how many reads failed, of one
abbrev pub failed_reads : {E : Type 0} → Result ℕ E → ℕ
failed_reads (Ok n) = 0
failed_reads (Err e) = 1

-- how many writes failed, of one: it also fails if it takes none of some bytes
abbrev pub failed_writes : {E : Type 0} → Result ℕ E → List ℕ → ℕ
failed_writes (Ok n) [] = 0
failed_writes (Ok n) (c ∷ bytes) = if n == 0 then 1 else 0
failed_writes (Err e) bytes = 1

-- none failed, unless this is why a call stopped
abbrev pub failures : {A F : Type 0} → (F → ℕ) → Result A F → ℕ
failures count (Ok _) = 0
failures count (Err fault) = count fault
