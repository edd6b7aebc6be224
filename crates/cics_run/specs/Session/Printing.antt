-- Text that is printed is gathered, and written when enough of it has come together.
use Rattle.std.specs.Prelude.{◌≡◌, ℕ, List, ◌++◌, Option, Result, Err}
use Rattle.std.specs.Io.KnownBytes.{Appends}
use Rattle.cics_run.specs.declared.session.writing.Stop.{Stop}
use Rattle.cics_run.specs.declared.session.writing.Stop.TheVariants as stops

-- a text begins with a first part
abbrev pub IsFront : List ℕ → List ℕ → Type 0
IsFront front text = (more : List ℕ) × (text ≡ front ++ more)

-- the sink took a first part of the text, and no more
abbrev pub AppendsFront : Option (List ℕ) → Option (List ℕ) → List ℕ → Type 0
AppendsFront old new text = (front : List ℕ) × IsFront front text × Appends old new front

-- Text was printed: what was pending and the text are what was written and what is pending now.
abbrev pub Prints : Option (List ℕ) → Option (List ℕ) → List ℕ → List ℕ → List ℕ → Type 0
Prints old new pending left text = (written : List ℕ) × (pending ++ text ≡ written ++ left) × Appends old new written

-- how many writes failed: the one that stopped the printing
abbrev pub stopped_writes : {A : Type 0} → Result A Stop → ℕ
stopped_writes (Err stops.WriteFault) = 1
stopped_writes _ = 0
