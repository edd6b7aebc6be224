-- Task control: the waiting commands as they are stored, each under a number.
use Rattle.std.specs.Prelude.{◌≡◌, ◌<◌, ℕ, false, if◌then◌else◌, Option, Some, None, List, [], ◌∷◌}
use Rattle.std.specs.Map.{lookup}
use Rattle.cics_names.specs.Keyed.{Bytes, is_same}
use Rattle.cics_dispatch.specs.Machine.Machine.{Suspended, is_waiting}

-- the waits under their numbers
abbrev pub Rows : Type 0
Rows = List (ℕ × Suspended)

-- the wait of a label's task
abbrev pub wait_of : List Suspended → Bytes → Option Suspended
wait_of [] label = None
wait_of (w ∷ ws) label = if is_same w.label label then Some w else wait_of ws label

-- no two waits are of one task
abbrev pub AreApart : List Suspended → Type 0
AreApart [] = Unit {0}
AreApart (w ∷ ws) = (is_waiting ws w.label ≡ false) × AreApart ws

-- the number of the wait of a label's task
abbrev pub wait_number : Rows → Bytes → Option ℕ
wait_number [] label = None
wait_number (e ∷ es) label = if is_same e.1.label label then Some e.0 else wait_number es label

-- each number is above this one
abbrev pub AreAbove : ℕ → Rows → Type 0
AreAbove n [] = Unit {0}
AreAbove n (e ∷ es) = (n < e.0) × AreAbove n es

-- each number is below this one
abbrev pub AreBelow : ℕ → Rows → Type 0
AreBelow n [] = Unit {0}
AreBelow n (e ∷ es) = (e.0 < n) × AreBelow n es

-- the numbers rise in the order of the waits
abbrev pub AreRising : Rows → Type 0
AreRising [] = Unit {0}
AreRising (e ∷ es) = AreAbove e.0 es × AreRising es

-- a task has one wait at most
abbrev pub AreOnce : Rows → Type 0
AreOnce [] = Unit {0}
AreOnce (e ∷ es) = (wait_number es e.1.label ≡ None) × AreOnce es

-- the numbers rise, a task has one wait at most, and each label leads to the number of its wait
pub record AreNumbered (rows : Rows) (numbers : List (Bytes × ℕ)) : Type 0 where
  pub rising : AreRising rows
  pub once : AreOnce rows
  pub found : (label : Bytes) → lookup (is_same label) numbers ≡ wait_number rows label
