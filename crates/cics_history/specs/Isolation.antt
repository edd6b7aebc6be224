-- Recovery: the open units are isolated. Each statement is about every ending, a way in which the
-- open units may still end. After a commit or a backout fewer endings are left, so these need no
-- proof.
use Rattle.std.specs.Prelude.{◌≡◌, ℕ, ◌<◌, Bool, true, false, ◌&&◌, not, Some, None, List, [], ◌∷◌, ◌++◌, length, filter}
use Rattle.std.specs.List.{list_any}
use Rattle.std.proofs.Common.{eqb, ◌⊎◌}
use Rattle.cics_history.specs.State.{OpeningState, Store, initial_store, UnitsState}
use Rattle.cics_history.specs.Store.{apply, is_normal, is_recoverable}
use Rattle.cics_history.specs.Headline.{outcome_of, is_open, is_backed_out, replay, Agrees}
use Rattle.cics_history.specs.Holders.{IsHeldByOne, HaveBegun}
use Rattle.cics_history.specs.declared.ops.Entry.{Entry}
use Rattle.cics_history.specs.declared.ops.Op.{Op}
use Rattle.cics_history.specs.declared.ops.UnitState.{UnitState}
use Rattle.cics_history.specs.Cells.{Cell, Content, content, touches, End, Reading, Writing, uses, recovers, IsOrdered}

-- the second list begins with the first
abbrev pub IsFront : {A : Type 0} → List A → List A → Type 0
IsFront [] ys = Unit {0}
IsFront (x ∷ xs) [] = ⊥
IsFront (x ∷ xs) (y ∷ ys) = (x ≡ y) × IsFront xs ys

-- the second content begins with the first, in a cell that is defined for both or for neither
abbrev pub Begins : Content → Content → Type 0
Begins None None = Unit {0}
Begins None (Some d) = ⊥
Begins (Some c) None = ⊥
Begins (Some c) (Some d) = IsFront c d

-- the outcome of each unit, now or in an ending
abbrev pub Outcomes : Type 0
Outcomes = ℕ → UnitState

-- an entry survives these outcomes unless it acts on something recoverable and its unit is backed
-- out
abbrev pub stays : OpeningState → Outcomes → Entry → Bool
stays o out e = not (is_recoverable o e.op && is_backed_out (out e.unit))

-- the entries that survive these outcomes
abbrev pub left_by : OpeningState → Outcomes → List Entry → List Entry
left_by o out es = filter (stays o out) es

-- the store that replaying them gives
abbrev pub store_by : OpeningState → Outcomes → List Entry → Store
store_by o out es = replay (initial_store o) (left_by o out es)

-- the entry of a command that a unit executes now
abbrev pub entry_now : OpeningState → Outcomes → List Entry → ℕ → Op → Entry
entry_now o out es unit op = record { unit = unit; op = op; answer = (apply (store_by o out es) op).answer }

-- the history with this entry
abbrev pub with_entry : OpeningState → Outcomes → List Entry → ℕ → Op → List Entry
with_entry o out es unit op = es ++ entry_now o out es unit op ∷ []

-- each entry has a property
abbrev pub Each : (Entry → Type 0) → List Entry → Type 0
Each P [] = Unit {0}
Each P (e ∷ es) = P e × Each P es

-- the entry makes its unit own this end of the cell, while the unit is open
abbrev pub claims : Cell → End → Entry → Bool
claims x end e = touches e.op x && (is_normal e.answer.condition && uses e.op end)

-- the unit did something that makes it own this end of the cell, until it ends
abbrev pub used : List Entry → ℕ → Cell → End → Bool
used es unit x end = list_any (λ e. claims x end e && eqb e.unit unit) es

-- an ending of the open units: a unit that has ended keeps its outcome
abbrev pub Extends : Outcomes → Outcomes → Type 0
Extends out fin = (u : ℕ) → is_open (out u) ≡ false → fin u ≡ out u

-- the units that used this end of the cell are backed out in both endings, or in neither
abbrev pub Alike : List Entry → Cell → End → Outcomes → Outcomes → Type 0
Alike es x end fin more = (u : ℕ) → used es u x end ≡ true → is_backed_out (fin u) ≡ is_backed_out (more u)

-- each unit that used this end of the cell and is backed out in the second ending is so in the
-- first
abbrev pub AtMost : List Entry → Cell → End → Outcomes → Outcomes → Type 0
AtMost es x end fin more = (u : ℕ) → used es u x end ≡ true → is_backed_out (more u) ≡ true →
    is_backed_out (fin u) ≡ true

-- take two endings that back out the same readers of a recoverable cell. If the second backs out no
-- writer that the first doesn't, its content begins with that of the first
abbrev pub FrontsAt : OpeningState → List Entry → Outcomes → Cell → Type 0
FrontsAt o es out x =
    recovers o x ≡ true → (fin more : Outcomes) → Extends out fin → Extends out more →
    Alike es x Reading fin more → AtMost es x Writing fin more →
    Begins (content (store_by o fin es) x) (content (store_by o more es) x)

-- the open units are isolated
pub record IsIsolated (o : OpeningState) (es : List Entry) (out : Outcomes) : Type 0 where
  -- the keys of each file rise when it is opened
  pub ordered : IsOrdered (initial_store o)
  -- however the open units end, the surviving entries have the right answers
  pub answers : (fin : Outcomes) → Extends out fin → Agrees (initial_store o) (left_by o fin es)
  -- and what an open unit sees of a recoverable cell doesn't depend on how the others end
  pub fronts : (x : Cell) → FrontsAt o es out x

-- at most one open unit owns an end of a recoverable cell
abbrev pub IsOneAtEachEnd : OpeningState → List Entry → Outcomes → Type 0
IsOneAtEachEnd o es out =
    (x : Cell) → recovers o x ≡ true → (end : End) (u n : ℕ) → is_open (out u) ≡ true → is_open (out n) ≡ true →
    used es u x end ≡ true → used es n x end ≡ true → u ≡ n

-- no other open unit owns the end: those that used it are this unit and units that ended
abbrev pub IsFree : List Entry → Outcomes → ℕ → Cell → End → Type 0
IsFree es out v x end = (u : ℕ) → used es u x end ≡ true → (u ≡ v) ⊎ (is_open (out u) ≡ false)

-- the units of the history have begun
abbrev pub AreKnown : UnitsState → Type 0
AreKnown s = Each (λ e. e.unit < length s.outcomes) s.trace

-- the invariant of every call: open units are isolated, units that the state names have begun, and
-- a resource has at most one owner
pub record IsSound (s : UnitsState) : Type 0 where
  pub isolated : IsIsolated s.opening s.trace (outcome_of s.outcomes)
  pub known : AreKnown s
  pub begun : HaveBegun s
  pub one : IsHeldByOne s
