-- Recovery: committed units are serializable in commit order. Run one after the other, they would
-- do to recoverable files and queues what they did interleaved.
use Rattle.std.specs.Prelude.{◌≡◌, ℕ, ◌==◌, Bool, true, false, not, ◌&&◌, if◌then◌else◌, filter, flat_map, List, [], ◌∷◌, ◌++◌, IsPermutation}
use Rattle.std.specs.List.{list_any}
use Rattle.cics_history.specs.State.{OpeningState, Store, initial_store, UnitsState, UnitsValue}
use Rattle.cics_history.specs.Store.{is_normal, is_recoverable}
use Rattle.cics_history.specs.Headline.{outcome_of, is_open, is_backed_out, is_committed, replay, Agrees, IsSameRecoverable, HoldsCommitted}
use Rattle.cics_history.specs.Events.{Event, Commit, is_live, happens}
use Rattle.cics_history.specs.Isolation.{Outcomes, Extends, store_by}
use Rattle.cics_history.specs.Cells.{Cell, content, recovers, IsOrdered}
use Rattle.cics_history.specs.declared.ops.Entry.{Entry}
use Rattle.cics_history.specs.declared.ops.UnitState.TheVariants.{BackedOut}

-- ---- Commit order

-- a unit is among these
abbrev pub among : ℕ → List ℕ → Bool
among u units = list_any (λ n. n == u) units

-- the unit that an event commits, if there is one
abbrev pub committed_by : UnitsState → Event → List ℕ
committed_by s (Commit u) = if is_live s u then u ∷ [] else []
committed_by s _ = []

-- the units that commit in these events, in the order in which they commit
abbrev pub commit_order : UnitsState → List Event → List ℕ
commit_order s [] = []
commit_order s (e ∷ events) = committed_by s e ++ commit_order (happens s e) events

-- no unit is there twice
abbrev pub are_distinct : List ℕ → Bool
are_distinct [] = true
are_distinct (u ∷ units) = not (among u units) && are_distinct units

-- the list of commits has each committed unit once, and no other
pub record IsCommitOrder (s : UnitsState) : Type 0 where
  pub committed : (unit : ℕ) → among unit s.commits ≡ is_committed (outcome_of s.outcomes unit)
  pub once : are_distinct s.commits ≡ true

-- ---- One unit after the other

-- an entry is of this unit, was answered NORMAL, and acts on something recoverable
abbrev pub is_done_by : OpeningState → ℕ → Entry → Bool
is_done_by o u e = (e.unit == u) && (is_normal e.answer.condition && is_recoverable o e.op)

-- what a unit did, in order of execution
abbrev pub done_by : OpeningState → List Entry → ℕ → List Entry
done_by o es u = filter (is_done_by o u) es

-- what these units did, in order of execution
abbrev pub done_by_any : OpeningState → List Entry → List ℕ → List Entry
done_by_any o es units = filter (λ e. among e.unit units && (is_normal e.answer.condition && is_recoverable o e.op)) es

-- what these units did, one unit after the other
abbrev pub one_by_one : OpeningState → List Entry → List ℕ → List Entry
one_by_one o es units = flat_map (done_by o es) units

-- ---- The open units

-- these units are open, none of them twice
pub record AreOpen (s : UnitsState) (units : List ℕ) : Type 0 where
  pub live : (unit : ℕ) → among unit units ≡ true → is_live s unit ≡ true
  pub once : are_distinct units ≡ true

-- the outcomes if each open unit but these is backed out
abbrev pub are_backed_out_but : List ℕ → Outcomes → Outcomes
are_backed_out_but units out = λ u. if is_open (out u) && not (among u units) then BackedOut else out u

-- the store if each open unit but these is backed out
abbrev pub store_without_others : UnitsState → List ℕ → Store
store_without_others s units = store_by s.opening (are_backed_out_but units (outcome_of s.outcomes)) s.trace

-- each open unit is among these
abbrev pub AreAllOpen : UnitsState → List ℕ → Type 0
AreAllOpen s units = (unit : ℕ) → is_live s unit ≡ true → among unit units ≡ true

-- no unit is open
abbrev pub NoneIsOpen : UnitsState → Type 0
NoneIsOpen s = (unit : ℕ) → is_live s unit ≡ false

-- the store that these units give, run one after the other from the opening
abbrev pub serial_store : UnitsState → List ℕ → Store
serial_store s units = replay (initial_store s.opening) (one_by_one s.opening s.trace units)

-- ---- What holds after every call

-- committed units are serializable in commit order, with open ones behind them in any order
pub record IsSerializable (v : UnitsValue) : Type 0 where
  -- each unit that committed is there once
  pub order : IsCommitOrder v.state
  -- no command is lost and none comes twice
  pub commands : (later : List ℕ) → AreOpen v.state later →
      IsPermutation (done_by_any v.state.opening v.state.trace (v.state.commits ++ later))
      (one_by_one v.state.opening v.state.trace (v.state.commits ++ later))
  -- each command has the answer that its task was given
  pub answers : (later : List ℕ) → AreOpen v.state later →
      Agrees (initial_store v.state.opening) (one_by_one v.state.opening v.state.trace (v.state.commits ++ later))
  -- run one after the other they give what stands once every other open unit is backed out
  pub stores : (later : List ℕ) → AreOpen v.state later →
      IsSameRecoverable v.state.opening (store_without_others v.state later) (serial_store v.state (v.state.commits ++ later))
  -- with all open units behind the others, they give what the files and queues hold
  pub whole : (later : List ℕ) → AreOpen v.state later → AreAllOpen v.state later →
      IsSameRecoverable v.state.opening v.store (serial_store v.state (v.state.commits ++ later))
  -- if no unit is open, those that committed do
  pub closed : NoneIsOpen v.state → IsSameRecoverable v.state.opening v.store (serial_store v.state v.state.commits)
  -- and so do their entries alone, in the order in which they were executed
  pub committed : NoneIsOpen v.state → HoldsCommitted v

-- ---- The invariant of every step

-- run one after the other, these units give each recoverable cell what it holds after these
-- outcomes. Each command has the answer that its task was given
pub record IsSerial (o : OpeningState) (es : List Entry) (fin : Outcomes) (units : List ℕ) : Type 0 where
  pub answers : Agrees (initial_store o) (one_by_one o es units)
  pub cells : (x : Cell) → recovers o x ≡ true →
      content (replay (initial_store o) (one_by_one o es units)) x ≡ content (store_by o fin es) x

-- what a unit did can be done last: the first ending backs it out, the second doesn't
pub record IsLast (o : OpeningState) (es : List Entry) (u : ℕ) (fin more : Outcomes) : Type 0 where
  pub answers : Agrees (store_by o fin es) (done_by o es u)
  pub cells : (x : Cell) → recovers o x ≡ true →
      content (replay (store_by o fin es) (done_by o es u)) x ≡ content (store_by o more es) x

-- two endings differ in this unit alone: the first backs it out, the second doesn't
pub record IsWithout (u : ℕ) (fin more : Outcomes) : Type 0 where
  pub gone : is_backed_out (fin u) ≡ true
  pub there : is_backed_out (more u) ≡ false
  pub others : (n : ℕ) → n == u ≡ false → is_backed_out (fin n) ≡ is_backed_out (more n)

-- whichever of the other open units are backed out, what an open unit did can be done last
abbrev pub EachCanBeLast : OpeningState → List Entry → Outcomes → Type 0
EachCanBeLast o es out =
    (u : ℕ) → is_open (out u) ≡ true → (fin more : Outcomes) → Extends out fin → Extends out more → IsWithout u fin more →
    IsLast o es u fin more

-- if all open units are backed out, the units in this order give what stands
abbrev pub OrderIsSerial : OpeningState → List Entry → Outcomes → List ℕ → Type 0
OrderIsSerial o es out order =
    (fin : Outcomes) → Extends out fin → ((u : ℕ) → is_open (out u) ≡ true → is_backed_out (fin u) ≡ true) →
    IsSerial o es fin order

-- the invariant of every call: the keys of each file rise when it is opened, and committed units
-- are serializable in their order
pub record IsInOrder (s : UnitsState) : Type 0 where
  pub ordered : IsOrdered (initial_store s.opening)
  pub commits : IsCommitOrder s
  pub serial : OrderIsSerial s.opening s.trace (outcome_of s.outcomes) s.commits
  pub last : EachCanBeLast s.opening s.trace (outcome_of s.outcomes)
