-- Recovery (chapter on recovery and restart): after any calls, the store equals a replay of the
-- surviving entries from the opening. In that replay each entry has the answer that it was given.
-- Suppose that the last entries are all of one backed-out unit. Then recoverable files and queues
-- hold what the surviving entries before them give.
use Rattle.std.specs.Prelude.{◌≡◌, ℕ, Bool, true, false, not, ◌&&◌, unwrap_or, filter, slice_get, List, [], ◌∷◌, ◌++◌, All, IsTrue}
use Rattle.cics_names.specs.Keyed.{Bytes, value_at}
use Rattle.cics_history.specs.State.{OpeningState, file_recoverable, has_prefix_in, queue_logical, Store, initial_store, UnitsValue}
use Rattle.cics_history.specs.Store.{apply, is_recoverable}
use Rattle.cics_history.specs.declared.ops.Entry.{Entry}
use Rattle.cics_history.specs.declared.ops.UnitState.{UnitState}
use Rattle.cics_history.specs.declared.ops.UnitState.TheVariants.{Open, Committed, BackedOut}

-- ---- The history, and its replay

-- how a unit ended; one that hasn't begun counts as open
abbrev pub outcome_of : List UnitState → ℕ → UnitState
outcome_of outcomes u = unwrap_or (slice_get outcomes u) Open

-- a unit that was rolled back or abended is backed out
abbrev pub is_backed_out : UnitState → Bool
is_backed_out Open = false
is_backed_out Committed = false
is_backed_out BackedOut = true

-- a unit that hasn't ended is open
abbrev pub is_open : UnitState → Bool
is_open Open = true
is_open Committed = false
is_open BackedOut = false

-- a unit that committed
abbrev pub is_committed : UnitState → Bool
is_committed Open = false
is_committed Committed = true
is_committed BackedOut = false

-- an entry survives unless it acts on a recoverable file or queue and its unit is backed out
abbrev pub is_kept : OpeningState → List UnitState → Entry → Bool
is_kept o outcomes e = not (is_recoverable o e.op && is_backed_out (outcome_of outcomes e.unit))

-- the surviving entries: the history without what backed-out units did to recoverable files and
-- queues
abbrev pub kept : OpeningState → List Entry → List UnitState → List Entry
kept o h outcomes = filter (is_kept o outcomes) h

-- the entries of committed units
abbrev pub committed_entries : List Entry → List UnitState → List Entry
committed_entries h outcomes = filter (λ e. is_committed (outcome_of outcomes e.unit)) h

-- the store after the commands of the entries, in their order
abbrev pub replay : Store → List Entry → Store
replay s [] = s
replay s (e ∷ es) = replay (apply s e.op).store es

-- each entry's answer is the one that its command has at its place in the replay
abbrev pub Agrees : Store → List Entry → Type 0
Agrees s [] = Unit {0}
Agrees s (e ∷ es) = (e.answer ≡ (apply s e.op).answer) × Agrees (apply s e.op).store es

-- ---- The headline

-- two stores hold the same in each recoverable file and queue
pub record IsSameRecoverable (o : OpeningState) (s t : Store) : Type 0 where
  pub files : (f : Bytes) → IsTrue (file_recoverable o f) → value_at f s.files ≡ value_at f t.files
  pub ts : (q : Bytes) → IsTrue (has_prefix_in o.prefixes q) → value_at q s.ts ≡ value_at q t.ts
  pub td : (q : Bytes) → IsTrue (queue_logical o q) → value_at q s.td ≡ value_at q t.td

-- a unit whose entries are the last ones left no trace: each recoverable file and queue holds what
-- the surviving entries before them give
abbrev pub LeftNoTrace : UnitsValue → ℕ → Type 0
LeftNoTrace v u =
    (before own : List Entry) → v.state.trace ≡ before ++ own → All (λ e. e.unit ≡ u) own →
    IsSameRecoverable v.state.opening v.store (replay (initial_store v.state.opening) (kept v.state.opening before v.state.outcomes))

-- the store is the replay of the surviving entries, and each of these has the answer that the
-- replay gives at its place. So if the last entries are all of a backed-out unit, it left no trace
pub record IsHeadline (v : UnitsValue) : Type 0 where
  pub store : v.store ≡ replay (initial_store v.state.opening) (kept v.state.opening v.state.trace v.state.outcomes)
  pub agrees : Agrees (initial_store v.state.opening) (kept v.state.opening v.state.trace v.state.outcomes)
  pub alone : (u : ℕ) → is_backed_out (outcome_of v.state.outcomes u) ≡ true → LeftNoTrace v u

-- each recoverable file and queue holds the replay of the committed units' entries alone
abbrev pub HoldsCommitted : UnitsValue → Type 0
HoldsCommitted v =
    IsSameRecoverable v.state.opening v.store
    (replay (initial_store v.state.opening) (committed_entries v.state.trace v.state.outcomes))

-- suppose that all entries from some point on are of a unit that a call backs out. Afterwards each
-- recoverable file and queue holds what the surviving entries before them give
abbrev pub LeavesNoTrace : UnitsValue → UnitsValue → ℕ → Type 0
LeavesNoTrace old new u =
    (before own : List Entry) → old.state.trace ≡ before ++ own → All (λ e. e.unit ≡ u) own →
    IsSameRecoverable new.state.opening new.store (replay (initial_store new.state.opening) (kept new.state.opening before new.state.outcomes))
