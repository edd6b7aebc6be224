-- The table of enqueues and the open update reads say who owns what, as the history does.
use Rattle.std.specs.Prelude.{◌≡◌, ℕ, ◌==◌, ◌≤◌, Bool, true, false, not, ◌||◌, if◌then◌else◌, T, Option, Some, None, All, List, [], ◌∷◌, length, nat_le}
use Rattle.std.specs.List.{list_any}
use Rattle.cics_names.specs.Keyed.{Bytes}
use Rattle.cics_names.specs.declared.conditions.Condition.{Condition}
use Rattle.cics_history.specs.Resources.{bytes_of, is_one, is_user}
use Rattle.cics_enqueue.specs.Table.{Table, Held, is_in_order, holder_of, count_of, given_back}
use Rattle.cics_history.specs.declared.resources.Resource.{Resource}
use Rattle.cics_history.specs.declared.resources.Resource.TheVariants.{FileKey, User}
use Rattle.cics_history.specs.State.{OpeningState, file_recoverable, UnitsState, UpdateRead, EnqCount}
use Rattle.cics_history.specs.Store.{is_normal, is_recoverable}
use Rattle.cics_history.specs.Holding.{held_by}
use Rattle.cics_history.specs.Execution.{is_read_of, read_at, covers}
use Rattle.cics_history.specs.Records.{file_of}
use Rattle.cics_units.specs.Uses.{uses_if, taken_all}
use Rattle.cics_history.specs.declared.ops.Op.{Op}
use Rattle.cics_history.specs.declared.ops.Op.TheVariants.{ReadUpdate}

-- a key of a file as a resource
abbrev pub record_of : Bytes → Bytes → Resource
record_of f k = FileKey f (bytes_of k)

-- a value as a resource
abbrev pub value_of : Bytes → Resource
value_of v = User (bytes_of v)

-- a command is READ UPDATE, which acquires its record in any file; others acquire only what is
-- recoverable
abbrev pub is_read : Op → Bool
is_read (ReadUpdate f k) = true
is_read _ = false

-- ---- The table

-- a unit is the owner
abbrev pub is_holder : ℕ → Option ℕ → Bool
is_holder u None = false
is_holder u (Some v) = v == u

-- the counts with that of a resource, if it is a value
abbrev pub counted_before : Resource → Held → List EnqCount → List EnqCount
counted_before (User v) h counts = record { value = v.items; unit = h.unit; count = h.count } ∷ counts
counted_before _ h counts = counts

-- how many times each value is owned, in the order of the values
abbrev pub counts_in : Table → List EnqCount
counts_in [] = []
counts_in (e ∷ es) = counted_before e.0 e.1 (counts_in es)

-- a unit has at most one open update read of a file
abbrev pub AreOnce : List UpdateRead → Type 0
AreOnce [] = Unit {0}
AreOnce (r ∷ rs) = (list_any (is_read_of r.unit r.file) rs ≡ false) × AreOnce rs

-- the table has what the units own by the history, the open update reads and the counts, and
-- nothing else
pub record IsTableOf (s : UnitsState) (table : Table) : Type 0 where
  -- the owner of a resource in the table is the unit that owns it by the history, and the other way
  -- round
  pub holders : (r : Resource) (u : ℕ) → list_any (is_one r) (held_by s u) ≡ is_holder u (holder_of r table)
  -- only a value is owned more than once
  pub single : (r : Resource) → is_user r ≡ false → nat_le (count_of r table) 1 ≡ true
  pub in_order : T (is_in_order table)
  pub counts : s.counts ≡ counts_in table
  pub once : AreOnce s.reads
  -- a key of a file has at most 255 bytes
  pub keys : All (λ r. length r.key ≤ 255) s.reads

-- ---- What each call makes of the table

-- the key of the update read that a command covers, if there is one
abbrev pub covered_read : ℕ → Op → List UpdateRead → Option Bytes
covered_read u op reads = if list_any (covers u op) reads then read_at reads u (file_of op) else None

-- UNLOCK releases the record of an update read if the file isn't recoverable. So does a command
-- that covers the read
abbrev pub table_given_back : Bool → ℕ → Bytes → Option Bytes → Table → Table
table_given_back recoverable u f None t = t
table_given_back recoverable u f (Some k) t = if recoverable then t else given_back t (record_of f k) u

-- a command that is answered NORMAL acquires what it uses, if its file or queue is recoverable or
-- it is READ UPDATE. Otherwise it releases the record of the update read that it covers, if there
-- is one
abbrev pub table_changed : Bool → ℕ → Op → List UpdateRead → Table → Table
table_changed recoverable u op reads t =
    if recoverable || is_read op then taken_all t u (uses_if recoverable op)
    else table_given_back false u (file_of op) (covered_read u op reads) t

-- an executed command changes the table only if it is answered NORMAL
abbrev pub table_executed : OpeningState → ℕ → Op → Condition → List UpdateRead → Table → Table
table_executed o u op c reads t = if not (is_normal c) then t else table_changed (is_recoverable o op) u op reads t

-- the table after an UNLOCK, by the opening
abbrev pub table_unlocked : OpeningState → ℕ → Bytes → Option Bytes → Table → Table
table_unlocked o u f k t = table_given_back (file_recoverable o f) u f k t
