-- Which unit blocks a command, read off the table of enqueues and the queues in place.
use Rattle.std.specs.Prelude.{◌≡◌, ℕ, Bool, false, ◌&&◌, if◌then◌else◌, Option, Some, None, is_none}
use Rattle.cics_names.specs.Keyed.{Bytes, Map, value_at}
use Rattle.cics_enqueue.specs.Table.{Table, holder_of, holder_over}
use Rattle.cics_history.specs.declared.resources.Resource.TheVariants.{TdWrite as WritingEnd}
use Rattle.cics_transdata.specs.Trans.{TransState, is_logical, first_of}
use Rattle.cics_history.specs.Holding.{first_some}
use Rattle.cics_history.specs.declared.ops.Op.{Op}
use Rattle.cics_history.specs.declared.ops.Op.TheVariants.{TdRead}
use Rattle.cics_units.specs.Uses.{uses_if, holder_over_all}
use Rattle.cics_units.specs.TableInPlace.{is_holder}

-- a unit owns the writing end of a queue, and so may read what it wrote itself
abbrev pub is_writer : Table → ℕ → Bytes → Bool
is_writer t u q = is_holder u (holder_of (WritingEnd q) t)

-- for READQ TD `own` equals `writer`, whether the unit owns the writing end. Other commands may
-- have either
abbrev pub IsOwn : Op → Bool → Bool → Type 0
IsOwn (TdRead q) writer own = own ≡ writer
IsOwn _ writer own = Unit {0}

-- a queue in place is there and LOGICAL
abbrev pub is_logical_in : Option TransState → Bool
is_logical_in None = false
is_logical_in (Some t) = is_logical t.kind

-- a queue is LOGICAL, and a reader finds no record in it that it may read
abbrev pub has_none_for : Bool → Option TransState → Bool
has_none_for past_fresh None = false
has_none_for past_fresh (Some t) = is_logical t.kind && is_none (first_of t past_fresh)

-- the owner, other than asking, of the writing end of a LOGICAL queue, if a reader finds no record
-- there that it may read
abbrev pub writer_of : Table → Option TransState → Bytes → Option ℕ → ℕ → Option ℕ
writer_of t queue q asking acting = if has_none_for (is_writer t acting q) queue then holder_over (WritingEnd q) asking t else None

-- the writer for which READQ TD waits, as it finds no record that it may read
abbrev pub writer_over : Table → Map TransState → Option ℕ → ℕ → Op → Option ℕ
writer_over t queues asking acting (TdRead q) = writer_of t (value_at q queues) q asking acting
writer_over t queues asking acting _ = None

-- the blocker of a command: another unit that owns what conflicts with what it uses, else the
-- writer of what it would read
abbrev pub blocking_unit : Table → Map TransState → Bool → Option ℕ → ℕ → Op → Option ℕ
blocking_unit t queues recoverable asking acting op =
    first_some (holder_over_all (uses_if recoverable op) asking t) (writer_over t queues asking acting op)
