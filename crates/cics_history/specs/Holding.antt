-- Recovery and task control (chapters on recovery and on task control): which unit owns what, what
-- conflicts, and which unit blocks a command. All is read off the history; there is no table of it.
-- Until it ends, a unit owns what its commands answered NORMAL used of recoverable files and
-- queues. It owns the value of an ENQ until its DEQ, and a record of an unrecoverable file while
-- its update read is open.
use Rattle.std.specs.Prelude.{ℕ, ◌+◌, ◌==◌, Bool, true, false, not, ◌&&◌, ◌||◌, if◌then◌else◌, Option, Some, None, unwrap_or, option_map, filter, map, flat_map, List, [], ◌∷◌, ◌++◌}
use Rattle.cics_names.specs.Keyed.{Bytes, value_at, is_same, is_below}
use Rattle.cics_ksds.specs.Prefixes.{has_prefix}
use Rattle.cics_history.specs.Resources.{bytes_of}
use Rattle.cics_history.specs.declared.resources.Resource.{Resource}
use Rattle.cics_history.specs.declared.resources.Resource.TheVariants.{FileKey, TsQueue, TdRead as ReadingEnd, TdWrite as WritingEnd, User, FilePrefix}
use Rattle.cics_history.specs.State.{OpeningState, file_recoverable, queue_logical, has_prefix_in, Store, initial_store, UpdateRead, EnqCount, UnitsState}
use Rattle.cics_history.specs.Store.{is_recoverable, is_normal}
use Rattle.cics_history.specs.Headline.{outcome_of, is_open, kept, replay}
use Rattle.cics_history.specs.declared.ops.Op.{Op}
use Rattle.cics_history.specs.declared.ops.Op.TheVariants.{Write, Rewrite, Delete, DeleteGeneric, ReadUpdate, TsWrite, TsRewrite, TsDelete, TdWrite, TdRead, TdDelete}
use Rattle.cics_history.specs.declared.ops.Entry.{Entry}
use Rattle.cics_history.specs.declared.ops.UnitState.{UnitState}

-- the store is the replay of the surviving entries, from the opening
abbrev pub store_of : UnitsState → Store
store_of s = replay (initial_store s.opening) (kept s.opening s.trace s.outcomes)

-- ---- Resources: what a unit can own, of six kinds

-- the record of a file under a key, whether it is there or not
abbrev pub record_at : Bytes → Bytes → Resource
record_at f k = FileKey f (bytes_of k)

-- the records of a file under every key that begins with a prefix
abbrev pub records_under : Bytes → Bytes → Resource
records_under f p = FilePrefix f (bytes_of p)

-- the name of a temporary storage queue
abbrev pub queue_named : Bytes → Resource
queue_named q = TsQueue q

-- the end of a transient data queue at which records are read
abbrev pub end_read_of : Bytes → Resource
end_read_of q = ReadingEnd q

-- the end of a transient data queue at which records are written
abbrev pub end_written_of : Bytes → Resource
end_written_of q = WritingEnd q

-- a value of a program
abbrev pub own_value : Bytes → Resource
own_value v = User (bytes_of v)

-- the resource if it is recoverable, else none
abbrev pub named_if : Bool → Resource → List Resource
named_if b r = if b then r ∷ [] else []

-- what a command uses: its record, there or not, or all under its prefix; the name of a recoverable
-- temporary storage queue. Of a LOGICAL queue a read uses the reading end, a write the writing end,
-- a delete both
abbrev pub uses_of : OpeningState → Op → List Resource
uses_of o (Write f k r) = record_at f k ∷ []
uses_of o (Rewrite f k r) = record_at f k ∷ []
uses_of o (Delete f k) = record_at f k ∷ []
uses_of o (DeleteGeneric f p) = records_under f p ∷ []
uses_of o (ReadUpdate f k) = record_at f k ∷ []
uses_of o (TsWrite q d) = named_if (has_prefix_in o.prefixes q) (queue_named q)
uses_of o (TsRewrite q n d) = named_if (has_prefix_in o.prefixes q) (queue_named q)
uses_of o (TsDelete q) = named_if (has_prefix_in o.prefixes q) (queue_named q)
uses_of o (TdWrite q d) = named_if (queue_logical o q) (end_written_of q)
uses_of o (TdRead q) = named_if (queue_logical o q) (end_read_of q)
uses_of o (TdDelete q) = named_if (queue_logical o q) (end_read_of q) ++ named_if (queue_logical o q) (end_written_of q)

-- a command answered NORMAL makes its unit own what it used of a recoverable file or queue
abbrev pub held_by_entry : OpeningState → ℕ → Entry → List Resource
held_by_entry o u e = if (e.unit == u) && (is_normal e.answer.condition && is_recoverable o e.op) then uses_of o e.op else []

-- in an unrecoverable file the unit owns the record of its update read while the read is open
abbrev pub held_by_read : OpeningState → ℕ → UpdateRead → List Resource
held_by_read o u r = if (r.unit == u) && not (file_recoverable o r.file) then record_at r.file r.key ∷ [] else []

-- a unit owns each value that it has a count of: no count is 0
abbrev pub held_by_count : ℕ → EnqCount → List Resource
held_by_count u c = if c.unit == u then own_value c.value ∷ [] else []

-- all that a unit owns, while it is open
abbrev pub held_by : UnitsState → ℕ → List Resource
held_by s u =
    if is_open (outcome_of s.outcomes u)
    then flat_map (held_by_entry s.opening u) s.trace ++ flat_map (held_by_read s.opening u) s.reads ++ flat_map (held_by_count u) s.counts
    else []

-- the numbers of the units, beginning with this one
abbrev pub units_from : ℕ → List UnitState → List ℕ
units_from n [] = []
units_from n (x ∷ xs) = n ∷ units_from (n + 1) xs

-- ---- Conflicts

-- two resources conflict if they are the same. A prefix of keys also conflicts with the keys of its
-- file that begin with it. Two prefixes of a file conflict if one begins with the other
abbrev pub conflicts : Resource → Resource → Bool
conflicts (FileKey f k) (FileKey g l) = is_same f g && is_same k.items l.items
conflicts (FileKey f k) (FilePrefix g p) = is_same f g && has_prefix p.items k.items
conflicts (FilePrefix f p) (FileKey g k) = is_same f g && has_prefix p.items k.items
conflicts (FilePrefix f p) (FilePrefix g q) = is_same f g && (has_prefix p.items q.items || has_prefix q.items p.items)
conflicts (TsQueue q) (TsQueue r) = is_same q r
conflicts (ReadingEnd q) (ReadingEnd r) = is_same q r
conflicts (WritingEnd q) (WritingEnd r) = is_same q r
conflicts (User v) (User w) = is_same v.items w.items
conflicts _ _ = false

-- the bytes by which conflicting resources are ordered: the key, the prefix, the name, the value
abbrev pub bytes_in : Resource → Bytes
bytes_in (FileKey f k) = k.items
bytes_in (FilePrefix f p) = p.items
bytes_in (TsQueue q) = q
bytes_in (ReadingEnd q) = q
bytes_in (WritingEnd q) = q
bytes_in (User v) = v.items

-- ---- Owners and blockers

-- resources, each with its owner
abbrev pub Owned : Type 0
Owned = List (Resource × ℕ)

-- which unit owns what
abbrev pub owned : UnitsState → Owned
owned s = flat_map (λ u. map (λ r. (r, u)) (held_by s u)) (units_from 0 s.outcomes)

-- a unit isn't the one that asks, which may not have begun yet
abbrev pub is_other : Option ℕ → ℕ → Bool
is_other None v = true
is_other (Some u) v = not (v == u)

-- the smaller of two in byte order, or the first if their bytes are the same
abbrev pub smaller : Option (Resource × ℕ) → Option (Resource × ℕ) → Option (Resource × ℕ)
smaller None y = y
smaller (Some x) None = Some x
smaller (Some x) (Some y) = if is_below (bytes_in y.0) (bytes_in x.0) then Some y else Some x

-- the smallest, in byte order, of the resources that conflict with this one and have another owner
-- than the unit that asks
abbrev pub smallest_conflict : Owned → Option ℕ → Resource → Option (Resource × ℕ)
smallest_conflict [] u r = None
smallest_conflict (e ∷ es) u r =
    if conflicts r e.0 && is_other u e.1 then smaller (Some e) (smallest_conflict es u r) else smallest_conflict es u r

-- the blocker at a resource: the other owner of the smallest conflicting resource
abbrev pub blocker_at : Owned → Option ℕ → Resource → Option ℕ
blocker_at t u r = option_map (λ e. e.1) (smallest_conflict t u r)

-- the first of two that is there
abbrev pub first_some : {X : Type 0} → Option X → Option X → Option X
first_some None y = y
first_some (Some x) y = Some x

-- the blocker at the first resource that has one
abbrev pub blocker_among : Owned → Option ℕ → List Resource → Option ℕ
blocker_among t u [] = None
blocker_among t u (r ∷ rs) = first_some (blocker_at t u r) (blocker_among t u rs)

-- a unit is the one that asks
abbrev pub is_own : Option ℕ → ℕ → Bool
is_own u v = not (is_other u v)

-- the records of a queue that a unit may read: those that ended units and itself have left, without
-- what other open units did
abbrev pub committed_for : UnitsState → Option ℕ → Bytes → List Bytes
committed_for s u q =
    let seen = filter (λ e. is_own u e.unit || not (is_open (outcome_of s.outcomes e.unit))) (kept s.opening s.trace s.outcomes) in
    unwrap_or (value_at q (replay (initial_store s.opening) seen).td) []

-- a queue without a record
abbrev pub is_nothing : List Bytes → Bool
is_nothing [] = true
is_nothing (x ∷ xs) = false

-- READQ TD of a LOGICAL queue that finds no record which it may read waits for another unit at the
-- writing end
abbrev pub writer_awaited : UnitsState → Option ℕ → Op → Option ℕ
writer_awaited s u (TdRead q) = if queue_logical s.opening q && is_nothing (committed_for s u q) then blocker_at (owned s) u (WritingEnd q) else None
writer_awaited s u (TdWrite q d) = None
writer_awaited s u (TdDelete q) = None
writer_awaited s u (Write f k r) = None
writer_awaited s u (Rewrite f k r) = None
writer_awaited s u (Delete f k) = None
writer_awaited s u (DeleteGeneric f p) = None
writer_awaited s u (ReadUpdate f k) = None
writer_awaited s u (TsWrite q d) = None
writer_awaited s u (TsRewrite q n d) = None
writer_awaited s u (TsDelete q) = None

-- the blocker of a command, if it must wait: the blocker at what it uses, else the writer of what
-- it would read
abbrev pub awaited : UnitsState → Option ℕ → Op → Option ℕ
awaited s u op = first_some (blocker_among (owned s) u (uses_of s.opening op)) (writer_awaited s u op)

-- the blocker of an ENQ: the other owner of the value
abbrev pub value_holder : UnitsState → Option ℕ → Bytes → Option ℕ
value_holder s u v = blocker_at (owned s) u (own_value v)
