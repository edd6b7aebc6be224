-- The state of the units of a region, and the store of files and queues that they change. Also
-- which of these are recoverable. Of a file's definition only `recoverable` is read, which is what
-- DEFINE FILE asked for.
use Rattle.std.specs.Prelude.{ℕ, ◌==◌, Bool, true, false, ◌||◌, if◌then◌else◌, Option, Some, None, nat_eq, List, [], ◌∷◌, map}
use Rattle.std.specs.List.{starts_with}
use Rattle.cics_names.specs.Keyed.{Bytes, Map, value_at}
use Rattle.cics_ksds.specs.declared.definition.FileDef.{FileDef}
use Rattle.cics_transdata.specs.declared.queues.Recovery.{Recovery}
use Rattle.cics_transdata.specs.declared.queues.Recovery.TheVariants.{Logical, Physical, Unrecovered}
use Rattle.cics_history.specs.declared.ops.Answer.{Answer}
use Rattle.cics_history.specs.declared.ops.Op.{Op}
use Rattle.cics_history.specs.declared.ops.UnitState.{UnitState}

-- ---- What a region opens with

-- a file that is defined: its definition, and the records that were loaded, by key
pub record FileOpening : Type 0 where
  pub definition : FileDef
  pub records : Map Bytes

-- a transient data queue that is defined: its recovery, and its loaded records, first to last
pub record QueueOpening : Type 0 where
  pub recovery : Recovery
  pub records : List Bytes

-- all that is defined: files and transient data queues by name, prefixes in the order of their
-- definitions
pub record OpeningState : Type 0 where
  pub files : Map FileOpening
  pub prefixes : List Bytes
  pub queues : Map QueueOpening

-- a name without the blanks that fill it up, X'40'
abbrev pub unpadded : Bytes → Bytes
unpadded [] = []
unpadded (b ∷ bs) = without_blank b (unpadded bs) where
  without_blank : ℕ → Bytes → Bytes
  without_blank b [] = if b == 0x40 then [] else b ∷ []
  without_blank b (c ∷ cs) = b ∷ c ∷ cs

-- a temporary storage queue is recoverable if one of the defined prefixes begins its name
abbrev pub has_prefix_in : List Bytes → Bytes → Bool
has_prefix_in [] q = false
has_prefix_in (p ∷ ps) q = starts_with nat_eq q (unpadded p) || has_prefix_in ps q

-- a file is recoverable if its definition says so
abbrev pub file_recoverable : OpeningState → Bytes → Bool
file_recoverable o f = is_yes (value_at f o.files) where
  is_yes : Option FileOpening → Bool
  is_yes None = false
  is_yes (Some file) = file.definition.recoverable

-- backout undoes the changes of LOGICAL queues alone
abbrev pub is_logical : Recovery → Bool
is_logical Logical = true
is_logical Physical = false
is_logical Unrecovered = false

-- a transient data queue is recoverable if it is LOGICAL
abbrev pub queue_logical : OpeningState → Bytes → Bool
queue_logical o q = is_yes (value_at q o.queues) where
  is_yes : Option QueueOpening → Bool
  is_yes None = false
  is_yes (Some queue) = is_logical queue.recovery

-- ---- Files and queues

-- the records of each defined file by key, the items of each temporary storage queue, and the
-- records of each defined transient data queue
pub record Store : Type 0 where
  pub files : Map (Map Bytes)
  pub ts : Map (List Bytes)
  pub td : Map (List Bytes)

-- the store of an opening is what was loaded, and no temporary storage queue
abbrev pub initial_store : OpeningState → Store
initial_store o = record { files = map (λ e. (e.0, e.1.records)) o.files; ts = []; td = map (λ e. (e.0, e.1.records)) o.queues }

-- ---- The units

-- an executed command: its unit, what it asked for, and what it was answered. Other files call it
-- `Entry`, by the type that packs it
pub record EntryValue : Type 0 where
  pub unit : ℕ
  pub op : Op
  pub answer : Answer

-- a record that a unit has read for update
pub record UpdateRead : Type 0 where
  pub unit : ℕ
  pub file : Bytes
  pub key : Bytes

-- how many times a unit has enqueued on a value
pub record EnqCount : Type 0 where
  pub value : Bytes
  pub unit : ℕ
  pub count : ℕ

-- the units of a region:
-- - what it opened with
-- - the executed commands, in order of execution
-- - the outcome of each unit that began
-- - the units that committed, in commit order
-- - the open update reads by unit and file
-- - the counts of ENQ by value
-- - the NEXT cursors that aren't 0, by queue
pub record UnitsState : Type 0 where
  pub opening : OpeningState
  pub trace : List EntryValue
  pub outcomes : List UnitState
  pub commits : List ℕ
  pub reads : List UpdateRead
  pub counts : List EnqCount
  pub next : Map ℕ

-- the state of the units, and the store that the files and queues themselves hold
pub record UnitsValue : Type 0 where
  pub state : UnitsState
  pub store : Store

-- the initial state: no command executed, no unit, and nothing owned
abbrev pub initial_units : OpeningState → UnitsState
initial_units o = record { opening = o; trace = []; outcomes = []; commits = []; reads = []; counts = []; next = [] }
