-- The listings: what stands in files and queues, and what the tasks do. A replay has no tasks.
use Rattle.std.specs.Prelude.{ℕ, Bool, if◌then◌else◌, List, [], ◌∷◌, ◌++◌, codes, length}
use Rattle.std.specs.List.{flat_map}
use Rattle.std.specs.Fmt.{decimal}
use Rattle.cics_transdata.specs.declared.queues.Recovery.{Recovery}
use Rattle.cics_transdata.specs.declared.queues.Recovery.TheVariants.{Logical, Physical, Unrecovered}
use Rattle.cics_units.specs.declared.replay.listings.Listing.{Listing}
use Rattle.cics_units.specs.declared.replay.listings.TaskState.{TaskState}
use Rattle.cics_units.specs.declared.replay.listings.TaskState.TheVariants.{Idle, HasUnit, IsWaiting}
use Rattle.cics_script.specs.Texts.{text_of, name_text, bare}

-- a line ends with LF
abbrev pub line : List ℕ → List ℕ
line text = text ++ 10 ∷ []

-- how much there is of a file or queue: the word for it, and their number
abbrev pub count_text : List ℕ → ℕ → List ℕ
count_text title count = codes " " ++ (title ++ (codes " " ++ decimal count))

-- whether changes of a file or queue are backed out
abbrev pub recoverable_title : Bool → List ℕ
recoverable_title recoverable = if recoverable then codes "RECOVERABLE" else codes "UNRECOVERABLE"

-- which changes of a transient data queue are backed out
abbrev pub recovery_title : Recovery → List ℕ
recovery_title Logical = codes "LOGICAL"
recovery_title Physical = codes "PHYSICAL"
recovery_title Unrecovered = codes "NONE"

-- the line above a file's or queue's records: what it is, its name, its recovery, how many there
-- are
abbrev pub heading : List ℕ → List ℕ → List ℕ → List ℕ → ℕ → List ℕ
heading kind name recovery counted count = line (kind ++ (codes " " ++ (name_text name ++ (codes " " ++ (recovery ++ count_text counted count)))))

-- a record stands alone on a line, behind two blanks
abbrev pub record_line : List ℕ → List ℕ
record_line bytes = line (codes "  " ++ text_of bytes)

-- a file or a temporary storage queue: its heading, and its records
abbrev pub kept_text : List ℕ → List ℕ → List ℕ × Bool × List (List ℕ) → List ℕ
kept_text kind counted (name, recoverable, records) =
    heading kind name (recoverable_title recoverable) counted (length records) ++ flat_map record_line records

-- a file, with its records in the order of their keys
abbrev pub file_text : List ℕ × Bool × List (List ℕ) → List ℕ
file_text = kept_text (codes "FILE") (codes "RECORDS")

-- a temporary storage queue, with its items, the first first
abbrev pub storage_text : List ℕ × Bool × List (List ℕ) → List ℕ
storage_text = kept_text (codes "TSQUEUE") (codes "ITEMS")

-- a transient data queue: its heading, and its records, the first first
abbrev pub transient_text : List ℕ × Recovery × List (List ℕ) → List ℕ
transient_text (name, recovery, records) =
    heading (codes "TDQUEUE") name (recovery_title recovery) (codes "RECORDS") (length records) ++ flat_map record_line records

-- what a task does: a command of it waits, or it has an open unit of work, or neither
abbrev pub state_title : TaskState → List ℕ
state_title Idle = codes "IDLE"
state_title HasUnit = codes "OPEN"
state_title IsWaiting = codes "WAITING"

-- a task that has not ended
abbrev pub task_text : List ℕ × TaskState → List ℕ
task_text (label, state) = line (codes "TASK " ++ (bare label ++ (codes " " ++ state_title state)))

-- the files, the temporary storage queues, the transient data queues and the tasks
abbrev pub parts_text : Listing → List ℕ
parts_text listing =
    flat_map file_text listing.files
    ++ (flat_map storage_text listing.ts ++ (flat_map transient_text listing.td ++ flat_map task_text listing.tasks))

-- the listing at the end of a run
abbrev pub listing_text : Listing → List ℕ
listing_text listing = line (codes "LISTING") ++ parts_text listing

-- the listing of a replay
abbrev pub replay_text : Listing → List ℕ
replay_text listing = line (codes "REPLAY") ++ parts_text listing
