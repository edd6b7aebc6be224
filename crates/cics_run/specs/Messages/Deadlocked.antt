-- What a person is told of the deadlocks in which a run leaves its tasks.
use Rattle.std.specs.Prelude.{ℕ, if◌then◌else◌, Option, Some, None, List, [], ◌∷◌, ◌++◌, take, codes}
use Rattle.std.specs.List.{flat_map}
use Rattle.cics_names.specs.Keyed.{Bytes}
use Rattle.cics_names.specs.declared.commands.Command.{Command}
use Rattle.cics_names.specs.declared.commands.Verb.{Verb}
use Rattle.cics_names.specs.declared.commands.Verb.TheVariants.{Read, Write, Delete, WriteqTs, DeleteqTs, WriteqTd, ReadqTd, DeleteqTd, Enq}
use Rattle.cics_dispatch.specs.Machine.Machine.{Machine}
use Rattle.cics_dispatch.specs.Machine.Blockers.{waiting_command}
use Rattle.cics_dispatch.specs.Deadlocks.Deadlocks.{deadlocks}
use Rattle.cics_script.specs.Texts.{text_of, name_text, bare}
use Rattle.cics_run.specs.Stage.Journal.{line}

-- a record of a file, or the records whose keys have a prefix
abbrev pub keys_text : List ℕ → Bytes → Bytes → List ℕ
keys_text what key file = what ++ (text_of key ++ (codes " of " ++ bare file))

-- a queue
abbrev pub queue_text : Bytes → List ℕ
queue_text name = codes "queue " ++ name_text name

-- the value of an ENQ: the first bytes of its resource
abbrev pub value_text : Bytes → ℕ → List ℕ
value_text resource n = codes "value " ++ text_of (take n resource)

-- what a command waits for: a record, a prefix, a queue or a value
abbrev pub resource_text : Verb → List ℕ
resource_text (Read file key given n generic gteq update) = keys_text (codes "record ") key file
resource_text (Write file key given from n) = keys_text (codes "record ") key file
resource_text (Delete file (Some key) given generic) = keys_text (if generic then codes "prefix " else codes "record ") key file
resource_text (WriteqTs queue from n item) = queue_text queue
resource_text (DeleteqTs queue) = queue_text queue
resource_text (WriteqTd queue from n) = queue_text queue
resource_text (ReadqTd queue n nosuspend) = queue_text queue
resource_text (DeleteqTd queue) = queue_text queue
resource_text (Enq resource n nosuspend) = value_text resource n
resource_text _ = codes "what it uses"

-- what a task waits for, in parentheses
abbrev pub awaited_text : Option Command → List ℕ
awaited_text None = []
awaited_text (Some c) = codes " (" ++ (resource_text c.verb ++ codes ")")

-- a task, another one that blocks it, and what it waits for
abbrev pub wait_text : Machine → Bytes → Bytes → List ℕ
wait_text m label blocker = bare label ++ (codes " waits for " ++ (bare blocker ++ awaited_text (waiting_command m label)))

-- the same before further ones
abbrev pub link_text : Machine → Bytes → Bytes → List ℕ
link_text m label blocker = wait_text m label blocker ++ codes ", "

-- a task that waits for the first of others, each of these for the next, the last for a given one
abbrev pub waits_text : Machine → Bytes → List Bytes → Bytes → List ℕ
waits_text m label [] last = wait_text m label last
waits_text m label (next ∷ others) last = link_text m label next ++ waits_text m next others last

-- the line on a circle of tasks, from the first one on
abbrev pub deadlock_line : Machine → List Bytes → List ℕ
deadlock_line m [] = []
deadlock_line m (first ∷ others) = line (codes "cicsrun: deadlock: " ++ waits_text m first others first)

-- a line for each deadlock
abbrev pub deadlock_lines : Machine → List ℕ
deadlock_lines m = flat_map (deadlock_line m) (deadlocks m)
