-- The notes of a page.
use Rattle.std.specs.Prelude.{ℕ, Bool, true, false, ◌==◌, if◌then◌else◌, List, [], ◌∷◌, ◌++◌}
use Rattle.std.specs.List.{flat_map}
use Rattle.std.specs.Fmt.{decimal}
use Rattle.cics_names.specs.Keyed.{Bytes}
use Rattle.cics_script.specs.Texts as texts
use Rattle.cics_run.specs.Listing.Listings.{recoverable_title, recovery_title}
use Rattle.cics_history.specs.Headline.{outcome_of}
use Rattle.cics_history.specs.declared.ops.UnitState.{UnitState}
use Rattle.cics_history.specs.declared.ops.UnitState.TheVariants as ends
use Rattle.cics_picture.specs.declared.xml.names.Tag.{Tag}
use Rattle.cics_picture.specs.declared.xml.names.Tag.TheVariants as tag
use Rattle.cics_picture.specs.declared.page.notes.Cell.{Cell}
use Rattle.cics_picture.specs.declared.page.notes.Cell.TheVariants as cell
use Rattle.cics_picture.specs.declared.page.notes.Change.{Change}
use Rattle.cics_picture.specs.declared.page.notes.Change.TheVariants.{Added, Removed, Becomes}
use Rattle.cics_picture.specs.declared.page.notes.Held.{Held}
use Rattle.cics_picture.specs.declared.page.notes.Held.TheVariants as held
use Rattle.cics_picture.specs.declared.page.notes.Wanted.{Wanted}
use Rattle.cics_picture.specs.declared.page.notes.Wanted.TheVariants as wanted
use Rattle.cics_picture.specs.declared.page.notes.Note.{Note}
use Rattle.cics_picture.specs.declared.page.notes.Note.TheVariants as note
use Rattle.cics_picture.specs.Xml.Documents.{said, document_text}
use Rattle.cics_picture.specs.Elements.{spoken}
use lib.Chars.{codes}

-- the name of a file or a queue, as the journal has it
abbrev pub name_element : Bytes → List ℕ
name_element name = spoken tag.I (texts.name_text name)

-- a key, a value or a record, as the journal has it
abbrev pub bytes_element : Tag → Bytes → List ℕ
bytes_element name bytes = spoken name (texts.text_of bytes)

-- a key of a file, and a number of something of a queue
abbrev pub key_text : Bytes → Bytes → List ℕ
key_text key file = bytes_element tag.B key ++ (codes " of " ++ name_element file)

-- the number of an item or a record, and its queue
abbrev pub numbered_text : ℕ → Bytes → List ℕ
numbered_text number queue = spoken tag.B (decimal number) ++ (codes " of " ++ name_element queue)

-- a definition
abbrev pub definition_text : List ℕ → Bytes → List ℕ → List ℕ
definition_text start name title = start ++ (name_element name ++ (codes " " ++ (spoken tag.B title ++ codes "</p>")))

-- the class of what is held, and the words in front of it
abbrev pub held_class : Held → List ℕ
held_class (held.Keys file bytes false) = codes "file"
held_class (held.Keys file bytes true) = codes "pre"
held_class (held.Queue queue) = codes "ts"
held_class (held.End queue false) = codes "rd"
held_class (held.End queue true) = codes "wr"
held_class (held.Value value) = codes "enq"

-- the words for what is held, before its name
abbrev pub held_words : Held → List ℕ
held_words (held.Keys file bytes false) = codes "record "
held_words (held.Keys file bytes true) = codes "prefix "
held_words (held.Queue queue) = codes "queue "
held_words (held.End queue false) = codes "the reading end of "
held_words (held.End queue true) = codes "the writing end of "
held_words (held.Value value) = codes "value "

-- what is held, behind those words
abbrev pub held_text : Held → List ℕ
held_text (held.Keys file bytes is_prefix) = key_text bytes file
held_text (held.Queue queue) = name_element queue
held_text (held.End queue is_writing) = name_element queue
held_text (held.Value value) = bytes_element tag.B value

-- a note on what is held: the front of its class, and a verb
unfoldable pub resource_text : List ℕ → List ℕ → Held → List ℕ
resource_text front verb held = front ++ (held_class held ++ (verb ++ (held_words held ++ held_text held)))

-- of a value, how often it was enqueued and not dequeued
abbrev pub count_text : Held → ℕ → List ℕ
count_text (held.Value value) count = codes " &#215;" ++ spoken tag.I (decimal count)
count_text other count = []

-- what is held, and what is released while its unit goes on
abbrev pub holds_text : Held → ℕ → List ℕ
holds_text held count = resource_text (codes "<p class=\"own ") (codes "\">holds ") held ++ (count_text held count ++ codes "</p>")

-- a unit releases something
abbrev pub releases_text : Held → List ℕ
releases_text held = resource_text (codes "<p class=\"off ") (codes "\">releases ") held ++ codes "</p>"

-- the start of the note of a wait for this: a reading end is wanted for a record
abbrev pub asked_text : Held → List ℕ
asked_text (held.End queue false) = codes "<p class=\"ask rd\">wants a record of " ++ name_element queue
asked_text other = resource_text (codes "<p class=\"ask ") (codes "\">wants ") other

-- what a waiting command wants
abbrev pub wanted_text : Wanted → List ℕ
wanted_text (wanted.One held) = asked_text held
wanted_text (wanted.BothEnds queue) = codes "<p class=\"ask td\">wants both ends of " ++ name_element queue

-- how long the task waits at most, if there is a limit
abbrev pub limit_text : ℕ → List ℕ
limit_text seconds = if seconds == 0 then [] else codes ", for " ++ (document_text (said (decimal seconds)) ++ codes " seconds at most")

-- a unit that begins, by how it ends
abbrev pub begins_text : UnitState → List ℕ
begins_text ends.Committed = codes "<p class=\"beg com\">begins a unit that is committed</p>"
begins_text ends.BackedOut = codes "<p class=\"beg bak\">begins a unit that is backed out</p>"
begins_text ends.Open = codes "<p class=\"beg opn\">begins a unit that stays open</p>"

-- a unit that ends
abbrev pub ends_text : List ℕ → Bytes → List ℕ
ends_text start label = start ++ (spoken tag.B (texts.bare label) ++ codes "</p>")

-- the start of the note of a cell that has another text; that `stays` if no backout undoes it
abbrev pub set_start : Cell → Bool → List ℕ
set_start (cell.Record file key) false = codes "<p class=\"set file\">record "
set_start (cell.Record file key) true = codes "<p class=\"set file stays\">record "
set_start (cell.Item queue number) false = codes "<p class=\"set ts\">item "
set_start (cell.Item queue number) true = codes "<p class=\"set ts stays\">item "
set_start (cell.TdRecord queue number) false = codes "<p class=\"set td\">record "
set_start (cell.TdRecord queue number) true = codes "<p class=\"set td stays\">record "

-- the end of that note
abbrev pub set_end : Bool → List ℕ
set_end false = codes "</p>"
set_end true = codes ", which stays</p>"

-- a cell: its key or number, and its file or queue
abbrev pub cell_text : Cell → List ℕ
cell_text (cell.Record file key) = key_text key file
cell_text (cell.Item queue number) = numbered_text number queue
cell_text (cell.TdRecord queue number) = numbered_text number queue

-- how its text changed
abbrev pub change_text : Change → List ℕ
change_text (Added after) = codes "added " ++ bytes_element tag.Ins after
change_text (Removed before) = codes "removed " ++ bytes_element tag.Del before
change_text (Becomes before after) = bytes_element tag.Del before ++ (codes " becomes " ++ bytes_element tag.Ins after)

-- what became of the text of a cell
abbrev pub set_text : Cell → Change → Bool → List ℕ
set_text cell change stays = set_start cell stays ++ (cell_text cell ++ (codes ": " ++ (change_text change ++ set_end stays)))

-- the cursor of a queue
abbrev pub cursor_text : Bytes → ℕ → ℕ → List ℕ
cursor_text queue before after =
    (codes "<p class=\"cur\">cursor of " ++ name_element queue)
    ++ (codes ": " ++ (spoken tag.Del (decimal before) ++ (codes " becomes " ++ (spoken tag.Ins (decimal after) ++ codes "</p>"))))

-- a task, and the task for which it waits
abbrev pub waits_text : Bytes → Bytes → List ℕ
waits_text label next = texts.bare label ++ (codes " waits for " ++ texts.bare next)

-- a task and those behind it, of which each waits for the next one, and the last for the first
abbrev pub ring_text : Bytes → Bytes → List Bytes → List ℕ
ring_text first label [] = waits_text label first
ring_text first label (next ∷ labels) = waits_text label next ++ (codes ", " ++ ring_text first next labels)

-- a circle of tasks
abbrev pub circle_text : List Bytes → List ℕ
circle_text [] = []
circle_text (first ∷ labels) = ring_text first first labels

-- a deadlock, by its circle of tasks
abbrev pub deadlock_text : List Bytes → List ℕ
deadlock_text labels = codes "<p class=\"ring\">deadlock: " ++ (document_text (said (circle_text labels)) ++ codes "</p>")

-- a note of a run whose units have these outcomes
abbrev pub told_text : List UnitState → Note → List ℕ
told_text outcomes (note.File name is_recoverable) = definition_text (codes "<p class=\"def file\">file ") name (recoverable_title is_recoverable)
told_text outcomes (note.TdQueue name recovery) = definition_text (codes "<p class=\"def td\">queue ") name (recovery_title recovery)
told_text outcomes (note.Wants wanted seconds) = wanted_text wanted ++ (limit_text seconds ++ codes "</p>")
told_text outcomes (note.Begins unit) = begins_text (outcome_of outcomes unit)
told_text outcomes (note.Holds held count) = holds_text held count
told_text outcomes (note.Releases held) = releases_text held
told_text outcomes (note.Commits label) = ends_text (codes "<p class=\"com\">commits the unit of ") label
told_text outcomes (note.BacksOut label) = ends_text (codes "<p class=\"bak\">backs out the unit of ") label
told_text outcomes (note.Set cell change stays) = set_text cell change stays
told_text outcomes (note.Cursor queue before after) = cursor_text queue before after
told_text outcomes (note.Ring labels) = deadlock_text labels

-- notes, one on a line
abbrev pub note_text : List UnitState → Note → List ℕ
note_text outcomes n = told_text outcomes n ++ codes "\n"

-- the texts of notes, one after the other
abbrev pub notes_text : List UnitState → List Note → List ℕ
notes_text outcomes notes = flat_map (note_text outcomes) notes
