-- The serial run: a script in which the committed units of work follow one another in commit order,
-- with what each did to recoverable files and queues. Behind them come the open units.
use Rattle.std.specs.Prelude.{ℕ, ◌+◌, false, true, None, Some, List, [], ◌∷◌, ◌++◌, codes}
use Rattle.std.specs.List.{flat_map}
use Rattle.std.specs.Fmt.{decimal}
use Rattle.cics_names.specs.Keyed.{Bytes}
use Rattle.cics_names.specs.declared.commands.Verb.{Verb}
use Rattle.cics_names.specs.declared.commands.Verb.TheVariants as verb
use Rattle.cics_ksds.specs.declared.definition.FileDef.{FileDef}
use Rattle.cics_transdata.specs.declared.queues.Recovery.{Recovery}
use Rattle.cics_history.specs.State.{OpeningState, UnitsState}
use Rattle.cics_history.specs.Serial.{done_by}
use Rattle.cics_history.specs.declared.ops.Op.{Op}
use Rattle.cics_history.specs.declared.ops.Op.TheVariants.{Write, Rewrite, Delete, DeleteGeneric, ReadUpdate, TsWrite, TsRewrite, TsDelete, TdWrite, TdRead, TdDelete}
use Rattle.cics_history.specs.declared.ops.Entry.{Entry}
use Rattle.cics_history.specs.declared.ops.UnitState.{UnitState}
use Rattle.cics_history.specs.declared.ops.UnitState.TheVariants.{Open, Committed, BackedOut}
use Rattle.cics_units.specs.Opening.Definitions.{defined_files, defined_queues}
use Rattle.cics_script.specs.Texts.{text_of, name_text}
use Rattle.cics_script.specs.Spelling.WrittenOut.{in_parentheses, written_out}
use Rattle.cics_run.specs.Listing.Listings.{line, recoverable_title, recovery_title}

-- ---- Definitions and loads

-- an option with a value, behind a blank
unfoldable pub option_with_value : List ℕ → List ℕ → List ℕ
option_with_value title value = codes " " ++ (title ++ in_parentheses value)

-- a word that stands alone, behind a blank
unfoldable pub bare_option : List ℕ → List ℕ
bare_option title = codes " " ++ title

-- where a file's keys lie, and how long its records may be
unfoldable pub key_and_size_options : FileDef → List ℕ
key_and_size_options d =
    option_with_value (codes "KEYLENGTH") (decimal d.key_length) ++ (option_with_value (codes "KEYOFFSET") (decimal d.key_offset)
    ++ option_with_value (codes "RECORDSIZE") (decimal d.record_size))

-- a file's definition
abbrev pub file_line : Bytes → FileDef → List ℕ
file_line name d =
    line (codes "DEFINE" ++ (option_with_value (codes "FILE") (name_text name)
    ++ (key_and_size_options d ++ bare_option (recoverable_title d.recoverable))))

-- a record that is loaded into what has this name
abbrev pub load_line : List ℕ → Bytes → Bytes → List ℕ
load_line kind name bytes = line (codes "LOAD" ++ (option_with_value kind (name_text name) ++ option_with_value (codes "FROM") (text_of bytes)))

-- a file: its definition, and its records in the order of their keys
abbrev pub file_lines : Bytes × FileDef × List Bytes → List ℕ
file_lines (name, d, records) = file_line name d ++ flat_map (load_line (codes "FILE") name) records

-- a prefix of recoverable temporary storage queues
abbrev pub prefix_line : Bytes → List ℕ
prefix_line prefix = line (codes "DEFINE" ++ option_with_value (codes "TSPREFIX") (name_text prefix))

-- a transient data queue's definition
abbrev pub queue_line : Bytes → Recovery → List ℕ
queue_line name recovery = line (codes "DEFINE" ++ (option_with_value (codes "TDQUEUE") (name_text name) ++ bare_option (recovery_title recovery)))

-- a transient data queue: its definition, and its records, the first first
abbrev pub queue_lines : Bytes × Recovery × List Bytes → List ℕ
queue_lines (name, recovery, records) =
    queue_line name recovery ++ flat_map (load_line (codes "TDQUEUE") name) records

-- what a region opened with: files, prefixes, transient data queues
abbrev pub opening_lines : OpeningState → List ℕ
opening_lines o = flat_map file_lines (defined_files o) ++ (flat_map prefix_line o.prefixes ++ flat_map queue_lines (defined_queues o))

-- ---- Units of work

-- the label of the task of a unit
abbrev pub unit_label : ℕ → List ℕ
unit_label unit = codes "U" ++ decimal unit

-- a command of the task of a unit
abbrev pub unit_command_line : ℕ → Verb → List ℕ
unit_command_line unit asked = line (written_out (unit_label unit) (record { verb = asked; resp = false }))

-- the verb that asks for an updating command
abbrev pub verb_for : Op → Verb
verb_for (Write file key from) = verb.Write file key None from None
verb_for (Rewrite file key from) = verb.Rewrite file from None
verb_for (Delete file key) = verb.Delete file (Some key) None false
verb_for (DeleteGeneric file prefix) = verb.Delete file (Some prefix) None true
verb_for (ReadUpdate file key) = verb.Read file key None None false false true
verb_for (TsWrite queue from) = verb.WriteqTs queue from None None
verb_for (TsRewrite queue item from) = verb.WriteqTs queue from None (Some item)
verb_for (TsDelete queue) = verb.DeleteqTs queue
verb_for (TdWrite queue from) = verb.WriteqTd queue from None
verb_for (TdRead queue) = verb.ReadqTd queue None false
verb_for (TdDelete queue) = verb.DeleteqTd queue

-- what an updating command writes, or else its key or prefix; nothing of a queue that is deleted
-- or read
abbrev pub bytes_in : Op → Bytes
bytes_in (Write file key from) = from
bytes_in (Rewrite file key from) = from
bytes_in (Delete file key) = key
bytes_in (DeleteGeneric file prefix) = prefix
bytes_in (ReadUpdate file key) = key
bytes_in (TsWrite queue from) = from
bytes_in (TsRewrite queue item from) = from
bytes_in (TdWrite queue from) = from
bytes_in _ = []

-- before READ UPDATE an update read of the file that may be open is released
abbrev pub unlock_line : ℕ → Op → List ℕ
unlock_line unit (ReadUpdate file key) = unit_command_line unit (verb.Unlock file)
unlock_line unit _ = []

-- an executed command, as its unit asks for it again
abbrev pub entry_lines : Entry → List ℕ
entry_lines e = unlock_line e.unit e.op ++ unit_command_line e.unit (verb_for e.op)

-- what a unit did to recoverable files and queues
abbrev pub done_lines : OpeningState → List Entry → ℕ → List ℕ
done_lines o trace unit = flat_map entry_lines (done_by o trace unit)

-- a unit, by what each did: its task is attached, and does what the unit did
abbrev pub unit_lines : (ℕ → List ℕ) → ℕ → List ℕ
unit_lines did unit = line (codes "ATTACH " ++ (unit_label unit ++ codes " TRANSID('UNIT')")) ++ did unit

-- a unit that commits
abbrev pub committed_lines : (ℕ → List ℕ) → ℕ → List ℕ
committed_lines did unit = unit_lines did unit ++ unit_command_line unit verb.Syncpoint

-- the units of these outcomes that are open, numbered on from here
abbrev pub open_from : ℕ → List UnitState → List ℕ
open_from unit [] = []
open_from unit (Open ∷ outcomes) = unit ∷ open_from (unit + 1) outcomes
open_from unit (Committed ∷ outcomes) = open_from (unit + 1) outcomes
open_from unit (BackedOut ∷ outcomes) = open_from (unit + 1) outcomes

-- the units that are open, in the order of their numbers
abbrev pub open_units : List UnitState → List ℕ
open_units outcomes = open_from 0 outcomes

-- what was opened, each of the committed units in this order, and behind them these units, which
-- are open
abbrev pub serial_script : OpeningState → List Entry → List ℕ → List ℕ → List ℕ
serial_script o trace committed unfinished =
    opening_lines o ++ (flat_map (committed_lines (done_lines o trace)) committed ++ flat_map (unit_lines (done_lines o trace)) unfinished)

-- the serial run of units of work, behind its heading
abbrev pub serial_text : UnitsState → List ℕ
serial_text s = line (codes "SERIAL") ++ serial_script s.opening s.trace s.commits (open_units s.outcomes)
