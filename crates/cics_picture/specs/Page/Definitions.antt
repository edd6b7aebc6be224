-- What a line has defined or loaded, as a note.
use Rattle.std.specs.Prelude.{ℕ, not, if◌then◌else◌, Option, Some, None, Result, Ok, Err, List, length}
use Rattle.cics_names.specs.Keyed.{Bytes, value_at}
use Rattle.cics_ksds.specs.Files.{key_of, fits_file}
use Rattle.cics_ksds.specs.declared.definition.FileDef.{FileDef}
use Rattle.cics_history.specs.State.{OpeningState, FileOpening, QueueOpening}
use Rattle.cics_transdata.specs.Trans.{is_logical}
use Rattle.cics_script.specs.Lines.{line}
use Rattle.cics_script.specs.declared.faults.LineFault.{LineFault}
use Rattle.cics_script.specs.declared.lines.Line.{Line}
use Rattle.cics_script.specs.declared.lines.Line.TheVariants.{DefineFile, DefineTd, LoadFile, LoadTd}
use Rattle.cics_run.specs.declared.stage.stage.Stage.{Stage}
use Rattle.cics_run.specs.declared.stage.stage.Stage.TheVariants.{Opening, Running}
use Rattle.cics_picture.specs.declared.page.notes.Cell.TheVariants as cell
use Rattle.cics_picture.specs.declared.page.notes.Change.TheVariants.{Added}
use Rattle.cics_picture.specs.declared.page.notes.Note.{Note}
use Rattle.cics_picture.specs.declared.page.notes.Note.TheVariants as note

-- a record that was loaded into a file of this definition, under its key; it stays in a file that
-- isn't recoverable
abbrev pub loaded_under : Bytes → Bytes → FileDef → Option Note
loaded_under name content d =
    if fits_file d content
    then Some (note.Set (cell.Record name (key_of d content)) (Added content) (not d.recoverable))
    else None

-- a record that was loaded into a file, if that is defined
abbrev pub record_in : Bytes → Bytes → Option FileOpening → Option Note
record_in name content None = None
record_in name content (Some file) = loaded_under name content file.definition

-- the note of a record that is loaded into a file of this name, if it is defined
abbrev pub loaded_in : OpeningState → Bytes → Bytes → Option Note
loaded_in o name content = record_in name content (value_at name o.files)

-- a record that was loaded last into a transient data queue
abbrev pub record_last : Bytes → Bytes → Option QueueOpening → Option Note
record_last name content None = None
record_last name content (Some queue) = Some (note.Set (cell.TdRecord name (length queue.records)) (Added content) (not (is_logical queue.recovery)))

-- the note of a record that is loaded into a queue of this name, if it is defined
abbrev pub loaded_last : OpeningState → Bytes → Bytes → Option Note
loaded_last o name content = record_last name content (value_at name o.queues)

-- what a line has defined or loaded
abbrev pub defined_by : OpeningState → Line → Option Note
defined_by o (DefineFile name d) = Some (note.File name d.recoverable)
defined_by o (DefineTd name recovery) = Some (note.TdQueue name recovery)
defined_by o (LoadFile name content) = loaded_in o name content
defined_by o (LoadTd name content) = loaded_last o name content
defined_by o other = None

-- a line that was read, if it could be
abbrev pub defined_in : OpeningState → Result Line LineFault → Option Note
defined_in o (Ok l) = defined_by o l
defined_in o (Err fault) = None

-- what the bytes of a line have defined or loaded, if no region is there yet
abbrev pub defined_at : Stage → List ℕ → Option Note
defined_at (Opening o) bytes = defined_in o (line bytes)
defined_at (Running r) bytes = None
