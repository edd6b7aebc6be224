-- Why a definition or a record of an opening is refused: for its first fault, or if it has none,
-- for `NoMemory` alone.
use Rattle.std.specs.Prelude.{◌≡◌, ℕ, Bool, not, if◌then◌else◌, Option, Some, None, Result, Ok, Err, length}
use Rattle.cics_names.specs.Keyed.{Bytes, has_key}
use Rattle.cics_ksds.specs.Files.{key_of, fits_file}
use Rattle.cics_ksds.specs.declared.definition.FileDef.{FileDef}
use Rattle.cics_history.specs.State.{OpeningState, FileOpening, QueueOpening}
use Rattle.cics_history.specs.Openings.{is_record_size, is_key}
use Rattle.cics_units.specs.declared.opening.opening.DefineFault.{DefineFault}
use Rattle.cics_units.specs.declared.opening.opening.DefineFault.TheVariants.{Duplicate, BadKey, BadLength, NotThere, NoMemory}

-- the number of a fault
abbrev pub fault_number : DefineFault → ℕ
fault_number Duplicate = 1
fault_number BadKey = 2
fault_number BadLength = 3
fault_number NotThere = 4
fault_number NoMemory = 5

-- the first fault of a file's definition: its name is defined already, its record size, its key
abbrev pub file_fault : OpeningState → Bytes → FileDef → Option DefineFault
file_fault o name d =
    if has_key name o.files then Some Duplicate
    else if not (is_record_size d.record_size) then Some BadLength
    else if not (is_key d) then Some BadKey
    else None

-- the first fault of a record to be loaded into a file: no such file, a record that doesn't fit, a
-- key that is there
abbrev pub load_fault : Option FileOpening → Bytes → Option DefineFault
load_fault None r = Some NotThere
load_fault (Some file) r =
    if not (fits_file file.definition r) then Some BadLength
    else if has_key (key_of file.definition r) file.records then Some Duplicate
    else None

-- the first fault of a record to be loaded into a transient data queue: no such queue, or no bytes
-- or too many
abbrev pub load_td_fault : Option QueueOpening → Bytes → Option DefineFault
load_td_fault None r = Some NotThere
load_td_fault (Some queue) r = if is_record_size (length r) then None else Some BadLength

-- the result is the fault, if there is one; else it is Ok or NoMemory
abbrev pub AnswersFault : {X : Type 0} → Result X DefineFault → Option DefineFault → Type 0
AnswersFault (Ok x) None = Unit {0}
AnswersFault (Ok x) (Some fault) = ⊥
AnswersFault (Err e) None = e ≡ NoMemory
AnswersFault (Err e) (Some fault) = e ≡ fault

-- `Duplicate`, if it is there already
abbrev pub fault_if : Bool → Option DefineFault
fault_if there = if there then Some Duplicate else None
