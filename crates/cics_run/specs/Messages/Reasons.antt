-- What a person is told of the check that a command failed.
use Rattle.std.specs.Prelude.{ℕ, if◌then◌else◌, List, [], ◌++◌, codes}
use Rattle.cics_names.specs.Keyed.{Bytes}
use Rattle.cics_names.specs.declared.commands.Verb.{Verb}
use Rattle.cics_ksds.specs.Files.{key_of, fits_file}
use Rattle.cics_ksds.specs.declared.definition.FileDef.{FileDef}
use Rattle.cics_dispatch.specs.declared.machine.reasons.Reason.{Reason}
use Rattle.cics_dispatch.specs.declared.machine.reasons.Reason.TheVariants.{FileNotDefined, QueueNotDefined, UpdateNotByKey, KeyLengthDiffers, KeySize, PrefixTooLong, PrefixEmpty, NoRidfld, LengthNotInFrom, RecordTooShort, RecordTooLong, ItemSize, ValueSize, ValueTooShort, UpdateReadOpen, NoUpdateRead, KeyIsNotRidfld, KeyIsNotRead, BrowseOpen, NoBrowse, BrowseIsGeneric}
use Rattle.cics_run.specs.Messages.Parts.{key_in, from_in, length_in, key_length_in, number_or_none, used_in, about_text, counted_text, sized_text, quoted_text}

-- the key in what is written, or no byte if that doesn't fit the file
abbrev pub key_in_from : FileDef → Bytes → Bytes
key_in_from d content = if fits_file d content then key_of d content else []

-- of options alone
abbrev pub plain_reason : Reason → List ℕ
plain_reason UpdateNotByKey = codes "UPDATE goes with neither GTEQ nor GENERIC"
plain_reason PrefixEmpty = codes "DELETE GENERIC needs a RIDFLD of 1 byte or more"
plain_reason NoRidfld = codes "KEYLENGTH and GENERIC need a RIDFLD"
plain_reason BrowseIsGeneric = codes "READPREV can't follow a start with GENERIC: RESETBR without GENERIC comes first"
plain_reason _ = []

-- of the file or queue, or of the task's reads of it
abbrev pub state_reason : Verb → Reason → List ℕ
state_reason verb FileNotDefined = about_text (codes "the file ") verb (codes " isn't defined")
state_reason verb QueueNotDefined = about_text (codes "the queue ") verb (codes " isn't defined")
state_reason verb UpdateReadOpen = about_text (codes "a record of ") verb (codes " is read for update already: REWRITE, DELETE or UNLOCK it first")
state_reason verb NoUpdateRead = about_text (codes "no record of ") verb (codes " is read for update: READ it with UPDATE first")
state_reason verb BrowseOpen = about_text (codes "a browse of ") verb (codes " is open already: RESETBR moves it, ENDBR ends it")
state_reason verb NoBrowse = about_text (codes "no browse of ") verb (codes " is open: STARTBR opens one")
state_reason verb reason = plain_reason reason

-- LENGTH, and how many bytes FROM or RESOURCE has
abbrev pub length_reason : Verb → List ℕ → List ℕ
length_reason verb before = counted_text (codes "LENGTH is ") (number_or_none (length_in verb)) (codes ", ") ++ sized_text before (from_in verb)

-- of LENGTH, or of the bytes that are written
abbrev pub size_reason : Verb → Reason → List ℕ
size_reason verb LengthNotInFrom = length_reason verb (codes "FROM has ")
size_reason verb ItemSize = sized_text (codes "what is written has ") (used_in verb) ++ codes ", not 1 to 32767"
size_reason verb ValueSize = counted_text (codes "LENGTH is ") (number_or_none (length_in verb)) (codes ", not from 1 to 255")
size_reason verb ValueTooShort = length_reason verb (codes "RESOURCE has ")
size_reason verb reason = state_reason verb reason

-- of the record that is written
abbrev pub record_reason : FileDef → Verb → Reason → List ℕ
record_reason d verb RecordTooShort =
    sized_text (codes "the record has ") (used_in verb)
    ++ (counted_text (codes ", KEYOFFSET(") d.key_offset (codes ") and ") ++ counted_text (codes "KEYLENGTH(") d.key_length (codes ") need more"))
record_reason d verb RecordTooLong =
    sized_text (codes "the record has ") (used_in verb) ++ counted_text (codes ", RECORDSIZE(") d.record_size (codes ") allows fewer")
record_reason d verb KeyIsNotRidfld =
    quoted_text (codes "the key in FROM is ") (key_in_from d (used_in verb)) (codes ", ") ++ quoted_text (codes "RIDFLD is ") (key_in verb) []
record_reason d verb KeyIsNotRead =
    quoted_text (codes "the key in FROM is ") (key_in_from d (used_in verb)) (codes ", another one was read for update")
record_reason d verb reason = size_reason verb reason

-- RIDFLD beside the keys of the file
abbrev pub key_size_reason : FileDef → Verb → List ℕ
key_size_reason d verb = sized_text (codes "RIDFLD has ") (key_in verb) ++ counted_text (codes ", the file has keys of ") d.key_length []

-- of each check, for a file with this definition
abbrev pub reason_text : FileDef → Verb → Reason → List ℕ
reason_text d verb KeyLengthDiffers =
    counted_text (codes "KEYLENGTH is ") (number_or_none (key_length_in verb)) (codes ", ") ++ sized_text (codes "RIDFLD has ") (key_in verb)
reason_text d verb KeySize = key_size_reason d verb
reason_text d verb PrefixTooLong = key_size_reason d verb
reason_text d verb reason = record_reason d verb reason
