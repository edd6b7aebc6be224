-- The files of a region, by name, and those of an opening.
use Rattle.std.specs.Prelude.{◌≡◌, true, IsTrue, T, All, Option, Some, None, [], map, fold}
use Rattle.cics_names.specs.Keyed.{Bytes, Map, with_value, is_rising}
use Rattle.cics_ksds.specs.Files.{FileValue, IsContent, key_of, fits_file, written}
use Rattle.cics_history.specs.State.{FileOpening}
use Rattle.cics_history.specs.Openings.{is_key}

-- a record can be written to a file that is there and that it fits
abbrev pub IsFitFor : Option FileValue → Bytes → Type 0
IsFitFor None r = ⊥
IsFitFor (Some f) r = IsTrue (fits_file f.definition r)

-- a file is there
abbrev pub IsThere : Option FileValue → Type 0
IsThere None = ⊥
IsThere (Some f) = Unit {0}

-- the key of a record in a file
abbrev pub key_in : FileValue → Bytes → Bytes
key_in f r = key_of f.definition r

-- a record is written to one of the files, and the others stay
abbrev pub written_in : Map FileValue → Bytes → Bytes → Option FileValue → Map FileValue
written_in files name r None = files
written_in files name r (Some f) = with_value name (written f r) files

-- what a file was defined with and has loaded
abbrev pub opening_of : FileValue → FileOpening
opening_of f = record { definition = f.definition; records = f.records }

-- the files of an opening, as definitions and records
abbrev pub openings_of : Map FileValue → Map FileOpening
openings_of files = map (λ e. (e.0, opening_of e.1)) files

-- the file that an opening gives: it has the loaded records, and no empty slot
abbrev pub file_of : FileOpening → FileValue
file_of f = record { definition = f.definition; records = f.records; empties = [] }

-- the initial files of a region
abbrev pub opened_files : Map FileOpening → Map FileValue
opened_files files = map (λ e. (e.0, file_of e.1)) files

-- a file has loaded records alone. Its key is lawful, each record is under its own key and fits,
-- the keys rise, and no slot is empty
pub record IsLoaded (f : FileValue) : Type 0 where
  pub lawful : is_key f.definition ≡ true
  pub content : IsContent f.definition f.records
  pub empties : f.empties ≡ []

-- the names of an opening's files rise, and each file has loaded records alone
pub record AreLoaded (files : Map FileValue) : Type 0 where
  pub rising : T (is_rising files)
  pub loaded : All (λ e. IsLoaded e.1) files

-- entries put into an empty map, first to last
abbrev pub refilled : {X : Type 0} → Map X → Map X
refilled es = fold (λ m e. with_value e.0 e.1 m) [] es
