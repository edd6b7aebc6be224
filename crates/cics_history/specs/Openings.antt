-- What a region opens with: the files, the prefixes of recoverable temporary storage queues, and
-- the transient data queues. Each file and queue has the records loaded into it. Definitions are
-- this profile's own way to say what the manual leaves to the system's tables.
use Rattle.std.specs.Prelude.{◌≡◌, ℕ, ◌+◌, Bool, true, ◌&&◌, Option, Some, None, option_map, nat_le, [], ◌∷◌, ◌++◌}
use Rattle.cics_names.specs.Keyed.{Bytes, Map, value_at, with_value, is_rising}
use Rattle.cics_ksds.specs.Files.{key_of}
use Rattle.cics_ksds.specs.declared.definition.FileDef.{FileDef}
use Rattle.cics_transdata.specs.declared.queues.Recovery.{Recovery}
use Rattle.cics_history.specs.State.{OpeningState, FileOpening, QueueOpening}

-- nothing is defined at first
abbrev pub initial_opening : OpeningState
initial_opening = record { files = []; prefixes = []; queues = [] }

-- a record size is 1 to 32,767
abbrev pub is_record_size : ℕ → Bool
is_record_size n = nat_le 1 n && nat_le n 32767

-- a key has 1 to 255 bytes and ends within the record
abbrev pub is_key : FileDef → Bool
is_key d = nat_le 1 d.key_length && nat_le d.key_length 255 && nat_le (d.key_offset + d.key_length) d.record_size

-- a file is defined, without a record
abbrev pub with_file : OpeningState → Bytes → FileDef → OpeningState
with_file o name d = record { files = with_value name (record { definition = d; records = [] }) o.files; prefixes = o.prefixes; queues = o.queues }

-- a prefix is defined
abbrev pub with_prefix : OpeningState → Bytes → OpeningState
with_prefix o p = record { files = o.files; prefixes = o.prefixes ++ p ∷ []; queues = o.queues }

-- a transient data queue is defined, without a record
abbrev pub with_queue : OpeningState → Bytes → Recovery → OpeningState
with_queue o name recovery = record { files = o.files; prefixes = o.prefixes; queues = with_value name (record { recovery = recovery; records = [] }) o.queues }

-- a file with one more record, under the key that lies in it
abbrev pub loaded_file : FileOpening → Bytes → FileOpening
loaded_file file r = record { definition = file.definition; records = with_value (key_of file.definition r) r file.records }

-- a record is loaded into a file
abbrev pub with_record : OpeningState → Bytes → Bytes → OpeningState
with_record o name r = record { files = changed (value_at name o.files); prefixes = o.prefixes; queues = o.queues } where
  changed : Option FileOpening → Map FileOpening
  changed None = o.files
  changed (Some file) = with_value name (loaded_file file r) o.files

-- a record is loaded into a transient data queue, last
abbrev pub with_td_record : OpeningState → Bytes → Bytes → OpeningState
with_td_record o name r = record { files = o.files; prefixes = o.prefixes; queues = changed (value_at name o.queues) } where
  changed : Option QueueOpening → Map QueueOpening
  changed None = o.queues
  changed (Some queue) = with_value name (record { recovery = queue.recovery; records = queue.records ++ r ∷ [] }) o.queues

-- if the file is defined, the keys of its records rise
abbrev pub is_in_order : Option (Map Bytes) → Bool
is_in_order None = true
is_in_order (Some records) = is_rising records

-- each file's key has 1 to 255 bytes and ends within the record
abbrev pub HasLawfulKeys : OpeningState → Type 0
HasLawfulKeys o = (f : Bytes) (file : FileOpening) → value_at f o.files ≡ Some file → is_key file.definition ≡ true

-- an opening that defines files alone
pub record HasFilesAlone (o : OpeningState) : Type 0 where
  pub prefixes : o.prefixes ≡ []
  pub queues : o.queues ≡ []

-- an opening is in order if the names of its files and of its queues rise, and so do the keys of
-- each file
pub record IsOpeningInOrder (o : OpeningState) : Type 0 where
  pub files : is_rising o.files ≡ true
  pub records : (f : Bytes) → is_in_order (option_map (λ e. e.records) (value_at f o.files)) ≡ true
  pub queues : is_rising o.queues ≡ true
