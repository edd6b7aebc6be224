-- Worked examples of what a region opens with: the faults of definitions and of what is loaded,
-- each in its order.
use Rattle.std.specs.Prelude.{◌≡◌, true, false, Some, None, [], ◌∷◌, refl}
use Rattle.cics_names.specs.Keyed.{Bytes, value_at}
use Rattle.cics_ksds.specs.declared.definition.FileDef.{FileDef}
use Rattle.cics_transdata.specs.declared.queues.Recovery.TheVariants.{Physical}
use Rattle.cics_history.specs.State.{OpeningState, has_prefix_in, file_recoverable, queue_logical, unpadded, initial_store}
use Rattle.cics_history.specs.Openings.{initial_opening, with_file, with_record, with_queue, with_td_record}
use Rattle.cics_units.specs.Opening.Faults.{file_fault, load_fault, load_td_fault}
use Rattle.cics_units.specs.declared.opening.opening.DefineFault.TheVariants.{Duplicate, BadKey, BadLength, NotThere}
use lib.Chars.{codes}

abbrev acct : Bytes
acct = codes "ACCT"

abbrev log : Bytes
log = codes "LOG"

-- a file of records of up to 10 bytes, the key of 4 bytes behind the first two
abbrev definition : FileDef
definition = record { key_length = 4; key_offset = 2; record_size = 10; recoverable = true }

abbrev defined : OpeningState
defined = with_file initial_opening acct definition

-- files stand in the order of their names, whatever the order of their definitions
files_in_order : with_file (with_file initial_opening log definition) acct definition ≡ with_file (with_file initial_opening acct definition) log definition
files_in_order = refl

-- records stand in the order of their keys, and a queue's in the order in which they were loaded
records_in_order : (initial_store (with_record (with_record defined acct (codes "xx0002")) acct (codes "xx0001y"))).files ≡ (acct, (codes "0001", codes "xx0001y") ∷ (codes "0002", codes "xx0002") ∷ []) ∷ []
records_in_order = refl

queue_in_order : (initial_store (with_td_record (with_td_record (with_queue initial_opening log Physical) log (codes "r2")) log (codes "r1"))).td ≡ (log, codes "r2" ∷ codes "r1" ∷ []) ∷ []
queue_in_order = refl

-- ---- a file's definition

accepted : file_fault defined log definition ≡ None
accepted = refl

-- a name that is defined comes first, then the record size, then the key
duplicate_first : file_fault defined acct (record { key_length = 0; key_offset = 0; record_size = 0; recoverable = true }) ≡ Some Duplicate
duplicate_first = refl

size_before_key : file_fault defined log (record { key_length = 0; key_offset = 0; record_size = 0; recoverable = true }) ≡ Some BadLength
size_before_key = refl

too_large : file_fault defined log (record { key_length = 4; key_offset = 0; record_size = 32768; recoverable = true }) ≡ Some BadLength
too_large = refl

largest : file_fault defined log (record { key_length = 255; key_offset = 32512; record_size = 32767; recoverable = true }) ≡ None
largest = refl

no_key : file_fault defined log (record { key_length = 0; key_offset = 0; record_size = 80; recoverable = true }) ≡ Some BadKey
no_key = refl

long_key : file_fault defined log (record { key_length = 256; key_offset = 0; record_size = 32767; recoverable = true }) ≡ Some BadKey
long_key = refl

key_behind_the_record : file_fault defined log (record { key_length = 4; key_offset = 77; record_size = 80; recoverable = true }) ≡ Some BadKey
key_behind_the_record = refl

-- an offset and a length whose sum a word of 64 bits can't hold
sum_without_end : file_fault defined log (record { key_length = 4; key_offset = 18446744073709551615; record_size = 80; recoverable = true }) ≡ Some BadKey
sum_without_end = refl

-- ---- what is loaded

abbrev one : OpeningState
one = with_record defined acct (codes "xx0001")

-- a file that isn't there comes first, then the length, then the key
not_there : load_fault (value_at log one.files) (codes "xx0001") ≡ Some NotThere
not_there = refl

too_short : load_fault (value_at acct one.files) (codes "xx000") ≡ Some BadLength
too_short = refl

too_long : load_fault (value_at acct one.files) (codes "xx0001mnopq") ≡ Some BadLength
too_long = refl

key_there : load_fault (value_at acct one.files) (codes "yy0001") ≡ Some Duplicate
key_there = refl

key_free : load_fault (value_at acct one.files) (codes "xx0002") ≡ None
key_free = refl

queue_not_there : load_td_fault (value_at log one.queues) (codes "r1") ≡ Some NotThere
queue_not_there = refl

record_empty : load_td_fault (value_at log (with_queue one log Physical).queues) [] ≡ Some BadLength
record_empty = refl

-- ---- what is recoverable

abbrev r_names : Bytes
r_names = 0xD9 ∷ 0x40 ∷ 0x40 ∷ 0x40 ∷ 0x40 ∷ 0x40 ∷ 0x40 ∷ 0x40 ∷ []

prefix_unpadded : unpadded r_names ≡ 0xD9 ∷ []
prefix_unpadded = refl

by_prefix : (has_prefix_in (r_names ∷ []) (0xD9 ∷ 0xD8 ∷ 0x40 ∷ []) ≡ true) × (has_prefix_in (r_names ∷ []) (0xD8 ∷ 0xD9 ∷ 0x40 ∷ []) ≡ false)
by_prefix = (refl, refl)

by_definition : (file_recoverable one acct ≡ true) × (queue_logical (with_queue one log Physical) log ≡ false)
by_definition = (refl, refl)
