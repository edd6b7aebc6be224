-- The checks of the key, of KEYLENGTH and of LENGTH with FROM, before a command touches its file.
use Rattle.std.specs.Prelude.{ℕ, ◌==◌, Bool, true, false, ◌&&◌, if◌then◌else◌, Option, Some, None, nat_le, take, length, List, [], ◌∷◌}
use Rattle.cics_names.specs.Keyed.{Bytes, is_same}
use Rattle.cics_ksds.specs.Files.{key_of, fits_file}
use Rattle.cics_ksds.specs.declared.definition.FileDef.{FileDef}
use Rattle.cics_dispatch.specs.declared.machine.reasons.Reason.{Reason}
use Rattle.cics_dispatch.specs.declared.machine.reasons.Reason.TheVariants.{KeyLengthDiffers, KeySize, PrefixTooLong, LengthNotInFrom, RecordTooShort, RecordTooLong, KeyIsNotRidfld}

-- a check that fails is told by its reason
abbrev pub unless : Bool → Reason → Option Reason
unless passes reason = if passes then None else Some reason

-- the checks are made in their order: the first that fails is told
abbrev pub first_reason : List (Option Reason) → Option Reason
first_reason [] = None
first_reason (None ∷ rest) = first_reason rest
first_reason (Some reason ∷ rest) = Some reason

-- KEYLENGTH, if it is given, is the length of the key as written
abbrev pub is_length_given : Option ℕ → ℕ → Bool
is_length_given None n = true
is_length_given (Some given) n = given == n

-- a full key is as long as the file's keys; a GENERIC one is no longer
abbrev pub is_key_length : FileDef → Bool → ℕ → Bool
is_key_length d generic n = if generic then nat_le n d.key_length else n == d.key_length

-- KEYLENGTH, then the length of the key
abbrev pub key_reason : FileDef → Bytes → Option ℕ → Bool → Option Reason
key_reason d key given generic =
    first_reason (
    unless (is_length_given given (length key)) KeyLengthDiffers
    ∷ unless (is_key_length d generic (length key)) (if generic then PrefixTooLong else KeySize)
    ∷ []
    )

-- LENGTH with FROM is from 1 to the length of what is written
abbrev pub is_within : Bytes → Option ℕ → Bool
is_within from None = true
is_within from (Some n) = nat_le 1 n && nat_le n (length from)

-- with LENGTH the first bytes of FROM are used, else all of them
abbrev pub used_of : Bytes → Option ℕ → Bytes
used_of from None = from
used_of from (Some n) = take n from

-- a record that doesn't fit is longer than the record size, or doesn't reach the end of its key
abbrev pub misfit : FileDef → Bytes → Reason
misfit d content = if nat_le (length content) d.record_size then RecordTooShort else RecordTooLong

-- LENGTH with FROM, then the length of the record
abbrev pub from_reason : FileDef → Bytes → Option ℕ → Option Reason
from_reason d from n =
    first_reason (
    unless (is_within from n) LengthNotInFrom
    ∷ unless (fits_file d (used_of from n)) (misfit d (used_of from n))
    ∷ []
    )

-- the key in a record is this one, which RIDFLD of a WRITE or an update read gave
abbrev pub own_key_reason : FileDef → Bytes → Bytes → Option ℕ → Reason → Option Reason
own_key_reason d key from n differs = unless (is_same (key_of d (used_of from n)) key) differs

-- a record that is written under a key of the right length: its length, then the key in it
abbrev pub written_reason : FileDef → Bytes → Bytes → Option ℕ → Option Reason
written_reason d key from n = first_reason (from_reason d from n ∷ own_key_reason d key from n KeyIsNotRidfld ∷ [])

-- WRITE: the length of its key, then its record
abbrev pub write_reason : FileDef → Bytes → Option ℕ → Bytes → Option ℕ → Option Reason
write_reason d key given from n = first_reason (key_reason d key given false ∷ written_reason d key from n ∷ [])
