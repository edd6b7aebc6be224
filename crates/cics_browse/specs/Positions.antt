-- File control, browsing (the file control chapter of the Application Programmer's Reference
-- Manual). A position is the key asked for, or the key last read with the direction of its read.
use Rattle.std.specs.Prelude.{◌==◌, Bool, true, false, not, ◌&&◌, ◌||◌, if◌then◌else◌, Option, Some, None, is_some, nat_eq}
use Rattle.std.specs.List.{list_all, starts_with}
use Rattle.cics_names.specs.Keyed.{Bytes, Map, is_same}
use Rattle.cics_names.specs.declared.conditions.Condition.{Condition}
use Rattle.cics_names.specs.declared.conditions.Condition.TheVariants.{Normal, Notfnd, Invreq, Endfile}
use Rattle.cics_ksds.specs.Files.{first_from, last_to}
use Rattle.cics_browse.specs.declared.browses.Move.{Move}
use Rattle.cics_browse.specs.declared.browses.Move.TheVariants.{Start, Forward, Back}
use Rattle.cics_browse.specs.declared.browses.Browsed.{Browsed}

-- at Start the key is the one asked for; after a read forward or back it is the key that was read
pub record Position : Type 0 where
  pub key : Bytes
  pub last_move : Move
  pub generic : Bool

-- a key that isn't generic and has nothing but bytes X'FF' means the end of the file
abbrev pub is_end : Bytes → Bool → Bool
is_end key generic = not generic && list_all (λ b. b == 255) key

-- with EQUAL the start is the key itself, or with GENERIC a key that begins with the prefix
abbrev pub is_asked_for : Bytes → Bool → Bytes → Bool
is_asked_for key generic k = if generic then starts_with nat_eq k key else is_same key k

-- whether an entry was found, and its key passes
abbrev pub passes : (Bytes → Bool) → Option (Bytes × Bytes) → Bool
passes test None = false
passes test (Some e) = test e.0

-- whether STARTBR or RESETBR finds its start: with EQUAL the key asked for, else any key not below
-- it
abbrev pub finds_start : Map Bytes → Bytes → Bool → Bool → Bool
finds_start records key generic equal =
    if equal
    then passes (is_asked_for key generic) (first_from records key false)
    else is_some (first_from records key false) || is_end key generic

-- the position that STARTBR and RESETBR set
abbrev pub start_at : Bytes → Bool → Position
start_at key generic = record { key = key; last_move = Start; generic = generic }

-- whether the key was read forward, so that the next one is above it
abbrev pub is_forward : Move → Bool
is_forward Start = false
is_forward Forward = true
is_forward Back = false

-- READNEXT: not below the key at Start and after a read back, above it after a read forward
abbrev pub next_entry : Map Bytes → Position → Option (Bytes × Bytes)
next_entry records p = first_from records p.key (is_forward p.last_move)

-- the record of the key itself
abbrev pub only_same : Bytes → Option (Bytes × Bytes) → Option (Bytes × Bytes)
only_same key found = if passes (is_same key) found then found else None

-- READPREV: below the key after a read back, not above it after a read forward. At Start the key
-- itself, or at the file's end the greatest key
abbrev pub prev_entry_at : Map Bytes → Bytes → Bool → Move → Option (Bytes × Bytes)
prev_entry_at records key generic Start = if is_end key generic then last_to records key false else only_same key (last_to records key false)
prev_entry_at records key generic Forward = last_to records key false
prev_entry_at records key generic Back = last_to records key true

-- what READPREV is answered without a record: NOTFND for a key that was asked for, ENDFILE at the
-- file's end and past a key that was read
abbrev pub prev_none : Bytes → Bool → Move → Condition
prev_none key generic Start = if is_end key generic then Endfile else Notfnd
prev_none key generic Forward = Endfile
prev_none key generic Back = Endfile

-- the answer has the record that was found, with its key, or the condition alone
abbrev pub reply_of : Condition → Option (Bytes × Bytes) → Browsed
reply_of none None = record { condition = none; key = None; content = None }
reply_of none (Some e) = record { condition = Normal; key = Some e.0; content = Some e.1 }

-- the key that was read becomes the position; without one the position stays
abbrev pub position_after : Position → Move → Option (Bytes × Bytes) → Position
position_after p last_move None = p
position_after p last_move (Some e) = record { key = e.0; last_move = last_move; generic = p.generic }

-- READNEXT is answered ENDFILE if there is no entry
abbrev pub read_next : Map Bytes → Position → Browsed
read_next records p = reply_of Endfile (next_entry records p)

-- the position after a READNEXT
abbrev pub after_next : Map Bytes → Position → Position
after_next records p = position_after p Forward (next_entry records p)

-- READPREV is answered INVREQ after a GENERIC start
abbrev pub read_prev : Map Bytes → Position → Browsed
read_prev records p =
    if p.generic
    then reply_of Invreq None
    else reply_of (prev_none p.key p.generic p.last_move) (prev_entry_at records p.key p.generic p.last_move)

-- the position after a READPREV
abbrev pub after_prev : Map Bytes → Position → Position
after_prev records p = if p.generic then p else position_after p Back (prev_entry_at records p.key p.generic p.last_move)

-- RESETBR is answered NOTFND if its start isn't found
abbrev pub reset_condition : Map Bytes → Bytes → Bool → Bool → Condition
reset_condition records key generic equal = if finds_start records key generic equal then Normal else Notfnd

-- the position after a RESETBR: the key asked for, or as it was
abbrev pub after_reset : Map Bytes → Position → Bytes → Bool → Bool → Position
after_reset records p key generic equal = if finds_start records key generic equal then start_at key generic else p
