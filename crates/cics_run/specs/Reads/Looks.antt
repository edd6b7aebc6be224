-- What a command that takes no lock looks at: keys of a file, from one to another, or an item of a
-- temporary storage queue. It looks at the key that it gives, and at each key that would have been
-- given in its place, had it a record. If it gives none, it looks at each that could have been.
use Rattle.std.specs.Prelude.{◌-◌, Bool, true, false, not, ◌&&◌, if◌then◌else◌, Option, Some, None, option_map, unwrap_or, [], ◌++◌, length, replicate}
use Rattle.cics_names.specs.Keyed.{Bytes, Map, value_at}
use Rattle.cics_names.specs.declared.commands.Verb.{Verb}
use Rattle.cics_names.specs.declared.commands.Verb.TheVariants.{Read, StartBr, ResetBr, ReadNext, ReadPrev, ReadqTs}
use Rattle.cics_ksds.specs.declared.definition.FileDef.{FileDef}
use Rattle.cics_ksds.specs.Files.{first_from, last_to}
use Rattle.cics_ksds.specs.Prefixes.{has_prefix}
use Rattle.cics_browse.specs.Positions.{Position, is_end, is_forward, finds_start}
use Rattle.cics_browse.specs.declared.browses.Move.{Move}
use Rattle.cics_browse.specs.declared.browses.Move.TheVariants.{Start, Forward, Back}
use Rattle.cics_history.specs.Execution.{item_asked}
use Rattle.cics_dispatch.specs.Machine.Machine.{RegionValue, definition_of}
use Rattle.cics_dispatch.specs.Machine.Blockers.{browse_of}
use Rattle.cics_run.specs.declared.reads.steps.Bound.{Bound}
use Rattle.cics_run.specs.declared.reads.steps.Bound.TheVariants.{In, Out}
use Rattle.cics_run.specs.declared.reads.steps.Spot.{Spot}
use Rattle.cics_run.specs.declared.reads.steps.Spot.TheVariants.{Keys, Item}

-- ---- Keys

-- the greatest key of a file that begins with these bytes
abbrev pub top : FileDef → Bytes → Bytes
top d front = front ++ replicate (d.key_length - length front) 255

-- the first key from a bound on, or strictly above it, if there is one
abbrev pub first_key : Map Bytes → Bytes → Bool → Option Bytes
first_key records bound strict = option_map (λ e. e.0) (first_from records bound strict)

-- the last key up to a bound, or strictly below it, if there is one
abbrev pub last_key : Map Bytes → Bytes → Bool → Option Bytes
last_key records bound strict = option_map (λ e. e.0) (last_to records bound strict)

-- the key that was found, if it begins with these bytes; else the greatest that does
abbrev pub reached : FileDef → Bytes → Option Bytes → Bytes
reached d front None = top d front
reached d front (Some k) = if has_prefix front k then k else top d front

-- the first bytes of the keys that a command may find: its key or prefix, or none if any key that
-- isn't below it will do
abbrev pub front_of : Bytes → Bool → Bytes
front_of key any = if any then [] else key

-- an end of an interval: its key is in it, or isn't
abbrev pub bound : Bytes → Bool → Bound
bound key is_in = if is_in then In key else Out key

-- ---- Commands on a file, by its name, its definition and its records

-- READ: from the key that it names up to the one that it finds
abbrev pub read_spot : Bytes → FileDef → Map Bytes → Bytes → Bytes → Spot
read_spot name d records key front = Keys name (In key) (In (reached d front (first_key records key false)))

-- STARTBR and RESETBR look only if they don't find their start
abbrev pub start_spot : Bytes → FileDef → Map Bytes → Bytes → Bool → Bool → Option Spot
start_spot name d records key generic equal =
    if finds_start records key generic equal then None else Some (read_spot name d records key (front_of key (not equal)))

-- READNEXT: from the position on, or after a READNEXT from behind it
abbrev pub next_spot : Bytes → FileDef → Map Bytes → Position → Spot
next_spot name d records p =
    Keys name (bound p.key (not (is_forward p.last_move))) (In (reached d [] (first_key records p.key (is_forward p.last_move))))

-- whether the position is a key that READPREV read
abbrev pub is_back : Move → Bool
is_back Start = false
is_back Forward = false
is_back Back = true

-- whether the position is a key that was asked for, and doesn't mean the end of the file
abbrev pub is_asked : Position → Bool
is_asked p = is_start p.last_move && not (is_end p.key p.generic) where
  is_start : Move → Bool
  is_start Start = true
  is_start Forward = false
  is_start Back = false

-- the least key that READPREV finds or could find. A key that was asked for is the only one
abbrev pub lowest : Map Bytes → Position → Bytes
lowest records p = if is_asked p then p.key else unwrap_or (last_key records p.key (is_back p.last_move)) []

-- READPREV: up to the position, or after a READPREV up to below it
abbrev pub prev_spot : Bytes → Map Bytes → Position → Spot
prev_spot name records p = Keys name (In (lowest records p)) (bound p.key (not (is_back p.last_move)))

-- ---- Commands in a region, as it stands before them

-- a command on a file looks only if the file is defined
abbrev pub in_file : RegionValue → Bytes → (FileDef → Map Bytes → Option Spot) → Option Spot
in_file r name looks = defined looks (unwrap_or (value_at name r.store.files) []) (definition_of r.machine name) where
  defined : (FileDef → Map Bytes → Option Spot) → Map Bytes → Option FileDef → Option Spot
  defined looks records None = None
  defined looks records (Some d) = looks d records

-- READ without UPDATE
abbrev pub read_in : RegionValue → Bytes → Bytes → Bool → Option Spot
read_in r name key gteq = in_file r name (λ d records. Some (read_spot name d records key (front_of key gteq)))

-- STARTBR and RESETBR
abbrev pub start_in : RegionValue → Bytes → Bytes → Bool → Bool → Option Spot
start_in r name key generic equal = in_file r name (λ d records. start_spot name d records key generic equal)

-- READNEXT, by the task's browse of the file
abbrev pub next_in : RegionValue → Bytes → Bytes → Option Spot
next_in r label name = in_file r name (λ d records. option_map (next_spot name d records) (browse_of r.machine label name))

-- READPREV
abbrev pub prev_in : RegionValue → Bytes → Bytes → Option Spot
prev_in r label name = in_file r name (λ d records. option_map (prev_spot name records) (browse_of r.machine label name))

-- what a command of a label's task looks at, if it passes its checks. READ UPDATE looks by what it
-- acquires
abbrev pub spot_of : RegionValue → Bytes → Verb → Option Spot
spot_of r label (Read f key n m generic gteq update) = if update then None else read_in r f key gteq
spot_of r label (StartBr f key n generic equal) = start_in r f key generic equal
spot_of r label (ResetBr f key n generic equal) = start_in r f key generic equal
spot_of r label (ReadNext f n) = next_in r label f
spot_of r label (ReadPrev f n) = prev_in r label f
spot_of r label (ReadqTs q n item) = Some (Item q (item_asked r.machine.units q item))
spot_of r label verb = None
