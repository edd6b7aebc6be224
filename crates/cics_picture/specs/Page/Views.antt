-- What notes tell of the texts of files and queues, and of owners.
use Rattle.std.specs.Prelude.{◌≡◌, ◌==◌, ℕ, Bool, true, false, ◌&&◌, Option, Some, None, option_map, if◌then◌else◌, List, []}
use Rattle.std.specs.List.{filter_map, cons_option}
use Rattle.std.specs.Str.{bytes_eq}
use Rattle.std.specs.declared.cmp.Ordering.{Ordering}
use Rattle.cics_names.specs.Keyed.{Bytes}
use Rattle.cics_picture.specs.declared.page.notes.Cell.{Cell}
use Rattle.cics_picture.specs.declared.page.notes.Change.{Change}
use Rattle.cics_picture.specs.declared.page.notes.Change.TheVariants.{Added, Removed, Becomes}
use Rattle.cics_picture.specs.declared.page.notes.Note.{Note}
use Rattle.cics_picture.specs.declared.page.notes.Note.TheVariants.{Set, Holds, Releases}
use Rattle.cics_picture.specs.declared.page.notes.Held.{Held}
use Rattle.cics_picture.specs.declared.page.owners.Owner.{Owner}
use Rattle.cics_picture.specs.Page.Tracked.{at, all_assigned}

-- the text behind a change, if there is one
abbrev pub text_behind : Change → Option Bytes
text_behind (Added after) = Some after
text_behind (Removed before) = None
text_behind (Becomes before after) = Some after

-- a note tells of a cell, and of its text
abbrev pub text_told : Note → Option (Cell × Option Bytes)
text_told (Set cell change stays) = Some (cell, text_behind change)
text_told other = None

-- the cells of which notes tell, and their texts
abbrev pub texts_told : List Note → List (Cell × Option Bytes)
texts_told notes = filter_map text_told notes

-- The texts of all cells behind notes: what stood there before, and then what each note tells.
abbrev pub texts_behind : (Cell → Cell → Ordering) → (Cell → Option Bytes) → List Note → Cell → Option Bytes
texts_behind cmp before notes = all_assigned cmp before (texts_told notes)

-- what became of a text, unless it is the same
abbrev pub change_of : Option Bytes → Option Bytes → Option Change
change_of None None = None
change_of None (Some after) = Some (Added after)
change_of (Some before) None = Some (Removed before)
change_of (Some before) (Some after) = if bytes_eq before after then None else Some (Becomes before after)

-- what is told of a cell if this became of its text
abbrev pub told_if : Cell → Option Change → List (Cell × Option Bytes)
told_if cell change = cons_option (option_map (λ change. (cell, text_behind change)) change) []

-- what is told of a cell, of what stood there, and of what stands there now
abbrev pub text_change : (Cell → Option Bytes) → Cell × Option Bytes → Option (Cell × Option Bytes)
text_change now e = option_map (λ change. (e.0, text_behind change)) (change_of e.1 (now e.0))

-- texts, each with its cell
abbrev pub Texts : Type 0
Texts = List (Cell × Bytes)

-- the text of a cell, if there is one
abbrev pub text_in : (Cell → Cell → Ordering) → Texts → Cell → Option Bytes
text_in cmp texts cell = at cmp texts cell

-- The texts before, and then what notes tell, are the texts behind. No region is named here: so if
-- nothing is told, these may be the same.
abbrev pub IsTold : (Cell → Cell → Ordering) → Texts → List Note → Texts → Type 0
IsTold cmp before notes behind = (cell : Cell) → texts_behind cmp (text_in cmp before) notes cell ≡ text_in cmp behind cell

-- a note tells how many times a resource is owned, or that it no longer is
abbrev pub owner_told : Note → Option (Held × Option ℕ)
owner_told (Holds held count) = Some (held, Some count)
owner_told (Releases held) = Some (held, None)
owner_told other = None

-- what notes tell of owners
abbrev pub owners_told : List Note → List (Held × Option ℕ)
owners_told notes = filter_map owner_told notes

-- a resource has the owner and the count that it had
abbrev pub is_same_owner : Option Owner → Option Owner → Bool
is_same_owner None None = true
is_same_owner None (Some after) = false
is_same_owner (Some before) None = false
is_same_owner (Some before) (Some after) = (before.unit == after.unit) && (before.count == after.count)

-- what is told of a resource, of its owner before, and of its owner now: a count, and no unit
abbrev pub owner_change : (Held → Option Owner) → Held × Option Owner → Option (Held × Option ℕ)
owner_change now e = if is_same_owner e.1 (now e.0) then None else Some (e.0, option_map (λ owner. owner.count) (now e.0))
