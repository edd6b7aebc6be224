-- Recovery: what the before images of a queue mean, and what undoing one does. A queue has two
-- cells, one for each end.
use Rattle.std.specs.Prelude.{◌≡◌, ◌-◌, ◌≤◌, ◌<◌, Bool, true, if◌then◌else◌, Option, Some, None, List, [], ◌∷◌, length, take, drop}
use Rattle.std.specs.Option.{option_map}
use Rattle.std.specs.Str.{bytes_eq}
use Rattle.cics_names.specs.Keyed.{Bytes}
use Rattle.cics_images.specs.Cells.{Cell, Content}
use Rattle.cics_images.specs.Turns.{IsImageOf}
use Rattle.cics_transdata.specs.declared.images.TdImage.{TdImage}
use Rattle.cics_transdata.specs.declared.images.TdImage.TheVariants.{Taken, Written}
use Rattle.cics_transdata.specs.Trans.{TransState, is_logical, unwritten_count, first_of, unread}

-- the cell of the end that is read
abbrev pub reading_end : Cell
reading_end = 0 ∷ []

-- the cell of the end that is written
abbrev pub writing_end : Cell
writing_end = 1 ∷ []

-- the end that an image is of
abbrev pub end_of : TdImage → Cell
end_of (Taken before) = reading_end
end_of Written = writing_end

-- the records in place that are marked as read
abbrev pub read_records : TransState → List Bytes
read_records s = take s.read s.placed

-- the records in place that are marked as written
abbrev pub written_records : TransState → List Bytes
written_records s = drop (unwritten_count s) s.placed

-- an end contains the records that are marked there
abbrev pub content_at : TransState → Cell → Content
content_at s c =
    if bytes_eq c reading_end then Some (read_records s)
    else if bytes_eq c writing_end then Some (written_records s) else None

-- records without the last of them
abbrev pub without_last : List Bytes → List Bytes
without_last records = take (length records - 1) records

-- back from what was marked as read is the front that was marked before. Back from what was marked
-- as written is all but the last
abbrev pub before_of : TdImage → Content → Content
before_of (Taken before) after = option_map (take before) after
before_of Written after = option_map without_last after

-- an image leads from what its end has now back to what it had before
abbrev pub Leads : TdImage → Content → Content → Type 0
Leads image after before = before ≡ before_of image after

-- an image is ready if what it takes back is still marked, and a written record isn't marked as
-- read
abbrev pub IsReadyImage : TransState → TdImage → Type 0
IsReadyImage s (Taken before) = (before ≤ s.read) × (s.read ≤ length s.placed)
IsReadyImage s Written = (0 < s.written) × (s.written ≤ length s.placed) × (s.read < length s.placed)

-- an undo of a read or delete removes its marks; an undo of a write removes the last record
abbrev pub undone : TransState → TdImage → TransState
undone s (Taken before) = record { kind = s.kind; placed = s.placed; read = before; written = s.written }
undone s Written = record { kind = s.kind; placed = take (length s.placed - 1) s.placed; read = s.read; written = s.written - 1 }

-- at the reading end t has the marks of s
pub record KeepsReading (s t : TransState) : Type 0 where
  pub same : t.read ≡ s.read
  pub records : read_records t ≡ read_records s
  pub within : s.read ≤ length s.placed → t.read ≤ length t.placed

-- at the writing end t has the marks of s, and no fewer of the records marked there are unread
pub record KeepsWriting (s t : TransState) : Type 0 where
  pub same : t.written ≡ s.written
  pub records : written_records t ≡ written_records s
  pub within : s.written ≤ length s.placed → t.written ≤ length t.placed
  pub unread : unread s ≤ unread t

-- the ends that pass stay
pub record KeepsEnds (p : Cell → Bool) (s t : TransState) : Type 0 where
  pub same_kind : t.kind ≡ s.kind
  pub reading : p reading_end ≡ true → KeepsReading s t
  pub writing : p writing_end ≡ true → KeepsWriting s t

-- the image of a change of this end, from old to new
abbrev pub IsTransImage : TransState → TransState → Cell → TdImage → Type 0
IsTransImage old new c image = IsImageOf content_at end_of Leads IsReadyImage undone KeepsEnds old new c image

-- a change of a LOGICAL queue has an image
abbrev pub if_logical : TransState → TdImage → Option TdImage
if_logical s image = if is_logical s.kind then Some image else None

-- the image of WRITEQ TD
abbrev pub written_image : TransState → Option TdImage
written_image s = if_logical s Written

-- the image of a READQ TD that gave this or nothing: how many records were marked as read before
abbrev pub taken_image : TransState → Option Bytes → Option TdImage
taken_image s None = None
taken_image s (Some d) = if_logical s (Taken s.read)

-- the image of READQ TD
abbrev pub read_image : TransState → Bool → Option TdImage
read_image s past_fresh = taken_image s (first_of s past_fresh)

-- the image of DELETEQ TD
abbrev pub deleted_image : TransState → Option TdImage
deleted_image s = if_logical s (Taken s.read)
