-- Recovery, transient data: the invariant of the queues in place and of the images of their marks,
-- however the open units end.
use Rattle.std.specs.Prelude.{◌≡◌, ℕ, ◌+◌, ◌≤◌, ◌==◌, ◌&&◌, Bool, true, false, if◌then◌else◌, Option, Some, List, [], ◌∷◌, ◌++◌, length, MatchBool}
use Rattle.std.specs.List.{list_any}
use Rattle.cics_names.specs.Keyed.{Bytes, is_same}
use Rattle.cics_history.specs.State.{OpeningState, queue_logical, UnitsState}
use Rattle.cics_history.specs.Store.{is_recoverable}
use Rattle.cics_history.specs.Headline.{outcome_of, is_open, is_backed_out}
use Rattle.cics_history.specs.Execution.{unit_or_next}
use Rattle.cics_history.specs.declared.ops.Op.{Op}
use Rattle.cics_history.specs.declared.ops.Entry.{Entry}
use Rattle.cics_history.specs.Cells.{Cell, Td, content, End, Reading, Writing}
use Rattle.cics_history.specs.Isolation.{Outcomes, store_by, used, Extends}
use Rattle.cics_history.specs.Marks.{MarkedQueue, seen, Queues, queues_opened, queues_executed, queues_committed}
use Rattle.cics_history.specs.MarkImages.{MarkImage, OfReading, OfWriting, marks_queue, marks_undone, mark_images}

-- the open units that used this end of the cell are backed out in this ending, or aren't
abbrev pub AreBackedOut : List Entry → Outcomes → Cell → End → Outcomes → Bool → Type 0
AreBackedOut es out x end fin gone = (u : ℕ) → is_open (out u) ≡ true → used es u x end ≡ true →
    is_backed_out (fin u) ≡ gone

-- no open unit used this end
abbrev pub IsUnheld : List Entry → Outcomes → Cell → End → Type 0
IsUnheld es out x end = (u : ℕ) → is_open (out u) ≡ true → used es u x end ≡ true → ⊥

-- no open unit used both ends
abbrev pub AreApart : List Entry → Outcomes → Cell → Type 0
AreApart es out x = (u : ℕ) → is_open (out u) ≡ true → used es u x Reading ≡ true → used es u x Writing ≡ true →
    ⊥

-- a LOGICAL queue in place, against the history
pub record IsQueue (o : OpeningState) (es : List Entry) (out : Outcomes) (q : Bytes)
    (m : MarkedQueue) : Type 0 where
  -- the queue's records, however the units at its two ends end
  pub gives : (fin : Outcomes) → Extends out fin → (reader_gone writer_gone : Bool) →
      AreBackedOut es out (Td q) Reading fin reader_gone → AreBackedOut es out (Td q) Writing fin writer_gone →
      content (store_by o fin es) (Td q) ≡ Some (seen reader_gone writer_gone m)
  -- no more are marked as read than there are
  pub within : m.taken ≤ length (m.settled ++ m.fresh)
  -- only a unit that holds both ends has read what it wrote itself
  pub apart : AreApart es out (Td q) → m.taken ≤ length m.settled
  -- without a unit at the writing end no record is marked as written
  pub unwritten : IsUnheld es out (Td q) Writing → m.fresh ≡ []
  -- without a unit at the reading end none is marked as read
  pub unread : IsUnheld es out (Td q) Reading → m.taken ≡ 0

-- the reading end's images lead from the first number of marks to the second
abbrev pub LeadsTaken : List MarkImage → Bytes → ℕ → ℕ → Type 0
LeadsTaken [] q t to = t ≡ to
LeadsTaken (OfReading n before made ∷ is) q t to =
    MatchBool (is_same n q) ((t ≡ made) × LeadsTaken is q before to) (LeadsTaken is q t to)
LeadsTaken (OfWriting n before made ∷ is) q t to = LeadsTaken is q t to

-- the writing end's images lead from the first list of written records to the second
abbrev pub LeadsFresh : List MarkImage → Bytes → List Bytes → List Bytes → Type 0
LeadsFresh [] q f to = f ≡ to
LeadsFresh (OfWriting n before made ∷ is) q f to =
    MatchBool (is_same n q) ((f ≡ made) × LeadsFresh is q before to) (LeadsFresh is q f to)
LeadsFresh (OfReading n before made ∷ is) q f to = LeadsFresh is q f to

-- when a write is undone its record isn't marked as read: s records are settled, and t are marked
-- as read
abbrev pub Fits : List MarkImage → Bytes → ℕ → ℕ → Type 0
Fits [] q s t = Unit {0}
Fits (OfReading n before made ∷ is) q s t = Fits is q s (if is_same n q then before else t)
Fits (OfWriting n before made ∷ is) q s t =
    MatchBool (is_same n q) (t ≤ s + length before) (Unit {0}) × Fits is q s t

-- an image of the reading end of the queue
abbrev pub is_of_reading : Bytes → MarkImage → Bool
is_of_reading q (OfReading n before made) = is_same n q
is_of_reading q (OfWriting n before made) = false

-- an image of the writing end of the queue
abbrev pub is_of_writing : Bytes → MarkImage → Bool
is_of_writing q (OfWriting n before made) = is_same n q
is_of_writing q (OfReading n before made) = false

-- one unit's images of one queue, whether the unit owns the reading end or not, and the writing end
-- or not
pub record HasEnds (reads writes : Bool) (is : List MarkImage) (q : Bytes) (m : MarkedQueue) : Type 0 where
  -- undone, they leave an end that the unit owns without a mark, and another end as it is
  pub taken : LeadsTaken is q m.taken (if reads then 0 else m.taken)
  pub fresh : LeadsFresh is q m.fresh (if writes then [] else m.fresh)
  pub fits : Fits is q (length m.settled) m.taken
  -- a unit has no image of an end that it doesn't own
  pub none_of_reading : reads ≡ false → list_any (is_of_reading q) is ≡ false
  pub none_of_writing : writes ≡ false → list_any (is_of_writing q) is ≡ false

-- the queues in place, and each open unit's images of its marks, newest first
pub record Marks : Type 0 where
  pub queues : Queues
  pub images : ℕ → List MarkImage

-- the queues in place against the history, and the images of the open units
pub record AreMarked (o : OpeningState) (es : List Entry) (out : Outcomes) (p : Marks) : Type 0 where
  pub queues : (q : Bytes) → queue_logical o q ≡ true → IsQueue o es out q (p.queues q)
  pub images : (q : Bytes) → queue_logical o q ≡ true → (u : ℕ) → is_open (out u) ≡ true →
      HasEnds (used es u (Td q) Reading) (used es u (Td q) Writing) (p.images u) q (p.queues q)
  -- no unit has an image of another queue
  pub bare : (q : Bytes) → queue_logical o q ≡ false → (u : ℕ) → marks_queue q (p.images u) ≡ false

-- the queues in place and the images are those of this state of the units
abbrev pub AreMarksOf : UnitsState → Marks → Type 0
AreMarksOf s p = AreMarked s.opening s.trace (outcome_of s.outcomes) p

-- the queues as the opening has them, and no image
abbrev pub marks_opened : OpeningState → Marks
marks_opened o = record { queues = queues_opened o; images = λ u. [] }

-- a command on a LOGICAL queue marks it, and its unit gets the image
abbrev pub mark : OpeningState → Marks → ℕ → Op → Marks
mark o p unit op = record {
  queues = if is_recoverable o op then queues_executed p.queues op else p.queues;
  images = λ u. if (u == unit) && is_recoverable o op then mark_images op p.queues ++ p.images u else p.images u;
}

-- the same for a command of a unit, or of the next one
abbrev pub marks_executed : UnitsState → Marks → Option ℕ → Op → Marks
marks_executed s p u op = mark s.opening p (unit_or_next u s.outcomes) op

-- the images after a unit's end: the unit has none
abbrev pub mark_images_without : (ℕ → List MarkImage) → ℕ → ℕ → List MarkImage
mark_images_without images unit u = if u == unit then [] else images u

-- a commit settles the ends that the unit owns, and drops its images
abbrev pub marks_committed : UnitsState → Marks → ℕ → Marks
marks_committed s p u = record {
  queues = queues_committed s p.queues u;
  images = mark_images_without p.images u;
}

-- a backout undoes the unit's images, newest first, and drops them
abbrev pub marks_backed_out : Marks → ℕ → Marks
marks_backed_out p u = record {
  queues = marks_undone p.queues (p.images u);
  images = mark_images_without p.images u;
}
