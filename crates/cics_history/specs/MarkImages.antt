-- Recovery, transient data: the images by which an open unit undoes its marks on LOGICAL queues.
use Rattle.std.specs.Prelude.{◌≡◌, ℕ, ◌+◌, ◌≤◌, Bool, if◌then◌else◌, List, [], ◌∷◌, ◌++◌, length, MatchBool}
use Rattle.std.specs.List.{list_any}
use Rattle.cics_names.specs.Keyed.{Bytes, is_same}
use Rattle.cics_history.specs.Holding.{is_nothing}
use Rattle.cics_history.specs.declared.ops.Op.{Op}
use Rattle.cics_history.specs.declared.ops.Op.TheVariants.{TdWrite, TdRead, TdDelete}
use Rattle.cics_history.specs.Marks.{MarkedQueue, shown, Queues}

-- one change of one end, before and after it: how many records were marked as read, or which were
-- marked as written
pub data MarkImage : Type 0 where
  OfReading : (queue : Bytes) (before made : ℕ) → MarkImage
  OfWriting : (queue : Bytes) (before made : List Bytes) → MarkImage

-- the queue of an image
abbrev pub queue_of : MarkImage → Bytes
queue_of (OfReading q before made) = q
queue_of (OfWriting q before made) = q

-- undoing an image restores its end, and leaves the other end as it is
abbrev pub unmarked : MarkImage → MarkedQueue → MarkedQueue
unmarked (OfReading q before made) m = record m { taken = before }
unmarked (OfWriting q before made) m = record m { fresh = before }

-- an image is ready if its end has what the change made, and no record that its undo removes is
-- marked as read
abbrev pub IsMarkReady : MarkImage → MarkedQueue → Type 0
IsMarkReady (OfReading q before made) m = m.taken ≡ made
IsMarkReady (OfWriting q before made) m = (m.fresh ≡ made) × (m.taken ≤ length (m.settled ++ before))

-- this queue's images are ready in turn, newest first, and lead from the first marked queue to the
-- second
abbrev pub Unmarks : List MarkImage → Bytes → MarkedQueue → MarkedQueue → Type 0
Unmarks [] q from to = from ≡ to
Unmarks (i ∷ is) q from to =
    MatchBool (is_same (queue_of i) q) (IsMarkReady i from × Unmarks is q (unmarked i from) to)
    (Unmarks is q from to)

-- an image of the queue is among these
abbrev pub marks_queue : Bytes → List MarkImage → Bool
marks_queue q is = list_any (λ i. is_same (queue_of i) q) is

-- the queues after one image is undone
abbrev pub queues_unmarked : Queues → MarkImage → Queues
queues_unmarked queues i = λ q. if is_same (queue_of i) q then unmarked i (queues q) else queues q

-- the queues after all these images are undone, the newest first
abbrev pub marks_undone : Queues → List MarkImage → Queues
marks_undone queues [] = queues
marks_undone queues (i ∷ is) = marks_undone (queues_unmarked queues i) is

-- images are ready in turn: each is when it is undone
abbrev pub AllMarksReady : Queues → List MarkImage → Type 0
AllMarksReady queues [] = Unit {0}
AllMarksReady queues (i ∷ is) =
    IsMarkReady i (queues (queue_of i)) × AllMarksReady (queues_unmarked queues i) is

-- the image of a command on a LOGICAL queue, if it marks something
abbrev pub mark_images : Op → Queues → List MarkImage
mark_images (TdWrite q d) queues = OfWriting q (queues q).fresh ((queues q).fresh ++ d ∷ []) ∷ []
mark_images (TdRead q) queues =
    if is_nothing (shown (queues q)) then [] else OfReading q (queues q).taken ((queues q).taken + 1) ∷ []
mark_images (TdDelete q) queues =
    OfReading q (queues q).taken (length ((queues q).settled ++ (queues q).fresh)) ∷ []
mark_images _ queues = []
