-- Recovery: all that units change in place, through executions, commits, backouts and all other
-- calls, in any order.
use Rattle.std.specs.Prelude.{ℕ, ◌&&◌, not, if◌then◌else◌, Option, Some, is_some, List, [], ◌∷◌}
use Rattle.cics_history.specs.State.{OpeningState, queue_logical, UnitsState}
use Rattle.cics_history.specs.Holding.{store_of, awaited}
use Rattle.cics_history.specs.declared.ops.Op.{Op}
use Rattle.cics_history.specs.Cells.{Cell, Key, Ts, Td, Content}
use Rattle.cics_history.specs.Events.{Event, Execute, Commit, BackOut, Enqueue, Dequeue, Unlock, ReadItem, is_live, may_act, happens}
use Rattle.cics_history.specs.Undo.{Place, IsPlaceOf, images_by, placed, place_executed, place_committed, place_undone}
use Rattle.cics_history.specs.Marks.{shown}
use Rattle.cics_history.specs.Ends.{Marks, AreMarksOf, marks_opened, marks_executed, marks_committed, marks_backed_out}

-- the cells in place and the LOGICAL queues in place, each with the images of the open units
pub record Parts : Type 0 where
  pub place : Place
  pub marks : Marks

-- what a cell in place holds; in a LOGICAL queue, the records that aren't marked as read
abbrev pub content_in_place : OpeningState → Parts → Cell → Content
content_in_place o p (Key f k) = p.place.cells (Key f k)
content_in_place o p (Ts q) = p.place.cells (Ts q)
content_in_place o p (Td q) =
    if queue_logical o q then Some (shown (p.marks.queues q)) else p.place.cells (Td q)

-- the parts as the opening has them
abbrev pub parts_opened : OpeningState → Parts
parts_opened o = record { place = placed o; marks = marks_opened o }

-- a command changes its cells in place, and adds to its unit an image of each change
abbrev pub parts_executed : UnitsState → Parts → Option ℕ → Op → Parts
parts_executed s p u op = record {
  place = place_executed s p.place u op (images_by (store_of s) op p.place.cells);
  marks = marks_executed s p.marks u op;
}

-- an event changes the parts. It reads the history only for what a unit owns and for the keys under
-- a prefix. A commit drops its unit's images, a backout undoes them, newest first. ENQ, DEQ, UNLOCK
-- and READQ TS change no cell, no image and no mark
abbrev pub happens_in_place : UnitsState → Parts → Event → Parts
happens_in_place s p (Execute u op) =
    if may_act s u && not (is_some (awaited s u op)) then parts_executed s p u op else p
happens_in_place s p (Commit u) =
    if is_live s u then record { place = place_committed p.place u; marks = marks_committed s p.marks u } else p
happens_in_place s p (BackOut u) =
    if is_live s u then record { place = place_undone p.place u; marks = marks_backed_out p.marks u } else p
happens_in_place s p (Enqueue u v) = p
happens_in_place s p (Dequeue u v) = p
happens_in_place s p (Unlock u f) = p
happens_in_place s p (ReadItem q n) = p

-- the parts after a list of events
abbrev pub run_in_place : UnitsState → Parts → List Event → Parts
run_in_place s p [] = p
run_in_place s p (e ∷ es) = run_in_place (happens s e) (happens_in_place s p e) es

-- the parts hold what the history gives, and the images of each open unit lead back
abbrev pub IsInPlace : UnitsState → Parts → Type 0
IsInPlace s p = IsPlaceOf s p.place × AreMarksOf s p.marks
