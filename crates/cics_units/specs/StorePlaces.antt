-- Temporary storage: the NEXT cursors of the queues in place are those of the units.
use Rattle.std.specs.Prelude.{◌≡◌, ℕ, ◌+◌, Option, Some, None}
use Rattle.cics_names.specs.Keyed.{Bytes, Map}
use Rattle.cics_tempstor.specs.declared.queue_rows.Row.{Row}
use Rattle.cics_tempstor.specs.Queues.{next_place, places_of}
use Rattle.cics_tempstor.specs.Places.{AreInOrder}
use Rattle.cics_history.specs.State.{UnitsState}

-- the rows are in order, and their NEXT cursors are those that the history gives
pub record HavePlaces (s : UnitsState) (rows : Map Row) : Type 0 where
  pub in_order : AreInOrder rows
  pub places : places_of rows ≡ s.next

-- READQ TS ITEM(n) asks for the item n, READQ TS NEXT for the item after the NEXT cursor
abbrev pub number_asked : Map Row → Bytes → Option ℕ → ℕ
number_asked rows q None = next_place q rows + 1
number_asked rows q (Some n) = n
