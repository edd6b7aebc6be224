-- What is known of a run by turn, by task and by cell.
use Rattle.std.specs.Prelude.{ℕ, Bool, not, ◌||◌, unwrap_or, List, [], ◌∷◌, ◌++◌}
use Rattle.std.specs.declared.cmp.Ordering.{Ordering}
use Rattle.std.specs.declared.cmp.Ordering.TheVariants.{Less, Greater}
use Rattle.std.specs.Ordering.{nat_cmp, ordering_then}
use Rattle.std.specs.List.{fold}
use Rattle.std.specs.Map.{lookup}
use Rattle.std.specs.BTreeMap.{insert_entry, is_at}
use Rattle.std.specs.BTreeSet.{insert_key}
use Rattle.cics_names.specs.Keyed.{Bytes, bytes_cmp}
use Rattle.cics_run.specs.declared.reads.steps.Cell.{Cell}
use Rattle.cics_run.specs.declared.reads.steps.Cell.TheVariants.{Record, Item}
use Rattle.cics_run.specs.declared.reads.steps.Step.{Step}
use Rattle.cics_run.specs.declared.reads.past.Latest.{Latest}
use Rattle.cics_run.specs.declared.reads.past.Mark.{Mark}
use Rattle.cics_run.specs.Reads.Steps.{cells_of, is_lasting}
use Rattle.cics_run.specs.Reads.Runs.{Run, is_undone, fate_by}

-- what is kept of a last step
abbrev pub latest_of : Step → Latest
latest_of s = record { at = s.moment.at; turn = s.moment.turn; fate = fate_by s.act }

-- what is kept of a change
abbrev pub mark_of : Step → Mark
mark_of s = record { moment = s.moment; lasts = is_lasting s.act }

-- the last step of each turn
abbrev pub turns_of : Run → List (ℕ × Latest)
turns_of [] = []
turns_of (s ∷ run) = insert_entry nat_cmp (turns_of run) s.moment.turn (latest_of s)

-- the last step of each task
abbrev pub tasks_of : Run → List (Bytes × Latest)
tasks_of [] = []
tasks_of (s ∷ run) = insert_entry bytes_cmp (tasks_of run) s.moment.task (latest_of s)

-- the order of cells
abbrev pub cell_cmp : Cell → Cell → Ordering
cell_cmp (Record f k) (Record g l) = ordering_then (bytes_cmp f g) (bytes_cmp k l)
cell_cmp (Record f k) (Item q n) = Less
cell_cmp (Item q n) (Record f k) = Greater
cell_cmp (Item q n) (Item p m) = ordering_then (bytes_cmp q p) (nat_cmp n m)

-- the changes of a cell
abbrev pub marks_at : Cell → List (Cell × List Mark) → List Mark
marks_at x m = unwrap_or (lookup (is_at (cell_cmp x)) m) []

-- the changes by cell, with one more of a cell
abbrev pub put_mark : Mark → List (Cell × List Mark) → Cell → List (Cell × List Mark)
put_mark k m x = insert_entry cell_cmp m x (marks_at x m ++ k ∷ [])

-- the changes of each cell
abbrev pub marks_of : Run → List (Cell × List Mark)
marks_of [] = []
marks_of (s ∷ run) = fold (put_mark (mark_of s)) (marks_of run) (cells_of s)

-- whether a change stands
abbrev pub is_standing : Run → Mark → Bool
is_standing run m = m.lasts || not (is_undone m.moment.turn run)

-- the cells that were changed, in rising order
abbrev pub cells : Run → List Cell
cells [] = []
cells (s ∷ run) = fold (insert_key cell_cmp) (cells run) (cells_of s)
