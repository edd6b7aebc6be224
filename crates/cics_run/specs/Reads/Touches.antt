-- The last step of a task at a cell, by what is kept of the task's steps.
use Rattle.std.specs.Prelude.{ℕ, Bool, false, ◌&&◌, nat_lt, if◌then◌else◌, Option, Some, None, is_none, slice_get, unwrap_or, ◌≡◌, length, List, [], ◌∷◌, ◌++◌}
use Rattle.std.specs.declared.cmp.Ordering.{Ordering}
use Rattle.std.specs.Ordering.{ordering_then}
use Rattle.std.specs.List.{fold}
use Rattle.std.specs.Map.{lookup}
use Rattle.std.specs.Option.{option_to_list}
use Rattle.std.specs.BTreeMap.{insert_entry, is_at}
use Rattle.cics_names.specs.Keyed.{Bytes, bytes_cmp}
use Rattle.cics_run.specs.declared.reads.steps.Act.{Act}
use Rattle.cics_run.specs.declared.reads.steps.Cell.{Cell}
use Rattle.cics_run.specs.declared.reads.steps.Moment.{Moment}
use Rattle.cics_run.specs.declared.reads.steps.Step.{Step}
use Rattle.cics_run.specs.declared.reads.past.Touched.{Touched}
use Rattle.cics_run.specs.Reads.Steps.{cells_of, looks_at, is_view, single}
use Rattle.cics_run.specs.Reads.Past.{cell_cmp}
use Rattle.cics_run.specs.Reads.Runs.{Run}

-- the order of tasks and cells
abbrev pub touched_cmp : Touched → Touched → Ordering
touched_cmp a b = ordering_then (bytes_cmp a.task b.task) (cell_cmp a.cell b.cell)

-- the cells that a step is at one by one: those that it changes, and the only one that it looks at
abbrev pub points : Step → List Cell
points s = cells_of s ++ option_to_list (single s.act)

-- what is kept of single cells, with a step at one more
abbrev pub put_point : Moment → List (Touched × ℕ) → Cell → List (Touched × ℕ)
put_point p m x = insert_entry touched_cmp m (record { task = p.task; cell = x }) p.at

-- the number of each task's last step at each cell
abbrev pub points_of : Run → List (Touched × ℕ)
points_of [] = []
points_of (s ∷ run) = fold (put_point s.moment) (points_of run) (points s)

-- whether it is a look at several keys
abbrev pub is_span : Act → Bool
is_span act = is_view act && is_none (single act)

-- the numbers of a task's looks
abbrev pub numbers_at : Bytes → List (Bytes × List ℕ) → List ℕ
numbers_at task m = unwrap_or (lookup (is_at (bytes_cmp task)) m) []

-- the looks by task, with one more of a task
abbrev pub put_number : Bytes → ℕ → List (Bytes × List ℕ) → List (Bytes × List ℕ)
put_number task n m = insert_entry bytes_cmp m task (numbers_at task m ++ n ∷ [])

-- the looks by task, with one more if it is at several keys
abbrev pub put_span : Step → List (Bytes × List ℕ) → List (Bytes × List ℕ)
put_span s m = if is_span s.act then put_number s.moment.task s.moment.at m else m

-- the numbers of each task's looks at several keys, in order
abbrev pub spans_of : Run → List (Bytes × List ℕ)
spans_of [] = []
spans_of (s ∷ run) = put_span s (spans_of run)

-- the step of a number
abbrev pub there : List Step → Option ℕ → Option Step
there steps None = None
there steps (Some n) = slice_get steps n

-- whether a step, if there is one, looks at a cell
abbrev pub covering : Cell → Option Step → Bool
covering x None = false
covering x (Some s) = looks_at s x

-- whether the step of a number looks at a cell
abbrev pub covers_at : List Step → Cell → ℕ → Bool
covers_at steps x n = covering x (slice_get steps n)

-- the greater of two numbers, if there are such
abbrev pub newer : Option ℕ → Option ℕ → Option ℕ
newer None b = b
newer (Some a) None = Some a
newer (Some a) (Some b) = Some (if nat_lt a b then b else a)

-- each step has the number of steps before it
abbrev pub IsNumbered : Run → Type 0
IsNumbered [] = Unit {0}
IsNumbered (s ∷ run) = (s.moment.at ≡ length run) × IsNumbered run
