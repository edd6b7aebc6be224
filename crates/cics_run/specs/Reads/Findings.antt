-- Dirty reads and lost updates, step by step.
use Rattle.std.specs.Prelude.{ℕ, Bool, not, ◌&&◌, ◌||◌, nat_lt, if◌then◌else◌, Option, Some, None, option_map, List, [], ◌∷◌, ◌++◌, map}
use Rattle.std.specs.List.{filter, flat_map, fold}
use Rattle.std.specs.Map.{values_of}
use Rattle.std.specs.BTreeMap.{insert_entry}
use Rattle.std.specs.Ordering.{nat_cmp}
use Rattle.cics_names.specs.Keyed.{is_same}
use Rattle.cics_run.specs.declared.reads.steps.Cell.{Cell}
use Rattle.cics_run.specs.declared.reads.steps.Step.{Step}
use Rattle.cics_run.specs.declared.reads.found.Pair.{Pair}
use Rattle.cics_run.specs.declared.reads.found.Seen.{Seen}
use Rattle.cics_run.specs.declared.reads.found.Lost.{Lost}
use Rattle.cics_run.specs.Reads.Steps.{looks_at, cells_of, is_view, is_adding, is_lasting}
use Rattle.cics_run.specs.declared.reads.past.Mark.{Mark}
use Rattle.cics_run.specs.Reads.Past.{mark_of, cells}
use Rattle.cics_run.specs.Reads.Runs.{Run, is_open, is_undone, last, near}

-- a look and a change that it saw
abbrev pub seen : Step → Mark → Seen
seen r c = record { pair = record { look = r.moment; change = c.moment }; lasts = c.lasts }

-- what a look saw at a cell whose last change this is: a change of another task
abbrev pub of_another : Step → Option Mark → List Seen
of_another r None = []
of_another r (Some c) = if is_same r.moment.task c.moment.task then [] else seen r c ∷ []

-- what a look behind a run saw at a cell: the last change that stands, if another task made it
abbrev pub seen_in : Run → Step → Cell → List Seen
seen_in run r x = of_another r (option_map mark_of (last x run))

-- what a look saw, by the numbers of the changes, with one more
abbrev pub with_seen : List (ℕ × Seen) → Seen → List (ℕ × Seen)
with_seen found s = insert_entry nat_cmp found s.pair.change.at s

-- what a step behind a run saw at these cells, each change once, in order of the changes
abbrev pub seen_among : Run → Step → List Cell → List Seen
seen_among run r xs = values_of (fold with_seen [] (flat_map (seen_in run r) xs))

-- what a step behind a run saw if it is a look
abbrev pub seen_at : Run → Step → List Seen
seen_at run r = if is_view r.act then seen_among run r (filter (looks_at r) (cells run)) else []

-- what each look saw, in order of the looks and then of the changes
abbrev pub all_seen : Run → List Seen
all_seen [] = []
all_seen (s ∷ run) = all_seen run ++ seen_at run s

-- whether what a look saw is open, and undone if it is backed out
abbrev pub is_dirty : Run → Seen → Bool
is_dirty run s = not s.lasts && is_open s.pair.change.turn run

-- the dirty reads among what a look behind a run saw
abbrev pub dirty_among : Run → List Seen → List Pair
dirty_among run found = map (λ s. s.pair) (filter (is_dirty run) found)

-- the dirty reads of a look behind a run
abbrev pub dirty_at : Run → Step → List Pair
dirty_at run r = dirty_among run (seen_at run r)

-- all dirty reads, in order of the looks and then of the changes
abbrev pub dirty_reads : Run → List Pair
dirty_reads [] = []
dirty_reads (s ∷ run) = dirty_reads run ++ dirty_at run s

-- what a change replaces at a cell, if its task's last step there is a look before the last change
abbrev pub replaced : Step → Option Step → Option Mark → List Lost
replaced d (Some r) (Some c) =
    if is_view r.act && nat_lt r.moment.at c.moment.at
    then record { missed = record { look = r.moment; change = c.moment }; by = d.moment; lasts = is_lasting d.act } ∷ []
    else []
replaced d r c = []

-- what a change behind a run replaces at a cell, without knowing of it
abbrev pub replaced_at : Run → Step → Cell → List Lost
replaced_at run d x = replaced d (near d.moment.task x run) (option_map mark_of (last x run))

-- what it replaces so, in the order of its cells
abbrev pub lost_at : Run → Step → List Lost
lost_at run d = if is_adding d.act then [] else flat_map (replaced_at run d) (cells_of d)

-- each change that replaces another one without knowing of it, in order of the changes that replace
abbrev pub all_lost : Run → List Lost
all_lost [] = []
all_lost (s ∷ run) = all_lost run ++ lost_at run s

-- whether a change that replaced another one stands
abbrev pub is_kept : Run → Lost → Bool
is_kept run l = l.lasts || not (is_undone l.by.turn run)
