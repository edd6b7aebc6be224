-- Read skews and write skews: what two turns saw and missed of each other.
use Rattle.std.specs.Prelude.{ℕ, Bool, true, false, not, ◌&&◌, ◌||◌, ◌==◌, nat_lt, if◌then◌else◌, Option, Some, None, List, [], ◌∷◌, ◌++◌, map, reverse, take, drop, length, ◌+◌, ◌-◌, min, unwrap_or}
use Rattle.std.specs.List.{list_any, find, filter, flat_map, fold, prefix_len}
use Rattle.std.specs.Map.{lookup, values_of}
use Rattle.std.specs.BTreeMap.{insert_entry, is_at}
use Rattle.std.specs.declared.cmp.Ordering.{Ordering}
use Rattle.std.specs.Ordering.{nat_cmp, ordering_then}
use Rattle.cics_names.specs.Keyed.{Bytes, is_same}
use Rattle.cics_run.specs.declared.reads.steps.Cell.{Cell}
use Rattle.cics_run.specs.declared.reads.steps.Moment.{Moment}
use Rattle.cics_run.specs.declared.reads.steps.Step.{Step}
use Rattle.cics_run.specs.declared.reads.found.Pair.{Pair}
use Rattle.cics_run.specs.declared.reads.found.Seen.{Seen}
use Rattle.cics_run.specs.declared.reads.found.Turn.{Turn}
use Rattle.cics_run.specs.declared.reads.found.Turns.{Turns}
use Rattle.cics_run.specs.declared.reads.skews.Sides.{Sides}
use Rattle.cics_run.specs.declared.reads.found.Finding.{Finding}
use Rattle.cics_run.specs.declared.reads.found.Finding.TheVariants.{ReadSkew, WriteSkew}
use Rattle.cics_run.specs.Reads.Steps.{looks_at, changes, cells_of}
use Rattle.cics_run.specs.Reads.Runs.{Run, is_in, last_in, is_undone, stands}
use Rattle.cics_run.specs.Reads.Findings.{all_seen}

-- the number of a step, 0 without one
abbrev pub number_of : Option Step → ℕ
number_of None = 0
number_of (Some s) = s.moment.at

-- how many steps there are from one to another one
abbrev pub count_from : Run → ℕ → ℕ → ℕ
count_from run first last = min (length run) (last - first) + 1

-- a turn by its number, with the number of its last step
abbrev pub turn_of : Run → Bytes → ℕ → ℕ → Turn
turn_of run task number last = record { task = task; number = number; last = last; count = count_from run number last }

-- the turn of a step
abbrev pub turn_at : Run → Moment → Turn
turn_at run p = turn_of run p.task p.turn (number_of (last_in p.turn run))

-- whether a step is the first one of its turn
abbrev pub begins : Step → Bool
begins s = s.moment.turn == s.moment.at

-- the turns
abbrev pub turns : Run → List Turn
turns run = map (λ s. turn_at run s.moment) (filter begins (reverse run))

-- whether a turn begins before the last step of another one
abbrev pub begins_within : Turn → Turn → Bool
begins_within one other = nat_lt other.number one.last

-- those of the turns behind one that begin before its last step
abbrev pub overlapping : Turn → List Turn → List Turn
overlapping one behind = take (prefix_len (begins_within one) behind) behind

-- the steps from the first one of a turn to its last one
abbrev pub within : Run → Turn → List Step
within run t = take t.count (drop t.number (reverse run))

-- a look and a change
abbrev pub pair : Step → Step → Pair
pair r c = record { look = r.moment; change = c.moment }

-- whether a step is of a turn, and comes behind a look
abbrev pub is_behind : Turn → Step → Step → Bool
is_behind t r c = is_in t.number c && nat_lt r.moment.at c.moment.at

-- whether a turn has a change of a cell that stands
abbrev pub is_changed_in : Run → Turn → Cell → Bool
is_changed_in run t x = list_any (λ d. is_in t.number d && changes d x && stands run d) (within run t)

-- whether a cell counts: either each does, or only those that the reading turn left alone
abbrev pub counts : Run → Turns → Cell → Bool
counts run t x = not (t.alone && is_changed_in run t.reader x)

-- whether a look is at a cell of a change that counts
abbrev pub meets : Run → Turns → Step → Step → Bool
meets run t r c = list_any (λ x. looks_at r x && counts run t x) (cells_of c)

-- whether a look missed a change of a turn, which stands
abbrev pub missed : Run → Turns → Step → Step → Bool
missed run t r c = is_behind t.writer r c && meets run t r c && stands run c

-- a look and the first change that is related to it, if there is one, else what is first behind it
abbrev pub first_or : Step → Option Step → Option Pair → Option Pair
first_or r (Some c) others = Some (pair r c)
first_or r None others = others

-- the first change of a turn that a look of the other turn missed
abbrev pub missed_by : Run → Turns → Step → Option Step
missed_by run t r = if is_in t.reader.number r then find (missed run t r) (within run t.writer) else None

-- the first pair of a look and what it missed, by the look and then the change
abbrev pub first_pair : (Step → Option Step) → List Step → Option Pair
first_pair missing [] = None
first_pair missing (r ∷ looks) = first_or r (missing r) (first_pair missing looks)

-- the first change of one turn that another turn missed
abbrev pub first_missed : Run → Turns → Option Pair
first_missed run t = first_pair (missed_by run t) (within run t.reader)

-- whether what a look saw stands
abbrev pub is_standing : Run → Seen → Bool
is_standing run s = s.lasts || not (is_undone s.pair.change.turn run)

-- the turns of a look and of the change that it saw
abbrev pub turns_seen : Seen → Sides
turns_seen s = record { reader = s.pair.look.turn; writer = s.pair.change.turn }

-- their order
abbrev pub sides_cmp : Sides → Sides → Ordering
sides_cmp a b = ordering_then (nat_cmp a.reader b.reader) (nat_cmp a.writer b.writer)

-- the first of each two turns, with one more if it is that and stands
abbrev pub with_first : Run → List (Sides × Seen) → Seen → List (Sides × Seen)
with_first run firsts s =
    if is_standing run s
    then insert_entry sides_cmp firsts (turns_seen s) (unwrap_or (lookup (is_at (sides_cmp (turns_seen s))) firsts) s)
    else firsts

-- of each two turns the first change of one that the other one saw
abbrev pub first_seen : Run → List Seen → List Seen
first_seen run found = values_of (fold (with_first run) [] found)

-- what a turn missed, if it did, beside what it saw
abbrev pub read_skew_of : Option Pair → Seen → List Finding
read_skew_of (Some p) s = ReadSkew p s.pair ∷ []
read_skew_of None s = []

-- two turns, of which one saw a change of the other one
abbrev pub reading : Run → Seen → Turns
reading run s = record { reader = turn_at run s.pair.look; writer = turn_at run s.pair.change; alone = false }

-- what a turn saw first of another one, with what it missed first of that
abbrev pub read_skew : Run → Seen → List Finding
read_skew run s = read_skew_of (first_missed run (reading run s)) s

-- two turns, of which one writes what the other one looks at and leaves alone
abbrev pub only_reading : Turn → Turn → Turns
only_reading one other = record { reader = one; writer = other; alone = true }

-- both at once, told with the smaller line first
abbrev pub write_skew_of : Option Pair → Option Pair → List Finding
write_skew_of (Some p) (Some q) = (if nat_lt p.look.line q.look.line then WriteSkew p q else WriteSkew q p) ∷ []
write_skew_of p q = []

-- what two turns of two tasks missed of each other
abbrev pub write_skew : Run → Turn → Turn → List Finding
write_skew run one other =
    if is_same one.task other.task then []
    else write_skew_of (first_missed run (only_reading one other)) (first_missed run (only_reading other one))

-- what is found of each two turns that overlap: else neither can miss a change of the other one and
-- be missed by it
abbrev pub of_turns : (Turn → Turn → List Finding) → List Turn → List Finding
of_turns found [] = []
of_turns found (t ∷ ts) = flat_map (found t) (overlapping t ts) ++ of_turns found ts

-- all read skews, by what was seen
abbrev pub read_skews : Run → List Finding
read_skews run = flat_map (read_skew run) (first_seen run (all_seen run))

-- all write skews, by the turns
abbrev pub write_skews : Run → List Finding
write_skews run = of_turns (write_skew run) (turns run)
