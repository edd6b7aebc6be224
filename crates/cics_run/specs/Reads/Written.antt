-- All that is found in a run, in order, and its text.
use Rattle.std.specs.Prelude.{ℕ, List, [], ◌++◌, map}
use Rattle.std.specs.List.{filter, fold}
use Rattle.std.specs.Map.{values_of}
use Rattle.std.specs.BTreeMap.{insert_entry}
use Rattle.std.specs.declared.cmp.Ordering.{Ordering}
use Rattle.std.specs.Ordering.{nat_cmp, ordering_then}
use Rattle.cics_run.specs.declared.reads.found.Pair.{Pair}
use Rattle.cics_run.specs.declared.reads.found.Lost.{Lost}
use Rattle.cics_run.specs.declared.reads.ordering.Rank.{Rank}
use Rattle.cics_run.specs.declared.reads.found.Finding.{Finding}
use Rattle.cics_run.specs.declared.reads.found.Finding.TheVariants.{DirtyRead, LostUpdate, ReadSkew, WriteSkew}
use Rattle.cics_run.specs.Reads.Runs.{Run, fate_of}
use Rattle.cics_run.specs.Reads.Findings.{dirty_reads, all_lost, is_kept}
use Rattle.cics_run.specs.Reads.Skews.{read_skews, write_skews}

-- a dirty read, with the fate of the change that it saw
abbrev pub dirty : Run → Pair → Finding
dirty run p = DirtyRead p (fate_of p.change.turn run)

-- a lost update
abbrev pub lost : Lost → Finding
lost l = LostUpdate l.missed l.by

-- the look and the change that it missed, or in a dirty read saw
abbrev pub pair_of : Finding → Pair
pair_of (DirtyRead p fate) = p
pair_of (LostUpdate p d) = p
pair_of (ReadSkew p q) = p
pair_of (WriteSkew p q) = p

-- the number of the step that replaced a change, if there is one
abbrev pub by_of : Finding → ℕ
by_of (DirtyRead p fate) = 0
by_of (LostUpdate p d) = d.at
by_of (ReadSkew p q) = 0
by_of (WriteSkew p q) = 0

-- where a finding stands among those of its name: by its look, then by the change that it missed,
-- then by the change that replaced that
abbrev pub rank_of : Finding → Rank
rank_of f = record { look = (pair_of f).look.at; change = (pair_of f).change.at; by = by_of f }

-- the order of these
abbrev pub rank_cmp : Rank → Rank → Ordering
rank_cmp a b = ordering_then (nat_cmp a.look b.look) (ordering_then (nat_cmp a.change b.change) (nat_cmp a.by b.by))

-- findings by where they stand, with one more
abbrev pub with_finding : List (Rank × Finding) → Finding → List (Rank × Finding)
with_finding found f = insert_entry rank_cmp found (rank_of f) f

-- findings in order, each once
abbrev pub in_order : List Finding → List Finding
in_order found = values_of (fold with_finding [] found)

-- all that is found in a run: by the names, and those of one name in order
abbrev pub findings : Run → List Finding
findings run =
    map (dirty run) (dirty_reads run)
    ++ in_order (map lost (filter (is_kept run) (all_lost run)))
    ++ in_order (read_skews run)
    ++ in_order (write_skews run)
