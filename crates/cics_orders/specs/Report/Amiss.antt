-- What is amiss in a report: a deadlock, or an ending that no serial order leads to.
use Rattle.std.specs.Prelude.{ℕ, ◌+◌, Bool, ◌==◌, ◌&&◌, ◌||◌, nat_lt, if◌then◌else◌, length, Option, Some, None, is_some, List, [], ◌∷◌}
use Rattle.cics_orders.specs.Space.Endings.{Reported}
use Rattle.cics_orders.specs.declared.report.amiss.AmissEnding.{AmissEnding}
use Rattle.cics_orders.specs.declared.search.exploring.Report.{Report}
use Rattle.cics_orders.specs.Report.Parts.{mark_in}

-- an ending is a deadlock: it has a mark
abbrev pub is_deadlock : Reported → Bool
is_deadlock e = nat_lt 0 (length (mark_in e.ending))

-- An ending is a deadlock, or no serial order leads to it. If serial orders were left out, the
-- latter isn't known.
abbrev pub is_ending_amiss : Bool → Reported → Bool
is_ending_amiss has_all_serial e = is_deadlock e || (has_all_serial && e.serial == 0)

-- the first ending that is amiss, numbered from a number on
abbrev pub amiss_from : Bool → ℕ → List Reported → Option AmissEnding
amiss_from has_all_serial number [] = None
amiss_from has_all_serial number (e ∷ es) =
    if is_ending_amiss has_all_serial e then Some (record { number = number; is_deadlock = is_deadlock e }) else amiss_from has_all_serial (number + 1) es

-- the first of a report, numbered from 1 on
abbrev pub first_amiss : Report → Option AmissEnding
first_amiss r = amiss_from r.has_all_serial 1 r.endings

-- an ending of a report is amiss
abbrev pub is_amiss : Report → Bool
is_amiss r = is_some (first_amiss r)
