-- The text of what is found.
use Rattle.std.specs.Prelude.{ℕ, Bool, true, false, not, ◌||◌, List, ◌++◌, codes}
use Rattle.std.specs.Fmt.{decimal}
use Rattle.std.specs.List.{filter, flat_map, list_any}
use Rattle.cics_script.specs.Texts.{bare}
use Rattle.cics_run.specs.declared.reads.steps.Moment.{Moment}
use Rattle.cics_run.specs.declared.reads.found.Pair.{Pair}
use Rattle.cics_run.specs.declared.reads.found.Fate.{Fate}
use Rattle.cics_run.specs.declared.reads.found.Fate.TheVariants.{Committed, BackedOut, Open}
use Rattle.cics_run.specs.declared.reads.found.Finding.{Finding}
use Rattle.cics_run.specs.declared.reads.found.Finding.TheVariants.{DirtyRead, LostUpdate, ReadSkew, WriteSkew}

-- the line and the task of a step
abbrev pub moment_text : Moment → List ℕ
moment_text p = codes "LINE " ++ (decimal p.line ++ (codes " " ++ bare p.task))

-- a look and a change that it saw
abbrev pub saw_text : Pair → List ℕ
saw_text p = moment_text p.look ++ (codes " SAW " ++ moment_text p.change)

-- a look and a change that it missed
abbrev pub missed_text : Pair → List ℕ
missed_text p = moment_text p.look ++ (codes " MISSED " ++ moment_text p.change)

-- how a turn ended
abbrev pub fate_text : Fate → List ℕ
fate_text Committed = codes " COMMITTED"
fate_text BackedOut = codes " BACKED OUT"
fate_text Open = codes " OPEN"

-- a dirty read
abbrev pub dirty_text : Pair → Fate → List ℕ
dirty_text p fate = codes "DIRTY READ " ++ (saw_text p ++ fate_text fate)

-- a step and the change that it replaced
abbrev pub replaced_text : Pair → Moment → List ℕ
replaced_text p d = moment_text d ++ (codes " REPLACED " ++ moment_text p.change)

-- a lost update
abbrev pub lost_text : Pair → Moment → List ℕ
lost_text p d = codes "LOST UPDATE " ++ (missed_text p ++ (codes " AND " ++ replaced_text p d))

-- what a turn missed and saw
abbrev pub read_text : Pair → Pair → List ℕ
read_text p q = codes "READ SKEW " ++ (missed_text p ++ (codes " AND " ++ saw_text q))

-- what two turns missed
abbrev pub write_text : Pair → Pair → List ℕ
write_text p q = codes "WRITE SKEW " ++ (missed_text p ++ (codes " AND " ++ missed_text q))

-- a finding
abbrev pub finding_text : Finding → List ℕ
finding_text (DirtyRead p fate) = dirty_text p fate
finding_text (LostUpdate p d) = lost_text p d
finding_text (ReadSkew p q) = read_text p q
finding_text (WriteSkew p q) = write_text p q

-- its line
abbrev pub finding_line : Finding → List ℕ
finding_line f = finding_text f ++ codes "\n"

-- whether a finding is amiss: its last word isn't COMMITTED
abbrev pub is_amiss : Finding → Bool
is_amiss (DirtyRead p Committed) = false
is_amiss f = true

-- whether one of them is
abbrev pub is_any_amiss : List Finding → Bool
is_any_amiss found = list_any is_amiss found

-- whether a finding is told: each is, or only what is amiss
abbrev pub is_told : Bool → Finding → Bool
is_told only_amiss f = not only_amiss || is_amiss f

-- the lines of those that are told
abbrev pub findings_text : Bool → List Finding → List ℕ
findings_text only_amiss found = flat_map finding_line (filter (is_told only_amiss) found)
