-- What a strict run tells of what reads saw and missed.
use Rattle.std.specs.Prelude.{ℕ, false, if◌then◌else◌, List, ◌++◌, codes}
use Rattle.std.specs.Fmt.{decimal}
use Rattle.std.specs.List.{fold}
use Rattle.cics_script.specs.Texts.{bare}
use Rattle.cics_run.specs.Reads.Text.{is_amiss}
use Rattle.cics_run.specs.Messages.Remarks.{no_remarks, with_remark}
use Rattle.cics_run.specs.declared.reads.found.Fate.{Fate}
use Rattle.cics_run.specs.declared.reads.found.Fate.TheVariants.{Committed, BackedOut, Open}
use Rattle.cics_run.specs.declared.reads.found.Finding.{Finding}
use Rattle.cics_run.specs.declared.reads.found.Finding.TheVariants.{DirtyRead, LostUpdate, ReadSkew, WriteSkew}
use Rattle.cics_run.specs.declared.reads.found.Pair.{Pair}
use Rattle.cics_run.specs.declared.reads.steps.Moment.{Moment}
use Rattle.cics_run.specs.declared.messages.remarks.Remarks.{Remarks}

-- the look of a finding, and the change that it saw or missed
abbrev pub pair_of : Finding → Pair
pair_of (DirtyRead pair fate) = pair
pair_of (LostUpdate missed by) = missed
pair_of (ReadSkew missed seen) = missed
pair_of (WriteSkew missed other) = missed

-- a step
abbrev pub step_text : Moment → List ℕ
step_text p = codes "line " ++ (decimal p.line ++ (codes " of " ++ bare p.task))

-- the name of a finding, and what the task of its look did
abbrev pub head_text : List ℕ → Pair → List ℕ → List ℕ
head_text name p did = name ++ (bare p.look.task ++ (did ++ step_text p.change))

-- what another step did
abbrev pub rest_text : Moment → List ℕ → Moment → List ℕ
rest_text step did change = codes ", and " ++ (step_text step ++ (did ++ step_text change))

-- how the turn of a change that was seen ended
abbrev pub fate_words : Fate → List ℕ
fate_words Committed = codes ", which was committed later"
fate_words BackedOut = codes ", which was backed out"
fate_words Open = codes ", which is still open"

-- a dirty read
abbrev pub dirty_text : Pair → Fate → List ℕ
dirty_text p fate = head_text (codes "DIRTY READ: ") p (codes " saw ") ++ fate_words fate

-- a lost update
abbrev pub lost_text : Pair → Moment → List ℕ
lost_text p by = head_text (codes "LOST UPDATE: ") p (codes " missed ") ++ rest_text by (codes " replaced ") p.change

-- what a turn missed and saw
abbrev pub read_text : Pair → Pair → List ℕ
read_text p q = head_text (codes "READ SKEW: ") p (codes " missed ") ++ rest_text q.look (codes " saw ") q.change

-- what two turns missed
abbrev pub write_text : Pair → Pair → List ℕ
write_text p q = head_text (codes "WRITE SKEW: ") p (codes " missed ") ++ rest_text q.look (codes " missed ") q.change

-- a finding
abbrev pub finding_text : Finding → List ℕ
finding_text (DirtyRead p fate) = dirty_text p fate
finding_text (LostUpdate p by) = lost_text p by
finding_text (ReadSkew p q) = read_text p q
finding_text (WriteSkew p q) = write_text p q

-- the remarks with one on a finding, if that is amiss
abbrev pub with_finding : Remarks → Finding → Remarks
with_finding r f = if is_amiss f then with_remark r (record { number = (pair_of f).look.line; text = finding_text f }) else r

-- the remarks on all that is amiss
abbrev pub found_remarks : List Finding → Remarks
found_remarks found = fold with_finding (no_remarks (record { strict = false; why = false })) found
