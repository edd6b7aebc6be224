-- What a run of a script writes.
use Rattle.std.specs.Prelude.{◌≡◌, ℕ, Bool, true, false, ◌||◌, ◌+◌, ◌≤◌, ◌⊎◌, if◌then◌else◌, List, [], ◌++◌, length, take, Option, Some, None, is_some, Result, Ok, Err}
use Rattle.std.specs.List.{fold}
use Rattle.std.specs.Io.KnownBytes.{Appends, Consumes, IsAtEnd}
use Rattle.cics_run.specs.Session.Lines.{completed, all_lines}
use Rattle.cics_run.specs.Stage.Amiss.{any_amiss}
use Rattle.cics_run.specs.Stage.Journal.{script_line, text_of}
use Rattle.cics_run.specs.Reads.Watched.{Watched, nothing_watched, reads_text, are_amiss}
use Rattle.cics_run.specs.Stage.Printed.{watched_on}
use Rattle.cics_run.specs.Stage.Stages.{step, Step, initial_stage, listing_at, replay_at}
use Rattle.cics_run.specs.Session.Printing.{AppendsFront}
use Rattle.cics_run.specs.Session.Streams.{Tells}
use Rattle.cics_run.specs.Messages.Remarks.{no_remarks, remarked}
use Rattle.cics_run.specs.declared.session.running.TheConstants.{CHUNK}
use Rattle.cics_run.specs.declared.stage.notices.Scope.{Scope}
use Rattle.cics_run.specs.declared.stage.stage.Fault.{Fault}
use Rattle.cics_run.specs.declared.stage.stage.Stage.{Stage}
use Rattle.cics_run.specs.declared.session.running.Status.{Status}
use Rattle.cics_run.specs.declared.session.running.Status.TheVariants as status
use Rattle.cics_run.specs.declared.session.running.RunFault.{RunFault}
use Rattle.cics_run.specs.declared.session.running.RunFault.TheVariants as faults
use Rattle.cics_run.specs.declared.session.running.Options.{Options}
use Rattle.cics_run.specs.declared.messages.remarks.Remarks.{Remarks}

-- The state after some lines: the stage, their number, the last of them, its fault, if any. It
-- tells whether an event was amiss, and what was noted of reads, if that is wanted. The journal is
-- there twice, once with each line in front of its journal lines. The remarks depend on which
-- events are told.
pub record Played : Type 0 where
  pub stage : Stage
  pub number : ℕ
  pub line : List ℕ
  pub journal : List ℕ
  pub shown : List ℕ
  pub is_amiss : Bool
  pub told : Scope → Remarks
  pub watched : Bool → Option Watched
  pub fault : Option Fault

-- whether the last line was a fault
abbrev pub has_fault : Played → Bool
has_fault p = is_some p.fault

-- A line was run: its journal lines stand behind the journal so far, and the line itself in front
-- of them. Lines are numbered from 1.
abbrev pub stepped : Played → List ℕ → Step → Played
stepped p line s =
    record {
      stage = s.stage;
      number = p.number + 1;
      line = line;
      journal = p.journal ++ text_of (p.number + 1) s;
      shown = p.shown ++ (script_line line ++ text_of (p.number + 1) s);
      is_amiss = p.is_amiss || any_amiss s.events;
      told = λ scope. remarked (p.told scope) (p.number + 1) line s;
      watched = λ reads. watched_on (p.number + 1) (p.watched reads) s;
      fault = s.fault;
    }

-- one line more; behind a fault no line counts
abbrev pub next : Played → List ℕ → Played
next p line = if has_fault p then p else stepped p line (step p.stage line)

-- how many bytes a script may have
abbrev pub most_bytes : ℕ
most_bytes = 16777216

-- before the first line nothing is noted of reads
abbrev pub initially_watched : Bool → Option Watched
initially_watched reads = if reads then Some nothing_watched else None

-- before the first line
abbrev pub start : Played
start = record { stage = initial_stage; number = 0; line = []; journal = []; shown = []; is_amiss = false; told = no_remarks; watched = initially_watched; fault = None }

-- some lines, in their order
abbrev pub play : List (List ℕ) → Played
play lines = fold next start lines

-- what a run prints: whether each line of the script comes in front of its journal lines; the text
-- behind the last event, from the stage at the end and what was noted of reads, if that is wanted;
-- and which events it tells of then
pub record Form : Type 0 where
  pub with_script : Bool
  pub reads : Bool
  pub at_end : Stage → Option Watched → List ℕ
  pub scope : Scope

-- a text, and behind it what reads saw and missed, if that is wanted
abbrev pub with_reads : List ℕ → Option Watched → List ℕ
with_reads text None = text
with_reads text (Some w) = text ++ reads_text w

-- the text behind the last event: the listing, unless it is left out, then the replay, if wanted
abbrev pub listed : Options → Stage → List ℕ
listed options stage = (if options.no_list then [] else listing_at stage) ++ (if options.replay then replay_at stage else [])

-- whether something is amiss that reads saw or missed, if that is wanted
abbrev pub are_reads_amiss : Option Watched → Bool
are_reads_amiss None = false
are_reads_amiss (Some w) = are_amiss w

-- no line of the script is printed, and of events only those are told that any run tells
abbrev pub plain : Options → Form
plain options = record { with_script = false; reads = false; at_end = λ stage watched. with_reads (listed options stage) watched; scope = record { strict = false; why = false } }

-- the journal of some lines, with the script if that is printed
abbrev pub journal_of : Form → Played → List ℕ
journal_of form p = if form.with_script then p.shown else p.journal

-- the journal of the lines that these bytes complete
abbrev pub journal : Form → List ℕ → List ℕ
journal form bytes = journal_of form (play (completed bytes))

-- nothing stands behind a fault
abbrev pub whole : Form → Played → List ℕ
whole form p = if has_fault p then journal_of form p else journal_of form p ++ form.at_end p.stage (p.watched form.reads)

-- what a run over a whole script writes
abbrev pub output : Form → List ℕ → List ℕ
output form bytes = whole form (play (all_lines bytes))

-- whether a fault is printed by a run over a whole script
abbrev pub is_faulty : List ℕ → Bool
is_faulty bytes = has_fault (play (all_lines bytes))

-- whether one of the lines that these bytes complete is a fault
abbrev pub is_stopped : List ℕ → Bool
is_stopped bytes = has_fault (play (completed bytes))

-- A first part is written of the journal of the lines that these bytes complete; or at the input's
-- end, where the last line may lack its LF, of the whole output.
abbrev pub WritesFront : Form → List ℕ → Option (List ℕ) → Option (List ℕ) → Option (List ℕ) → Type 0
WritesFront form bytes rest old new = AppendsFront old new (journal form bytes) ⊎ (IsAtEnd rest × AppendsFront old new (output form bytes))

-- What a run has done at each answer, where bytes are the bytes that it read:
-- - Done: the input is at its end, no fault was printed, and the whole output is written;
-- - LineFault: a fault was printed, of a complete line, or at the input's end of the last one; the
--   output is written up to its end, the fault;
-- - InputTooLong: one byte more came than a script may have; none of the lines that the bytes
--   before it complete is a fault, and their journal is written;
-- - ReadFault: none of the lines that the bytes complete is a fault, and their journal is written;
-- - WriteFault and NoMemory: a first part is written.
abbrev pub Answers : Form → List ℕ → Option (List ℕ) → Option (List ℕ) → Option (List ℕ) → Result Status RunFault → Type 0
Answers form bytes rest old new (Ok status.Done) = Appends old new (output form bytes) × (is_faulty bytes ≡ false) × IsAtEnd rest
Answers form bytes rest old new (Ok status.LineFault) =
    Appends old new (output form bytes) × (is_faulty bytes ≡ true) × ((is_stopped bytes ≡ true) ⊎ IsAtEnd rest)
Answers form bytes rest old new (Err faults.InputTooLong) =
    (length bytes ≡ most_bytes + 1) × (is_stopped (take most_bytes bytes) ≡ false) × Appends old new (journal form (take most_bytes bytes))
Answers form bytes rest old new (Err faults.ReadFault) = (is_stopped bytes ≡ false) × Appends old new (journal form bytes)
Answers form bytes rest old new (Err faults.WriteFault) = WritesFront form bytes rest old new
Answers form bytes rest old new (Err faults.NoMemory) = WritesFront form bytes rest old new

-- how many bytes a run reads at most: as many as a script may have, and one more if it finds that
-- there are more
abbrev pub most : Result Status RunFault → ℕ
most (Err faults.InputTooLong) = most_bytes + 1
most _ = most_bytes

-- Nothing is read behind a fault: no line that is complete without the last read is a fault. The
-- last read gave no more than is asked for at once.
abbrev pub ReadsOn : List ℕ → Option (List ℕ) → Type 0
ReadsOn bytes told = (front : List ℕ) × (last : List ℕ) × (bytes ≡ front ++ last) × (length last ≤ CHUNK) × (is_stopped front ≡ false) × Tells told last

-- Some bytes were read, not too many and nothing behind a fault, and what they call for was
-- written. What the last read gave may be known.
abbrev pub RunsOver : Form → Option (List ℕ) → Option (List ℕ) → Option (List ℕ) → Option (List ℕ) → Option (List ℕ) → Result Status RunFault → Type 0
RunsOver form input rest last old new result =
    (bytes : List ℕ) × Consumes input rest bytes × (length bytes ≤ most result) × ReadsOn bytes last × Answers form bytes rest old new result

-- how often a run reads at most: each read but the last gives a byte
abbrev pub most_reads : ℕ
most_reads = most_bytes + 1

-- how many reads failed, if that is why a run stopped
abbrev pub read_failures : RunFault → ℕ
read_failures faults.ReadFault = 1
read_failures _ = 0

-- how many writes failed, if that is why a run stopped
abbrev pub write_failures : RunFault → ℕ
write_failures faults.WriteFault = 1
write_failures _ = 0
