-- The page of a script.
use Rattle.std.specs.Prelude.{◌≡◌, ℕ, Bool, true, false, ◌+◌, ◌-◌, ◌<◌, ◌≤◌, if◌then◌else◌, Option, None, Some, Result, Ok, Err, ⊤, List, [], ◌∷◌, ◌++◌, length, map, take}
use Rattle.std.specs.List.{flat_map}
use Rattle.std.specs.Io.KnownBytes.{Appends, Consumes, IsAtEnd}
use Rattle.cics_run.specs.Session.Lines.{all_lines}
use Rattle.cics_run.specs.Stage.Stages.{step, listing_at}
use Rattle.cics_run.specs.Session.Running.{Played, play, has_fault, next, start, is_faulty, most_bytes as most_script}
use Rattle.cics_run.specs.Session.Standing.{Keeps}
use Rattle.cics_run.specs.Session.Printing.{AppendsFront}
use Rattle.cics_run.specs.declared.session.running.Status.{Status}
use Rattle.cics_run.specs.declared.session.running.Status.TheVariants as status
use Rattle.cics_run.specs.declared.session.running.RunFault.{RunFault}
use Rattle.cics_run.specs.declared.session.running.RunFault.TheVariants as faults
use Rattle.cics_run.specs.declared.session.session.Session.{Session}
use Rattle.cics_run.specs.declared.stage.stage.Stage.{Stage}
use Rattle.cics_picture.specs.Draw.Pictures.{outcomes_of}
use Rattle.cics_picture.specs.Draw.Titles.{title_of}
use Rattle.cics_picture.specs.Xml.Documents.{Document}
use Rattle.cics_picture.specs.Xml.Reading.{document_of}
use Rattle.cics_picture.specs.declared.page.notes.Note.{Note}
use Rattle.cics_picture.specs.declared.page.lines.Unwritten.{Unwritten}
use Rattle.cics_picture.specs.declared.page.lines.Unwritten.TheVariants as unwrittens
use Rattle.cics_picture.specs.declared.page.written.NoPage.{NoPage}
use Rattle.cics_picture.specs.declared.page.written.NoPage.TheVariants.{Stopped, TooManyEvents, TooLong}
use Rattle.cics_picture.specs.Page.Definitions.{defined_at}
use Rattle.cics_picture.specs.declared.page.lines.Sheet.{Sheet}
use Rattle.cics_picture.specs.Page.Lines.{PageLine, page_text, lines_text, between, head, tail}
use Rattle.cics_picture.specs.Page.Recording.{Told, told_by, steps_of}
use Rattle.cics_picture.specs.Page.Sheets.{most_steps, most_bytes, HasLine}

-- A line that was run, without the notes of its steps.
pub record PlainLine : Type 0 where
  pub line : List ℕ
  pub steps : List Told
  pub defined : Option Note

-- what a line of a page has beside the notes of its steps
abbrev pub plain : PageLine → PlainLine
plain l = record { line = l.line; steps = map told_by l.steps; defined = l.defined }

-- a line without steps may define something
abbrev pub defined_if : List Told → Stage → List ℕ → Option Note
defined_if [] stage line = defined_at stage line
defined_if (t ∷ steps) stage line = None

-- a line, its steps, and what it defines
abbrev pub plain_line : ℕ → Stage → List ℕ → PlainLine
plain_line number stage line =
    let s = step stage line in
    let steps = steps_of number s in
    record { line = line; steps = steps; defined = defined_if steps s.stage line }

-- what a page has of these lines, from where a run stands; after a fault no line counts
abbrev pub plain_from : Played → List (List ℕ) → List PlainLine
plain_from p [] = []
plain_from p (line ∷ lines) =
    if has_fault p then [] else plain_line (p.number + 1) p.stage line ∷ plain_from (next p line) lines

-- what a page has of the lines of a script
abbrev pub plain_lines : List ℕ → List PlainLine
plain_lines script = plain_from start (all_lines script)

-- the steps of lines, in order
abbrev pub all_steps : List PlainLine → List Told
all_steps lines = flat_map (λ l. l.steps) lines

-- the listing without its last LF
abbrev pub listing_of : Stage → List ℕ
listing_of stage = take (length (listing_at stage) - 1) (listing_at stage)

-- the listing at the end of a run, if no line was a fault
abbrev pub listing_unless : Bool → Stage → Option (List ℕ)
listing_unless is_faulty stage = if is_faulty then None else Some (listing_of stage)

-- the listing at the end of the lines, unless one of them has a fault
abbrev pub last_listing : Played → Option (List ℕ)
last_listing p = listing_unless (has_fault p) p.stage

-- what a page has of the line that a session runs next
abbrev pub next_plain : Session → List ℕ → PlainLine
next_plain s line = plain_line (s.number + 1) s.stage line

-- A line that a session runs was put on a sheet, with some notes in its steps.
pub record PutsLine (s : Session) (line : List ℕ) (before after : Sheet) : Type 0 where
  pub put : PageLine
  pub plain_one : plain put ≡ next_plain s line
  pub has : HasLine before after.text.items put
  pub steps : after.steps ≡ before.steps + length put.steps
  pub last : after.last ≡ before.last

-- With such a line, and some notes in its steps, a sheet is too long.
pub record WouldBeTooLong (s : Session) (line : List ℕ) (before : Sheet) : Type 0 where
  pub put : PageLine
  pub plain_one : plain put ≡ next_plain s line
  pub long : (text : List ℕ) × HasLine before text put × (most_bytes < length text)

-- A sheet has the lines of a script, with some notes in their steps.
pub record HasLines (script : List ℕ) (sheet : Sheet) : Type 0 where
  pub lines : List PageLine
  pub plain_ones : map plain lines ≡ plain_lines script
  pub has : sheet.text.items ≡ lines_text (outcomes_of script) 1 lines

-- A text is a page of a script. Its title, lines, steps and listing are stated, and what lines
-- define. The notes of steps may be any.
pub record IsPage (script text : List ℕ) : Type 0 where
  pub lines : List PageLine
  pub plain_ones : map plain lines ≡ plain_lines script
  pub is : text ≡ page_text (outcomes_of script) (title_of script) lines (last_listing (play (all_lines script)))

-- a page of a script was put at the end of a text
abbrev pub PutsPage : List ℕ → List ℕ → List ℕ → Type 0
PutsPage script old new = (text : List ℕ) × IsPage script text × (new ≡ old ++ text)

-- A text begins and ends as each page does. Between them its title and its content are each read
-- back as some document.
pub record HasDocuments (text : List ℕ) : Type 0 where
  pub title : List ℕ
  pub content : List ℕ
  pub is : text ≡ head ++ (title ++ (between ++ (content ++ tail)))
  pub title_read : (d : Document) × (document_of title ≡ Some d)
  pub content_read : (d : Document) × (document_of content ≡ Some d)

-- a script has more events than a page may have steps
abbrev pub HasTooManySteps : List ℕ → Type 0
HasTooManySteps script = most_steps < length (all_steps (plain_lines script))

-- The first lines of a script, with some notes in their steps, are longer than those of a page may
-- be. The notes may be any, so this holds of each script that has an event.
pub record HasTooLongLines (script : List ℕ) : Type 0 where
  pub lines : List PageLine
  pub others : List PlainLine
  pub first_ones : map plain lines ++ others ≡ plain_lines script
  pub long : most_bytes < length (lines_text (outcomes_of script) 1 lines)

-- a page of a script was written, or a front of one
abbrev pub Writes : List ℕ → Option (List ℕ) → Option (List ℕ) → Type 0
Writes script old new = (text : List ℕ) × IsPage script text × Appends old new text

-- the first part of a page of the script is written
abbrev pub WritesFront : List ℕ → Option (List ℕ) → Option (List ℕ) → Type 0
WritesFront script old new = (text : List ℕ) × IsPage script text × AppendsFront old new text

-- What stands in the sink at each answer, where bytes are the bytes that were read:
-- - Done and LineFault: the whole page of the script, without a fault or up to its first one;
-- - WriteFault: a front of the page;
-- - every other one: nothing more than before.
abbrev pub Answers : List ℕ → Option (List ℕ) → Option (List ℕ) → Option (List ℕ) → Result Status NoPage → Type 0
Answers bytes rest old new (Ok status.Done) = IsAtEnd rest × (is_faulty bytes ≡ false) × Writes bytes old new
Answers bytes rest old new (Ok status.LineFault) = IsAtEnd rest × (is_faulty bytes ≡ true) × Writes bytes old new
Answers bytes rest old new (Err TooManyEvents) = IsAtEnd rest × HasTooManySteps bytes × Appends old new []
Answers bytes rest old new (Err TooLong) = IsAtEnd rest × HasTooLongLines bytes × Appends old new []
Answers bytes rest old new (Err (Stopped faults.InputTooLong)) = (length bytes ≡ most_script + 1) × Appends old new []
Answers bytes rest old new (Err (Stopped faults.ReadFault)) = Appends old new []
Answers bytes rest old new (Err (Stopped faults.NoMemory)) = Appends old new []
Answers bytes rest old new (Err (Stopped faults.WriteFault)) = IsAtEnd rest × WritesFront bytes old new

-- some bytes were read, not too many, and what was written is what they call for
abbrev pub Pages : Option (List ℕ) → Option (List ℕ) → Option (List ℕ) → Option (List ℕ) → Result Status NoPage → Type 0
Pages input rest old new result = (bytes : List ℕ) × Consumes input rest bytes × (length bytes ≤ most_script + 1) × Answers bytes rest old new result

-- If a page ends in a fault, the session keeps the line that has it.
abbrev pub KeepsFault : Option (List ℕ) → Option (List ℕ) → Session → Result Status NoPage → Type 0
KeepsFault input rest session (Ok status.LineFault) =
    (bytes : List ℕ) × Consumes input rest bytes × (is_faulty bytes ≡ true) × Keeps session (play (all_lines bytes))
KeepsFault input rest session _ = ⊤

-- how many calls failed: as many as the fault of the run counts, and none if there is too much
abbrev pub failures_of : (RunFault → ℕ) → NoPage → ℕ
failures_of count (Stopped fault) = count fault
failures_of count TooManyEvents = 0
failures_of count TooLong = 0

-- why there is no page, if it isn't written
abbrev pub unwritten : Unwritten → NoPage
unwritten unwrittens.NoMemory = Stopped faults.NoMemory
unwritten unwrittens.TooManySteps = TooManyEvents
unwritten unwrittens.TooLong = TooLong
