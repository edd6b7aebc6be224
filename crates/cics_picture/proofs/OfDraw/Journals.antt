-- The rows of a picture show the journal.
use Rattle.std.proofs.Common.{◌≡◌, ℕ, ◌+◌, List, [], ◌∷◌, ◌++◌, refl, ap, sym, ◌∙◌, append_assoc, append-nil, inl, inr, Option, Some, None}
use Rattle.std.proofs.lemmas.Bool.{cases_Bool}
use Rattle.std.proofs.lemmas.Grind.{flat_map-append}
use Rattle.std.specs.List.{fold, flat_map}
use Rattle.cics_dispatch.specs.Machine.Events.{Happened}
use Rattle.cics_run.specs.Stage.Journal.{line as line_of, event_line, fault_lines, text_of}
use Rattle.cics_run.specs.Stage.Stages.{step, Step}
use Rattle.cics_run.specs.declared.stage.stage.Fault.{Fault}
use Rattle.cics_run.specs.Session.Running.{Played, has_fault, next}
use Rattle.cics_run.proofs.OfSession.Playing.{next-going, fault-fold}
use Rattle.cics_picture.specs.declared.events.RowKind.{RowKind}
use Rattle.cics_picture.specs.declared.events.Told.{Told}
use Rattle.cics_picture.specs.Drawings.{rows_from, rows_of, all_rows, events_of}
use Rattle.cics_picture.specs.Draw.Recording.{recorded}
use Rattle.cics_picture.specs.Draw.Pictures.{printed, printed_from}
use Rattle.cics_picture.proofs.OfDraw.Playing.{printed-first, printed-none}
use Rattle.cics_picture.proofs.OfDraw.Recording.{events_told, normal_of, faults_told, line-kept}

-- the lines of what rows tell
abbrev lines_of : List Told → List ℕ
lines_of told = flat_map (λ t. line_of t.text) told

rows-shown : (told : List Told) (number : ℕ) (line : List ℕ) → events_of (rows_from number line told) ≡ lines_of told
rows-shown [] number line = refl
rows-shown (t ∷ told) number line = ap (λ more. line_of t.text ++ more) (rows-shown told 0 [])

events-shown : (answered : RowKind) (events : List Happened) → lines_of (events_told answered events) ≡ flat_map (λ h. event_line h.event) events
events-shown answered [] = refl
events-shown answered (h ∷ events) = ap (λ more. event_line h.event ++ more) (events-shown answered events)

fault-shown : (number : ℕ) (fault : Option Fault) → lines_of (faults_told number fault) ≡ fault_lines number fault
fault-shown number None = refl
fault-shown number (Some fault) = append-nil (fault_lines number (Some fault))

-- the rows of a line show what it prints
line-shown : (number : ℕ) (line : List ℕ) (s : Step) → events_of (rows_from number line (recorded number s).told) ≡ text_of number s
line-shown number line s =
    rows-shown (recorded number s).told number line
    ∙ ap lines_of (line-kept number s)
    ∙ flat_map-append (λ t. line_of t.text) (events_told (normal_of s.asked) s.events) (faults_told number s.fault)
    ∙ ap (λ text. text ++ lines_of (faults_told number s.fault)) (events-shown (normal_of s.asked) s.events)
    ∙ ap (λ text. flat_map (λ h. event_line h.event) s.events ++ text) (fault-shown number s.fault)

-- the events of all rows are the journal
pub lines-shown : (lines : List (List ℕ)) (p : Played) → p.journal ++ events_of (all_rows (printed_from p lines)) ≡ (fold next p lines).journal
lines-shown [] p = append-nil p.journal
lines-shown (line ∷ lines) p =
    let s = step p.stage line in
    let first = rows_of (printed (p.number + 1) p.stage line) in
    let rest = all_rows (printed_from (next p line) lines) in
    elim (cases_Bool (has_fault p)) [
      | inl fault ↦ ap (λ l. p.journal ++ events_of (all_rows l)) (printed-none p (line ∷ lines) fault) ∙ append-nil p.journal ∙ sym (ap (λ q. q.journal) (fault-fold (line ∷ lines) p fault))
      | inr going ↦ ap (λ l. p.journal ++ events_of (all_rows l)) (printed-first p line lines going)
          ∙ ap (λ t. p.journal ++ t) (flat_map-append (λ r. line_of r.told.text) first rest ∙ ap (λ t. t ++ events_of rest) (line-shown (p.number + 1) line s))
          ∙ sym (append_assoc p.journal (text_of (p.number + 1) s) (events_of rest))
          ∙ ap (λ q. q.journal ++ events_of rest) (sym (next-going p line going))
          ∙ lines-shown lines (next p line)
    ]
