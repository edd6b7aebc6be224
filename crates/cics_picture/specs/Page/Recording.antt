-- What a pager keeps of a line of a script, beside the notes: the kind and the text of each step.
use Rattle.std.specs.Prelude.{ℕ, Bool, false, Option, Some, None, List, [], ◌∷◌, ◌++◌, map}
use Rattle.cics_run.specs.Stage.Journal.{event_text}
use Rattle.cics_run.specs.Stage.Seen.{Sight, after_step}
use Rattle.cics_run.specs.Stage.Stages.{Step as RunStep}
use Rattle.cics_picture.specs.Draw.Recording.{kind_of, told_fault}
use Rattle.cics_picture.specs.declared.events.RowKind.{RowKind}
use Rattle.cics_picture.specs.declared.page.recording.PageStep.{PageStep}
use Rattle.cics_picture.specs.declared.page.recording.Pager.{Pager}
use Rattle.cics_picture.specs.Page.Kinds.{is_woken}

-- A step without its notes: the kind of its event, whether a waiting command is answered, and the
-- line of the journal. A fault has no kind.
pub record Told : Type 0 where
  pub kind : Option RowKind
  pub is_woken : Bool
  pub text : List ℕ

-- a step of these
abbrev pub told : Option RowKind → Bool → List ℕ → Told
told kind is_woken text = record { kind = kind; is_woken = is_woken; text = text }

-- what a step tells beside its notes
abbrev pub told_by : PageStep → Told
told_by s = told s.kind s.is_woken s.text

-- what the steps of a pager tell
abbrev pub told_in : Pager → List Told
told_in p = map told_by p.steps.items

-- a pager keeps a step for each event, and one for the fault
abbrev pub page_sight : Sight (List Told)
page_sight =
    record {
      with_request = λ steps number request before. steps;
      with_event = λ steps number h. steps ++ told (Some (kind_of h.event)) (is_woken h.event) (event_text h.event) ∷ [];
      with_fault = λ steps number fault. steps ++ told None false (told_fault number fault) ∷ [];
    }

-- the steps of a line with this number
abbrev pub steps_of : ℕ → RunStep → List Told
steps_of number s = after_step page_sight number [] s
