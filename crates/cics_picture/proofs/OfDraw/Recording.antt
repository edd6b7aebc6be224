-- What a recorder keeps of a line: a row for each event, and one for its fault.
use Rattle.std.proofs.Common.{◌≡◌, ℕ, List, [], ◌∷◌, ◌++◌, map, refl, ap, sym, ◌∙◌, append_assoc, append-nil, Option, Some, None}
use Rattle.cics_dispatch.specs.Machine.Events.{Happened}
use Rattle.cics_run.specs.Stage.Seen.{after_events, after_fault, after_request}
use Rattle.cics_run.specs.Stage.Stages.{Asked, Step}
use Rattle.cics_run.specs.declared.stage.stage.Fault.{Fault}
use Rattle.cics_picture.specs.declared.events.Told.{Told}
use Rattle.cics_picture.specs.declared.events.RowKind.{RowKind}
use Rattle.cics_picture.specs.declared.events.RowKind.TheVariants as kind
use Rattle.cics_picture.specs.Draw.Recording.{answered_as, told_of, fault_told, Recorded, recorder_sight, nothing_recorded, recorded}

-- what the rows of events tell
abbrev pub events_told : RowKind → List Happened → List Told
events_told answered events = map (λ h. told_of answered h.event) events

-- the kind of the answer NORMAL to what a line asks
abbrev pub normal_of : Option Asked → RowKind
normal_of None = kind.Normal
normal_of (Some asked) = answered_as asked.request

-- what the row of a fault tells, if there is one
abbrev pub faults_told : ℕ → Option Fault → List Told
faults_told number None = []
faults_told number (Some fault) = fault_told number fault ∷ []

events-kept : (events : List Happened) (number : ℕ) (r : Recorded) → (after_events recorder_sight number r events).told ≡ r.told ++ events_told r.normal events
events-kept [] number r = sym (append-nil r.told)
events-kept (h ∷ events) number r =
    events-kept events number (recorder_sight.with_event r number h) ∙ append_assoc r.told (told_of r.normal h.event ∷ []) (events_told r.normal events)

fault-kept : (fault : Option Fault) (number : ℕ) (r : Recorded) → (after_fault recorder_sight number r fault).told ≡ r.told ++ faults_told number fault
fault-kept None number r = sym (append-nil r.told)
fault-kept (Some fault) number r = refl

request-kept : (asked : Option Asked) (number : ℕ) → after_request recorder_sight number nothing_recorded asked ≡ record nothing_recorded { normal = normal_of asked }
request-kept None number = refl
request-kept (Some asked) number = refl

pub line-kept : (number : ℕ) (s : Step) → (recorded number s).told ≡ events_told (normal_of s.asked) s.events ++ faults_told number s.fault
line-kept number s =
    let r = after_request recorder_sight number nothing_recorded s.asked in
    fault-kept s.fault number (after_events recorder_sight number r s.events)
    ∙ ap (λ told. told ++ faults_told number s.fault)
    (events-kept s.events number r ∙ ap (λ (x : Recorded). x.told ++ events_told x.normal s.events) (request-kept s.asked number))
