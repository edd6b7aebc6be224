-- A journal prints the text of each step, tells whether an event of it is amiss, and notes events.
use Rattle.std.proofs.Common.{◌≡◌, ℕ, List, [], ◌∷◌, ◌++◌, refl, ap, sym, ◌∙◌, append_assoc, append-nil, Option, Some, None}
use Rattle.std.specs.Prelude.{Bool, true, false, ◌||◌, option_map}
use Rattle.std.specs.List.{flat_map, fold}
use Rattle.cics_dispatch.specs.Machine.Events.{Happened}
use Rattle.cics_run.specs.Stage.Amiss.{is_amiss, any_amiss}
use Rattle.cics_run.specs.Stage.Journal.{event_line, fault_lines, text_of}
use Rattle.cics_run.specs.Stage.Notices.{noted, with_notice, notices_of}
use Rattle.cics_run.specs.Messages.Remarks as remarks
use Rattle.cics_run.specs.declared.messages.remarks.Remarks.{Remarks}
use Rattle.cics_run.specs.declared.stage.stage.Stage.{Stage}
use Rattle.cics_run.specs.Stage.Printed.{Printed, journal_sight, watched_on}
use Rattle.cics_run.specs.Stage.Seen.{after_all, after_events, after_fault, after_request, after_step}
use Rattle.cics_run.specs.Stage.Stages.{Asked, Step}
use Rattle.cics_run.specs.Reads.Watched.{Watched, watcher_sight}
use Rattle.cics_run.specs.declared.stage.stage.Fault.{Fault}

or-assoc : (a b c : Bool) → ((a || b) || c) ≡ (a || (b || c))
or-assoc true b c = refl
or-assoc false b c = refl

or-false : (a : Bool) → (a || false) ≡ a
or-false true = refl
or-false false = refl

abbrev lines : List Happened → List ℕ
lines events = flat_map (λ h. event_line h.event) events

events_text : (number : ℕ) (p : Printed) (events : List Happened) → (after_events journal_sight number p events).text ≡ p.text ++ lines events
events_text number p [] = sym (append-nil p.text)
events_text number p (h ∷ events) =
    events_text number (journal_sight.with_event p number h) events ∙ append_assoc p.text (event_line h.event) (lines events)

events_amiss : (number : ℕ) (p : Printed) (events : List Happened) → (after_events journal_sight number p events).is_amiss ≡ (p.is_amiss || any_amiss events)
events_amiss number p [] = sym (or-false p.is_amiss)
events_amiss number p (h ∷ events) =
    events_amiss number (journal_sight.with_event p number h) events ∙ or-assoc p.is_amiss (is_amiss h.event) (any_amiss events)

events_notices : (number : ℕ) (p : Printed) (events : List Happened)
    → (after_events journal_sight number p events).notices ≡ fold (λ notices h. with_notice notices (noted p.told.scope h.event)) p.notices events
events_notices number p [] = refl
events_notices number p (h ∷ events) = events_notices number (journal_sight.with_event p number h) events

events_told : (number : ℕ) (p : Printed) (events : List Happened) → (after_events journal_sight number p events).told ≡ p.told
events_told number p [] = refl
events_told number p (h ∷ events) = events_told number (journal_sight.with_event p number h) events

fault_text : (number : ℕ) (p : Printed) (fault : Option Fault) → (after_fault journal_sight number p fault).text ≡ p.text ++ fault_lines number fault
fault_text number p None = sym (append-nil p.text)
fault_text number p (Some fault) = refl

fault_amiss : (number : ℕ) (p : Printed) (fault : Option Fault) → (after_fault journal_sight number p fault).is_amiss ≡ p.is_amiss
fault_amiss number p None = refl
fault_amiss number p (Some fault) = refl

fault_notices : (number : ℕ) (p : Printed) (fault : Option Fault) → (after_fault journal_sight number p fault).notices ≡ p.notices
fault_notices number p None = refl
fault_notices number p (Some fault) = refl

fault_told : (number : ℕ) (p : Printed) (fault : Option Fault) → (after_fault journal_sight number p fault).told ≡ p.told
fault_told number p None = refl
fault_told number p (Some fault) = refl

-- a request changes nothing but what is noted of the run
request_text : (number : ℕ) (p : Printed) (asked : Option Asked) → (after_request journal_sight number p asked).text ≡ p.text
request_text number p None = refl
request_text number p (Some asked) = refl

request_amiss : (number : ℕ) (p : Printed) (asked : Option Asked) → (after_request journal_sight number p asked).is_amiss ≡ p.is_amiss
request_amiss number p None = refl
request_amiss number p (Some asked) = refl

request_notices : (number : ℕ) (p : Printed) (asked : Option Asked) → (after_request journal_sight number p asked).notices ≡ p.notices
request_notices number p None = refl
request_notices number p (Some asked) = refl

request_told : (number : ℕ) (p : Printed) (asked : Option Asked) → (after_request journal_sight number p asked).told ≡ p.told
request_told number p None = refl
request_told number p (Some asked) = refl

-- what is noted of the run is what a watcher makes of it, if it is wanted
request_watched : (number : ℕ) (p : Printed) (asked : Option Asked) → (after_request journal_sight number p asked).watched ≡ option_map (λ w. after_request watcher_sight number w asked) p.watched
request_watched number p None = by p.watched where
  by : (watched : Option Watched) → watched ≡ option_map (λ w. w) watched
  by None = refl
  by (Some w) = refl
request_watched number p (Some asked) = refl

events_watched : (number : ℕ) (p : Printed) (w : Option Watched) (events : List Happened) → p.watched ≡ w → (after_events journal_sight number p events).watched ≡ option_map (λ x. after_events watcher_sight number x events) w
events_watched number p None [] is = is
events_watched number p (Some w) [] is = is
events_watched number p None (h ∷ events) is = events_watched number (journal_sight.with_event p number h) None events (ap (option_map (λ x. watcher_sight.with_event x number h)) is)
events_watched number p (Some w) (h ∷ events) is =
    events_watched number (journal_sight.with_event p number h) (Some (watcher_sight.with_event w number h)) events (ap (option_map (λ x. watcher_sight.with_event x number h)) is)

fault_watched : (number : ℕ) (p : Printed) (fault : Option Fault) → (after_fault journal_sight number p fault).watched ≡ p.watched
fault_watched number p None = refl
fault_watched number p (Some fault) = refl

fault_unwatched : (number : ℕ) (w : Watched) (fault : Option Fault) → after_fault watcher_sight number w fault ≡ w
fault_unwatched number w None = refl
fault_unwatched number w (Some fault) = refl

step_text : (number : ℕ) (p : Printed) (s : Step) → (after_step journal_sight number p s).text ≡ p.text ++ text_of number s
step_text number p s =
    let q = after_request journal_sight number p s.asked in
    fault_text number (after_events journal_sight number q s.events) s.fault
    ∙ ap (λ t. t ++ fault_lines number s.fault) (events_text number q s.events ∙ ap (λ t. t ++ lines s.events) (request_text number p s.asked))
    ∙ append_assoc p.text (lines s.events) (fault_lines number s.fault)

step_amiss : (number : ℕ) (p : Printed) (s : Step) → (after_step journal_sight number p s).is_amiss ≡ (p.is_amiss || any_amiss s.events)
step_amiss number p s =
    let q = after_request journal_sight number p s.asked in
    fault_amiss number (after_events journal_sight number q s.events) s.fault ∙ events_amiss number q s.events
    ∙ ap (λ b. b || any_amiss s.events) (request_amiss number p s.asked)

-- what a journal notes that sees a step, with no notice before it
step_notices : (number : ℕ) (p : Printed) (s : Step) → p.notices ≡ [] → (after_step journal_sight number p s).notices ≡ notices_of p.told.scope s.events
step_notices number p s none =
    let q = after_request journal_sight number p s.asked in
    fault_notices number (after_events journal_sight number q s.events) s.fault ∙ events_notices number q s.events
    ∙ ap (λ (told : Remarks). fold (λ notices h. with_notice notices (noted told.scope h.event)) q.notices s.events) (request_told number p s.asked)
    ∙ ap (λ notices. fold (λ notices h. with_notice notices (noted p.told.scope h.event)) notices s.events) (request_notices number p s.asked ∙ none)

step_told : (number : ℕ) (p : Printed) (s : Step) → (after_step journal_sight number p s).told ≡ p.told
step_told number p s =
    let q = after_request journal_sight number p s.asked in
    fault_told number (after_events journal_sight number q s.events) s.fault ∙ events_told number q s.events ∙ request_told number p s.asked

-- what a journal holds of the run that sees a step
step_watched : (number : ℕ) (p : Printed) (s : Step) → (after_step journal_sight number p s).watched ≡ watched_on number p.watched s
step_watched number p s =
    let q = after_request journal_sight number p s.asked in
    fault_watched number (after_events journal_sight number q s.events) s.fault
    ∙ events_watched number q (option_map (λ w. after_request watcher_sight number w s.asked) p.watched) s.events (request_watched number p s.asked)
    ∙ by p.watched
  where
    by : (watched : Option Watched) → option_map (λ x. after_events watcher_sight number x s.events) (option_map (λ w. after_request watcher_sight number w s.asked) watched) ≡ watched_on number watched s
    by None = refl
    by (Some w) = ap Some (sym (fault_unwatched number (after_all watcher_sight number w s) s.fault))

-- What a journal holds that has seen a step, once the remarks on it are kept.
pub record HasKept (number : ℕ) (bytes : List ℕ) (p now : Printed) (s : Step) : Type 0 where
  pub text : now.text ≡ p.text ++ text_of number s
  pub amiss : now.is_amiss ≡ (p.is_amiss || any_amiss s.events)
  pub told : now.told ≡ remarks.remarked p.told number bytes s
  pub watched : now.watched ≡ watched_on number p.watched s

pub has_kept : (number : ℕ) (bytes : List ℕ) (stage : Stage) (p q now : Printed) (s : Step) → p.notices ≡ [] → q ≡ after_step journal_sight number p s → stage ≡ s.stage →
    now ≡ record q { told = fold (remarks.with_notice stage number bytes) q.told q.notices } → HasKept number bytes p now s
has_kept number bytes stage p q now s none seen at kept = record {
  text = ap (λ (x : Printed). x.text) (kept ∙ (λ i. record (seen i) { told = told i })) ∙ step_text number p s;
  amiss = ap (λ (x : Printed). x.is_amiss) (kept ∙ (λ i. record (seen i) { told = told i })) ∙ step_amiss number p s;
  told = ap (λ (x : Printed). x.told) kept ∙ told;
  watched = ap (λ (x : Printed). x.watched) (kept ∙ (λ i. record (seen i) { told = told i })) ∙ step_watched number p s;
}
  where
    told : fold (remarks.with_notice stage number bytes) q.told q.notices ≡ remarks.remarked p.told number bytes s
    told =
        ap (λ (x : Stage). fold (remarks.with_notice x number bytes) q.told q.notices) at
        ∙ ap (λ (r : Remarks). fold (remarks.with_notice s.stage number bytes) r q.notices) (ap (λ (x : Printed). x.told) seen ∙ step_told number p s)
        ∙ ap (fold (remarks.with_notice s.stage number bytes) p.told) (ap (λ (x : Printed). x.notices) seen ∙ step_notices number p s none)
