-- What an observer of a run sees.
use Rattle.std.specs.Prelude.{ℕ, List, Option, Some, None}
use Rattle.std.specs.List.{fold}
use Rattle.cics_dispatch.specs.Machine.Events.{Happened}
use Rattle.cics_dispatch.specs.Machine.Machine.{RegionValue}
use Rattle.cics_dispatch.specs.declared.machine.events.Request.{Request}
use Rattle.cics_run.specs.Stage.Stages.{Asked, Step}
use Rattle.cics_run.specs.declared.stage.stage.Fault.{Fault}

-- What an observer makes of a line with a number: what a request, with the region before it, does
-- to what was seen; what an event does, with the machine behind it; and what a fault does.
pub record Sight (Seen : Type 0) : Type 0 where
  pub with_request : Seen → ℕ → Request → RegionValue → Seen
  pub with_event : Seen → ℕ → Happened → Seen
  pub with_fault : Seen → ℕ → Fault → Seen

-- some events of a line were seen, in their order
abbrev pub after_events : {Seen : Type 0} → Sight Seen → ℕ → Seen → List Happened → Seen
after_events sight number seen events = fold (λ s h. sight.with_event s number h) seen events

-- the request of a line was seen, if it has one
abbrev pub after_request : {Seen : Type 0} → Sight Seen → ℕ → Seen → Option Asked → Seen
after_request sight number seen None = seen
after_request sight number seen (Some asked) = sight.with_request seen number asked.request asked.region

-- the fault of a line was seen, if it has one
abbrev pub after_fault : {Seen : Type 0} → Sight Seen → ℕ → Seen → Option Fault → Seen
after_fault sight number seen None = seen
after_fault sight number seen (Some fault) = sight.with_fault seen number fault

-- what a line asks was seen, and its events
abbrev pub after_all : {Seen : Type 0} → Sight Seen → ℕ → Seen → Step → Seen
after_all sight number seen s = after_events sight number (after_request sight number seen s.asked) s.events

-- all that a line led to was seen
abbrev pub after_step : {Seen : Type 0} → Sight Seen → ℕ → Seen → Step → Seen
after_step sight number seen s = after_fault sight number (after_all sight number seen s) s.fault
