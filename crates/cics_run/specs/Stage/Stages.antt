-- The stages of a run: definitions, and from the first line that is none a region.
use Rattle.std.specs.Prelude.{◌≡◌, ℕ, List, [], Option, Some, None, Result, Ok, Err}
use Rattle.cics_names.specs.Keyed.{value_at, has_key, is_key_in}
use Rattle.cics_history.specs.State.{OpeningState}
use Rattle.cics_history.specs.Holding.{store_of}
use Rattle.cics_history.specs.Openings.{initial_opening, with_file, with_record, with_prefix, with_queue, with_td_record}
use Rattle.cics_units.specs.Opening.Faults.{file_fault, load_fault, load_td_fault, fault_if}
use Rattle.cics_units.specs.declared.opening.opening.DefineFault.{DefineFault}
use Rattle.cics_dispatch.specs.Machine.Machine.{Machine, RegionValue, initial_region}
use Rattle.cics_dispatch.specs.Machine.Events.{Happened, all_played}
use Rattle.cics_dispatch.specs.Machine.Answers.{region_listing, replayed_listing}
use Rattle.cics_dispatch.specs.declared.machine.events.Request.{Request}
use Rattle.cics_dispatch.specs.declared.machine.events.Request.TheVariants as request
use Rattle.cics_script.specs.Lines.{line}
use Rattle.cics_script.specs.declared.lines.Line.{Line}
use Rattle.cics_script.specs.declared.lines.Line.TheVariants.{Blank, DefineFile, DefineTsPrefix, DefineTd, LoadFile, LoadTd, Attach, Clock, Issue, Shutdown}
use Rattle.cics_script.specs.declared.faults.LineFault.{LineFault}
use Rattle.cics_script.specs.declared.faults.LineFault.TheVariants.{DefineTooLate}
use Rattle.cics_run.specs.Listing.Listings.{listing_text, replay_text}
use Rattle.cics_run.specs.declared.stage.stage.Fault.{Fault}
use Rattle.cics_run.specs.declared.stage.stage.Fault.TheVariants as faults
use Rattle.cics_run.specs.declared.stage.stage.Stage.{Stage}
use Rattle.cics_run.specs.declared.stage.stage.Stage.TheVariants.{Opening, Running}

-- What a line asks of a region, as that stands before it.
pub record Asked : Type 0 where
  pub request : Request
  pub region : RegionValue

-- What a line does: the stage behind it, what it asks of the region, and all that happens there, in
-- its order. If the line has a fault, that ends the run.
pub record Step : Type 0 where
  pub stage : Stage
  pub asked : Option Asked
  pub events : List Happened
  pub fault : Option Fault

-- nothing happens
abbrev pub silent : Stage → Step
silent stage = record { stage = stage; asked = None; events = []; fault = None }

-- a line has a fault, and nothing changes
abbrev pub faulty : Stage → Fault → Step
faulty stage fault = record { stage = stage; asked = None; events = []; fault = Some fault }

-- before the first line nothing is defined
abbrev pub initial_stage : Stage
initial_stage = Opening initial_opening

-- the region of a machine: its files and queues hold the replay of the surviving entries
abbrev pub region_at : Machine → RegionValue
region_at m = record { machine = m; store = store_of m.units }

-- the region, which is made of the definitions if there is none yet
abbrev pub region_of : Stage → RegionValue
region_of (Opening o) = region_at (initial_region o)
region_of (Running r) = r

-- a definition is accepted, or has a fault
abbrev pub defined : OpeningState → Option DefineFault → OpeningState → Step
defined o None next = silent (Opening next)
defined o (Some fault) next = faulty (Opening o) (faults.Definition fault)

-- what a line defines or loads, which it may only before the first request; any other line does
-- nothing
abbrev pub definition : Stage → Line → Step
definition (Opening o) (DefineFile name d) = defined o (file_fault o name d) (with_file o name d)
definition (Opening o) (DefineTsPrefix prefix) = defined o (fault_if (is_key_in prefix o.prefixes)) (with_prefix o prefix)
definition (Opening o) (DefineTd name recovery) = defined o (fault_if (has_key name o.queues)) (with_queue o name recovery)
definition (Opening o) (LoadFile name content) = defined o (load_fault (value_at name o.files) content) (with_record o name content)
definition (Opening o) (LoadTd name content) = defined o (load_td_fault (value_at name o.queues) content) (with_td_record o name content)
definition (Opening o) _ = silent (Opening o)
definition (Running r) line = faulty (Running r) (faults.Line DefineTooLate)

-- a request is played on the region, which then drains
abbrev pub requested : Stage → Request → Step
requested stage request =
    let before = region_of stage in
    let all = all_played before.machine request in
    record {
      stage = Running (region_at all.machine);
      asked = Some (record { request = request; region = before });
      events = all.turns;
      fault = None;
    }

-- a line that was read
abbrev pub followed : Stage → Result Line LineFault → Step
followed stage (Ok Blank) = silent stage
followed stage (Ok (Attach label transaction dtimout)) = requested stage (request.Attach label transaction dtimout)
followed stage (Ok (Clock seconds)) = requested stage (request.Clock seconds)
followed stage (Ok (Issue label command)) = requested stage (request.Issue label command)
followed stage (Ok Shutdown) = requested stage request.Shutdown
-- each other line defines or loads
followed stage (Ok line) = definition stage line
followed stage (Err fault) = faulty stage (faults.Line fault)

-- the bytes of a line
abbrev pub step : Stage → List ℕ → Step
step stage bytes = followed stage (line bytes)

-- a line led to this stage, and has this fault, if any
abbrev pub IsPlayed : Step → Stage → Option Fault → Type 0
IsPlayed s stage fault = (stage ≡ s.stage) × (fault ≡ s.fault)

-- what is listed at the end
abbrev pub listing_at : Stage → List ℕ
listing_at stage = listing_text (region_listing (region_of stage))

-- what is printed of the replay of the history
abbrev pub replay_at : Stage → List ℕ
replay_at stage = replay_text (replayed_listing (region_of stage))
