-- A task that has not ended, and doesn't wait, is not refused a command.
use Rattle.std.specs.Prelude.{◌≡◌, Bool, true, List, Some}
use Rattle.std.specs.List.{list_any}
use Rattle.cics_names.specs.Keyed.{Bytes}
use Rattle.cics_names.specs.declared.commands.Command.{Command}
use Rattle.cics_dispatch.specs.Machine.Events.{played}
use Rattle.cics_dispatch.specs.declared.machine.events.Request.TheVariants as request
use Rattle.cics_dispatch.specs.declared.machine.events.Event.{Event}
use Rattle.cics_dispatch.specs.declared.machine.events.Event.TheVariants as event
use Rattle.cics_orders.specs.Giving.{State, is_of, is_ready}
use Rattle.cics_orders.specs.declared.lanes.Lane.{Lane}

-- a label has a lane
abbrev pub has_lane : List Lane → Bytes → Bool
has_lane lanes label = list_any (λ lane. is_of lane label) lanes

-- a request was not refused
abbrev pub IsNotRefused : Event → Type 0
IsNotRefused (event.Refused who e) = ⊥
IsNotRefused _ = Unit {0}

-- no command is refused of a task that is ready to give a line
abbrev pub AcceptsReady : State → Type 0
AcceptsReady s = (label : Bytes) (c : Command) → has_lane s.lanes label ≡ true → is_ready s.machine (Some label) ≡ true → IsNotRefused (played s.machine (request.Issue label c)).event
