-- The events of a region: what each request, and each turn of draining, leads to.
use Rattle.std.specs.Prelude.{◌≡◌, ◌&&◌, not, ℕ, zero, suc, Bool, false, List, [], ◌∷◌, length, Option, Some, None, Result, Ok, Err}
use Rattle.cics_names.specs.Keyed.{Bytes}
use Rattle.cics_names.specs.declared.commands.Command.{Command}
use Rattle.cics_dispatch.specs.Machine.Machine.{Machine, RegionValue, Task, task_at}
use Rattle.cics_dispatch.specs.Machine.Checks.{reason_for}
use Rattle.cics_dispatch.specs.Machine.Answers.{may_want, attach_may_want}
use Rattle.cics_dispatch.specs.Machine.Steps.{Stepped, attached, issued}
use Rattle.cics_dispatch.specs.Machine.Waking.{clock_set, woken, expired}
use Rattle.cics_dispatch.specs.Machine.Shutdown.{unless_down, shut_down}
use Rattle.cics_dispatch.specs.declared.machine.events.Request.{Request}
use Rattle.cics_dispatch.specs.declared.machine.events.Request.TheVariants as request
use Rattle.cics_dispatch.specs.declared.machine.events.Subject.{Subject}
use Rattle.cics_dispatch.specs.declared.machine.events.Subject.TheVariants as subject
use Rattle.cics_dispatch.specs.declared.machine.events.Event.{Event}
use Rattle.cics_dispatch.specs.declared.machine.events.Event.TheVariants as event
use Rattle.cics_dispatch.specs.declared.machine.outcomes.Outcome.{Outcome}
use Rattle.cics_dispatch.specs.declared.machine.outcomes.Woken.{Woken}
use Rattle.cics_dispatch.specs.declared.machine.outcomes.Expired.{Expired}
use Rattle.cics_dispatch.specs.declared.machine.outcomes.Refused.{Refused}
use Rattle.cics_dispatch.specs.declared.machine.outcomes.Refused.TheVariants.{NoMemory}

-- an event, and the machine that it left
pub record Happened : Type 0 where
  pub event : Event
  pub machine : Machine

-- ---- Requests

-- a request was answered, or it was refused and changed nothing
abbrev pub happened : {X : Type 0} → Machine → Subject → (X → Event) → Result X Refused → Machine → Happened
happened m who told (Ok x) next = record { event = told x; machine = next }
happened m who told (Err e) next = record { event = event.Refused who e; machine = m }

-- the event of a step; of a region that is shut down each is refused
abbrev pub told_by : {X : Type 0} → Machine → Subject → (X → Event) → Stepped (Result X Refused) → Happened
told_by m who told step = let s = unless_down m step in happened m who told s.outcome s.machine

-- a command was issued, with this outcome, and failed this check or none
abbrev pub issued_event : Machine → Bytes → Command → Outcome → Event
issued_event m label c outcome = event.Issued label outcome (reason_for m label c.verb)

-- what a request leads to
abbrev pub played : Machine → Request → Happened
played m (request.Attach label transaction dtimout) =
    told_by m (subject.Task label) (λ _. event.Attached label transaction) (attached m label dtimout)
played m (request.Clock seconds) = told_by m subject.Clock (λ _. event.ClockSet seconds) (clock_set m seconds)
played m (request.Issue label command) =
    told_by m (subject.Task label) (issued_event m label command) (issued m label command)
played m request.Shutdown = told_by m subject.Shutdown event.ShutDown (shut_down m)

-- whether a request may take memory
abbrev pub may_want_memory : Machine → Request → Bool
may_want_memory m (request.Attach label transaction dtimout) = not m.is_down && attach_may_want m label
may_want_memory m (request.Issue label command) = not m.is_down && may_want m label command
may_want_memory m _ = false

-- a refused event leaves the region as it was, and its refusal isn't NoMemory
abbrev pub IsAsBeforeIfRefused : RegionValue → RegionValue → Event → Type 0
IsAsBeforeIfRefused old new (event.Refused who e) = (e ≡ NoMemory → ⊥) × (new ≡ old)
IsAsBeforeIfRefused old new _ = Unit {0}

-- ---- Draining

-- a task that has waited too long is abended
abbrev pub late_turn : Option Expired → Machine → Option Happened
late_turn None m = None
late_turn (Some e) m = Some (record { event = event.Expired e; machine = m })

-- a command that may resume comes before that
abbrev pub waking_turn : Option Woken → Machine → Option Happened → Option Happened
waking_turn None m late = late
waking_turn (Some w) m late = Some (record { event = event.Woken w; machine = m })

-- one wake-up or time-out, if one applies
unfoldable pub turn : Machine → Option Happened
turn m = waking_turn (woken m).outcome (woken m).machine (late_turn (expired m).outcome (expired m).machine)

-- a turn told this event and left this machine, or there was none
abbrev pub IsTurn : Machine → Option Event → Machine → Type 0
IsTurn m None next = (turn m ≡ None) × (next ≡ m)
IsTurn m (Some e) next = turn m ≡ Some (record { event = e; machine = next })

-- some turns, and the machine behind them
pub record Drained : Type 0 where
  pub machine : Machine
  pub turns : List Happened

-- the turns behind one, if there was one
abbrev pub behind_turn : Machine → Option Happened → (Machine → Drained) → Drained
behind_turn m None more = record { machine = m; turns = [] }
behind_turn m (Some t) more = record { machine = (more t.machine).machine; turns = t ∷ (more t.machine).turns }

-- at most so many turns
unfoldable pub drained_within : ℕ → Machine → Drained
drained_within zero m = record { machine = m; turns = [] }
drained_within (suc most) m = behind_turn m (turn m) (drained_within most)

-- The region drains: it takes turns until there is none. Each takes a command out of the waiting
-- ones, so as many turns as commands wait are enough (proofs/OfMachine/Draining, drained_rests).
abbrev pub drained : Machine → Drained
drained m = drained_within (length m.waiting) m

-- a request is played, and the region drains: all that happens
abbrev pub all_played : Machine → Request → Drained
all_played m asked =
    let first = played m asked in
    let rest = drained first.machine in
    record { machine = rest.machine; turns = first ∷ rest.turns }

-- ---- Tasks

-- whether a task has ended, if there is one
abbrev pub ended : Option Task → Bool
ended None = false
ended (Some t) = t.has_ended

-- whether the task of a label has ended
abbrev pub task_ended : Machine → Bytes → Bool
task_ended m label = ended (task_at m.tasks label)
