-- After each line of an order nothing goes on by itself.
use Rattle.std.proofs.Common.{◌≡◌, ℕ, [], ◌∷◌, Option, None, Some, ap}
use Rattle.std.specs.Prelude.{slice_get}
use Rattle.cics_dispatch.specs.Machine.Machine.{Machine, initial_region}
use Rattle.cics_dispatch.specs.Machine.Waking.{woken_first, first_free, expired_task, first_late, IsAtRest}
use Rattle.cics_dispatch.specs.Machine.Events.{played}
use Rattle.cics_dispatch.specs.declared.machine.events.Request.{Request}
use Rattle.cics_script.specs.Lines.{line}
use Rattle.cics_orders.specs.Space.Orders.{Order, after}
use Rattle.cics_orders.specs.Plans.Taking.{NumberedLine}
use Rattle.cics_orders.specs.declared.plans.plans.Plan.{Plan}
use Rattle.cics_orders.specs.Giving.{State, asked, happening, after_asked, counted, given_line, given_by, given, lanes, opened, initial_machine, initial_state}
use Rattle.cics_orders.specs.declared.lanes.Lane.{Lane}
use Rattle.cics_orders.proofs.Ways.{attaches_wait}
use Rattle.cics_dispatch.proofs.OfMachine.Draining.{drained_rests}

-- ---- The initial state

-- if no command waits, nothing goes on by itself
none_waits : (m : Machine) → m.waiting ≡ [] → IsAtRest m
none_waits m none = (ap (λ ws. (woken_first m (first_free m ws)).outcome) none, ap (λ ws. (expired_task m (first_late m ws)).outcome) none)

pub initial_rests : (p : Plan) → IsAtRest (initial_state p).machine
unfolding initial_state
initial_rests p = none_waits (initial_machine p) (attaches_wait (initial_region (opened p.definitions)) p.tasks)

-- ---- A line

happening_rests : (m : Machine) (r : Request) → IsAtRest (happening m r).machine
unfolding happening
happening_rests m r = drained_rests (played m r).machine

asked_rests : (s : State) (o : Option Request) → IsAtRest s.machine → IsAtRest (after_asked s o).machine
asked_rests s None rests = rests
asked_rests s (Some r) rests = happening_rests s.machine r

given_rests : (s : State) (l : ℕ) → IsAtRest s.machine → IsAtRest (given s l).machine
unfolding given
given_rests s l rests = by (slice_get s.lanes l)
  where
    more : (x : Lane) (o : Option NumberedLine) → IsAtRest (given_line s l x o).machine
    more x None = rests
    more x (Some next) = asked_rests (counted s l x) (asked (line next.1)) rests

    by : (o : Option Lane) → IsAtRest (given_by s l o).machine
    by None = rests
    by (Some x) = more x (slice_get x.lines x.given)

-- ---- An order

pub after_rests : (s : State) (o : Order) → IsAtRest s.machine → IsAtRest (after lanes s o).machine
after_rests s [] rests = rests
after_rests s (l ∷ o) rests = after_rests (given s l) o (given_rests s l rests)
