use Rattle.std.proofs.Common.{◌≡◌, ◌-◌, ◌++◌}
use Rattle.cics_dispatch.specs.Deadlocks.Searches.{led_to}
use Rattle.cics_dispatch.proofs.deadlocks.searches.led_to.Given as goal

-- the tasks so far, and those from here on, are all
abbrev pub invariant-loop-step : goal.invariant-loop-step
invariant-loop-step l = l.tasks.items ++ led_to l.found (l.index - l._step) l.at ≡ led_to l.found l.index l.index
