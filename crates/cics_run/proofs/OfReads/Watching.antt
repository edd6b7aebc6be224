-- What a watcher makes of an event.
use Rattle.std.proofs.Common.{◌≡◌, ℕ, ap, ◌∙◌, length, None}
use Rattle.cics_dispatch.specs.Machine.Events.{Happened}
use Rattle.cics_run.specs.Reads.Watched.{Watched, run_after, began, with_line, with_label, deleting, doomed_next, behind}

-- first its steps are noted, then a command that began to wait, and then what comes
pub seen-behind : (w x y z : Watched) (number : ℕ) (h : Happened)
    → x ≡ record w { run = run_after w number h; plain = x.plain; doomed = x.doomed }
    → y ≡ record x { lines = with_line x.lines number (began h.event); deleters = with_label x.deleters (began h.event) }
    → z ≡ record y { plain = None; entries = length h.machine.units.trace; deleters = deleting h.machine y.deleters; doomed = doomed_next h.machine (deleting h.machine y.deleters) }
    → z ≡ behind w number h
seen-behind w x y z number h noted waits ahead =
    ahead
    ∙ ap (λ (v : Watched). record v { plain = None; entries = length h.machine.units.trace; deleters = deleting h.machine v.deleters; doomed = doomed_next h.machine (deleting h.machine v.deleters) })
    (waits ∙ ap (λ (v : Watched). record v { lines = with_line v.lines number (began h.event); deleters = with_label v.deleters (began h.event) }) noted)
