-- Worked examples as a script and its journal: the events one after the other, and after each the
-- wake-ups and time-outs that it brings.
use Rattle.std.specs.Prelude.{ℕ, zero, suc, true, false, Some, None, Result, Ok, Err, List, [], ◌∷◌, ◌++◌}
use Rattle.cics_names.specs.Keyed.{Bytes}
use Rattle.cics_names.specs.declared.conditions.AbendCode.{AbendCode}
use Rattle.cics_history.specs.State.{OpeningState, Store}
use Rattle.cics_history.specs.Holding.{store_of}
use Rattle.cics_dispatch.specs.Machine.Machine.{Machine, initial_region}
use Rattle.cics_dispatch.specs.Machine.Steps.{Stepped, attached, issued}
use Rattle.cics_dispatch.specs.Machine.Waking.{clock_set, woken, expired}
use Rattle.cics_dispatch.specs.Machine.Shutdown.{unless_down, shut_down}
use Rattle.cics_names.specs.declared.commands.Verb.{Verb}
use Rattle.cics_dispatch.specs.declared.machine.outcomes.Outcome.{Outcome}
use Rattle.cics_dispatch.specs.declared.machine.outcomes.Refused.{Refused}
use Rattle.cics_dispatch.proofs.OfMachine.Examples.{t1, t2}

-- a task is attached with its DTIMOUT; a command without RESP; one with RESP; the clock is set; the
-- region is shut down
pub data Event : Type 0 where
  attaches : Bytes → ℕ → Event
  does : Bytes → Verb → Event
  asks : Bytes → Verb → Event
  clock : ℕ → Event
  shuts : Event

-- a task is attached; what a command came to; a refused event; the clock; a refused event without a
-- task; the units that a shutdown backed out; what a woken command came to; a time-out
pub data Line : Type 0 where
  began : Bytes → Line
  told : Bytes → Outcome → Line
  refused : Bytes → Refused → Line
  ticked : ℕ → Line
  stopped : Refused → Line
  down : ℕ → Line
  woke : Bytes → Outcome → Line
  late : Bytes → AbendCode → Line

pub record Run : Type 0 where
  pub lines : List Line
  pub machine : Machine

abbrev pub line_of_attach : Bytes → Result (Unit {0}) Refused → Line
line_of_attach l (Ok u) = began l
line_of_attach l (Err r) = refused l r

abbrev pub line_of_issue : Bytes → Result Outcome Refused → Line
line_of_issue l (Ok o) = told l o
line_of_issue l (Err r) = refused l r

abbrev pub line_of_clock : ℕ → Result (Unit {0}) Refused → Line
line_of_clock n (Ok u) = ticked n
line_of_clock n (Err r) = stopped r

abbrev pub line_of_shutdown : Result ℕ Refused → Line
line_of_shutdown (Ok n) = down n
line_of_shutdown (Err r) = stopped r

abbrev pub one : {X : Type 0} → (X → Line) → Stepped X → Run
one line s = record { lines = line s.outcome ∷ []; machine = s.machine }

abbrev pub event : Machine → Event → Run
event m (attaches l dtimout) = one (line_of_attach l) (unless_down m (attached m l dtimout))
event m (does l verb) = one (line_of_issue l) (unless_down m (issued m l (record { verb = verb; resp = false })))
event m (asks l verb) = one (line_of_issue l) (unless_down m (issued m l (record { verb = verb; resp = true })))
event m (clock n) = one (line_of_clock n) (unless_down m (clock_set m n))
event m shuts = one line_of_shutdown (unless_down m (shut_down m))

abbrev pub then : Line → Run → Run
then line r = record { lines = line ∷ r.lines; machine = r.machine }

-- the wake-ups, and once there is none a time-out, and on from the wake-ups; so many at the most
abbrev pub settled : ℕ → Machine → Run
settled zero m = record { lines = []; machine = m }
settled (suc n) m =
    elim (woken m).outcome as (λ o. Run) [
      | Some w ↦ then (woke w.label w.outcome) (settled n (woken m).machine)
      | None ↦ elim (expired m).outcome as (λ o. Run) [
        | Some e ↦ then (late e.label e.code) (settled n (expired m).machine)
        | None ↦ record { lines = []; machine = m }
      ]
    ]

abbrev pub run : Machine → List Event → Run
run m [] = record { lines = []; machine = m }
run m (e ∷ es) =
    let s = event m e in
    let t = settled 4 s.machine in
    let rest = run t.machine es in
    record { lines = s.lines ++ t.lines ++ rest.lines; machine = rest.machine }

-- T1 and T2 may wait 5 seconds
abbrev pub two_tasks : OpeningState → Machine
two_tasks o = (run (initial_region o) (attaches t1 5 ∷ attaches t2 5 ∷ [])).machine

-- what a script prints after its two ATTACH lines, what it ends with, and the store then
abbrev pub journal : OpeningState → List Event → List Line
journal o es = (run (two_tasks o) es).lines

abbrev pub at_end : OpeningState → List Event → Machine
at_end o es = (run (two_tasks o) es).machine

abbrev pub left : OpeningState → List Event → Store
left o es = store_of (at_end o es).units
