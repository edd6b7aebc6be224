-- Waiting commands: which one resumes, which task has waited too long, and the clock (the manual's
-- chapter on task control; docs/RULES.md).
use Rattle.std.specs.Prelude.{◌≡◌, ℕ, ◌-◌, Bool, false, ◌&&◌, if◌then◌else◌, Option, Some, None, is_none, Result, nat_le, nat_lt, take, List, [], ◌∷◌}
use Rattle.cics_history.specs.State.{UnitsState}
use Rattle.cics_history.specs.Holding.{awaited, value_holder}
use Rattle.cics_history.specs.declared.ops.Op.{Op}
use Rattle.cics_dispatch.specs.Machine.Machine.{Machine, Task, Suspended, task_at, with_waiting, not_waiting, abended, timed_out}
use Rattle.cics_dispatch.specs.Machine.Steps.{Stepped, by_op, refused_or}
use Rattle.cics_names.specs.declared.commands.Verb.{Verb}
use Rattle.cics_names.specs.declared.commands.Verb.TheVariants.{Enq}
use Rattle.cics_dispatch.specs.declared.machine.outcomes.Woken.{Woken}
use Rattle.cics_dispatch.specs.declared.machine.outcomes.Expired.{Expired}
use Rattle.cics_dispatch.specs.declared.machine.outcomes.Refused.{Refused}
use Rattle.cics_dispatch.specs.declared.machine.outcomes.Refused.TheVariants.{ClockBack}

-- ---- The clock

-- the clock doesn't go back
abbrev pub clock_refusal : Machine → ℕ → Option Refused
clock_refusal m now = if nat_lt now m.clock then Some ClockBack else None

-- the clock is set, or the call is refused
abbrev pub clock_set : Machine → ℕ → Stepped (Result (Unit {0}) Refused)
clock_set m now = refused_or m (clock_refusal m now) (record { outcome = tt; machine = record m { clock = now } })

-- ---- Waking

-- the unit that blocks a command, if one does, by its updating command, or by the value of an ENQ
abbrev pub awaited_by : UnitsState → Option ℕ → Verb → Option Op → Option ℕ
awaited_by s asking verb (Some o) = awaited s asking o
awaited_by s asking (Enq value n nosuspend) None = value_holder s asking (take n value)
awaited_by s asking _ None = None

-- a waiting command may resume if nothing blocks it
abbrev pub may_go_on : Machine → Suspended → Option Task → Bool
may_go_on m w None = false
may_go_on m w (Some t) = is_none (awaited_by m.units t.unit w.command.verb w.op)

-- the first command that may resume, in the order in which the waits began
abbrev pub first_free : Machine → List Suspended → Option Suspended
first_free m [] = None
first_free m (w ∷ ws) = if may_go_on m w (task_at m.tasks w.label) then Some w else first_free m ws

-- a woken command waits no more, and isn't checked again: it does what it asked for when it was
-- issued
abbrev pub went_on : Machine → Suspended → Option Task → Stepped (Option Woken)
went_on m w None = record { outcome = None; machine = m }
went_on m w (Some t) =
    let s = by_op (with_waiting m (not_waiting m.waiting w.label)) t w.command w.op in
    record { outcome = Some (record { label = w.label; outcome = s.outcome }); machine = s.machine }

-- a waiting command resumes, if there is one
abbrev pub woken_first : Machine → Option Suspended → Stepped (Option Woken)
woken_first m None = record { outcome = None; machine = m }
woken_first m (Some w) = went_on m w (task_at m.tasks w.label)

-- the first command that may resume does
abbrev pub woken : Machine → Stepped (Option Woken)
woken m = woken_first m (first_free m m.waiting)

-- ---- Time-out

-- a task has waited too long if DTIMOUT seconds or more have passed since its wait began; a DTIMOUT
-- of 0 is no limit
abbrev pub is_late : Machine → Suspended → Option Task → Bool
is_late m w None = false
is_late m w (Some t) = nat_lt 0 t.dtimout && nat_le t.dtimout (m.clock - w.since)

-- the first task that has waited too long, in the order in which the waits began
abbrev pub first_late : Machine → List Suspended → Option Task
first_late m [] = None
first_late m (w ∷ ws) = if is_late m w (task_at m.tasks w.label) then task_at m.tasks w.label else first_late m ws

-- a task that has waited too long is abended with AKCS
abbrev pub expired_task : Machine → Option Task → Stepped (Option Expired)
expired_task m None = record { outcome = None; machine = m }
expired_task m (Some t) = record { outcome = Some (record { label = t.label; code = timed_out }); machine = abended m t }

-- the first task that has waited too long is abended
abbrev pub expired : Machine → Stepped (Option Expired)
expired m = expired_task m (first_late m m.waiting)

-- nothing happens by itself: no waiting command may resume, and no task has waited too long
abbrev pub IsAtRest : Machine → Type 0
IsAtRest m = ((woken m).outcome ≡ None) × ((expired m).outcome ≡ None)
