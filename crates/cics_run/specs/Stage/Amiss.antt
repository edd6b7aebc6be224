-- What a strict run finds amiss.
use Rattle.std.specs.Prelude.{Bool, true, false, Some, None, List}
use Rattle.std.specs.List.{list_any}
use Rattle.std.specs.Str.{bytes_eq}
use Rattle.cics_names.specs.declared.conditions.AbendCode.{AbendCode}
use Rattle.cics_dispatch.specs.Machine.Machine.{timed_out}
use Rattle.cics_dispatch.specs.Machine.Events.{Happened}
use Rattle.cics_dispatch.specs.declared.machine.events.Event.{Event}
use Rattle.cics_dispatch.specs.declared.machine.events.Event.TheVariants.{Attached, Issued, Woken, Expired, ClockSet, ShutDown, Refused}
use Rattle.cics_dispatch.specs.declared.machine.outcomes.Outcome.{Outcome}
use Rattle.cics_dispatch.specs.declared.machine.outcomes.Outcome.TheVariants.{Abended}

-- whether a code is that of a time-out
abbrev pub is_time_out : AbendCode → Bool
is_time_out code = bytes_eq code.0 timed_out.0

-- whether a task was abended by a condition, or with the code of a time-out
abbrev pub is_abended_amiss : Outcome → Bool
is_abended_amiss (Abended code None) = is_time_out code
is_abended_amiss (Abended code (Some reply)) = true
is_abended_amiss _ = false

-- whether an event is amiss: a request was refused, or a task was abended so
abbrev pub is_amiss : Event → Bool
is_amiss (Attached label transaction) = false
is_amiss (Issued label outcome reason) = is_abended_amiss outcome
is_amiss (Woken w) = is_abended_amiss w.outcome
is_amiss (Expired e) = is_time_out e.code
is_amiss (ClockSet now) = false
is_amiss (ShutDown units) = false
is_amiss (Refused who refusal) = true

-- whether one of some events is amiss
abbrev pub any_amiss : List Happened → Bool
any_amiss events = list_any (λ h. is_amiss h.event) events
