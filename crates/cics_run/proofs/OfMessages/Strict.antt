-- With --strict each event that is amiss is noted.
use Rattle.std.proofs.Common.{◌≡◌, Bool, true, refl, Some, None}
use Rattle.std.specs.Prelude.{is_some}
use Rattle.cics_names.specs.Keyed.{Bytes}
use Rattle.cics_dispatch.specs.declared.machine.events.Event.{Event}
use Rattle.cics_dispatch.specs.declared.machine.events.Event.TheVariants.{Attached, Issued, Woken, Expired, ClockSet, ShutDown, Refused}
use Rattle.cics_dispatch.specs.declared.machine.outcomes.Outcome.{Outcome}
use Rattle.cics_dispatch.specs.declared.machine.outcomes.Outcome.TheVariants.{Replied, Waiting, Abended, Ended}
use Rattle.cics_run.specs.Stage.Amiss.{is_amiss, is_abended_amiss}
use Rattle.cics_run.specs.Stage.Notices.{noted, noted_on, noted_resumed, noted_late, raised_by}
use Rattle.cics_run.specs.declared.stage.notices.Scope.{Scope}

abbrev strict : Bool → Scope
strict why = record { strict = true; why = why }

resumed_noted : (why : Bool) (label : Bytes) (outcome : Outcome) → is_abended_amiss outcome ≡ true → is_some (noted_resumed label (raised_by outcome) (noted_late (strict why) label outcome)) ≡ true
resumed_noted why label (Replied reply) amiss = cc
resumed_noted why label (Waiting holder) amiss = cc
resumed_noted why label Ended amiss = cc
resumed_noted why label (Abended code None) amiss = rw amiss refl
resumed_noted why label (Abended code (Some reply)) amiss = refl

amiss_noted : (why : Bool) (e : Event) → is_amiss e ≡ true → is_some (noted_on (strict why) e) ≡ true
amiss_noted why (Attached label transaction) amiss = cc
amiss_noted why (Issued label (Replied reply) reason) amiss = cc
amiss_noted why (Issued label (Waiting holder) reason) amiss = cc
amiss_noted why (Issued label Ended reason) amiss = cc
amiss_noted why (Issued label (Abended code None) reason) amiss = rw amiss refl
amiss_noted why (Issued label (Abended code (Some reply)) reason) amiss = refl
amiss_noted why (Woken w) amiss = resumed_noted why w.label w.outcome amiss
amiss_noted why (Expired e) amiss = rw amiss refl
amiss_noted why (ClockSet now) amiss = cc
amiss_noted why (ShutDown units) amiss = cc
amiss_noted why (Refused who refusal) amiss = refl

pub strict_notices : (why : Bool) (e : Event) → is_amiss e ≡ true → is_some (noted (strict why) e) ≡ true
strict_notices why e amiss = rw amiss (amiss_noted why e amiss)
