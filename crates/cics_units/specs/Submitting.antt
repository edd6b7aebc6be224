-- Commands that are submitted: the result of one, which has the command if it must wait.
use Rattle.std.specs.Prelude.{◌≡◌}
use Rattle.cics_history.specs.declared.ops.Op.{Op}
use Rattle.cics_history.specs.declared.ops.Done.{Done}
use Rattle.cics_history.specs.declared.ops.Done.TheVariants.{Answered, MustWait}
use Rattle.cics_units.specs.declared.units.Submitted.{Submitted}
use Rattle.cics_units.specs.declared.units.Submitted.TheVariants.{Answered as Told, MustWait as Waits}

-- the result of a command, without the command
abbrev pub as_done : Submitted → Done
as_done (Told unit answer) = Answered unit answer
as_done (Waits holder op) = MustWait holder

-- a command that has to wait is returned as it was submitted
abbrev pub IsBackIfItWaits : Op → Submitted → Type 0
IsBackIfItWaits op (Told unit answer) = Unit {0}
IsBackIfItWaits op (Waits holder back) = back ≡ op
