-- What a strict run finds amiss at its end.
use Rattle.std.specs.Prelude.{Bool, ◌||◌}
use Rattle.cics_run.specs.Session.Running.{Played, are_reads_amiss}
use Rattle.cics_run.specs.Session.Standing.{final_stage}
use Rattle.cics_run.specs.Messages.Waiting.{is_left_waiting}

-- whether something is amiss after some lines: one of their events was, something that reads saw or
-- missed is, if that is wanted, or a task still waits
abbrev pub ends_amiss : Bool → Played → Bool
ends_amiss reads p = (p.is_amiss || are_reads_amiss (p.watched reads)) || is_left_waiting (final_stage p)
