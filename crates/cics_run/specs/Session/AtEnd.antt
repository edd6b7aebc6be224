-- What a session prints at its end.
use Rattle.std.specs.Prelude.{ℕ, Bool, option_map, List}
use Rattle.cics_run.specs.Reads.Watching.{watched_in}
use Rattle.cics_run.specs.Session.Running.{are_reads_amiss}
use Rattle.cics_run.specs.Session.Wanted.{at_end}
use Rattle.cics_run.specs.declared.session.session.AtEnd.{AtEnd}
use Rattle.cics_run.specs.declared.stage.stage.Stage.{Stage}

-- what is wanted of the listing, the replay, the reads and the serial run
abbrev pub text_at_end : AtEnd → Stage → List ℕ
text_at_end e stage = at_end e.wanted stage (option_map watched_in e.watcher.now)

-- whether something is amiss that reads saw or missed, if that is wanted
abbrev pub amiss_at : AtEnd → Bool
amiss_at e = are_reads_amiss (option_map watched_in e.watcher.now)
