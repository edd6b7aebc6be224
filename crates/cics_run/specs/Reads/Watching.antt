-- What a watcher has noted.
use Rattle.cics_run.specs.Reads.Watched.{Watched}
use Rattle.cics_run.specs.declared.reads.watching.Watcher.{Watcher}

-- what is known of the run so far
abbrev pub watched_in : Watcher → Watched
watched_in w =
    record {
      run = w.reads;
      plain = w.plain;
      doomed = w.doomed;
      entries = w.entries;
      lines = w.lines.entries;
      deleters = w.deleters.items;
    }
