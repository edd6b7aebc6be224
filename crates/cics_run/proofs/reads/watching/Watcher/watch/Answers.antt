use Rattle.std.proofs.lemmas.Result.{on_ok_weaker}
use Rattle.cics_run.specs.Reads.Watching.{watched_in}
use Rattle.cics_run.proofs.OfReads.Watching.{seen-behind}
use Rattle.cics_run.proofs.reads.watching.Watcher.watch.Goals as goal

pub returns : goal.returns
returns c =
    on_ok_weaker c.look_ahead.result
    (seen-behind (watched_in c.args.self.now) (watched_in c.note_event.new.self) (watched_in c.note_wait.new.self) (watched_in c.look_ahead.new.self) c.args.number
    (record { event = c.args.event.now; machine = c.args.region.now.machine }) c.in_ok-note_event.ensures c.in_ok-note_wait.ensures)
    c.look_ahead.ensures
