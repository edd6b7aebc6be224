use Rattle.std.proofs.Common.{◌≡◌, Some, sym, ◌∙◌}
use Rattle.cics_history.proofs.Entries.{insert_entry-with_value}
use Rattle.cics_run.specs.Reads.Watched.{began, with_line, with_label}
use Rattle.cics_run.specs.Reads.Watching.{watched_in}
use Rattle.cics_run.proofs.reads.watching.Watcher.note_wait.Goals as goal

pub returns-in_ok-push-in-Some : goal.returns-in_ok-push-in-Some
returns-in_ok-push-in-Some c =
    let w = watched_in c.args.self.now in
    let label = c.in-Some.label in
    let kept = c.in_ok-insert-in-Some.ensures.entries ∙ insert_entry-with_value label c.args.number w.lines in
    let is : Some label ≡ began c.args.event.now = sym c.in-Some.is ∙ c.began.ensures in
    (λ i. record w { lines = kept i; deleters = c.in_ok-push-in-Some.ensures.items i })
    ∙ (λ i. record w { lines = with_line w.lines c.args.number (is i); deleters = with_label w.deleters (is i) })
