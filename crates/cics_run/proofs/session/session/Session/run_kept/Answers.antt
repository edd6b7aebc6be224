use Rattle.std.proofs.Common.{◌≡◌, List, ℕ, ◌++◌, ◌+◌, ap, ◌∙◌, refl, subst, append_assoc, true, false}
use Rattle.cics_run.specs.Session.Printing.{AppendsFront}
use Rattle.cics_run.specs.Session.Standing.{next_step}
use Rattle.cics_run.specs.Stage.Journal.{text_of}
use Rattle.cics_run.specs.Stage.Printed.{printed_in}
use Rattle.cics_run.proofs.OfSession.Printing.{behind-pending, on-err}
use Rattle.cics_run.proofs.OfStage.Printing.{has_kept}
use Rattle.cics_run.proofs.session.session.Session.run_kept.Goals as goal

-- two texts, one behind the other, stand behind what was pending
both-behind : (pending shown text front all : List ℕ) → all ≡ front ++ text → front ≡ pending ++ shown → all ≡ pending ++ (shown ++ text)
both-behind pending shown text front all put before = put ∙ ap (λ x. x ++ text) before ∙ append_assoc pending shown text

pub returns-then-is_fault : goal.returns-then-is_fault
returns-then-is_fault g c =
    let s = c.args.self.now in
    let played = rw c.deref-2.ensures.value at c.in_ok-self.ensures.played in
    let kept = has_kept (s.number + 1) s.line.items c.run_line.new.self (printed_in (record s.journal { text = c.push_wanted_line.new.out; notices = c.clear.new.self }))
    (printed_in c.run_line.new.observer) (printed_in c.keep_remarks.new.self) (next_step s s.line.items) c.clear.ensures.items
    (rw c.deref-2.ensures.value at c.in_ok-self.ensures.seen) (rw c.deref-2.ensures.value at c.in_ok-self.ensures.played.0) (rw c.deref-3.ensures.value at c.in_ok-keep_remarks.ensures) in
    let shown = rw c.deref.ensures.value at c.in_ok-push_wanted_line.ensures in
    record {
      ran = record { stage = played.0; number = refl; fault = played.1; amiss = kept.amiss; told = kept.told; watched = kept.watched; shows = refl };
      line = refl;
      fault = c.if-is_fault.ensures;
      printed = behind-pending _ _ s.journal.text.items _ _ _ (both-behind s.journal.text.items _ (text_of (s.number + 1) (next_step s s.line.items)) _ _ kept.text shown) c.in_ok-write_printed.ensures.printed;
      left = λ _. c.in_ok-write_printed.ensures.left c.if-is_fault.true;
      err = tt;
      failed = c.in_ok-write_printed.ensures.failed;
    }

pub returns : goal.returns
returns g c =
    let s = c.args.self.now in
    let played = rw c.deref-2.ensures.value at c.in_ok-self.ensures.played in
    let kept = has_kept (s.number + 1) s.line.items c.run_line.new.self (printed_in (record s.journal { text = c.push_wanted_line.new.out; notices = c.clear.new.self }))
    (printed_in c.run_line.new.observer) (printed_in c.keep_remarks.new.self) (next_step s s.line.items) c.clear.ensures.items
    (rw c.deref-2.ensures.value at c.in_ok-self.ensures.seen) (rw c.deref-2.ensures.value at c.in_ok-self.ensures.played.0) (rw c.deref-3.ensures.value at c.in_ok-keep_remarks.ensures) in
    let shown = rw c.deref.ensures.value at c.in_ok-push_wanted_line.ensures in
    record {
      ran = record { stage = played.0; number = refl; fault = played.1; amiss = kept.amiss; told = kept.told; watched = kept.watched; shows = refl };
      line = c.clear-2.ensures.items;
      fault = c.if-is_fault.ensures;
      printed = behind-pending _ _ s.journal.text.items _ _ _ (both-behind s.journal.text.items _ (text_of (s.number + 1) (next_step s s.line.items)) _ _ kept.text shown) c.in_ok-write_printed.ensures.printed;
      left = λ e. let wrong : false ≡ true = e in cc;
      err = tt;
      failed = c.in_ok-write_printed.ensures.failed;
    }

pub returns-in_err-write_printed-clause-err : goal.returns-in_err-write_printed-clause-err
returns-in_err-write_printed-clause-err g c =
    let s = c.args.self.now in
    let kept = has_kept (s.number + 1) s.line.items c.run_line.new.self (printed_in (record s.journal { text = c.push_wanted_line.new.out; notices = c.clear.new.self }))
    (printed_in c.run_line.new.observer) (printed_in c.keep_remarks.new.self) (next_step s s.line.items) c.clear.ensures.items
    (rw c.deref-2.ensures.value at c.in_ok-self.ensures.seen) (rw c.deref-2.ensures.value at c.in_ok-self.ensures.played.0) (rw c.deref-3.ensures.value at c.in_ok-keep_remarks.ensures) in
    let shown = rw c.deref.ensures.value at c.in_ok-push_wanted_line.ensures in
    on-err _ _ (subst (AppendsFront (g.K.Sink.contents c.args.sink.now) (g.K.Sink.contents c.write_printed.new.sink))
    (both-behind s.journal.text.items _ (text_of (s.number + 1) (next_step s s.line.items)) _ _ kept.text shown) c.in_err-write_printed.ensures.err)
