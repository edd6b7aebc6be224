use Rattle.std.proofs.Common.{◌≡◌, ◌+◌, ◌-◌, ◌∙◌, ◌∷◌, ◌++◌, [], Some, ap, suc, sym, subst, length, drop, arith}
use Rattle.cics_dispatch.specs.Notes.Notes.{new_note, count}
use Rattle.cics_dispatch.specs.Machine.Regions.{IsRegionKept}
use Rattle.cics_dispatch.specs.Machine.Waits.{AreApart}
use Rattle.cics_dispatch.proofs.OfNotes.FiledNotes.{count_push}
use Rattle.cics_dispatch.proofs.OfMachine.Deadlines.{due_push, due_new}
use Rattle.cics_dispatch.proofs.OfMachine.Noted.{noted_as, noted_few, noted_push, drop_next, drop_none}
use Rattle.cics_dispatch.proofs.dispatcher.Dispatcher.note_behind.Goals as goal

pub loop-wait-init : goal.loop-wait-init
loop-wait-init c =
    let ws = c.args.self.now.machine.waiting in
    let all = count c.args.notes.now.rows in
    let noted : c.count-noted.result ≡ all = c.count-noted.ensures in
    let start : 0 + (all - c.count-noted.result) ≡ 0 = omega (arith, noted) in
    record {
      noted = c.requires.noted;
      few = omega arith;
      more = omega (arith, noted);
      rest = ap (λ k. drop k ws) start ∙ sym (c.into_iter-wait-iterator.ensures.into_iter_gives ∙ c.iter-wait-items.ensures.rest ∙ ap (λ v. v.machine.waiting) c.self.view_is);
    }

pub loop-wait-preserved-then-passed-noted : goal.loop-wait-preserved-then-passed-noted
loop-wait-preserved-then-passed-noted c =
    let ws = c.args.self.now.machine.waiting in
    let before = c.loop-wait.invariant in
    let k = c.loop-wait.passed + (count c.loop-wait.notes.rows - c.count-noted.result) in
    let next : c.loop-wait.passed + 1 + (count c.loop-wait.notes.rows - c.count-noted.result) ≡ suc k = omega arith in
    record {
      noted = before.noted;
      few = omega (arith, c.if-passed-noted.true);
      more = before.more;
      rest = ap (λ k. drop k ws) next ∙ drop_next k ws c.next.new.self c.in-Some.wait.now (before.rest ∙ c.in-Some.ensures.steps);
    }

pub loop-wait-preserved : goal.loop-wait-preserved
loop-wait-preserved c =
    let m = c.args.self.now.machine in
    let ws = m.waiting in
    let before = c.loop-wait.invariant in
    let v = c.loop-wait.notes in
    let w = c.in-Some.wait.now in
    let noted = c.count-noted.result in
    let few = before.few in
    let more = before.more in
    let here : count v.rows ≡ c.loop-wait.passed + (count v.rows - noted) = omega (arith, few, more, c.if-passed-noted.false) in
    let behind : drop (count v.rows) ws ≡ w ∷ c.next.new.self = ap (λ k. drop k ws) here ∙ before.rest ∙ c.in-Some.ensures.steps in
    let pushed = noted_push m v.resources v.blockers v.rows ws c.next.new.self w before.noted.noted behind in
    let key = c.deadline.result in
    let kept = (subst IsRegionKept c.self.view_is c.self.invariant).tasks.waits in
    let is_due = due_new m (count v.rows) c.next.new.self w key kept behind (λ t there. c.deadline.ensures t there) in
    let due = due_push m.tasks v.rows ws c.next.new.self v.deadlines (new_note w.label) w key before.noted.due behind is_due in
    let rows : c.push.new.self.rows ≡ v.rows ++ Some (new_note w.label) ∷ [] = c.in_ok-push.ensures.rows ∙ ap (λ l. v.rows ++ Some (new_note l) ∷ []) c.label.ensures in
    let grown : count c.push.new.self.rows ≡ suc (count v.rows) = ap count rows ∙ count_push v.rows (new_note w.label) in
    let there : c.loop-wait.passed + (count c.push.new.self.rows - noted) ≡ count c.push.new.self.rows = omega (arith, few, more, grown, c.if-passed-noted.false) in
    record {
      noted =
          noted_as m c.push.new.self v.resources v.blockers (v.rows ++ Some (new_note w.label) ∷ []) (v.deadlines ++ key ∷ []) c.in_ok-push.ensures.resources c.in_ok-push.ensures.blockers rows c.in_ok-push.ensures.deadlines pushed.0
          due;
      few = few;
      more = omega (arith, more, grown);
      rest = ap (λ k. drop k ws) (there ∙ ap count rows) ∙ pushed.1;
    }

pub returns : goal.returns
returns c =
    let m = c.args.self.now.machine in
    let ws = m.waiting in
    let before = c.loop-wait.invariant in
    let v = c.loop-wait.notes in
    let few = before.few in
    let more = before.more in
    let within = noted_few m v.resources v.blockers v.rows ws before.noted.noted in
    let all = drop_none (c.loop-wait.passed + (count v.rows - c.count-noted.result)) ws (before.rest ∙ c.in-None.ensures.steps.0) in
    record {
      noted = before.noted;
      all = let same : count v.rows ≡ length ws = omega (arith, few, more, within, all) in same;
      once = subst (λ r. AreApart r.machine.waiting) c.self.view_is c.iter-wait-items.ensures.once;
    }
