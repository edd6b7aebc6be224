use Rattle.std.proofs.Common.{◌≡◌, ◌-◌, ◌∙◌, ◌∷◌, ◌++◌, [], Some, ap, suc, subst, length, drop, slice_get, arith}
use Rattle.cics_dispatch.specs.Notes.Notes.{new_note, count}
use Rattle.cics_dispatch.specs.Machine.Regions.{IsRegionKept}
use Rattle.cics_dispatch.specs.Machine.Waits.{AreApart}
use Rattle.cics_dispatch.proofs.OfNotes.FiledNotes.{count_push}
use Rattle.cics_dispatch.proofs.OfMachine.Deadlines.{due_push, due_new}
use Rattle.cics_dispatch.proofs.OfMachine.Noted.{noted_as, noted_push, drop_last}
use Rattle.cics_dispatch.proofs.dispatcher.Dispatcher.note_last.Goals as goal

pub returns : goal.returns
returns c =
    let m = c.args.self.now.machine in
    let ws = m.waiting in
    let v = c.args.notes.now in
    let w = c.in-Some.wait.now in
    let all = c.requires.one in
    let there : slice_get ws (length ws - 1) ≡ Some w = subst (λ r. slice_get r.machine.waiting (length r.machine.waiting - 1) ≡ Some w) c.self.view_is c.in-Some.ensures.last in
    let last : length ws - 1 ≡ count v.rows = omega (arith, all) in
    let behind : drop (count v.rows) ws ≡ w ∷ [] = drop_last ws (count v.rows) w all (subst (λ k. slice_get ws k ≡ Some w) last there) in
    let pushed = noted_push m v.resources v.blockers v.rows ws [] w c.requires.noted.noted behind in
    let key = c.deadline.result in
    let kept = (subst IsRegionKept c.self.view_is c.self.invariant).tasks.waits in
    let is_due = due_new m (count v.rows) [] w key kept behind (λ t there. c.deadline.ensures t there) in
    let due = due_push m.tasks v.rows ws [] v.deadlines (new_note w.label) w key c.requires.noted.due behind is_due in
    let rows : c.push.new.self.rows ≡ v.rows ++ Some (new_note w.label) ∷ [] = c.in_ok-push.ensures.rows ∙ ap (λ l. v.rows ++ Some (new_note l) ∷ []) c.label.ensures in
    let grown : count c.push.new.self.rows ≡ suc (count v.rows) = ap count rows ∙ count_push v.rows (new_note w.label) in
    record {
      noted =
          noted_as m c.push.new.self v.resources v.blockers (v.rows ++ Some (new_note w.label) ∷ []) (v.deadlines ++ key ∷ []) c.in_ok-push.ensures.resources c.in_ok-push.ensures.blockers rows c.in_ok-push.ensures.deadlines pushed.0
          due;
      all = omega (arith, all, grown);
      once = subst (λ r. AreApart r.machine.waiting) c.self.view_is c.in-Some.ensures.once;
    }
