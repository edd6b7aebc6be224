use Rattle.std.proofs.Common.{◌∙◌, ap, sym, subst}
use Rattle.cics_dispatch.specs.Machine.Notes.{AreNotedNow}
use Rattle.cics_dispatch.proofs.OfMachine.Noted.{noted_empty}
use Rattle.cics_dispatch.proofs.dispatcher.Dispatcher.note_rest.Goals.{then-have_grown, else-have_grown}
use Rattle.cics_dispatch.proofs.dispatcher.Dispatcher.note_rest.Goals as goal

pub note_behind-requires : goal.note_behind-requires
note_behind-requires c =
    let m = c.args.self.now.machine in
    elim c.if-have_grown.branch [
      | then-have_grown w ↦ record { noted = noted_empty m c.if-have_grown.notes (ap (λ v. v.rows) w.notes-is ∙ w.clear.ensures.rows) (ap (λ v. v.deadlines) w.notes-is ∙ w.clear.ensures.deadlines) }
      | else-have_grown w ↦ record { noted = subst (AreNotedNow m) (sym w.notes-is) c.requires.noted }
    ]
