use Rattle.std.proofs.Common.{◌<◌, true, sym, subst}
use Rattle.cics_dispatch.specs.Machine.Notes.{AreNotedNow, IsLooked}
use Rattle.cics_dispatch.specs.Notes.Notes.{NotesValue}
use Rattle.cics_dispatch.proofs.OfMachine.Looked.{looked_waits, looked_free, left_open, open_less}
use Rattle.cics_dispatch.proofs.dispatcher.Dispatcher.first_free.Goals as goal

pub look-requires : goal.look-requires
look-requires c =
    let m = c.args.self.now.machine in
    let noted = subst (AreNotedNow m) (sym c.first_open.ensures.same) c.loop-at.invariant.noted in
    looked_waits m c.first_open.new.self c.in-Some.at c.in-Some.note c.requires.kept noted c.in-Some.ensures.first

pub returns-in-MayGoOn-clause-first : goal.returns-in-MayGoOn-clause-first
returns-in-MayGoOn-clause-first c =
    let m = c.args.self.now.machine in
    let noted = subst (AreNotedNow m) (sym c.first_open.ensures.same) c.loop-at.invariant.noted in
    looked_free m c.first_open.new.self c.in-Some.at c.in-Some.note c.requires.kept noted c.in-Some.ensures.first (λ i w there own. c.in-MayGoOn.ensures i w there own)

pub loop-at-smaller : goal.loop-at-smaller
loop-at-smaller c =
    let m = c.args.self.now.machine in
    let looked : IsLooked m c.first_open.new.self c.note_blocker.new.notes c.in-Some.at true = c.in_ok-note_blocker-in-IsBlocked.ensures in
    subst (λ (v : NotesValue). left_open c.note_blocker.new.notes.blockers c.note_blocker.new.notes.rows < left_open v.blockers v.rows) c.first_open.ensures.same
    (open_less m c.first_open.new.self c.note_blocker.new.notes c.in-Some.at c.in-Some.note c.in-Some.ensures.first looked)
