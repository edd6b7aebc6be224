use Rattle.std.proofs.Common.{sym, ap, ◌∙◌, length}
use Rattle.cics_dispatch.specs.Notes.Notes.{count}
use Rattle.cics_dispatch.proofs.OfNotes.FiledNotes.{first_found}
use Rattle.cics_dispatch.proofs.notes.notes.Notes.first_open.Goals as goal

pub invariant_of-self : goal.invariant_of-self
invariant_of-self c =
    let u = c.self.inside in
    let new = c.first_open.new.self in
    let is = c.self.invariant in
    record {
      counted = is.counted ∙ ap (λ r. count r.items) (sym c.first_open.ensures.rows);
      resources = is.resources ∙ ap (λ b. length b.items) (sym c.first_open.ensures.blockers);
      shown = c.first_open.ensures.shown;
      lists = rw c.first_open.ensures.rows (rw c.first_open.ensures.blockers is.lists);
    }

pub returns-clause-first : goal.returns-clause-first
returns-clause-first c =
    let u = c.self.inside in
    first_found _ u.resources.keys _ _ _ c.first_open.ensures.shown u.deadlines c.first_open.result c.first_open.ensures.first
