use Rattle.std.proofs.Common.{rules, arith, ap, ◌∙◌, ◌++◌, ◌∷◌, [], Some}
use Rattle.cics_dispatch.specs.Notes.Notes.{new_note}
use Rattle.cics_dispatch.proofs.OfNotes.FiledNotes.{filed_push}
use Rattle.cics_dispatch.proofs.notes.notes.Notes.push.Goals as goal

pub invariant_of-self-2 : goal.invariant_of-self-2
invariant_of-self-2 c =
    let n = Some (new_note c.args.label) in
    rw (c.push_reserved.ensures.items ∙ ap (λ r. r ++ n ∷ []) c.in_ok-reserve.ensures.items)
    (rw c.in_ok-push_each.ensures.ok.0 (filed_push _ _ _ _ _ _ _ c.self.invariant c.args.label c.in-Some.count (search (rules, arith))))

pub invariant_of-self-in_err-push_each : goal.invariant_of-self-in_err-push_each
invariant_of-self-in_err-push_each c =
    rw c.in_ok-reserve.ensures.items (rw c.in_err-push_each.ensures.err.0 c.self.invariant)
