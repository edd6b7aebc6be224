use Rattle.std.proofs.Common.{inl, inr, ◌≡◌, ◌<◌, ◌+◌, ℕ, length, Some, slice_get, ap, sym, subst, ◌∙◌, arith}
use Rattle.std.proofs.lemmas.Option.{slice_get-get_or, slice_get_within}
use Rattle.cics_dispatch.specs.declared.notes.groups.Parked.{Parked}
use Rattle.cics_dispatch.specs.Notes.Filed.{IsNotOf}
use Rattle.cics_dispatch.proofs.OfNotes.ShownNotes.{less_or_same}
use Rattle.cics_dispatch.proofs.OfNotes.FiledNotes.{reopening_more, not_of_kept, some_same}
use Rattle.cics_dispatch.proofs.notes.groups.Groups.reopen.Goals as goal

pub loop-place-preserved : goal.loop-place-preserved
loop-place-preserved c =
    let ps = c.args.parked.now in
    let u = c.args.unit in
    let at = c.loop-place.place in
    let n = c.reopen_one.new.self in
    let within : at < length ps = omega arith in
    let re = c.reopen_one.ensures.reopening in
    let one_more : (k : ℕ) (p : Parked) → k < at + 1 → slice_get ps k ≡ Some p → IsNotOf n.rows.items n.blockers.items u p = λ k p before own. elim (less_or_same k at before) [
      | inl less ↦ not_of_kept u _ _ _ _ p re (c.loop-place.invariant.opened k p less own)
      | inr same ↦ subst (IsNotOf n.rows.items n.blockers.items u) (some_same Parked _ p (sym (slice_get-get_or ps at _ within) ∙ ap (slice_get ps) (sym same) ∙ own)) c.reopen_one.ensures.opened
    ] in
    record {
      shown = c.reopen_one.ensures.shown;
      reopening = reopening_more u _ _ _ _ _ _ c.loop-place.invariant.reopening re;
      opened = one_more;
    }

pub returns-clause-opened : goal.returns-clause-opened
returns-clause-opened c =
    let ps = c.args.parked.now in
    λ k p own. let less = slice_get_within ps k p own in c.loop-place.invariant.opened k p (omega (arith, less, c.loop-place-test.false)) own
