use Rattle.std.proofs.Common.{◌<◌, length, Some, ap, sym, subst, ◌∙◌, refl, arith}
use Rattle.std.proofs.lemmas.Option.{slice_get_read, slice_get_within}
use Rattle.cics_dispatch.specs.Notes.Filed.{IsShown}
use Rattle.cics_dispatch.proofs.OfNotes.ShownNotes.{shown_passed, closed_all_shown, closed_before_shown, looks, looks_less, key_zero, key_above, passed_row}
use Rattle.cics_dispatch.proofs.notes.groups.Groups.first_open.Goals as goal
use Rattle.cics_dispatch.proofs.notes.groups.Groups.first_open.Goals.{In-Some}

-- the first key is that of a row
within : (c : In-Some) → c.in-Some.at < length c.loop-at.self.rows.items
within c = subst (λ k. c.in-Some.at < k) c.loop-at.invariant.shown.even (slice_get_within c.loop-at.self.keys c.in-Some.at c.in-Some.ensures.key c.in-Some.ensures.there)

pub index-requires : goal.index-requires
index-requires c =
    let inside = within (goal.at.index-requires c).In-Some in
    let ok = c.loop-at.self.rows.ok.0 in
    omega (arith, inside, ok)

pub returns-in-Some-open_note-clause-first : goal.returns-in-Some-open_note-clause-first
returns-in-Some-open_note-clause-first c =
    let n = c.loop-at.self in
    let inside = within (goal.at.returns-in-Some-open_note-clause-first c).In-Some in
    record {
      there = slice_get_read n.rows.items (length n.rows.items) c.in-Some.at c.index.result.now refl inside c.index.ensures ∙ ap Some c.in-Some-open_note.ensures.some.0;
      open_yet = rw c.as_slice.ensures.value at c.in-Some-open_note.ensures.some.1;
      before = closed_before_shown _ _ _ _ c.loop-at.invariant.shown c.in-Some.at (λ j k less key. c.in-Some.ensures.before j k less key);
    }

pub set-requires : goal.set-requires
set-requires c = slice_get_within c.loop-at.self.keys c.in-Some.at c.in-Some.ensures.key c.in-Some.ensures.there

pub loop-at-smaller : goal.loop-at-smaller
loop-at-smaller c =
    let keys = c.loop-at.self.keys in
    subst (λ ks. looks ks < looks keys) (sym c.set.ensures) (looks_less keys c.in-Some.at (key_zero keys c.in-Some.at c.in-Some.ensures))

pub loop-at-preserved : goal.loop-at-preserved
loop-at-preserved c =
    let n = c.loop-at.self in
    let at = c.in-Some.at in
    let inside = within (goal.at.loop-at-preserved c).In-Some in
    let row = slice_get_read n.rows.items (length n.rows.items) at c.index.result.now refl inside c.index.ensures in
    let closed = rw c.as_slice.ensures.value at c.in_default-open_note.ensures.none in
    record {
      shown = subst (IsShown n.rows.items n.blockers.items n.members.items) (sym c.set.ensures)
          (shown_passed _ _ _ _ c.loop-at.invariant.shown at (passed_row n.blockers.items n.rows.items at c.index.result.now row closed));
      rows = c.loop-at.invariant.rows;
      blockers = c.loop-at.invariant.blockers;
    }

pub returns-clause-none : goal.returns-clause-none
returns-clause-none c = closed_all_shown _ _ _ _ c.loop-at.invariant.shown (key_above c.loop-at.self.keys c.in_default.ensures)
