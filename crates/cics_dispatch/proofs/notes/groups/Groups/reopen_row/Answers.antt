use Rattle.std.proofs.Common.{◌≡◌, ◌<◌, Some, None, length, slice_get, slice_set, ap, sym, subst, ◌∙◌, arith, refl}
use Rattle.std.proofs.lemmas.Option.{slice_get_read}
use Rattle.cics_dispatch.specs.declared.notes.groups.WaitNote.{WaitNote}
use Rattle.cics_dispatch.specs.Notes.Filed.{IsShown}
use Rattle.cics_dispatch.proofs.OfNotes.ShownNotes.{shown_row, one, row_within}
use Rattle.cics_dispatch.proofs.OfNotes.FiledNotes.{reopening_row, row_opened, same_unit, other_unit, some_same}
use Rattle.cics_dispatch.proofs.notes.groups.Groups.reopen_row.Goals as goal
use Rattle.cics_dispatch.proofs.notes.groups.Groups.reopen_row.Goals.{In-Some}

there : (c : In-Some) → slice_get c.args.self.now.rows.items c.args.at ≡ Some (Some c.in-Some.note)
there c =
    let rows = c.args.self.now.rows in
    let test = c.if-at-len.false in
    let size = c.len.ensures in
    let ok = rows.ok.0 in
    let within : c.args.at < length rows.items = omega (arith, test, size, ok) in
    slice_get_read rows.items (length rows.items) c.args.at c.index.result.now refl within c.index.ensures ∙ ap Some c.in-Some.is

pub set-requires : goal.set-requires
set-requires c = row_within _ _ _ _ c.requires c.args.at _ (there (goal.at.set-requires c).In-Some)

pub returns-then-eq-clause-shown : goal.returns-then-eq-clause-shown
returns-then-eq-clause-shown c =
    let old = c.args.self.now in
    let n = c.in-Some.note in
    subst (IsShown (slice_set old.rows.items c.args.at (Some (record n { blocker = None }))) old.blockers.items old.members.items) (sym c.set.ensures)
    (shown_row _ _ _ _ c.requires c.args.at n (record n { blocker = None }) (there (goal.at.returns-then-eq-clause-shown c).In-Some) refl)

pub returns-then-eq-clause-reopening : goal.returns-then-eq-clause-reopening
returns-then-eq-clause-reopening c =
    let old = c.args.self.now in
    let is = there (goal.at.returns-then-eq-clause-reopening c).In-Some in
    reopening_row c.args.unit c.args.at old.rows.items old.blockers.items c.in-Some.note is (same_unit _ c.args.unit c.eq.result c.eq.ensures c.if-eq.true)

pub returns-then-eq-clause-opened : goal.returns-then-eq-clause-opened
returns-then-eq-clause-opened c = λ a. row_opened c.args.unit c.args.at c.args.self.now.rows.items c.in-Some.note (there (goal.at.returns-then-eq-clause-opened c).In-Some) a

pub returns-else-eq-clause-opened : goal.returns-else-eq-clause-opened
returns-else-eq-clause-opened c =
    let is = there (goal.at.returns-else-eq-clause-opened c).In-Some in
    λ a.
    let same = some_same WaitNote c.in-Some.note a.note (one (slice_get c.args.self.now.rows.items c.args.at) (Some c.in-Some.note) (Some a.note) is a.there) in
    other_unit _ c.args.unit c.eq.result c.eq.ensures c.if-eq.false (ap (λ (x : WaitNote). x.blocker) same ∙ a.own)
