use Rattle.std.proofs.Common.{◌≡◌, ◌<◌, ◌∙◌, ◌≤◌, ◌-◌, ◌+◌, ap, Some, length, slice_get, arith, refl}
use Rattle.std.proofs.lemmas.Option.{slice_get_within, slice_get_read}
use Rattle.cics_dispatch.proofs.OfNotes.ShownNotes.{group_within, member_within}
use Rattle.cics_dispatch.proofs.OfNotes.FiledNotes.{count_gone, filed_gone}
use Rattle.cics_dispatch.proofs.notes.notes.Notes.remove.Goals as goal
use Rattle.cics_dispatch.proofs.notes.notes.Notes.remove.Goals.{In-Some}

-- what is known of the note that is dropped
module _ (c : In-Some) where
  within : c.args.at < length c.self.inside.groups.rows.items
  within = slice_get_within c.self.inside.groups.rows.items c.args.at (Some c.requires.there.0) (ap (λ v. slice_get v.rows c.args.at) c.self.view_is ∙ c.requires.there.1)

  there : slice_get c.self.inside.groups.rows.items c.args.at ≡ Some (Some c.in-Some.note)
  there = slice_get_read c.self.inside.groups.rows.items (length c.self.inside.groups.rows.items) c.args.at c.index.result.now refl within c.index.ensures ∙ ap Some c.in-Some.is

pub leave-requires-clause-group : goal.leave-requires-clause-group
leave-requires-clause-group c = group_within _ _ _ _ c.self.invariant.shown c.args.at c.in-Some.note (there (goal.at.leave-requires-clause-group c).In-Some)

pub leave-requires-clause-within : goal.leave-requires-clause-within
leave-requires-clause-within c = member_within _ _ _ _ c.self.invariant.shown

pub index_mut-requires : goal.index_mut-requires
index_mut-requires c =
    let inside = within (goal.at.index_mut-requires c).In-Some in
    let ok = c.self.inside.groups.rows.ok.0 in
    rw c.leave.ensures.rows (omega (arith, inside, ok))

pub overflow_sub-self : goal.overflow_sub-self
overflow_sub-self c =
    let gone = count_gone c.self.inside.groups.rows.items c.args.at c.in-Some.note (there (goal.at.overflow_sub-self c).In-Some) in
    let counted = c.self.invariant.counted in
    omega (arith, gone, counted)

pub invariant_of-self : goal.invariant_of-self
invariant_of-self c =
    let u = c.self.inside in
    let known = there (goal.at.invariant_of-self c).In-Some in
    let gone = count_gone u.groups.rows.items c.args.at c.in-Some.note known in
    let counted = c.self.invariant.counted in
    let least : 1 ≤ u.count = omega (arith, gone, counted) in
    let less : u.count - 1 + 1 ≡ u.count = omega (arith, least) in
    let new = c.leave.new.self in
    rw c.leave.ensures.rows (rw c.leave.ensures.blockers
    (filed_gone _ _ _ _ _ _ _ c.self.invariant c.args.at (u.count - 1) c.in-Some.note new.members.items new.keys known c.leave.ensures.left less))

pub unreachable-requires : goal.unreachable-requires
unreachable-requires c =
    let rows = c.self.inside.groups.rows.items in
    let there = ap (λ v. slice_get v.rows c.args.at) c.self.view_is ∙ c.requires.there.1 in
    let read = slice_get_read rows (length rows) c.args.at c.index.result.now refl (slice_get_within rows c.args.at (Some c.requires.there.0) there) c.index.ensures in
    c.in_default.not-Some c.requires.there.0 cc
