use Rattle.std.proofs.Common.{◌≡◌, ◌∙◌, Some, slice_get, ap, arith}
use Rattle.std.proofs.lemmas.Option.{slice_get_within}
use Rattle.cics_dispatch.proofs.OfNotes.ShownNotes.{group_within, member_within}
use Rattle.cics_dispatch.proofs.OfNotes.FiledNotes.{filed_parked, filed_alone}
use Rattle.cics_dispatch.proofs.notes.notes.Notes.set_alone.Goals as goal
use Rattle.cics_dispatch.proofs.notes.notes.Notes.set_alone.Goals.{After-park}

there : (c : After-park) → slice_get c.self.inside.groups.rows.items c.args.at ≡ Some (Some c.args.note.now)
there c = ap (λ v. slice_get v.rows c.args.at) c.self.view_is ∙ c.requires.there

pub invariant_of-self : goal.invariant_of-self
invariant_of-self c = filed_parked _ _ _ _ _ _ _ c.self.invariant c.park.new.parked.entries c.park.ensures.kept

pub leave-requires-clause-group : goal.leave-requires-clause-group
leave-requires-clause-group c = group_within _ _ _ _ c.self.invariant.shown c.args.at c.args.note.now (there (goal.at.leave-requires-clause-group c).After-park)

pub leave-requires-clause-within : goal.leave-requires-clause-within
leave-requires-clause-within c = member_within _ _ _ _ c.self.invariant.shown

pub index_mut-requires : goal.index_mut-requires
index_mut-requires c =
    let within = slice_get_within c.self.inside.groups.rows.items c.args.at (Some c.args.note.now) (there (goal.at.index_mut-requires c).After-park) in
    let ok = c.self.inside.groups.rows.ok.0 in
    rw c.leave.ensures.rows (omega (arith, within, ok))

pub invariant_of-self-2 : goal.invariant_of-self-2
invariant_of-self-2 c =
    let new = c.leave.new.self in
    rw c.leave.ensures.rows (rw c.leave.ensures.blockers
    (filed_alone _ _ _ _ _ _ _ c.self.invariant c.args.at c.args.unit c.args.note.now new.members.items new.keys
    c.park.new.parked.entries (there (goal.at.invariant_of-self-2 c).After-park) c.leave.ensures.left c.park.ensures.kept c.in_ok-park.ensures.added))
