use Rattle.std.proofs.Common.{◌≡◌, ◌<◌, ◌∙◌, Some, length, slice_get, slice_set, ap, sym, arith, refl}
use Rattle.std.proofs.lemmas.Option.{slice_get_within, slice_get_read}
use Rattle.cics_dispatch.specs.Notes.Notes.{in_group}
use Rattle.cics_dispatch.proofs.OfNotes.ShownNotes.{only_of, of_group_at, set_here, set_same, same_places, put_by}
use Rattle.cics_dispatch.proofs.OfNotes.FiledNotes.{filed_parked, filed_group, filed_passed, known_there}
use Rattle.cics_dispatch.proofs.notes.notes.Notes.close.Goals as goal
use Rattle.cics_dispatch.proofs.notes.notes.Notes.close.Goals.{After-park_group, After-insert}

module _ (c : After-park_group) where
  there : slice_get c.self.inside.groups.rows.items c.args.at ≡ Some (Some c.args.note.now)
  there = ap (λ v. slice_get v.rows c.args.at) c.self.view_is ∙ c.requires.there

  within : c.args.group < length c.self.inside.groups.blockers.items
  within = rw (← c.self.view_is) at c.requires.within

-- what the group had
had : (c : After-insert) → c.args.group < length c.self.inside.groups.blockers.items → slice_get c.self.inside.groups.members.items c.args.group ≡ Some c.index_mut.result.now
had c inside =
    let ms = c.self.inside.groups.members.items in
    slice_get_read ms (length ms) c.args.group c.index_mut.result.now refl (rw c.self.invariant.shown.sized inside) c.index_mut.ensures.value

pub invariant_of-self : goal.invariant_of-self
invariant_of-self c = filed_parked _ _ _ _ _ _ _ c.self.invariant c.park_group.new.parked.entries c.park_group.ensures.kept

pub park_group-requires : goal.park_group-requires
park_group-requires c =
    let bs = c.self.inside.groups.blockers.items in
    let inside : c.args.group < length bs = rw (← c.self.view_is) at c.requires.within in
    let there = slice_get_read bs (length bs) c.args.group c.index.result.now refl inside c.index.ensures in
    λ own. c.self.invariant.lists.groups_of c.args.group c.args.unit (of_group_at bs c.args.group c.index.result.now there ∙ own)

pub index_mut-requires : goal.index_mut-requires
index_mut-requires c =
    let inside = within (goal.at.index_mut-requires c).After-park_group in
    let sized = c.self.invariant.shown.sized in
    let ok = c.self.inside.groups.members.ok.0 in
    omega (arith, inside, sized, ok)

pub invariant_of-self-in_err-insert : goal.invariant_of-self-in_err-insert
invariant_of-self-in_err-insert c =
    let was = had (goal.at.invariant_of-self-in_err-insert c).After-insert (within (goal.at.invariant_of-self-in_err-insert c).After-park_group) in
    rw (set_same c.self.inside.groups.members.items c.args.group c.insert.new.self (was ∙ ap Some (sym (same_places c.insert.new.self c.index_mut.result.now c.in_err-insert.ensures.err))))
    (filed_parked _ _ _ _ _ _ _ c.self.invariant c.park_group.new.parked.entries c.park_group.ensures.kept)

pub index_mut-requires-3 : goal.index_mut-requires-3
index_mut-requires-3 c =
    let inside = slice_get_within c.self.inside.groups.rows.items c.args.at (Some c.args.note.now) (there (goal.at.index_mut-requires-3 c).After-park_group) in
    let ok = c.self.inside.groups.rows.ok.0 in
    omega (arith, inside, ok)

pub set-requires : goal.set-requires
set-requires c =
    rw c.self.invariant.shown.even (slice_get_within c.self.inside.groups.rows.items c.args.at (Some c.args.note.now) (there (goal.at.set-requires c).After-park_group))

pub invariant_of-self-2 : goal.invariant_of-self-2
invariant_of-self-2 c =
    let known = (goal.at.invariant_of-self-2 c).After-park_group in
    let was = had (goal.at.invariant_of-self-2 c).After-insert (within known) in
    let n = c.args.note.now in
    let g = c.args.group in
    let bs = c.self.inside.groups.blockers.items in
    let joined = put_by c.args.at c.index_mut.result.now c.insert.new.self c.in_ok-insert.ensures.updates in
    let filed = filed_group _ _ _ _ _ _ _ c.self.invariant c.args.at c.args.unit g n c.index_mut.result.now c.insert.new.self c.park_group.new.parked.entries
    (there known) (only_of n.group g c.requires.only) was joined c.park_group.ensures.kept c.in_ok-park_group.ensures.added in
    let closed = of_group_at (slice_set bs g (Some c.args.unit)) g (Some c.args.unit) (set_here bs g (Some c.args.unit) (within known)) in
    rw c.set.ensures (filed_passed _ _ _ _ _ _ _ filed c.args.at (known_there c.self.inside.groups.rows.items c.args.at (slice_set bs g (Some c.args.unit)) (in_group g n) c.args.unit closed))
