use Rattle.std.proofs.Common.{◌≡◌, ◌∙◌, ◌∷◌, ◌++◌, [], None, ap}
use Rattle.cics_dispatch.proofs.OfNotes.FiledNotes.{pushed_key, same_key, filed_new_group, resources_more, blockers_more}
use Rattle.cics_dispatch.proofs.OfNotes.ShownNotes.{none_in}
use Rattle.cics_dispatch.proofs.notes.notes.Notes.group_of.Goals as goal
use Rattle.cics_dispatch.proofs.notes.notes.Notes.group_of.Goals.{Then-is_new}

-- what a new wait group adds
module _ (c : Then-is_new) where
  keys : c.insert_full.new.self.keys ≡ c.self.inside.resources.keys ++ c.args.resource ∷ []
  keys = pushed_key c.self.inside.resources.keys c.insert_full.new.self.keys c.args.resource _ c.in_ok-group.is_new c.in_ok-group.ensures.keys c.in_ok-group.ensures.added c.if-is_new.true

pub invariant_of-self-then-is_new : goal.invariant_of-self-then-is_new
invariant_of-self-then-is_new c =
    let s = c.new-members.result in
    rw (keys (goal.at.invariant_of-self-then-is_new c).Then-is_new)
    (rw (c.push_reserved.ensures.items ∙ ap (λ bs. bs ++ None ∷ []) c.in_ok-reserve.ensures.items)
    (rw (c.push_reserved-then-is_new.ensures.items ∙ ap (λ ms. ms ++ s ∷ []) c.in_ok-reserve-2.ensures.items)
    (filed_new_group _ _ _ _ _ _ _ c.self.invariant c.args.resource s (none_in s c.new-members.ensures.empty))))

pub returns-then-is_new-clause-resources : goal.returns-then-is_new-clause-resources
returns-then-is_new-clause-resources c =
    rw (← c.self.view_is) (rw (keys (goal.at.returns-then-is_new-clause-resources c).Then-is_new) (resources_more c.self.inside.resources.keys c.args.resource))

pub returns-then-is_new-clause-blockers : goal.returns-then-is_new-clause-blockers
returns-then-is_new-clause-blockers c =
    rw (← c.self.view_is) (rw (c.push_reserved.ensures.items ∙ ap (λ bs. bs ++ None ∷ []) c.in_ok-reserve.ensures.items) (blockers_more c.self.inside.groups.blockers.items))

pub invariant_of-self-in_err-group : goal.invariant_of-self-in_err-group
invariant_of-self-in_err-group c =
    rw c.in_err-group.ensures.err (rw c.in_ok-reserve.ensures.items (rw c.in_ok-reserve-2.ensures.items c.self.invariant))

pub invariant_of-self-else-is_new : goal.invariant_of-self-else-is_new
invariant_of-self-else-is_new c =
    rw (same_key c.self.inside.resources.keys c.insert_full.new.self.keys c.args.resource _ c.in_ok-group.is_new c.in_ok-group.ensures.keys c.in_ok-group.ensures.added c.if-is_new.false)
    (rw c.in_ok-reserve.ensures.items (rw c.in_ok-reserve-2.ensures.items c.self.invariant))
