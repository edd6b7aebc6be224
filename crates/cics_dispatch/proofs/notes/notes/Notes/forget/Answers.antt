use Rattle.std.proofs.Common.{rules, ◌≡◌, ◌∙◌, ℕ, Some, None, map, slice_get, nat_eq, ap, sym}
use Rattle.std.specs.Map.{lookup}
use Rattle.cics_dispatch.specs.declared.notes.groups.Parked.{Parked}
use Rattle.cics_dispatch.specs.Notes.Notes.{forgotten, given_up}
use Rattle.cics_dispatch.specs.Notes.Filed.{IsNotOf}
use Rattle.cics_dispatch.proofs.OfNotes.FiledNotes.{rows_none, groups_none, rows_unnoted, groups_unnoted, not_alone, not_grouped, none_alone, none_grouped, filed_reopened, other_lists}
use Rattle.cics_dispatch.proofs.notes.notes.Notes.forget.Goals as goal
use Rattle.cics_dispatch.proofs.notes.notes.Notes.forget.Goals.{In_default-swap_remove, After-reopen}

-- no unit is given
pub returns-in_default-clause-rows : goal.returns-in_default-clause-rows
returns-in_default-clause-rows c = rows_none c.args.unit c.args.self.now.rows (search rules)

pub returns-in_default-clause-blockers : goal.returns-in_default-clause-blockers
returns-in_default-clause-blockers c = groups_none c.args.unit c.args.self.now.blockers (search rules)

-- the unit never blocked a command
absent : (c : In_default-swap_remove) → lookup (nat_eq c.in-Some.unit) c.self.inside.parked.entries ≡ None
absent c = sym c.swap_remove.ensures.value ∙ c.in_default-swap_remove.is

pub returns-in_default-swap_remove-clause-rows : goal.returns-in_default-swap_remove-clause-rows
returns-in_default-swap_remove-clause-rows c =
    let rows = c.self.inside.groups.rows.items in
    let none = not_alone _ _ _ _ _ _ _ c.self.invariant c.in-Some.unit (absent (goal.at.returns-in_default-swap_remove-clause-rows c).In_default-swap_remove) in
    rows_unnoted c.in-Some.unit rows none ∙ ap (λ o. map (forgotten o) rows) (sym c.in-Some.is) ∙ ap (λ v. map (forgotten c.args.unit) v.rows) c.self.view_is

pub returns-in_default-swap_remove-clause-blockers : goal.returns-in_default-swap_remove-clause-blockers
returns-in_default-swap_remove-clause-blockers c =
    let bs = c.self.inside.groups.blockers.items in
    let none = not_grouped _ _ _ _ _ _ _ c.self.invariant c.in-Some.unit (absent (goal.at.returns-in_default-swap_remove-clause-blockers c).In_default-swap_remove) in
    groups_unnoted c.in-Some.unit bs none ∙ ap (λ o. map (given_up o) bs) (sym c.in-Some.is) ∙ ap (λ v. map (given_up c.args.unit) v.blockers) c.self.view_is

-- what is in the unit's list must be looked at
module _ (c : After-reopen) where
  there : lookup (nat_eq c.in-Some.unit) c.self.inside.parked.entries ≡ Some c.in-Some-swap_remove.parked
  there = sym c.swap_remove.ensures.value ∙ c.in-Some-swap_remove.is

  gone : (j : ℕ) (p : Parked) → slice_get c.in-Some-swap_remove.parked.items j ≡ Some p → IsNotOf c.reopen.new.self.rows.items c.reopen.new.self.blockers.items c.in-Some.unit p
  gone = rw c.as_slice.ensures.value at c.reopen.ensures.opened

pub invariant_of-self-2 : goal.invariant_of-self-2
invariant_of-self-2 c =
    let known = (goal.at.invariant_of-self-2 c).After-reopen in
    let u = c.self.inside in
    let new = c.reopen.new.self in
    let others = other_lists u.parked.entries c.swap_remove.new.self.entries c.in-Some.unit c.swap_remove.ensures.updates.0 in
    filed_reopened _ _ _ _ _ _ _ c.self.invariant c.in-Some.unit c.in-Some-swap_remove.parked (there known) _ _ c.reopen.ensures.reopening (gone known)
    c.swap_remove.new.self.entries new.members.items new.keys c.reopen.ensures.shown others

pub returns-clause-rows : goal.returns-clause-rows
returns-clause-rows c =
    let known = (goal.at.returns-clause-rows c).After-reopen in
    let u = c.self.inside in
    let none = none_alone _ _ _ _ _ _ _ c.self.invariant c.in-Some.unit c.in-Some-swap_remove.parked (there known) _ _ c.reopen.ensures.reopening (gone known) in
    rows_unnoted c.in-Some.unit c.reopen.new.self.rows.items none ∙ c.reopen.ensures.reopening.rows_alike
    ∙ ap (λ o. map (forgotten o) u.groups.rows.items) (sym c.in-Some.is) ∙ ap (λ v. map (forgotten c.args.unit) v.rows) c.self.view_is

pub returns-clause-blockers : goal.returns-clause-blockers
returns-clause-blockers c =
    let known = (goal.at.returns-clause-blockers c).After-reopen in
    let u = c.self.inside in
    let none = none_grouped _ _ _ _ _ _ _ c.self.invariant c.in-Some.unit c.in-Some-swap_remove.parked (there known) _ _ c.reopen.ensures.reopening (gone known) in
    groups_unnoted c.in-Some.unit c.reopen.new.self.blockers.items none ∙ c.reopen.ensures.reopening.groups_alike
    ∙ ap (λ o. map (given_up o) u.groups.blockers.items) (sym c.in-Some.is) ∙ ap (λ v. map (given_up c.args.unit) v.blockers) c.self.view_is
