use Rattle.std.proofs.Common.{◌≡◌, ◌<◌, ℕ, Some, None, length, slice_get, ap, sym, subst, ◌∙◌, arith, refl}
use Rattle.std.proofs.lemmas.Option.{slice_get_read}
use Rattle.cics_dispatch.proofs.OfNotes.ShownNotes.{member_within, shown_group, of_group_here, of_group_past, of_group_at}
use Rattle.cics_dispatch.proofs.OfNotes.FiledNotes.{reopening_group, same_unit, other_unit, none_some}
use Rattle.cics_dispatch.proofs.notes.groups.Groups.reopen_group.Goals as goal
use Rattle.cics_dispatch.proofs.notes.groups.Groups.reopen_group.Goals.{After-index}

-- the group is one of these
module _ (c : After-index) where
  within : c.args.group < length c.args.self.now.blockers.items
  within = let test = c.if-group-len.false in let size = c.len.ensures in let ok = c.args.self.now.blockers.ok.0 in omega (arith, test, size, ok)

  there : slice_get c.args.self.now.blockers.items c.args.group ≡ Some c.index.result.now
  there = slice_get_read c.args.self.now.blockers.items (length c.args.self.now.blockers.items) c.args.group c.index.result.now refl within c.index.ensures

pub returns-then-group-len-clause-opened : goal.returns-then-group-len-clause-opened
returns-then-group-len-clause-opened c =
    let test = c.if-group-len.true in
    let size = c.len.ensures in
    let ok = c.args.self.now.blockers.ok.0 in
    λ own. none_some ℕ c.args.unit (sym (of_group_past c.args.self.now.blockers.items c.args.group (omega (arith, test, size, ok))) ∙ own)

pub show_first-requires : goal.show_first-requires
show_first-requires c =
    let ms = c.args.self.now.members.items in
    let inside : c.args.group < length ms = subst (λ k. c.args.group < k) (sym c.requires.sized) (within (goal.at.show_first-requires c).After-index) in
    let members = slice_get_read ms (length ms) c.args.group c.index-then-eq.result.now refl inside c.index-then-eq.ensures in
    record { within = λ i member. member_within _ _ _ _ c.requires c.args.group _ i members member }

pub returns-then-eq-clause-shown : goal.returns-then-eq-clause-shown
returns-then-eq-clause-shown c =
    let ms = c.args.self.now.members.items in
    let inside : c.args.group < length ms = subst (λ k. c.args.group < k) (sym c.requires.sized) (within (goal.at.returns-then-eq-clause-shown c).After-index) in
    let members = slice_get_read ms (length ms) c.args.group c.index-then-eq.result.now refl inside c.index-then-eq.ensures in
    shown_group _ _ _ _ c.requires c.args.group _ c.show_first.new.keys members c.show_first.ensures

pub returns-then-eq-clause-reopening : goal.returns-then-eq-clause-reopening
returns-then-eq-clause-reopening c =
    let old = c.args.self.now in
    let own = same_unit _ c.args.unit c.eq.result c.eq.ensures c.if-eq.true in
    reopening_group c.args.unit c.args.group old.rows.items old.blockers.items (there (goal.at.returns-then-eq-clause-reopening c).After-index ∙ ap Some own)

pub returns-then-eq-clause-opened : goal.returns-then-eq-clause-opened
returns-then-eq-clause-opened c =
    let inside = within (goal.at.returns-then-eq-clause-opened c).After-index in
    λ own. none_some ℕ c.args.unit (sym (of_group_here c.args.self.now.blockers.items c.args.group None inside) ∙ own)

pub returns-else-eq-clause-opened : goal.returns-else-eq-clause-opened
returns-else-eq-clause-opened c =
    let is = there (goal.at.returns-else-eq-clause-opened c).After-index in
    λ own. other_unit _ c.args.unit c.eq.result c.eq.ensures c.if-eq.false (sym (of_group_at c.args.self.now.blockers.items c.args.group c.index.result.now is) ∙ own)
