use Rattle.std.proofs.Common.{◌≡◌, true, arith, ◌∙◌, sym, ap, subst}
use Rattle.std.specs.Prelude.{◌&&◌, slice_set, fold}
use Rattle.std.proofs.lemmas.List.{length-set}
use Rattle.cics_enqueue.specs.Table.{released}
use Rattle.cics_history.specs.State.{UnitsState}
use Rattle.cics_history.specs.Execution.{IsOpenUnit, after_end}
use Rattle.cics_history.specs.Events.{is_live}
use Rattle.cics_history.specs.Headline.{LeavesNoTrace}
use Rattle.cics_history.proofs.Alone.{leaves_no_trace}
use Rattle.cics_history.specs.declared.ops.UnitState.TheVariants.{BackedOut}
use Rattle.cics_images.specs.Cells.{AreReadyInTurn, LeadBack, images_of, is_unnamed, all_swept}
use Rattle.cics_units.specs.Parts.{CoreValue}
use Rattle.cics_units.specs.Opening.StoreMatching.{shown_store, cell_of_any, any_content, AnyLeads, IsAnyReady, any_undone, any_swept, any_holds, AnyKeep}
use Rattle.cics_units.specs.ImageRows.{AreOthersKept, kept_by}
use Rattle.cics_units.specs.ImageRowsLaws.{held_after_end}
use Rattle.cics_units.specs.Cores.{core_value}
use Rattle.cics_units.specs.KeptUnits.{state_shown, AreValid}
use Rattle.cics_units.proofs.KeptUnits.{store_is, kept_headline, kept_serializable, kept_backed_out}
use Rattle.cics_units.proofs.UnitRows.{others_then}
use Rattle.cics_units.proofs.ShownUnits.{live_of, ended_state, ended_kept}
use Rattle.cics_units.proofs.units.Units.back_out.Goals as goal
use Rattle.cics_units.proofs.units.Units.back_out.Goals.{After-end}

-- each image of the unit can be undone in its turn
pub back_out-requires : goal.back_out-requires
back_out-requires c = subst (AreReadyInTurn IsAnyReady any_undone c.self.inside.core.store) (sym c.take_images-images.ensures.images) (c.self.invariant.0.place.ready c.args.unit)

-- what is known once the unit is backed out
module _ (c : After-end) where
  abbrev core : CoreValue
  core = core_value c.self.inside.core

  abbrev before : UnitsState
  before = state_shown c.self.inside.opening c.self.inside.trace.items c.self.inside.outcomes.items c.self.inside.commits.items core

  live : is_live before c.args.unit ≡ true
  live = live_of before c.args.unit (subst (λ v. IsOpenUnit v.state c.args.unit) (sym c.self.view_is) c.requires.is_open)

  -- the core that is left
  abbrev left : CoreValue
  left = record { stores = record { store = c.back_out.new.target; images = c.leave_room.new.rows.items }; table = c.release_all.new.self; reads = c.end.new.self }

  -- no other unit's images changed
  others : AreOthersKept core.stores.images left.stores.images c.args.unit
  others = others_then c.take_images-images.ensures.others c.leave_room.ensures.others

  images : c.take_images-images.result.newest_first ≡ kept_by core.stores.images c.args.unit
  images = c.take_images-images.ensures.images

  ended : AreValid (after_end before c.args.unit BackedOut) left.stores (released core.table c.args.unit)
  ended =
      let old = core.stores.store in
      let new = left.stores.store in
      let back = c.back_out.ensures in
      kept_backed_out before core.stores left.stores core.table c.self.invariant.0 c.args.unit live c.leave_room.ensures.none others
      (λ x. subst (λ is. LeadBack AnyLeads (images_of cell_of_any x is) (any_content old x) (any_content new x)) images (back.led_back x))
      (subst (λ is. AnyKeep (is_unnamed cell_of_any is) old new) images back.others) back.fixed
      (held_after_end any_holds cell_of_any old new core.stores.images left.stores.images c.args.unit others
      (λ x. back.swept x ∙ ap (λ is. any_holds old x && is_unnamed cell_of_any is x) images))
      (subst (λ is. new ≡ all_swept any_swept cell_of_any (fold any_undone old is) is) images back.whole)

  abbrev after : UnitsState
  after = state_shown c.self.inside.opening c.self.inside.trace.items (slice_set c.self.inside.outcomes.items c.args.unit BackedOut) c.self.inside.commits.items left

  kept : AreValid after left.stores left.table
  kept =
      let u = c.self.inside in
      ended_kept u.opening u.trace.items u.outcomes.items u.commits.items core left c.self.invariant.0 c.args.unit live BackedOut c.release_all.ensures c.end.ensures ended

pub invariant_of-self : goal.invariant_of-self
invariant_of-self c = rw c.number.ensures (
  kept (goal.at.invariant_of-self c).After-end,
  omega (arith, c.self.invariant.1, length-set c.self.inside.outcomes.items c.args.unit BackedOut),
)

pub returns-clause-state : goal.returns-clause-state
returns-clause-state c =
    let u = c.self.inside in
    let at = (goal.at.returns-clause-state c).After-end in
    rw c.number.ensures (
    ended_state u.opening u.trace.items u.outcomes.items u.commits.items (core_value u.core) (left at) c.self.invariant.0 c.args.unit (live at) BackedOut c.release_all.ensures c.end.ensures (ended at)
    ∙ ap (λ v. after_end v.state c.args.unit BackedOut) c.self.view_is)

pub returns-clause-headline : goal.returns-clause-headline
returns-clause-headline c =
    let at = (goal.at.returns-clause-headline c).After-end in
    rw c.number.ensures (kept_headline (after at) (left at).stores (left at).table (kept at))

pub returns-clause-serializable : goal.returns-clause-serializable
returns-clause-serializable c =
    let at = (goal.at.returns-clause-serializable c).After-end in
    rw c.number.ensures (kept_serializable (after at) (left at).stores (left at).table (kept at))

pub returns-clause-alone : goal.returns-clause-alone
returns-clause-alone c =
    let u = c.self.inside in
    let at = (goal.at.returns-clause-alone c).After-end in
    let old = before at in
    let now = shown_store c.back_out.new.target in
    rw c.number.ensures (subst (λ v. LeavesNoTrace v (record { state = after_end old c.args.unit BackedOut; store = now }) c.args.unit) c.self.view_is
    (leaves_no_trace (record { state = old; store = shown_store u.core.store }) c.args.unit now c.self.invariant.0.in_order (live at)
    (store_is (after_end old c.args.unit BackedOut) (left at).stores (released u.core.locks c.args.unit) (ended at))))
