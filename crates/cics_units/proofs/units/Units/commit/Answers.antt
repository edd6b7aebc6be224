use Rattle.std.proofs.Common.{◌≡◌, ℕ, ◌<◌, true, List, [], ◌∷◌, ◌++◌, length, arith, ◌∙◌, reverse, sym, ap, subst}
use Rattle.std.specs.Prelude.{◌&&◌, slice_set}
use Rattle.std.proofs.lemmas.List.{length-set, reverse-reverse}
use Rattle.std.specs.Vec.{vec_capacity}
use Rattle.cics_enqueue.specs.Table.{released}
use Rattle.cics_history.specs.State.{UnitsState}
use Rattle.cics_history.specs.Execution.{IsOpenUnit, after_end}
use Rattle.cics_history.specs.Events.{is_live}
use Rattle.cics_history.proofs.Committing.{room_for_one}
use Rattle.cics_history.specs.declared.ops.UnitState.TheVariants.{Committed}
use Rattle.cics_units.specs.Cores.{core_value}
use Rattle.cics_images.specs.Cells.{is_unnamed, all_swept}
use Rattle.cics_units.specs.KeptUnits.{state_shown, AreValid}
use Rattle.cics_units.specs.Parts.{CoreValue}
use Rattle.cics_units.specs.StoreEnds.{any_fixed, ends_settled}
use Rattle.cics_units.specs.Opening.StoreMatching.{StoreValue, AnyImage, cell_of_any, any_content, any_swept, any_holds, AnyKeep}
use Rattle.cics_units.specs.ImageRows.{AreOthersKept, kept_by, AreHeldForImages}
use Rattle.cics_units.specs.ImageRowsLaws.{held_after_end}
use Rattle.cics_units.proofs.KeptUnits.{kept_headline, kept_serializable, kept_committed, committed_store}
use Rattle.cics_units.proofs.UnitRows.{others_then}
use Rattle.cics_units.proofs.ShownUnits.{live_of, ended_state, ended_kept}
use Rattle.cics_units.proofs.units.Units.commit.Goals as goal
use Rattle.cics_units.proofs.units.Units.commit.Goals.{After-end}

-- what is known once the unit's changes are settled
module _ (c : After-end) where
  abbrev core : CoreValue
  core = core_value c.self.inside.core

  abbrev before : UnitsState
  before = state_shown c.self.inside.opening c.self.inside.trace.items c.self.inside.outcomes.items c.self.inside.commits.items core

  live : is_live before c.args.unit ≡ true
  live = live_of before c.args.unit (subst (λ v. IsOpenUnit v.state c.args.unit) (sym c.self.view_is) c.requires.is_open)

  -- the core that is left
  abbrev left : CoreValue
  left = record { stores = record { store = c.forget.new.target; images = c.leave_room.new.rows.items }; table = c.release_all.new.self; reads = c.end.new.self }

  -- no other unit's images changed
  others : AreOthersKept core.stores.images left.stores.images c.args.unit
  others = others_then c.take_images-images.ensures.others c.leave_room.ensures.others

  images : c.take_images-images.result.newest_first ≡ kept_by core.stores.images c.args.unit
  images = c.take_images-images.ensures.images

  -- the ends are settled that the unit's images are of
  settled : c.settle_ends.new.store ≡ ends_settled core.stores.store (kept_by core.stores.images c.args.unit)
  settled =
      let old = core.stores.store in
      c.settle_ends.ensures ∙ ap (λ is. ends_settled old (reverse is)) c.oldest_first.ensures
      ∙ ap (ends_settled old) (reverse-reverse c.take_images-images.result.newest_first ∙ images)

  -- so what holds of the images and the store from which they were given up holds of these
  given_up : (P : StoreValue → List AnyImage → Type 0) → P c.settle_ends.new.store c.take_images-images.result.newest_first →
      P (ends_settled core.stores.store (kept_by core.stores.images c.args.unit)) (kept_by core.stores.images c.args.unit)
  given_up P is = subst (λ s. P s (kept_by core.stores.images c.args.unit)) settled (subst (P c.settle_ends.new.store) images is)

  contents : (x : List ℕ) → any_content left.stores.store x ≡ any_content (ends_settled core.stores.store (kept_by core.stores.images c.args.unit)) x
  contents = given_up (λ s is. (x : List ℕ) → any_content left.stores.store x ≡ any_content s x) c.forget.ensures.contents

  cells : AnyKeep (is_unnamed cell_of_any (kept_by core.stores.images c.args.unit)) (ends_settled core.stores.store (kept_by core.stores.images c.args.unit)) left.stores.store
  cells = given_up (λ s is. AnyKeep (is_unnamed cell_of_any is) s left.stores.store) c.forget.ensures.others

  fixed : any_fixed left.stores.store ≡ any_fixed (ends_settled core.stores.store (kept_by core.stores.images c.args.unit))
  fixed = given_up (λ s is. any_fixed left.stores.store ≡ any_fixed s) c.forget.ensures.fixed

  held : AreHeldForImages any_holds cell_of_any (ends_settled core.stores.store (kept_by core.stores.images c.args.unit)) core.stores.images → AreHeldForImages any_holds cell_of_any left.stores.store left.stores.images
  held = held_after_end any_holds cell_of_any (ends_settled core.stores.store (kept_by core.stores.images c.args.unit)) left.stores.store core.stores.images left.stores.images c.args.unit others
      (given_up (λ s is. (x : List ℕ) → any_holds left.stores.store x ≡ (any_holds s x && is_unnamed cell_of_any is x)) c.forget.ensures.swept)

  whole : left.stores.store ≡ all_swept any_swept cell_of_any (ends_settled core.stores.store (kept_by core.stores.images c.args.unit)) (kept_by core.stores.images c.args.unit)
  whole = given_up (λ s is. left.stores.store ≡ all_swept any_swept cell_of_any s is) c.forget.ensures.whole

  ended : AreValid (after_end before c.args.unit Committed) left.stores (released core.table c.args.unit)
  ended = kept_committed before core.stores left.stores core.table c.self.invariant.0 c.args.unit live
      c.leave_room.ensures.none others contents cells fixed held whole

  abbrev after : UnitsState
  after = state_shown c.self.inside.opening c.self.inside.trace.items (slice_set c.self.inside.outcomes.items c.args.unit Committed) (c.self.inside.commits.items ++ c.args.unit ∷ []) left

  kept : AreValid after left.stores left.table
  kept =
      let u = c.self.inside in
      ended_kept u.opening u.trace.items u.outcomes.items u.commits.items core left c.self.invariant.0 c.args.unit live Committed c.release_all.ensures c.end.ensures ended

-- there is room for each unit that has begun, and this one has not committed
pub push_reserved-requires : goal.push_reserved-requires
push_reserved-requires c =
    let u = c.self.inside in
    let at = (goal.at.push_reserved-requires c).After-end in
    let below : length u.commits.items < length u.outcomes.items = room_for_one (before at) c.self.invariant.0.order.commits c.args.unit (live at) in
    subst (λ n. n < vec_capacity u.commits) (sym u.commits.ok.0) (omega (arith, below, c.self.invariant.1))

pub invariant_of-self : goal.invariant_of-self
invariant_of-self c = rw (c.push_reserved.ensures.items, c.number.ensures) (
  kept (goal.at.invariant_of-self c).After-end,
  omega (arith, c.self.invariant.1, length-set c.self.inside.outcomes.items c.args.unit Committed, c.push_reserved.ensures.capacity),
)

pub returns-clause-state : goal.returns-clause-state
returns-clause-state c =
    let u = c.self.inside in
    let at = (goal.at.returns-clause-state c).After-end in
    rw (c.push_reserved.ensures.items, c.number.ensures) (
    ended_state u.opening u.trace.items u.outcomes.items u.commits.items (core_value u.core) (left at) c.self.invariant.0 c.args.unit (live at) Committed c.release_all.ensures c.end.ensures (ended at)
    ∙ ap (λ v. after_end v.state c.args.unit Committed) c.self.view_is)

pub returns-clause-headline : goal.returns-clause-headline
returns-clause-headline c =
    let at = (goal.at.returns-clause-headline c).After-end in
    rw (c.push_reserved.ensures.items, c.number.ensures) (kept_headline (after at) (left at).stores (left at).table (kept at))

pub returns-clause-serializable : goal.returns-clause-serializable
returns-clause-serializable c =
    let at = (goal.at.returns-clause-serializable c).After-end in
    rw (c.push_reserved.ensures.items, c.number.ensures) (kept_serializable (after at) (left at).stores (left at).table (kept at))

pub returns-clause-store : goal.returns-clause-store
returns-clause-store c =
    let at = (goal.at.returns-clause-store c).After-end in
    committed_store (before at) (core at).stores (left at).stores (core at).table c.self.invariant.0 c.args.unit (live at)
    c.leave_room.ensures.none (others at) (contents at) (cells at) (fixed at) (held at) (whole at)
    ∙ ap (λ v. v.store) c.self.view_is
