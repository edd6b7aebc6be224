use Rattle.std.specs.Prelude.{IfNone, if◌then◌else◌}
use Rattle.std.proofs.Common.{arith, ℕ, Option, List, ◌≡◌, ◌∙◌, sym, ap, subst, refl, true, false, Some, None, is_some, length}
use Rattle.cics_enqueue.specs.Table.{Table, holder_over, is_full, taken}
use Rattle.cics_history.specs.State.{UnitsState}
use Rattle.cics_history.specs.Execution.{IsOpenUnit, IsOpenOrNone, unit_or_next, outcomes_with, enqueue, after_enqueued, after_enqueue}
use Rattle.cics_history.specs.Events.{may_act}
use Rattle.cics_history.specs.Headline.{IsHeadline}
use Rattle.cics_history.specs.Serial.{IsSerializable}
use Rattle.cics_units.specs.Opening.StoreMatching.{shown_store}
use Rattle.cics_units.specs.Cores.{core_value}
use Rattle.cics_units.specs.KeptUnits.{state_shown, AreValid}
use Rattle.cics_units.specs.Parts.{CoreValue, AreRoomier, AreEnqueued, IsCoreAsBefore}
use Rattle.cics_units.specs.TableInPlace.{value_of}
use Rattle.cics_history.specs.declared.ops.Enqueued.TheVariants.{Taken, MustWait, CountFull}
use Rattle.cics_units.proofs.KeptUnits.{kept_headline, kept_serializable}
use Rattle.cics_units.proofs.ShownUnits.{acts_of, in_lists, refused_kept, with_len}
use Rattle.cics_units.proofs.Enqueuing.{value_over, enqueue-waits, enqueue-takes, enqueue-full, enqueued_shown, enqueued_kept, refused_shown}
use Rattle.cics_units.proofs.HeldOver.{holder_open}
use Rattle.cics_units.proofs.RefusedCommands.{on_err}
use Rattle.cics_units.proofs.units.Units.enq.Goals as goal
use Rattle.cics_units.proofs.units.Units.enq.Goals.{In-Ok-Some, In-Ok-None, After-reserve_images, In-Err-Full, After-begin}

-- ---- there is more room for images, and these locks
module _ (c : After-reserve_images) where
  abbrev core : CoreValue
  core = core_value c.self.inside.core

  abbrev before : UnitsState
  before = state_shown c.self.inside.opening c.self.inside.trace.items c.self.inside.outcomes.items c.self.inside.commits.items core

  -- the core with these locks
  abbrev left : Table → CoreValue
  left locks = record core { stores = record { store = core.stores.store; images = c.reserve_images.new.rows.items }; table = locks }

  roomier : AreRoomier core.stores (left core.table).stores
  roomier = record { store = refl; kept = c.reserve_images.ensures.kept; longer = c.reserve_images.ensures.longer }

  same : (locks : Table) → locks ≡ core.table → IsCoreAsBefore core (left locks)
  same locks is = record { stores = roomier; table = is; reads = refl }

  abbrev after : Table → UnitsState
  after locks = state_shown c.self.inside.opening c.self.inside.trace.items c.reserve_unit.new.outcomes.items c.reserve_unit.new.commits.items (left locks)

  -- if nothing is taken all is kept
  kept_same : (locks : Table) → locks ≡ core.table → AreValid (after locks) (left locks).stores locks
  kept_same locks is =
      let u = c.self.inside in
      refused_kept u.opening u.trace.items u.outcomes.items u.commits.items core (left locks) c.self.invariant.0 (same locks is) u.trace.items c.reserve_unit.new.outcomes.items c.reserve_unit.new.commits.items refl
      c.reserve_unit.ensures.outcomes c.reserve_unit.ensures.commits

  -- and nothing else is seen
  shown_same : (locks : Table) → locks ≡ core.table → record { state = after locks; store = shown_store core.stores.store } ≡ c.args.self.now
  shown_same locks is =
      let u = c.self.inside in
      (λ i. record {
        state = refused_shown u.opening u.trace.items u.outcomes.items u.commits.items core (left locks) c.self.invariant.0 (same locks is) c.reserve_unit.new.outcomes.items c.reserve_unit.new.commits.items
            c.reserve_unit.ensures.outcomes c.reserve_unit.ensures.commits i;
        store = shown_store core.stores.store;
      }) ∙ c.self.view_is

  -- who owns the value is asked for the unit that acts
  over : holder_over (value_of c.args.value.now) (Some c.unit_or_next-acting.result) core.table ≡ holder_over (value_of c.args.value.now) c.args.unit core.table
  over = value_over before core.stores core.table c.self.invariant.0 c.args.unit c.args.value.now c.unit_or_next-acting.result (c.unit_or_next-acting.ensures ∙ ap (unit_or_next c.args.unit) c.as_slice.ensures.value)

-- ---- memory is refused
pub returns-in_err-reserve_unit-clause-headline : goal.returns-in_err-reserve_unit-clause-headline
returns-in_err-reserve_unit-clause-headline c =
    in_lists IsHeadline c.self.inside.opening (core_value c.self.inside.core) refl c.reserve_unit.ensures.outcomes c.reserve_unit.ensures.commits (kept_headline _ _ _ c.self.invariant.0)

pub returns-in_err-reserve_unit-clause-serializable : goal.returns-in_err-reserve_unit-clause-serializable
returns-in_err-reserve_unit-clause-serializable c =
    in_lists IsSerializable c.self.inside.opening (core_value c.self.inside.core) refl c.reserve_unit.ensures.outcomes c.reserve_unit.ensures.commits (kept_serializable _ _ _ c.self.invariant.0)

pub invariant_of-self-in_err-reserve_images : goal.invariant_of-self-in_err-reserve_images
invariant_of-self-in_err-reserve_images c = (
  kept_same (goal.at.invariant_of-self-in_err-reserve_images c).After-reserve_images c.self.inside.core.locks refl,
  omega (arith, ap length c.reserve_unit.ensures.outcomes, c.self.invariant.1, c.reserve_unit.ensures.capacity),
)

pub returns-in_err-reserve_images-clause-headline : goal.returns-in_err-reserve_images-clause-headline
returns-in_err-reserve_images-clause-headline c = kept_headline _ _ _ (kept_same (goal.at.returns-in_err-reserve_images-clause-headline c).After-reserve_images c.self.inside.core.locks refl)

pub returns-in_err-reserve_images-clause-serializable : goal.returns-in_err-reserve_images-clause-serializable
returns-in_err-reserve_images-clause-serializable c = kept_serializable _ _ _ (kept_same (goal.at.returns-in_err-reserve_images-clause-serializable c).After-reserve_images c.self.inside.core.locks refl)

pub returns-in-Err-NoMemory-clause-headline : goal.returns-in-Err-NoMemory-clause-headline
returns-in-Err-NoMemory-clause-headline c = kept_headline _ _ _ (kept_same (goal.at.returns-in-Err-NoMemory-clause-headline c).After-reserve_images c.enq.new.self c.in-Err-NoMemory.ensures.err)

pub returns-in-Err-NoMemory-clause-serializable : goal.returns-in-Err-NoMemory-clause-serializable
returns-in-Err-NoMemory-clause-serializable c = kept_serializable _ _ _ (kept_same (goal.at.returns-in-Err-NoMemory-clause-serializable c).After-reserve_images c.enq.new.self c.in-Err-NoMemory.ensures.err)

-- ---- another unit owns the value
-- whom ENQ is asked for is the unit that acts
abbrev IsOver : ℕ → Option ℕ → List ℕ → Table → Type 0
IsOver acting unit v t = holder_over (value_of v) (Some acting) t ≡ holder_over (value_of v) unit t

module _ (c : In-Ok-Some) (over : IsOver c.unit_or_next-acting.result c.args.unit c.args.value.now c.self.inside.core.locks) where
  held : holder_over (value_of c.args.value.now) c.args.unit c.self.inside.core.locks ≡ Some c.in-Ok-Some.holder
  held = sym over ∙ sym c.in-Ok-Some.ensures.holder ∙ c.in-Ok-Some.field-0-is

  waits : enqueue (state_shown c.self.inside.opening c.self.inside.trace.items c.self.inside.outcomes.items c.self.inside.commits.items (core_value c.self.inside.core)) c.args.unit c.args.value.now ≡ MustWait c.in-Ok-Some.holder
  waits =
      let u = c.self.inside in
      enqueue-waits (state_shown u.opening u.trace.items u.outcomes.items u.commits.items (core_value u.core)) (core_value u.core).stores u.core.locks c.self.invariant.0 c.args.unit c.args.value.now c.in-Ok-Some.holder held

-- then nothing is taken
untaken : (c : In-Ok-Some) → c.enq.new.self ≡ c.self.inside.core.locks
untaken c = c.in-Ok-Some.ensures.taken
    ∙ ap (λ o. if is_some o then c.self.inside.core.locks else taken c.self.inside.core.locks (value_of c.args.value.now) c.unit_or_next-acting.result) c.in-Ok-Some.field-0-is

pub returns-in-Ok-Some-clause-done : goal.returns-in-Ok-Some-clause-done
returns-in-Ok-Some-clause-done c =
    let at = goal.at.returns-in-Ok-Some-clause-done c in
    sym (waits at.In-Ok-Some (over at.After-reserve_images)) ∙ ap (λ w. enqueue w.state c.args.unit c.args.value.now) c.self.view_is

pub returns-in-Ok-Some-clause-holder_open : goal.returns-in-Ok-Some-clause-holder_open
returns-in-Ok-Some-clause-holder_open c =
    let at = goal.at.returns-in-Ok-Some-clause-holder_open c in
    subst (λ w. IsOpenUnit w.state c.in-Ok-Some.holder) c.self.view_is
    (holder_open (before at.After-reserve_images) c.self.inside.core.locks c.self.invariant.0.sound c.self.invariant.0.table c.args.unit (value_of c.args.value.now) c.in-Ok-Some.holder
    (held at.In-Ok-Some (over at.After-reserve_images)))

pub returns-in-Ok-Some-clause-state : goal.returns-in-Ok-Some-clause-state
returns-in-Ok-Some-clause-state c =
    let u = c.self.inside in
    let at = goal.at.returns-in-Ok-Some-clause-state c in
    refused_shown u.opening u.trace.items u.outcomes.items u.commits.items (core_value u.core) (left at.After-reserve_images c.enq.new.self) c.self.invariant.0
    (same at.After-reserve_images c.enq.new.self (untaken at.In-Ok-Some)) c.reserve_unit.new.outcomes.items c.reserve_unit.new.commits.items c.reserve_unit.ensures.outcomes c.reserve_unit.ensures.commits
    ∙ sym (ap (after_enqueued (before at.After-reserve_images) c.args.unit c.args.value.now) (waits at.In-Ok-Some (over at.After-reserve_images)))
    ∙ ap (λ w. after_enqueue w.state c.args.unit c.args.value.now) c.self.view_is

pub returns-in-Ok-Some-clause-headline : goal.returns-in-Ok-Some-clause-headline
returns-in-Ok-Some-clause-headline c =
    let at = goal.at.returns-in-Ok-Some-clause-headline c in
    kept_headline _ _ _ (kept_same at.After-reserve_images c.enq.new.self (untaken at.In-Ok-Some))

pub returns-in-Ok-Some-clause-serializable : goal.returns-in-Ok-Some-clause-serializable
returns-in-Ok-Some-clause-serializable c =
    let at = goal.at.returns-in-Ok-Some-clause-serializable c in
    kept_serializable _ _ _ (kept_same at.After-reserve_images c.enq.new.self (untaken at.In-Ok-Some))

-- ---- the unit owns it the most times
full : (c : In-Err-Full) → IsOver c.unit_or_next-acting.result c.args.unit c.args.value.now c.self.inside.core.locks →
    enqueue (state_shown c.self.inside.opening c.self.inside.trace.items c.self.inside.outcomes.items c.self.inside.commits.items (core_value c.self.inside.core)) c.args.unit c.args.value.now ≡ CountFull
full c over =
    let u = c.self.inside in
    enqueue-full (state_shown u.opening u.trace.items u.outcomes.items u.commits.items (core_value u.core)) (core_value u.core).stores u.core.locks c.self.invariant.0 c.args.unit c.args.value.now
    (sym over ∙ c.in-Err-Full.ensures.own c.in-Err-Full.field-0-is) (c.in-Err-Full.ensures.full c.in-Err-Full.field-0-is)

pub returns-in-Err-Full-clause-done : goal.returns-in-Err-Full-clause-done
returns-in-Err-Full-clause-done c =
    let at = goal.at.returns-in-Err-Full-clause-done c in
    sym (full at.In-Err-Full (over at.After-reserve_images)) ∙ ap (λ w. enqueue w.state c.args.unit c.args.value.now) c.self.view_is

pub returns-in-Err-Full-clause-state : goal.returns-in-Err-Full-clause-state
returns-in-Err-Full-clause-state c =
    let u = c.self.inside in
    let at = goal.at.returns-in-Err-Full-clause-state c in
    refused_shown u.opening u.trace.items u.outcomes.items u.commits.items (core_value u.core) (left at.After-reserve_images c.enq.new.self) c.self.invariant.0
    (same at.After-reserve_images c.enq.new.self c.in-Err-Full.ensures.err) c.reserve_unit.new.outcomes.items c.reserve_unit.new.commits.items c.reserve_unit.ensures.outcomes c.reserve_unit.ensures.commits
    ∙ sym (ap (after_enqueued (before at.After-reserve_images) c.args.unit c.args.value.now) (full at.In-Err-Full (over at.After-reserve_images)))
    ∙ ap (λ w. after_enqueue w.state c.args.unit c.args.value.now) c.self.view_is

pub returns-in-Err-Full-clause-headline : goal.returns-in-Err-Full-clause-headline
returns-in-Err-Full-clause-headline c = kept_headline _ _ _ (kept_same (goal.at.returns-in-Err-Full-clause-headline c).After-reserve_images c.enq.new.self c.in-Err-Full.ensures.err)

pub returns-in-Err-Full-clause-serializable : goal.returns-in-Err-Full-clause-serializable
returns-in-Err-Full-clause-serializable c = kept_serializable _ _ _ (kept_same (goal.at.returns-in-Err-Full-clause-serializable c).After-reserve_images c.enq.new.self c.in-Err-Full.ensures.err)

-- ---- it is taken
none : (c : In-Ok-None) → IsOver c.unit_or_next-acting.result c.args.unit c.args.value.now c.self.inside.core.locks → holder_over (value_of c.args.value.now) c.args.unit c.self.inside.core.locks ≡ None
none c over = sym over ∙ sym c.in-Ok-None.ensures.holder ∙ c.in-Ok-None.field-0-is

module _ (c : After-begin) (roomier : AreRoomier (core_value c.self.inside.core).stores (record { store = c.self.inside.core.store; images = c.reserve_images.new.rows.items }))
    (none : holder_over (value_of c.args.value.now) c.args.unit c.self.inside.core.locks ≡ None) where
  abbrev old : UnitsState
  old = state_shown c.self.inside.opening c.self.inside.trace.items c.self.inside.outcomes.items c.self.inside.commits.items (core_value c.self.inside.core)

  -- the core with the value taken
  abbrev new : CoreValue
  new = record (core_value c.self.inside.core) { stores = record { store = c.self.inside.core.store; images = c.reserve_images.new.rows.items }; table = c.enq.new.self }

  abbrev now : UnitsState
  now = state_shown c.self.inside.opening c.self.inside.trace.items c.begin.new.outcomes.items c.reserve_unit.new.commits.items new

  acts : may_act old c.args.unit ≡ true
  acts = acts_of old c.args.unit (subst (λ w. IsOpenOrNone w.state c.args.unit) (sym c.self.view_is) c.requires.is_open)

  acting : c.unit_or_next-acting.result ≡ unit_or_next c.args.unit c.self.inside.outcomes.items
  acting = c.unit_or_next-acting.ensures ∙ ap (unit_or_next c.args.unit) c.as_slice.ensures.value

  takes : enqueue old c.args.unit c.args.value.now ≡ Taken (unit_or_next c.args.unit c.self.inside.outcomes.items)
  takes = enqueue-takes old (core_value c.self.inside.core).stores c.self.inside.core.locks c.self.invariant.0 c.args.unit c.args.value.now none
      (subst (λ o. IfNone o (is_full (value_of c.args.value.now) c.self.inside.core.locks ≡ false)) c.in-Ok-None.field-0-is c.in-Ok-None.ensures.room)

  done : AreEnqueued (core_value c.self.inside.core) new (unit_or_next c.args.unit c.self.inside.outcomes.items) c.args.value.now
  done = subst (λ n. AreEnqueued (core_value c.self.inside.core) new n c.args.value.now) acting (record {
    stores = roomier;
    begun = c.in_ok-reserve_images.ensures.begun;
    table = c.in-Ok-None.ensures.taken
        ∙ ap (λ o. if is_some o then c.self.inside.core.locks else taken c.self.inside.core.locks (value_of c.args.value.now) c.unit_or_next-acting.result) c.in-Ok-None.field-0-is;
    reads = refl;
  })

  shown : now ≡ state_shown c.self.inside.opening c.self.inside.trace.items (outcomes_with c.args.unit c.self.inside.outcomes.items) c.self.inside.commits.items new
  shown =
      let outcomes : c.begin.new.outcomes.items ≡ outcomes_with c.args.unit c.self.inside.outcomes.items = c.begin.ensures ∙ ap (outcomes_with c.args.unit) c.reserve_unit.ensures.outcomes in
      λ i. state_shown c.self.inside.opening c.self.inside.trace.items (outcomes i) (c.reserve_unit.ensures.commits i) new

  state : now ≡ after_enqueue old c.args.unit c.args.value.now
  state =
      let u = c.self.inside in
      shown ∙ enqueued_shown u.opening u.trace.items u.outcomes.items u.commits.items (core_value u.core) new c.self.invariant.0 c.args.unit c.args.value.now acts takes done

  kept : AreValid now new.stores new.table
  kept =
      let u = c.self.inside in
      subst (λ s. AreValid s new.stores new.table) (sym shown)
      (enqueued_kept u.opening u.trace.items u.outcomes.items u.commits.items (core_value u.core) new c.self.invariant.0 c.args.unit c.args.value.now acts takes done)

pub invariant_of-self-2 : goal.invariant_of-self-2
invariant_of-self-2 c =
    let at = goal.at.invariant_of-self-2 c in
    let room = at.After-reserve_images in
    (kept at.After-begin (roomier room) (none at.In-Ok-None (over room)), omega (arith, with_len c.args.unit c.reserve_unit.new.outcomes.items, ap length c.begin.ensures, c.in_ok-reserve_unit.ensures.turns))

pub returns-clause-done : goal.returns-clause-done
returns-clause-done c =
    let at = goal.at.returns-clause-done c in
    let room = at.After-reserve_images in
    let none = none at.In-Ok-None (over room) in
    ap Taken (acting at.After-begin (roomier room) none) ∙ sym (takes at.After-begin (roomier room) none) ∙ ap (λ w. enqueue w.state c.args.unit c.args.value.now) c.self.view_is

pub returns-clause-state : goal.returns-clause-state
returns-clause-state c =
    let at = goal.at.returns-clause-state c in
    let room = at.After-reserve_images in
    state at.After-begin (roomier room) (none at.In-Ok-None (over room)) ∙ ap (λ w. after_enqueue w.state c.args.unit c.args.value.now) c.self.view_is

pub returns-clause-headline : goal.returns-clause-headline
returns-clause-headline c =
    let at = goal.at.returns-clause-headline c in
    let room = at.After-reserve_images in
    kept_headline _ _ _ (kept at.After-begin (roomier room) (none at.In-Ok-None (over room)))

pub returns-clause-serializable : goal.returns-clause-serializable
returns-clause-serializable c =
    let at = goal.at.returns-clause-serializable c in
    let room = at.After-reserve_images in
    kept_serializable _ _ _ (kept at.After-begin (roomier room) (none at.In-Ok-None (over room)))

-- ---- what stays as it was
pub invariant_of-self : goal.invariant_of-self
invariant_of-self c = (
  subst (λ s. AreValid s (core_value c.self.inside.core).stores c.self.inside.core.locks)
      (λ i. state_shown c.self.inside.opening c.self.inside.trace.items (sym c.reserve_unit.ensures.outcomes i) (sym c.reserve_unit.ensures.commits i) (core_value c.self.inside.core)) c.self.invariant.0,
  omega (arith, ap length c.reserve_unit.ensures.outcomes, c.self.invariant.1, c.reserve_unit.ensures.capacity),
)

pub returns-in_err-reserve_unit-clause-err : goal.returns-in_err-reserve_unit-clause-err
returns-in_err-reserve_unit-clause-err c = on_err c.from_residual.result (
    (λ i. record {
      state = state_shown c.self.inside.opening c.self.inside.trace.items (c.reserve_unit.ensures.outcomes i) (c.reserve_unit.ensures.commits i) (core_value c.self.inside.core);
      store = shown_store c.self.inside.core.store;
    }) ∙ c.self.view_is)

pub returns-in_err-reserve_images-clause-err : goal.returns-in_err-reserve_images-clause-err
returns-in_err-reserve_images-clause-err c =
    on_err c.from_residual-in_err-reserve_images.result (shown_same (goal.at.returns-in_err-reserve_images-clause-err c).After-reserve_images c.self.inside.core.locks refl)

pub returns-in-Err-NoMemory-clause-err : goal.returns-in-Err-NoMemory-clause-err
returns-in-Err-NoMemory-clause-err c = shown_same (goal.at.returns-in-Err-NoMemory-clause-err c).After-reserve_images c.enq.new.self c.in-Err-NoMemory.ensures.err

pub invariant_of-self-in-Ok-Some : goal.invariant_of-self-in-Ok-Some
invariant_of-self-in-Ok-Some c =
    let at = goal.at.invariant_of-self-in-Ok-Some c in
    (kept_same at.After-reserve_images c.enq.new.self (untaken at.In-Ok-Some), omega (arith, ap length c.reserve_unit.ensures.outcomes, c.self.invariant.1, c.reserve_unit.ensures.capacity))

pub invariant_of-self-in-Err-Full : goal.invariant_of-self-in-Err-Full
invariant_of-self-in-Err-Full c = (
  kept_same (goal.at.invariant_of-self-in-Err-Full c).After-reserve_images c.enq.new.self c.in-Err-Full.ensures.err,
  omega (arith, ap length c.reserve_unit.ensures.outcomes, c.self.invariant.1, c.reserve_unit.ensures.capacity),
)

pub invariant_of-self-in-Err-NoMemory : goal.invariant_of-self-in-Err-NoMemory
invariant_of-self-in-Err-NoMemory c = (
  kept_same (goal.at.invariant_of-self-in-Err-NoMemory c).After-reserve_images c.enq.new.self c.in-Err-NoMemory.ensures.err,
  omega (arith, ap length c.reserve_unit.ensures.outcomes, c.self.invariant.1, c.reserve_unit.ensures.capacity),
)

pub returns-in_err-reserve_unit-clause-store : goal.returns-in_err-reserve_unit-clause-store
returns-in_err-reserve_unit-clause-store c = ap (λ w. w.store) c.self.view_is

pub returns-in_err-reserve_images-clause-store : goal.returns-in_err-reserve_images-clause-store
returns-in_err-reserve_images-clause-store c = ap (λ w. w.store) c.self.view_is

pub returns-in-Ok-Some-clause-store : goal.returns-in-Ok-Some-clause-store
returns-in-Ok-Some-clause-store c = ap (λ w. w.store) c.self.view_is

pub returns-in-Err-Full-clause-store : goal.returns-in-Err-Full-clause-store
returns-in-Err-Full-clause-store c = ap (λ w. w.store) c.self.view_is

pub returns-in-Err-NoMemory-clause-store : goal.returns-in-Err-NoMemory-clause-store
returns-in-Err-NoMemory-clause-store c = ap (λ w. w.store) c.self.view_is

pub returns-clause-store : goal.returns-clause-store
returns-clause-store c = ap (λ w. w.store) c.self.view_is
