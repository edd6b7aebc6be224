use Rattle.std.proofs.Common.{◌∙◌, ℕ, sym, ap, subst}
use Rattle.std.proofs.lemmas.Result.{IfOk-from_err}
use Rattle.cics_tempstor.specs.Queues.{places_of}
use Rattle.cics_history.specs.Execution.{item_asked, ts_reading, after_ts_reading}
use Rattle.cics_history.specs.Headline.{IsHeadline}
use Rattle.cics_history.specs.Serial.{IsSerializable}
use Rattle.cics_history.specs.State.{UnitsState}
use Rattle.cics_images.specs.StoreCells.{with_temp_storage}
use Rattle.cics_units.specs.Cores.{core_value}
use Rattle.cics_units.specs.KeptUnits.{state_shown, AreValid}
use Rattle.cics_units.specs.Parts.{CoreValue}
use Rattle.cics_units.specs.Opening.StoreMatching.{shown_store}
use Rattle.cics_units.specs.StorePlaces.{number_asked}
use Rattle.cics_units.proofs.KeptUnits.{kept_headline, kept_serializable}
use Rattle.cics_units.proofs.TsReadings.{asked_told, reading_told, read_state, read_kept, read_store}
use Rattle.cics_units.proofs.RefusedCommands.{on_err}
use Rattle.cics_units.proofs.units.Units.read_ts.Goals as goal
use Rattle.cics_units.proofs.units.Units.read_ts.Goals.{In_ok-read}

pub returns-in_err-read-clause-headline : goal.returns-in_err-read-clause-headline
returns-in_err-read-clause-headline c =
    let u = c.self.inside in
    let s = state_shown u.opening u.trace.items u.outcomes.items u.commits.items (core_value u.core) in
    subst (λ rows. IsHeadline (record { state = record s { next = places_of rows }; store = shown_store (with_temp_storage u.core.store rows) }))
    (sym c.in_err-read.ensures.err) (kept_headline s (core_value u.core).stores u.core.locks c.self.invariant.0)

pub returns-in_err-read-clause-serializable : goal.returns-in_err-read-clause-serializable
returns-in_err-read-clause-serializable c =
    let u = c.self.inside in
    let s = state_shown u.opening u.trace.items u.outcomes.items u.commits.items (core_value u.core) in
    subst (λ rows. IsSerializable (record { state = record s { next = places_of rows }; store = shown_store (with_temp_storage u.core.store rows) }))
    (sym c.in_err-read.ensures.err) (kept_serializable s (core_value u.core).stores u.core.locks c.self.invariant.0)

pub invariant_of-self : goal.invariant_of-self
invariant_of-self c =
    let u = c.self.inside in
    let s = state_shown u.opening u.trace.items u.outcomes.items u.commits.items (core_value u.core) in (
      subst (λ rows. AreValid (record s { next = places_of rows }) (record { store = with_temp_storage u.core.store rows; images = u.core.rows.items }) u.core.locks) (sym c.in_err-read.ensures.err) c.self.invariant.0,
      c.self.invariant.1,
    )

pub returns-in_err-read-clause-store : goal.returns-in_err-read-clause-store
returns-in_err-read-clause-store c = ap (λ rows. shown_store (with_temp_storage c.self.inside.core.store rows)) c.in_err-read.ensures.err ∙ ap (λ v. v.store) c.self.view_is

pub returns-in_err-read-clause-err : goal.returns-in_err-read-clause-err
returns-in_err-read-clause-err c =
    let u = c.self.inside in
    let s = state_shown u.opening u.trace.items u.outcomes.items u.commits.items (core_value u.core) in
    on_err c.from_residual.result (
    (λ i. record { state = record s { next = places_of (c.in_err-read.ensures.err i) }; store = shown_store (with_temp_storage u.core.store (c.in_err-read.ensures.err i)) }) ∙ c.self.view_is)

pub returns-in_err-read-clause-answer : goal.returns-in_err-read-clause-answer
returns-in_err-read-clause-answer c = IfOk-from_err c.from_residual.result _ c.from_residual.ensures.0

pub returns-in_err-read-clause-state : goal.returns-in_err-read-clause-state
returns-in_err-read-clause-state c = IfOk-from_err c.from_residual.result _ c.from_residual.ensures.0

-- what is known once the item is read
module _ (c : In_ok-read) where
  abbrev before : UnitsState
  before = state_shown c.self.inside.opening c.self.inside.trace.items c.self.inside.outcomes.items c.self.inside.commits.items (core_value c.self.inside.core)

  -- the number of the item that is asked for
  abbrev number : ℕ
  number = number_asked c.self.inside.core.store.temp_storage c.args.queue.now c.args.item

  -- the core that is left
  abbrev left : CoreValue
  left = record (core_value c.self.inside.core) { stores = record { store = with_temp_storage c.self.inside.core.store c.read_ts.new.queues; images = c.self.inside.core.rows.items } }

  abbrev after : UnitsState
  after = state_shown c.self.inside.opening c.self.inside.trace.items c.self.inside.outcomes.items c.self.inside.commits.items left

  kept : AreValid after left.stores left.table
  kept =
      let u = c.self.inside in
      read_kept u.opening u.trace.items u.outcomes.items u.commits.items (core_value u.core) c.self.invariant.0 c.args.queue.now number c.read_ts.new.queues c.in_ok-read.ensures.value c.in_ok-read.ensures.kept

pub invariant_of-self-2 : goal.invariant_of-self-2
invariant_of-self-2 c = (kept (goal.at.invariant_of-self-2 c).In_ok-read, c.self.invariant.1)

pub returns-clause-answer : goal.returns-clause-answer
returns-clause-answer c =
    let u = c.self.inside in
    let q = c.args.queue.now in
    let at = (goal.at.returns-clause-answer c).In_ok-read in
    reading_told (before at) (core_value u.core).stores u.core.locks c.self.invariant.0 q (number at) c.in_ok-read.read c.in_ok-read.ensures.answer
    ∙ ap (ts_reading (before at) q) (asked_told (before at) (core_value u.core).stores u.core.locks c.self.invariant.0 q c.args.item)
    ∙ ap (λ v. ts_reading v.state q (item_asked v.state q c.args.item)) c.self.view_is

pub returns-clause-state : goal.returns-clause-state
returns-clause-state c =
    let u = c.self.inside in
    let q = c.args.queue.now in
    let at = (goal.at.returns-clause-state c).In_ok-read in
    read_state u.opening u.trace.items u.outcomes.items u.commits.items (core_value u.core) c.self.invariant.0 q (number at) c.read_ts.new.queues c.in_ok-read.ensures.value c.in_ok-read.ensures.kept
    ∙ ap (after_ts_reading (before at) q) (asked_told (before at) (core_value u.core).stores u.core.locks c.self.invariant.0 q c.args.item)
    ∙ ap (λ v. after_ts_reading v.state q (item_asked v.state q c.args.item)) c.self.view_is

pub returns-clause-headline : goal.returns-clause-headline
returns-clause-headline c = kept_headline _ _ _ (kept (goal.at.returns-clause-headline c).In_ok-read)

pub returns-clause-serializable : goal.returns-clause-serializable
returns-clause-serializable c = kept_serializable _ _ _ (kept (goal.at.returns-clause-serializable c).In_ok-read)

pub returns-clause-store : goal.returns-clause-store
returns-clause-store c =
    let u = c.self.inside in
    let at = (goal.at.returns-clause-store c).In_ok-read in
    read_store u.opening u.trace.items u.outcomes.items u.commits.items (core_value u.core) c.self.invariant.0 c.args.queue.now (number at) c.read_ts.new.queues c.in_ok-read.ensures.value c.in_ok-read.ensures.kept
    ∙ ap (λ v. v.store) c.self.view_is
