use Rattle.std.proofs.Common.{arith, is_ok, ◌≡◌, ◌∙◌, refl, sym, ap, subst, true, false, None, [], ◌∷◌, ◌++◌, length}
use Rattle.std.proofs.lemmas.Result.{IfOk-from_err}
use Rattle.cics_history.specs.Execution.{execution, after_execution, unit_or_next, read_at, outcomes_with, IsOpenUnit, IsOpenOrNone, is_ready_op}
use Rattle.cics_history.specs.Headline.{IsHeadline}
use Rattle.cics_history.specs.Serial.{IsSerializable}
use Rattle.cics_history.specs.State.{UnitsState}
use Rattle.cics_history.proofs.Ready.{ready_short}
use Rattle.cics_history.specs.Records.{file_of}
use Rattle.cics_history.specs.Store.{is_recoverable, apply}
use Rattle.cics_history.specs.Packed.{IsPackable}
use Rattle.cics_history.specs.declared.ops.Op.{Op}
use Rattle.cics_history.specs.declared.ops.Entry.{Entry}
use Rattle.cics_history.specs.declared.ops.Done.TheVariants.{Answered}
use Rattle.cics_units.specs.Cores.{core_value}
use Rattle.cics_units.specs.KeptUnits.{state_shown, AreValid}
use Rattle.cics_units.specs.Opening.StoreMatching.{shown_store}
use Rattle.cics_units.specs.Uses.{uses_if, AreFreeFor}
use Rattle.cics_units.specs.Parts.{CoreValue}
use Rattle.cics_units.specs.Executed.{IsExecuted}
use Rattle.cics_units.proofs.AppliedKept.{given_own, seen_own}
use Rattle.cics_units.proofs.Packable.{packable}
use Rattle.cics_units.proofs.KeptUnits.{kept_headline, kept_serializable, ready_fits}
use Rattle.cics_units.proofs.ShownUnits.{acts_of, in_lists, none_open_of, refused_kept, with_len, blocker_now, waits, waits_unchanged, waits_open, free_way, seen_way, parts_state, parts_kept, record_given, answered, IsAsked, asked as asked_of}
use Rattle.cics_units.proofs.Enqueuing.{refused_shown}
use Rattle.cics_units.proofs.RefusedCommands.{on_err}
use Rattle.cics_units.proofs.units.Units.submit.Goals as goal
use Rattle.cics_units.proofs.units.Units.submit.Goals.{After-blocker, After-push_reserved, In_err-answer}

-- ---- the command is bound, and it is known whom it has to wait for
module _ (c : After-blocker) where
  abbrev core : CoreValue
  core = core_value c.self.inside.core

  abbrev before : UnitsState
  before = state_shown c.self.inside.opening c.self.inside.trace.items c.self.inside.outcomes.items c.self.inside.commits.items core

  -- the command that is bound
  abbrev op : Op
  op = c.bind-bound.result.op.now

  known : IsAsked c.self.inside.opening c.self.inside.trace.items c.self.inside.outcomes.items c.self.inside.commits.items core c.args.unit c.bind-bound.result c.unit_or_next-acting.result c.blocker.result
  known =
      let u = c.self.inside in
      asked_of u.opening u.trace.items u.outcomes.items u.commits.items core core c.self.invariant.0 c.args.unit c.args.op c.bind-bound.result c.unit_or_next-acting.result c.blocker.result c.bind-bound.ensures.op c.bind-bound.ensures.bound
      (c.unit_or_next-acting.ensures ∙ ap (unit_or_next c.args.unit) c.as_slice.ensures.value)
      (acts_of before c.args.unit (subst (λ v. IsOpenOrNone v.state c.args.unit) (sym c.self.view_is) c.requires.is_open))
      (subst (λ v. is_ready_op v.state c.args.unit c.args.op ≡ true) (sym c.self.view_is) c.requires.ready)
      (λ temp. c.bind-bound.ensures.temp temp ∙ c.is_prefixed.ensures temp) c.blocker.ensures

  headline : IsHeadline (record { state = before; store = shown_store core.stores.store })
  headline = kept_headline before core.stores core.table c.self.invariant.0

  serializable : IsSerializable (record { state = before; store = shown_store core.stores.store })
  serializable = kept_serializable before core.stores core.table c.self.invariant.0

-- ---- it has to wait
pub returns-in-Some-clause-done : goal.returns-in-Some-clause-done
returns-in-Some-clause-done c =
    let u = c.self.inside in
    let at = (goal.at.returns-in-Some-clause-done c).After-blocker in
    waits u.opening u.trace.items u.outcomes.items u.commits.items (core at) (core at) c.self.invariant.0 c.args.unit (op at) (known at).acts c.in-Some.holder (sym (known at).way ∙ c.in-Some.is)
    ∙ ap (execution (before at) c.args.unit) c.bind-bound.ensures.op ∙ ap (λ v. execution v.state c.args.unit c.args.op) c.self.view_is

pub returns-in-Some-clause-holder_open : goal.returns-in-Some-clause-holder_open
returns-in-Some-clause-holder_open c =
    let u = c.self.inside in
    let at = (goal.at.returns-in-Some-clause-holder_open c).After-blocker in
    subst (λ v. IsOpenUnit v.state c.in-Some.holder) c.self.view_is
    (waits_open u.opening u.trace.items u.outcomes.items u.commits.items (core at) (core at) c.self.invariant.0 c.args.unit (op at) (known at).acts c.in-Some.holder (sym (known at).way ∙ c.in-Some.is))

pub returns-in-Some-clause-state : goal.returns-in-Some-clause-state
returns-in-Some-clause-state c =
    let u = c.self.inside in
    let at = (goal.at.returns-in-Some-clause-state c).After-blocker in
    subst (λ v. v.state ≡ after_execution v.state c.args.unit c.args.op) c.self.view_is
    (waits_unchanged u.opening u.trace.items u.outcomes.items u.commits.items (core at) (core at) c.self.invariant.0 c.args.unit (op at) (known at).acts c.in-Some.holder (sym (known at).way ∙ c.in-Some.is)
    ∙ ap (after_execution (before at) c.args.unit) c.bind-bound.ensures.op)

pub returns-in-Some-clause-headline : goal.returns-in-Some-clause-headline
returns-in-Some-clause-headline c = subst IsHeadline c.self.view_is (headline (goal.at.returns-in-Some-clause-headline c).After-blocker)

pub returns-in-Some-clause-serializable : goal.returns-in-Some-clause-serializable
returns-in-Some-clause-serializable c = subst IsSerializable c.self.view_is (serializable (goal.at.returns-in-Some-clause-serializable c).After-blocker)

-- ---- memory is refused
pub returns-in_err-reserve-clause-headline : goal.returns-in_err-reserve-clause-headline
returns-in_err-reserve-clause-headline c =
    in_lists IsHeadline c.self.inside.opening (core_value c.self.inside.core) c.reserve.ensures.items refl refl (headline (goal.at.returns-in_err-reserve-clause-headline c).After-blocker)

pub returns-in_err-reserve-clause-serializable : goal.returns-in_err-reserve-clause-serializable
returns-in_err-reserve-clause-serializable c =
    in_lists IsSerializable c.self.inside.opening (core_value c.self.inside.core) c.reserve.ensures.items refl refl (serializable (goal.at.returns-in_err-reserve-clause-serializable c).After-blocker)

pub returns-in_err-reserve_unit-clause-headline : goal.returns-in_err-reserve_unit-clause-headline
returns-in_err-reserve_unit-clause-headline c =
    in_lists IsHeadline c.self.inside.opening (core_value c.self.inside.core) c.reserve.ensures.items c.reserve_unit.ensures.outcomes c.reserve_unit.ensures.commits
    (headline (goal.at.returns-in_err-reserve_unit-clause-headline c).After-blocker)

pub returns-in_err-content-clause-headline : goal.returns-in_err-content-clause-headline
returns-in_err-content-clause-headline c =
    in_lists IsHeadline c.self.inside.opening (core_value c.self.inside.core) c.reserve.ensures.items c.reserve_unit.ensures.outcomes c.reserve_unit.ensures.commits
    (headline (goal.at.returns-in_err-content-clause-headline c).After-blocker)

pub returns-in_err-reserve_unit-clause-serializable : goal.returns-in_err-reserve_unit-clause-serializable
returns-in_err-reserve_unit-clause-serializable c =
    in_lists IsSerializable c.self.inside.opening (core_value c.self.inside.core) c.reserve.ensures.items c.reserve_unit.ensures.outcomes c.reserve_unit.ensures.commits
    (serializable (goal.at.returns-in_err-reserve_unit-clause-serializable c).After-blocker)

pub returns-in_err-content-clause-serializable : goal.returns-in_err-content-clause-serializable
returns-in_err-content-clause-serializable c =
    in_lists IsSerializable c.self.inside.opening (core_value c.self.inside.core) c.reserve.ensures.items c.reserve_unit.ensures.outcomes c.reserve_unit.ensures.commits
    (serializable (goal.at.returns-in_err-content-clause-serializable c).After-blocker)

refused : (c : In_err-answer) → AreValid (state_shown c.self.inside.opening c.reserve.new.self.items c.reserve_unit.new.outcomes.items c.reserve_unit.new.commits.items (core_value c.execute.new.self)) (core_value c.execute.new.self).stores c.execute.new.self.locks
refused c =
    let u = c.self.inside in
    refused_kept u.opening u.trace.items u.outcomes.items u.commits.items (core_value u.core) (core_value c.execute.new.self) c.self.invariant.0 c.in_err-answer.ensures.err c.reserve.new.self.items c.reserve_unit.new.outcomes.items
    c.reserve_unit.new.commits.items c.reserve.ensures.items c.reserve_unit.ensures.outcomes c.reserve_unit.ensures.commits

pub invariant_of-self-in_err-answer : goal.invariant_of-self-in_err-answer
invariant_of-self-in_err-answer c = (
  refused (goal.at.invariant_of-self-in_err-answer c).In_err-answer,
  omega (arith, ap length c.reserve_unit.ensures.outcomes, c.self.invariant.1, c.reserve_unit.ensures.capacity),
)

pub returns-in_err-answer-clause-headline : goal.returns-in_err-answer-clause-headline
returns-in_err-answer-clause-headline c = kept_headline _ (core_value c.execute.new.self).stores c.execute.new.self.locks (refused (goal.at.returns-in_err-answer-clause-headline c).In_err-answer)

pub returns-in_err-answer-clause-serializable : goal.returns-in_err-answer-clause-serializable
returns-in_err-answer-clause-serializable c = kept_serializable _ (core_value c.execute.new.self).stores c.execute.new.self.locks (refused (goal.at.returns-in_err-answer-clause-serializable c).In_err-answer)

-- ---- what the calls require
pub bind-bound-requires : goal.bind-bound-requires
bind-bound-requires c =
    let u = c.self.inside in
    let s = state_shown u.opening u.trace.items u.outcomes.items u.commits.items (core_value u.core) in
    let ready : is_ready_op s c.args.unit c.args.op ≡ true = subst (λ v. is_ready_op v.state c.args.unit c.args.op ≡ true) (sym c.self.view_is) c.requires.ready in
    record {
      fit = ready_fits s (core_value u.core).stores u.core.locks c.self.invariant.0 c.args.unit c.args.op ready;
      short = ready_short s c.args.unit c.args.op c.self.invariant.0.lawful_keys ready;
    }

pub given_record-requires : goal.given_record-requires
given_record-requires c =
    let at = (goal.at.given_record-requires c).After-blocker in
    record { fit = ready_fits (before at) (core at).stores (core at).table c.self.invariant.0 c.args.unit (op at) (known at).ready }

pub execute-requires-clause-fit : goal.execute-requires-clause-fit
execute-requires-clause-fit c =
    let at = (goal.at.execute-requires-clause-fit c).After-blocker in
    ready_fits (before at) (core at).stores (core at).table c.self.invariant.0 c.args.unit (op at) (known at).ready

pub execute-requires-clause-seen : goal.execute-requires-clause-seen
execute-requires-clause-seen c =
    let u = c.self.inside in
    let at = (goal.at.execute-requires-clause-seen c).After-blocker in
    seen_own (op at) c.bind-bound.result.own _ u.core.store (known at).own
    (seen_way u.opening u.trace.items u.outcomes.items u.commits.items (core at) (core at) c.self.invariant.0 c.args.unit (op at) (known at).acts (sym (known at).way ∙ c.in_default.is))

pub execute-requires-clause-free : goal.execute-requires-clause-free
execute-requires-clause-free c =
    let u = c.self.inside in
    let at = (goal.at.execute-requires-clause-free c).After-blocker in
    subst (λ rs. AreFreeFor u.core.locks rs c.unit_or_next-acting.result) (sym (known at).used)
    (subst (AreFreeFor u.core.locks (uses_if (is_recoverable u.opening (op at)) (op at))) (sym (known at).acting)
    (free_way u.opening u.trace.items u.outcomes.items u.commits.items (core at) (core at) c.self.invariant.0 c.args.unit (op at) (known at).acts (sym (known at).way ∙ c.in_default.is)))

pub execute-requires-clause-none_open : goal.execute-requires-clause-none_open
execute-requires-clause-none_open c = λ read.
    let at = (goal.at.execute-requires-clause-none_open c).After-blocker in
    ap (λ n. read_at c.self.inside.core.reads n (file_of (op at))) (known at).acting ∙ none_open_of (before at) c.args.unit (op at) c.self.invariant.0.sound.begun.readers (known at).ready read

pub execute-requires-clause-short : goal.execute-requires-clause-short
execute-requires-clause-short c = c.self.invariant.0.table.keys

-- the command can be packed with its answer, so its entry isn't refused memory
pub unreachable-requires : goal.unreachable-requires
unreachable-requires c =
    let u = c.self.inside in
    let at = (goal.at.unreachable-requires c).After-blocker in
    let ready : is_ready_op (before at) c.args.unit c.args.op ≡ true = subst (λ v. is_ready_op v.state c.args.unit c.args.op ≡ true) (sym c.self.view_is) c.requires.ready in
    let fit = ready_fits (before at) (core at).stores (core at).table c.self.invariant.0 c.args.unit (op at) (known at).ready in
    let done = c.in_ok-answer.ensures.executed in
    let told : c.in_ok-answer.answer ≡ (apply (shown_store u.core.store) (op at)).answer =
    done.done.applied.answered ∙ ap (λ m. (apply (shown_store m) (op at)).answer) done.room.store in
    let fits : IsPackable c.args.op c.in_ok-content.content c.in_ok-answer.answer.number =
    subst (λ o. IsPackable o c.in_ok-content.content c.in_ok-answer.answer.number) c.bind-bound.ensures.op
    (subst (λ n. IsPackable (op at) c.in_ok-content.content n) (sym (ap (λ a. a.number) told))
    (subst (λ x. IsPackable (op at) x (apply (shown_store u.core.store) (op at)).answer.number) (sym c.in_ok-content.ensures)
    (packable u.core.store c.bind-bound.result.own (op at) c.bind-bound.result.recoverable fit c.bind-bound.ensures.bound.bound))) in
    let short = ready_short (before at) c.args.unit c.args.op c.self.invariant.0.lawful_keys ready in
    let made : is_ok c.new.result ≡ true = c.new.ensures.packed fits short in
    let wrong : true ≡ false = sym made ∙ ap is_ok c.in_default-new.is in cc

-- ---- it is executed
module _ (c : After-push_reserved)
    (asked : IsAsked c.self.inside.opening c.self.inside.trace.items c.self.inside.outcomes.items c.self.inside.commits.items (core_value c.self.inside.core) c.args.unit c.bind-bound.result c.unit_or_next-acting.result c.blocker.result) where
  abbrev old : UnitsState
  old = state_shown c.self.inside.opening c.self.inside.trace.items c.self.inside.outcomes.items c.self.inside.commits.items (core_value c.self.inside.core)

  abbrev new : CoreValue
  new = core_value c.execute.new.self

  abbrev now : UnitsState
  now = state_shown c.self.inside.opening c.push_reserved.new.self.items c.begin.new.outcomes.items c.reserve_unit.new.commits.items new

  abbrev done_op : Op
  done_op = c.bind-bound.result.op.now

  none : blocker_now c.self.inside.opening c.self.inside.trace.items c.self.inside.outcomes.items c.self.inside.commits.items (core_value c.self.inside.core) new c.self.invariant.0 c.args.unit done_op asked.acts ≡ None
  none = sym asked.way ∙ c.in_default.is

  done : IsExecuted (core_value c.self.inside.core) new (unit_or_next c.args.unit c.self.inside.outcomes.items) done_op (is_recoverable c.self.inside.opening done_op) c.in_ok-answer.answer
  done = subst (λ r. IsExecuted (core_value c.self.inside.core) new (unit_or_next c.args.unit c.self.inside.outcomes.items) done_op r c.in_ok-answer.answer) asked.recoverable
      (subst (λ n. IsExecuted (core_value c.self.inside.core) new n done_op c.bind-bound.result.recoverable c.in_ok-answer.answer) asked.acting c.in_ok-answer.ensures.executed)

  -- the record of the answer is the one that was looked up
  given : c.in_ok-content.content ≡ c.in_ok-answer.answer.content
  given =
      let u = c.self.inside in
      c.in_ok-content.ensures ∙ given_own done_op c.bind-bound.result.own _ u.core.store asked.own
      ∙ sym (record_given u.opening u.trace.items u.outcomes.items u.commits.items (core_value u.core) new c.self.invariant.0 c.args.unit done_op asked.acts none asked.ready c.in_ok-answer.answer asked.stands done)

  abbrev entry : Entry
  entry = record { unit = unit_or_next c.args.unit c.self.inside.outcomes.items; op = done_op; answer = c.in_ok-answer.answer }

  trace : c.push_reserved.new.self.items ≡ c.self.inside.trace.items ++ entry ∷ []
  trace = c.push_reserved.ensures.items ∙ (λ i. c.reserve.ensures.items i ++ c.in-Ok.ensures.entry i ∷ []) ∙ (λ i. c.self.inside.trace.items ++ record {
    unit = asked.acting i;
    op = sym c.bind-bound.ensures.op i;
    answer = record { condition = c.in_ok-answer.answer.condition; content = given i; number = c.in_ok-answer.answer.number };
  } ∷ [])

  outcomes : c.begin.new.outcomes.items ≡ outcomes_with c.args.unit c.self.inside.outcomes.items
  outcomes = c.begin.ensures ∙ ap (outcomes_with c.args.unit) c.reserve_unit.ensures.outcomes

  shown : now ≡ state_shown c.self.inside.opening (c.self.inside.trace.items ++ entry ∷ []) (outcomes_with c.args.unit c.self.inside.outcomes.items) c.self.inside.commits.items new
  shown = λ i. state_shown c.self.inside.opening (trace i) (outcomes i) (c.reserve_unit.ensures.commits i) new

  told : Answered c.unit_or_next-acting.result c.in_ok-answer.answer ≡ execution old c.args.unit c.args.op
  told =
      let u = c.self.inside in
      ap (λ n. Answered n c.in_ok-answer.answer) asked.acting
      ∙ answered u.opening u.trace.items u.outcomes.items u.commits.items (core_value u.core) new c.self.invariant.0 c.args.unit done_op asked.acts none asked.ready c.in_ok-answer.answer asked.stands done
      ∙ ap (execution old c.args.unit) c.bind-bound.ensures.op

  state : now ≡ after_execution old c.args.unit c.args.op
  state =
      let u = c.self.inside in
      shown ∙ parts_state u.opening u.trace.items u.outcomes.items u.commits.items (core_value u.core) new c.self.invariant.0 c.args.unit done_op asked.acts none asked.ready c.in_ok-answer.answer asked.stands done
      ∙ ap (after_execution old c.args.unit) c.bind-bound.ensures.op

  kept : AreValid now new.stores new.table
  kept =
      let u = c.self.inside in
      subst (λ s. AreValid s new.stores new.table) (sym shown)
      (parts_kept u.opening u.trace.items u.outcomes.items u.commits.items (core_value u.core) new c.self.invariant.0 c.args.unit done_op asked.acts none asked.ready c.in_ok-answer.answer asked.stands done)

pub invariant_of-self-2 : goal.invariant_of-self-2
invariant_of-self-2 c =
    let at = goal.at.invariant_of-self-2 c in
    (kept at.After-push_reserved (known at.After-blocker), omega (arith, with_len c.args.unit c.reserve_unit.new.outcomes.items, ap length c.begin.ensures, c.in_ok-reserve_unit.ensures.turns))

pub returns-clause-done : goal.returns-clause-done
returns-clause-done c =
    let at = goal.at.returns-clause-done c in
    told at.After-push_reserved (known at.After-blocker) ∙ ap (λ v. execution v.state c.args.unit c.args.op) c.self.view_is

pub returns-clause-state : goal.returns-clause-state
returns-clause-state c =
    let at = goal.at.returns-clause-state c in
    state at.After-push_reserved (known at.After-blocker) ∙ ap (λ v. after_execution v.state c.args.unit c.args.op) c.self.view_is

pub returns-clause-headline : goal.returns-clause-headline
returns-clause-headline c =
    let at = goal.at.returns-clause-headline c in
    kept_headline _ (core_value c.execute.new.self).stores c.execute.new.self.locks (kept at.After-push_reserved (known at.After-blocker))

pub returns-clause-serializable : goal.returns-clause-serializable
returns-clause-serializable c =
    let at = goal.at.returns-clause-serializable c in
    kept_serializable _ (core_value c.execute.new.self).stores c.execute.new.self.locks (kept at.After-push_reserved (known at.After-blocker))

-- ---- what stays as it was
pub invariant_of-self : goal.invariant_of-self
invariant_of-self c = (
  subst (λ es. AreValid (state_shown c.self.inside.opening es c.self.inside.outcomes.items c.self.inside.commits.items (core_value c.self.inside.core)) (core_value c.self.inside.core).stores c.self.inside.core.locks)
      (sym c.reserve.ensures.items) c.self.invariant.0,
  c.self.invariant.1,
)

pub invariant_of-self-in_err-reserve_unit : goal.invariant_of-self-in_err-reserve_unit
invariant_of-self-in_err-reserve_unit c = (
  subst (λ s. AreValid s (core_value c.self.inside.core).stores c.self.inside.core.locks)
      (λ i. state_shown c.self.inside.opening (sym c.reserve.ensures.items i) (sym c.reserve_unit.ensures.outcomes i) (sym c.reserve_unit.ensures.commits i) (core_value c.self.inside.core)) c.self.invariant.0,
  omega (arith, ap length c.reserve_unit.ensures.outcomes, c.self.invariant.1, c.reserve_unit.ensures.capacity),
)

pub invariant_of-self-in_err-content : goal.invariant_of-self-in_err-content
invariant_of-self-in_err-content c = (
  subst (λ s. AreValid s (core_value c.self.inside.core).stores c.self.inside.core.locks)
      (λ i. state_shown c.self.inside.opening (sym c.reserve.ensures.items i) (sym c.reserve_unit.ensures.outcomes i) (sym c.reserve_unit.ensures.commits i) (core_value c.self.inside.core)) c.self.invariant.0,
  omega (arith, ap length c.reserve_unit.ensures.outcomes, c.self.invariant.1, c.reserve_unit.ensures.capacity),
)

pub returns-in_err-reserve-clause-err : goal.returns-in_err-reserve-clause-err
returns-in_err-reserve-clause-err c = on_err c.from_residual.result (
    (λ i. record {
      state = state_shown c.self.inside.opening (c.reserve.ensures.items i) c.self.inside.outcomes.items c.self.inside.commits.items (core_value c.self.inside.core);
      store = shown_store c.self.inside.core.store;
    }) ∙ c.self.view_is)

pub returns-in_err-reserve_unit-clause-err : goal.returns-in_err-reserve_unit-clause-err
returns-in_err-reserve_unit-clause-err c = on_err c.from_residual-in_err-reserve_unit.result (
    (λ i. record {
      state = state_shown c.self.inside.opening (c.reserve.ensures.items i) (c.reserve_unit.ensures.outcomes i) (c.reserve_unit.ensures.commits i) (core_value c.self.inside.core);
      store = shown_store c.self.inside.core.store;
    }) ∙ c.self.view_is)

pub returns-in_err-content-clause-err : goal.returns-in_err-content-clause-err
returns-in_err-content-clause-err c = on_err c.from_residual-in_err-content.result (
    (λ i. record {
      state = state_shown c.self.inside.opening (c.reserve.ensures.items i) (c.reserve_unit.ensures.outcomes i) (c.reserve_unit.ensures.commits i) (core_value c.self.inside.core);
      store = shown_store c.self.inside.core.store;
    }) ∙ c.self.view_is)

pub returns-in_err-answer-clause-err : goal.returns-in_err-answer-clause-err
returns-in_err-answer-clause-err c =
    let u = c.self.inside in
    let new = core_value c.execute.new.self in
    let same = c.in_err-answer.ensures.err in
    on_err c.from_residual-in_err-answer.result (
    (λ i. record {
      state = state_shown u.opening (c.reserve.ensures.items i) c.reserve_unit.new.outcomes.items c.reserve_unit.new.commits.items new;
      store = shown_store (same.stores.store i);
    })
    ∙ (λ i. record {
      state = refused_shown u.opening u.trace.items u.outcomes.items u.commits.items (core_value u.core) new c.self.invariant.0 same c.reserve_unit.new.outcomes.items c.reserve_unit.new.commits.items
          c.reserve_unit.ensures.outcomes c.reserve_unit.ensures.commits i;
      store = shown_store u.core.store;
    })
    ∙ c.self.view_is)

-- ---- what is told of answers alone
pub returns-in_err-reserve-clause-done : goal.returns-in_err-reserve-clause-done
returns-in_err-reserve-clause-done c = IfOk-from_err c.from_residual.result _ c.from_residual.ensures.0

pub returns-in_err-reserve-clause-back : goal.returns-in_err-reserve-clause-back
returns-in_err-reserve-clause-back c = IfOk-from_err c.from_residual.result _ c.from_residual.ensures.0

pub returns-in_err-reserve-clause-holder_open : goal.returns-in_err-reserve-clause-holder_open
returns-in_err-reserve-clause-holder_open c = IfOk-from_err c.from_residual.result _ c.from_residual.ensures.0

pub returns-in_err-reserve-clause-state : goal.returns-in_err-reserve-clause-state
returns-in_err-reserve-clause-state c = IfOk-from_err c.from_residual.result _ c.from_residual.ensures.0

pub returns-in_err-reserve_unit-clause-done : goal.returns-in_err-reserve_unit-clause-done
returns-in_err-reserve_unit-clause-done c = IfOk-from_err c.from_residual-in_err-reserve_unit.result _ c.from_residual-in_err-reserve_unit.ensures.0

pub returns-in_err-reserve_unit-clause-back : goal.returns-in_err-reserve_unit-clause-back
returns-in_err-reserve_unit-clause-back c = IfOk-from_err c.from_residual-in_err-reserve_unit.result _ c.from_residual-in_err-reserve_unit.ensures.0

pub returns-in_err-reserve_unit-clause-holder_open : goal.returns-in_err-reserve_unit-clause-holder_open
returns-in_err-reserve_unit-clause-holder_open c = IfOk-from_err c.from_residual-in_err-reserve_unit.result _ c.from_residual-in_err-reserve_unit.ensures.0

pub returns-in_err-reserve_unit-clause-state : goal.returns-in_err-reserve_unit-clause-state
returns-in_err-reserve_unit-clause-state c = IfOk-from_err c.from_residual-in_err-reserve_unit.result _ c.from_residual-in_err-reserve_unit.ensures.0

pub returns-in_err-content-clause-done : goal.returns-in_err-content-clause-done
returns-in_err-content-clause-done c = IfOk-from_err c.from_residual-in_err-content.result _ c.from_residual-in_err-content.ensures.0

pub returns-in_err-content-clause-back : goal.returns-in_err-content-clause-back
returns-in_err-content-clause-back c = IfOk-from_err c.from_residual-in_err-content.result _ c.from_residual-in_err-content.ensures.0

pub returns-in_err-content-clause-holder_open : goal.returns-in_err-content-clause-holder_open
returns-in_err-content-clause-holder_open c = IfOk-from_err c.from_residual-in_err-content.result _ c.from_residual-in_err-content.ensures.0

pub returns-in_err-content-clause-state : goal.returns-in_err-content-clause-state
returns-in_err-content-clause-state c = IfOk-from_err c.from_residual-in_err-content.result _ c.from_residual-in_err-content.ensures.0

pub returns-in_err-answer-clause-done : goal.returns-in_err-answer-clause-done
returns-in_err-answer-clause-done c = IfOk-from_err c.from_residual-in_err-answer.result _ c.from_residual-in_err-answer.ensures.0

pub returns-in_err-answer-clause-back : goal.returns-in_err-answer-clause-back
returns-in_err-answer-clause-back c = IfOk-from_err c.from_residual-in_err-answer.result _ c.from_residual-in_err-answer.ensures.0

pub returns-in_err-answer-clause-holder_open : goal.returns-in_err-answer-clause-holder_open
returns-in_err-answer-clause-holder_open c = IfOk-from_err c.from_residual-in_err-answer.result _ c.from_residual-in_err-answer.ensures.0

pub returns-in_err-answer-clause-state : goal.returns-in_err-answer-clause-state
returns-in_err-answer-clause-state c = IfOk-from_err c.from_residual-in_err-answer.result _ c.from_residual-in_err-answer.ensures.0

-- ---- what follows at once
pub execute-requires-clause-bound : goal.execute-requires-clause-bound
execute-requires-clause-bound c = c.bind-bound.ensures.bound

pub execute-requires-clause-once : goal.execute-requires-clause-once
execute-requires-clause-once c = c.self.invariant.0.table.once

pub begin-requires : goal.begin-requires
begin-requires c = record { room = c.in_ok-reserve_unit.ensures.room }

pub returns-in-Some-clause-back : goal.returns-in-Some-clause-back
returns-in-Some-clause-back c = refl

pub returns-in-Some-clause-err : goal.returns-in-Some-clause-err
returns-in-Some-clause-err c = tt

pub returns-clause-back : goal.returns-clause-back
returns-clause-back c = tt

pub returns-clause-holder_open : goal.returns-clause-holder_open
returns-clause-holder_open c = tt

pub returns-clause-err : goal.returns-clause-err
returns-clause-err c = tt
