-- Every call of the units keeps them in serial order, so every run does.
use Rattle.std.proofs.Common.{arith, ◌≡◌, ℕ, Bool, true, false, not, ◌&&◌, ◌||◌, Option, Some, None, List, [], ◌∷◌, ◌++◌, length, refl, ap, sym, subst, ◌∙◌, ◌<◌, eqb, ltb, inl, inr, ◌⊎◌}
use Rattle.std.specs.Prelude.{if◌then◌else◌, unwrap_or, slice_set}
use Rattle.std.proofs.Math.Bool.{or-false}
use Rattle.std.proofs.lemmas.Bool.{true≢false, false≢true, cases_Bool, cond_both, and_parts, and_from, not-true, lt-ltb, ltb-true, eqb-true, eq-eqb, or_left, or_right}
use Rattle.std.proofs.lemmas.Option.{unwrap_or-slice_get, slice_get_past}
use Rattle.std.proofs.lemmas.List.{get_or-set_same, append-nil, append_assoc}
use Rattle.std.proofs.lemmas.List.Folds.{list_any-append}
use Rattle.cics_names.specs.Keyed.{Bytes, value_at}
use Rattle.cics_history.specs.State.{OpeningState, Store, initial_store, UnitsState, UnitsValue, initial_units}
use Rattle.cics_history.specs.Openings.{IsOpeningInOrder}
use Rattle.cics_history.specs.Store.{apply, is_recoverable}
use Rattle.cics_history.specs.Headline.{outcome_of, is_open, is_backed_out, is_committed, is_kept, kept, committed_entries, replay, Agrees, IsSameRecoverable}
use Rattle.cics_history.specs.Holding.{store_of, awaited}
use Rattle.cics_history.specs.Execution.{unit_or_next, outcomes_with, entered, state_of, after_execution, after_end, after_enqueue, after_dequeue, after_unlock, after_ts_reading}
use Rattle.cics_history.specs.declared.ops.Op.{Op}
use Rattle.cics_history.specs.declared.ops.Entry.{Entry}
use Rattle.cics_history.specs.declared.ops.UnitState.{UnitState}
use Rattle.cics_history.specs.declared.ops.UnitState.TheVariants.{Open, Committed, BackedOut}
use Rattle.cics_history.specs.Cells.{Cell, Key, Ts, Td, content, recovers, IsOrdered, IsCanonical}
use Rattle.cics_history.specs.Events.{Event, Execute, Commit, BackOut, Enqueue, Dequeue, Unlock, ReadItem, is_live, may_act, happens, run}
use Rattle.cics_history.specs.Isolation.{Outcomes, Extends, left_by, AreKnown, IsSound}
use Rattle.cics_history.specs.Serial.{among, committed_by, commit_order, are_distinct, IsCommitOrder, one_by_one, AreOpen, are_backed_out_but, store_without_others, AreAllOpen, NoneIsOpen, serial_store, IsSerializable, IsSerial, OrderIsSerial, EachCanBeLast, IsInOrder}
use Rattle.cics_history.proofs.Executes.{open_kept}
use Rattle.cics_history.proofs.Joining.{touches-recovers}
use Rattle.cics_history.proofs.Replays.{Each_more, replay-at}
use Rattle.cics_history.proofs.Stores.{same_file, same_queue, initial-canonical, replay-canonical}
use Rattle.cics_history.proofs.Outcomes.{outcome_of-with, outcome_of-set}
use Rattle.cics_history.proofs.Waiting.{MayRun_from}
use Rattle.cics_history.proofs.States.{acting_open, happens-IsSound, initial_units-IsSound, run-IsSound, run-opening}
use Rattle.cics_history.proofs.SameHistory.{enqueue-same, ts_reading-same, enqueue-commits, ts_reading-commits}
use Rattle.cics_history.proofs.SerialLists.{eqb-turned, or_neither}
use Rattle.cics_history.proofs.SerialTurns.{turns_permute, distinct_behind}
use Rattle.cics_history.proofs.Serial.{same_left, executes-last, executes-serial, open_last, ends-last, ends-serial, commits-serial}

-- ---- The order in which units commit

uncommitted : (oc : UnitState) → is_open oc ≡ true → is_committed oc ≡ false
uncommitted Open h = refl
uncommitted Committed h = absurd (false≢true h)
uncommitted BackedOut h = refl

-- an open unit has not committed
pub open_absent : (s : UnitsState) → IsCommitOrder s → (u : ℕ) →
    is_open (outcome_of s.outcomes u) ≡ true → among u s.commits ≡ false
open_absent s c u live = c.committed u ∙ uncommitted (outcome_of s.outcomes u) live

-- one unit more
among-push : (n u : ℕ) (order : List ℕ) → among n (order ++ u ∷ []) ≡ (among n order || (eqb u n || false))
among-push n u order = list_any-append (λ m. eqb m n) order (u ∷ [])

pub distinct-push : (order : List ℕ) (u : ℕ) → are_distinct order ≡ true → among u order ≡ false →
    are_distinct (order ++ u ∷ []) ≡ true
distinct-push [] u h n = refl
distinct-push (m ∷ order) u h n =
    let p = and_parts (not (among m order)) (are_distinct order) h in
    let q = or_neither (eqb m u) (among u order) n in
    let absent : among m (order ++ u ∷ []) ≡ false =
    among-push m u order ∙ rw (not-true (among m order) p.0, eqb-turned u m q.0) refl in
    and_from _ _ (rw absent refl) (distinct-push order u p.1 q.1)

module _ (s : UnitsState) (u : ℕ) (live : is_live s u ≡ true) where
  live_open : is_open (outcome_of s.outcomes u) ≡ true
  live_open = (and_parts (ltb u (length s.outcomes)) (is_open (outcome_of s.outcomes u)) live).1

  -- the unit that ends
  set_own : (oc : UnitState) → outcome_of (slice_set s.outcomes u oc) u ≡ oc
  set_own oc =
      unwrap_or-slice_get (slice_set s.outcomes u oc) u Open
      ∙ get_or-set_same s.outcomes u oc Open
      (ltb-true u (length s.outcomes) (and_parts (ltb u (length s.outcomes)) (is_open (outcome_of s.outcomes u)) live).0)

  -- and the others
  set_other : (oc : UnitState) (n : ℕ) → eqb n u ≡ false →
      outcome_of (slice_set s.outcomes u oc) n ≡ outcome_of s.outcomes n
  set_other oc n other = outcome_of-set s.outcomes u n oc (λ e. true≢false (sym (eq-eqb n u e) ∙ other))

  set_extends : (oc : UnitState) → Extends (outcome_of s.outcomes) (outcome_of (slice_set s.outcomes u oc))
  set_extends oc n shut = elim (cases_Bool (eqb n u)) [
    | inl y ↦
        absurd (true≢false (sym live_open ∙ (ap (λ k. is_open (outcome_of s.outcomes k)) (sym (eqb-true n u y)) ∙ shut)))
    | inr other ↦ set_other oc n other
  ]

  commit-order : IsCommitOrder s → IsCommitOrder (after_end s u Committed)
  commit-order c = record {
    committed = λ n. among-push n u s.commits ∙ elim (cases_Bool (eqb n u)) [
      | inl y ↦
          subst (λ k. (among k s.commits || (eqb u k || false)) ≡ is_committed (outcome_of (slice_set s.outcomes u Committed) k))
          (sym (eqb-true n u y))
          (or_right _ _ (or_left _ _ (eq-eqb u u refl)) ∙ sym (ap is_committed (set_own Committed)))
      | inr other ↦
          rw (eqb-turned u n other)
          (or-false (among n s.commits) ∙ (c.committed n ∙ ap is_committed (sym (set_other Committed n other))))
    ];
    once = distinct-push s.commits u c.once (open_absent s c u live_open);
  }

  backout-order : IsCommitOrder s → IsCommitOrder (after_end s u BackedOut)
  backout-order c = record {
    committed = λ n. elim (cases_Bool (eqb n u)) [
      | inl y ↦
          subst (λ k. among k s.commits ≡ is_committed (outcome_of (slice_set s.outcomes u BackedOut) k)) (sym (eqb-true n u y))
          (open_absent s c u live_open ∙ sym (ap is_committed (set_own BackedOut)))
      | inr other ↦ c.committed n ∙ ap is_committed (sym (set_other BackedOut n other))
    ];
    once = c.once;
  }

  -- a unit that commits comes behind those that committed before it
  pub commit-IsInOrder : IsInOrder s → IsInOrder (after_end s u Committed)
  commit-IsInOrder i = record {
    ordered = i.ordered;
    commits = commit-order i.commits;
    serial =
        commits-serial i.ordered s.commits u i.serial i.last (set_extends Committed) live_open (ap is_open (set_own Committed))
        (ap is_backed_out (set_own Committed)) (set_other Committed);
    last = ends-last i.last (set_extends Committed);
  }

  -- a unit that is backed out is in no order
  pub backout-IsInOrder : IsInOrder s → IsInOrder (after_end s u BackedOut)
  backout-IsInOrder i = record {
    ordered = i.ordered;
    commits = backout-order i.commits;
    serial = ends-serial s.commits i.serial (set_extends BackedOut) (λ n live. elim (cases_Bool (eqb n u)) [
      | inl y ↦ inr (ap is_backed_out (ap (λ k. outcome_of (slice_set s.outcomes u BackedOut) k) (eqb-true n u y) ∙ set_own BackedOut))
      | inr other ↦ inl (ap is_open (set_other BackedOut n other) ∙ live)
    ]);
    last = ends-last i.last (set_extends BackedOut);
  }

still_open : (u : Option ℕ) (outs : List UnitState) (n : ℕ) → is_open (outcome_of outs n) ≡ true →
    (is_open (outcome_of (outcomes_with u outs) n) ≡ true) ⊎ (is_backed_out (outcome_of (outcomes_with u outs) n) ≡ true)
still_open u outs n live = inl (ap is_open (outcome_of-with u outs n) ∙ live)

-- a command that is executed
entered-IsInOrder : (s : UnitsState) (u : Option ℕ) (op : Op) → IsSound s → IsInOrder s →
    may_act s u ≡ true → awaited s u op ≡ None → IsInOrder (entered s u op (apply (store_of s) op).answer)
entered-IsInOrder s u op sound i acts free =
    let v = unit_or_next u s.outcomes in
    let may = MayRun_from s sound.known u op free (acting_open s u acts) in
    record {
      ordered = i.ordered;
      commits = record {
        committed = λ n. i.commits.committed n ∙ ap is_committed (sym (outcome_of-with u s.outcomes n));
        once = i.commits.once;
      };
      serial =
          ends-serial s.commits
          (executes-serial sound.isolated v op may s.commits (open_absent s i.commits v (acting_open s u acts)) i.serial)
          (λ n shut. outcome_of-with u s.outcomes n) (still_open u s.outcomes);
      last = ends-last (executes-last sound.isolated v op may i.last) (λ n shut. outcome_of-with u s.outcomes n);
    }

pub execution-IsInOrder : (s : UnitsState) (u : Option ℕ) (op : Op) → IsSound s → IsInOrder s →
    may_act s u ≡ true → IsInOrder (after_execution s u op)
execution-IsInOrder s u op sound i acts =
    elim (awaited s u op) as (λ h. awaited s u op ≡ h → IsInOrder (state_of s u op h)) [
      | None ↦ λ free. entered-IsInOrder s u op sound i acts free
      | Some holder ↦ λ waits. i
    ] refl

-- ENQ, DEQ, UNLOCK and READQ TS: what an order says, it says of the opening, the history and the outcomes alone
abbrev IsOrderOf : List ℕ → OpeningState → List Entry → Outcomes → Type 0
IsOrderOf order o es out =
    IsOrdered (initial_store o) × ((u : ℕ) → among u order ≡ is_committed (out u)) × OrderIsSerial o es out order × EachCanBeLast o es out

module _ (s : UnitsState) (i : IsInOrder s) where
  -- what the order of the commits says
  said : IsOrderOf s.commits s.opening s.trace (outcome_of s.outcomes)
  said = (i.ordered, i.commits.committed, i.serial, i.last)

  -- where it is said of a state with the same commits, the units are in order there
  in_order_of : (t : UnitsState) → t.commits ≡ s.commits → IsOrderOf s.commits t.opening t.trace (outcome_of t.outcomes) → IsInOrder t
  in_order_of t same (ordered, committed, serial, last) = record {
    ordered = ordered;
    commits = record {
      committed = λ u. ap (among u) same ∙ committed u;
      once = ap are_distinct same ∙ i.commits.once;
    };
    serial = subst (OrderIsSerial t.opening t.trace (outcome_of t.outcomes)) (sym same) serial;
    last = last;
  }

  pub enqueue-IsInOrder : (u : Option ℕ) (v : Bytes) → IsInOrder (after_enqueue s u v)
  enqueue-IsInOrder u v = in_order_of (after_enqueue s u v) (enqueue-commits s u v) (enqueue-same (IsOrderOf s.commits) s said u v)

  pub dequeue-IsInOrder : (u : ℕ) (v : Bytes) → IsInOrder (after_dequeue s u v)
  dequeue-IsInOrder u v = in_order_of (after_dequeue s u v) refl said

  pub unlock-IsInOrder : (u : ℕ) (f : Bytes) → IsInOrder (after_unlock s u f)
  unlock-IsInOrder u f = in_order_of (after_unlock s u f) refl said

  pub ts_reading-IsInOrder : (q : Bytes) (n : ℕ) → IsInOrder (after_ts_reading s q n)
  ts_reading-IsInOrder q n = in_order_of (after_ts_reading s q n) (ts_reading-commits s q n) (ts_reading-same (IsOrderOf s.commits) s said q n)

-- ---- Runs

pub initial_units-IsInOrder : (o : OpeningState) → IsOpeningInOrder o → IsInOrder (initial_units o)
initial_units-IsInOrder o order = record {
  ordered = (initial-canonical o order).records;
  commits = record {
    committed = λ n. sym (ap (λ c. is_committed (unwrap_or c Open)) (slice_get_past [] n (omega arith)));
    once = refl;
  };
  serial = λ fin f gone. record { answers = tt; cells = λ x r. refl };
  last = λ u live fin more f m w. record { answers = tt; cells = λ x r. refl };
}

happens-IsInOrder : (s : UnitsState) (e : Event) → IsSound s → IsInOrder s → IsInOrder (happens s e)
happens-IsInOrder s (Execute u op) sound i =
    cond_both (may_act s u) (after_execution s u op) s IsInOrder (λ t. execution-IsInOrder s u op sound i t) (λ f. i)
happens-IsInOrder s (Commit u) sound i =
    cond_both (is_live s u) (after_end s u Committed) s IsInOrder (λ t. commit-IsInOrder s u t i) (λ f. i)
happens-IsInOrder s (BackOut u) sound i =
    cond_both (is_live s u) (after_end s u BackedOut) s IsInOrder (λ t. backout-IsInOrder s u t i) (λ f. i)
happens-IsInOrder s (Enqueue u v) sound i =
    cond_both (may_act s u) (after_enqueue s u v) s IsInOrder (λ t. enqueue-IsInOrder s i u v) (λ f. i)
happens-IsInOrder s (Dequeue u v) sound i =
    cond_both (is_live s u) (after_dequeue s u v) s IsInOrder (λ t. dequeue-IsInOrder s i u v) (λ f. i)
happens-IsInOrder s (Unlock u f) sound i =
    cond_both (is_live s u) (after_unlock s u f) s IsInOrder (λ t. unlock-IsInOrder s i u f) (λ n. i)
happens-IsInOrder s (ReadItem q n) sound i = ts_reading-IsInOrder s i q n

run-IsInOrder : (s : UnitsState) (events : List Event) → IsSound s → IsInOrder s → IsInOrder (run s events)
run-IsInOrder s [] sound i = i
run-IsInOrder s (e ∷ events) sound i =
    run-IsInOrder (happens s e) events (happens-IsSound s e sound) (happens-IsInOrder s e sound i)

-- ---- Which units an event commits

execution-commits : (s : UnitsState) (u : Option ℕ) (op : Op) (h : Option ℕ) → (state_of s u op h).commits ≡ s.commits
execution-commits s u op None = refl
execution-commits s u op (Some holder) = refl

if_commits : (b : Bool) (t s : UnitsState) → t.commits ≡ s.commits → (if b then t else s).commits ≡ s.commits ++ []
if_commits true t s e = e ∙ sym (append-nil s.commits)
if_commits false t s e = sym (append-nil s.commits)

happens-commits : (s : UnitsState) (e : Event) → (happens s e).commits ≡ s.commits ++ committed_by s e
happens-commits s (Execute u op) = if_commits (may_act s u) (after_execution s u op) s (execution-commits s u op (awaited s u op))
happens-commits s (Commit u) =
    elim (is_live s u) as (λ b. (if b then after_end s u Committed else s).commits ≡ s.commits ++ (if b then u ∷ [] else [])) [
      | true ↦ refl
      | false ↦ sym (append-nil s.commits)
    ]
happens-commits s (BackOut u) = if_commits (is_live s u) (after_end s u BackedOut) s refl
happens-commits s (Enqueue u v) = if_commits (may_act s u) (after_enqueue s u v) s (enqueue-commits s u v)
happens-commits s (Dequeue u v) = if_commits (is_live s u) (after_dequeue s u v) s refl
happens-commits s (Unlock u f) = if_commits (is_live s u) (after_unlock s u f) s refl
happens-commits s (ReadItem q n) = ts_reading-commits s q n ∙ sym (append-nil s.commits)

run-commits : (s : UnitsState) (events : List Event) → (run s events).commits ≡ s.commits ++ commit_order s events
run-commits s [] = sym (append-nil s.commits)
run-commits s (e ∷ events) =
    run-commits (happens s e) events ∙ ap (λ l. l ++ commit_order (happens s e) events) (happens-commits s e)
    ∙ append_assoc s.commits (committed_by s e) (commit_order (happens s e) events)

-- the list that is kept is that of the events
pub order_after : (o : OpeningState) (events : List Event) → (run (initial_units o) events).commits ≡ commit_order (initial_units o) events
order_after o events = run-commits (initial_units o) events

-- ---- What it says

module _ (s : UnitsState) (i : IsInOrder s) where
  -- those that committed, in their order, and open ones behind them, in any order
  serial_of : (later : List ℕ) → AreOpen s later →
      IsSerial s.opening s.trace (are_backed_out_but later (outcome_of s.outcomes)) (s.commits ++ later)
  serial_of later a =
      let out : Outcomes = outcome_of s.outcomes in
      let none : Outcomes = are_backed_out_but [] out in
      let some : Outcomes = are_backed_out_but later out in
      let live : (n : ℕ) → among n later ≡ true → is_open (out n) ≡ true =
      λ n y. (and_parts (ltb n (length s.outcomes)) (is_open (out n)) (a.live n y)).1 in
      let none_ends : Extends out none = λ n shut. rw shut refl in
      let some_ends : Extends out some = λ n shut. rw shut refl in
      open_last i.ordered i.last later s.commits none some none_ends some_ends live a.once
      (λ n y. rw (live n y) refl)
      (λ n y. rw (live n y, y) (open_kept (out n) (live n y)))
      (λ n y. rw y refl)
      (i.serial none none_ends (λ n y. rw y refl))

  serial_answers : (later : List ℕ) → AreOpen s later →
      Agrees (initial_store s.opening) (one_by_one s.opening s.trace (s.commits ++ later))
  serial_answers later a = (serial_of later a).answers

  -- as whole files and queues
  module _ (c : IsCanonical (initial_store s.opening)) where
    whole : (t r : Store) → IsCanonical t → IsCanonical r →
        ((x : Cell) → recovers s.opening x ≡ true → content t x ≡ content r x) → IsSameRecoverable s.opening t r
    whole t r k l at = record {
      files =
          λ f y. same_file (value_at f t.files) (value_at f r.files) (k.records f) (l.records f) (λ key. at (Key f key) y);
      ts = λ q y. same_queue (value_at q t.ts) (value_at q r.ts) (k.there q) (l.there q) (at (Ts q) y);
      td = λ q y. at (Td q) y;
    }

    serial_stores : (later : List ℕ) → AreOpen s later →
        IsSameRecoverable s.opening (store_without_others s later) (serial_store s (s.commits ++ later))
    serial_stores later a =
        let others : Outcomes = are_backed_out_but later (outcome_of s.outcomes) in
        whole (store_without_others s later) (serial_store s (s.commits ++ later))
        (replay-canonical (initial_store s.opening) (left_by s.opening others s.trace) c)
        (replay-canonical (initial_store s.opening) (one_by_one s.opening s.trace (s.commits ++ later)) c)
        (λ x r. sym ((serial_of later a).cells x r))

    -- where all open units come last, it is the store as it stands
    all_there : (later : List ℕ) → AreAllOpen s later → (e : Entry) → e.unit < length s.outcomes →
        is_backed_out (are_backed_out_but later (outcome_of s.outcomes) e.unit) ≡ is_backed_out (outcome_of s.outcomes e.unit)
    all_there later all e begun = elim (cases_Bool (is_open (outcome_of s.outcomes e.unit))) [
      | inr shut ↦ rw shut refl
      | inl still ↦
          let there : among e.unit later ≡ true =
          all e.unit (and_from (ltb e.unit (length s.outcomes)) (is_open (outcome_of s.outcomes e.unit)) (lt-ltb e.unit (length s.outcomes) begun) still) in
          rw (still, there) refl
    ]

    serial_whole : AreKnown s → (later : List ℕ) → AreOpen s later → AreAllOpen s later →
        IsSameRecoverable s.opening (store_of s) (serial_store s (s.commits ++ later))
    serial_whole known later a all =
        subst (λ t. IsSameRecoverable s.opening t (serial_store s (s.commits ++ later)))
        (ap (λ l. replay (initial_store s.opening) l)
        (same_left s.opening s.trace (are_backed_out_but later (outcome_of s.outcomes)) (outcome_of s.outcomes)
        (Each_more _ _ (all_there later all) s.trace known)))
        (serial_stores later a)

    -- and where no unit is open, the units that committed are enough
    serial_closed : AreKnown s → NoneIsOpen s → IsSameRecoverable s.opening (store_of s) (serial_store s s.commits)
    serial_closed known closed =
        subst (λ l. IsSameRecoverable s.opening (store_of s) (serial_store s l)) (append-nil s.commits)
        (serial_whole known [] (record { live = λ n y. absurd (false≢true y); once = refl })
        (λ n y. absurd (true≢false (sym y ∙ closed n))))

    -- and what stands is what those that committed did alone
    committed_alike : NoneIsOpen s → (e : Entry) → e.unit < length s.outcomes → is_recoverable s.opening e.op ≡ true →
        is_kept s.opening s.outcomes e ≡ is_committed (outcome_of s.outcomes e.unit)
    committed_alike closed e begun r = rw r (ended (outcome_of s.outcomes e.unit)
        (sym (ap (λ b. b && is_open (outcome_of s.outcomes e.unit)) (lt-ltb e.unit (length s.outcomes) begun)) ∙ closed e.unit))
      where
        ended : (oc : UnitState) → is_open oc ≡ false → not (is_backed_out oc) ≡ is_committed oc
        ended Open still = absurd (true≢false still)
        ended Committed over = refl
        ended BackedOut over = refl

    stands_committed : AreKnown s → NoneIsOpen s →
        IsSameRecoverable s.opening (store_of s) (replay (initial_store s.opening) (committed_entries s.trace s.outcomes))
    stands_committed known closed =
        whole (store_of s) (replay (initial_store s.opening) (committed_entries s.trace s.outcomes))
        (replay-canonical (initial_store s.opening) (kept s.opening s.trace s.outcomes) c)
        (replay-canonical (initial_store s.opening) (committed_entries s.trace s.outcomes) c)
        (λ x r. replay-at x (is_kept s.opening s.outcomes) (λ e. is_committed (outcome_of s.outcomes e.unit)) s.trace
        (Each_more _ _ (λ e begun y. committed_alike closed e begun (touches-recovers s.opening e.op x y ∙ r)) s.trace known)
        (initial_store s.opening) (initial_store s.opening) refl)

-- units that are kept apart and in the order of their commits are serializable, where files and queues hold the replay
pub serializable_of : (v : UnitsValue) → IsInOrder v.state → AreKnown v.state → IsCanonical (initial_store v.state.opening) →
    v.store ≡ store_of v.state → IsSerializable v
serializable_of v i known c stands =
    let s = v.state in
    record {
      order = i.commits;
      commands = λ later a. turns_permute s.opening s.trace (s.commits ++ later)
          (distinct_behind s.commits later i.commits.once a.once (λ n y. open_absent s i.commits n (live_open s n (a.live n y))));
      answers = serial_answers s i;
      stores = serial_stores s i c;
      whole = λ later a all. subst (λ t. IsSameRecoverable s.opening t (serial_store s (s.commits ++ later))) (sym stands)
          (serial_whole s i c known later a all);
      closed = λ none. subst (λ t. IsSameRecoverable s.opening t (serial_store s s.commits)) (sym stands)
          (serial_closed s i c known none);
      committed = λ none. subst (λ t. IsSameRecoverable s.opening t (replay (initial_store s.opening) (committed_entries s.trace s.outcomes)))
          (sym stands) (stands_committed s i c known none);
    }

-- so it is after every run
pub serializable_after : (o : OpeningState) (events : List Event) → IsOpeningInOrder o →
    let s = run (initial_units o) events in IsSerializable (record { state = s; store = store_of s })
serializable_after o events c =
    let s = run (initial_units o) events in
    serializable_of (record { state = s; store = store_of s })
    (run-IsInOrder (initial_units o) events (initial_units-IsSound o c) (initial_units-IsInOrder o c))
    (run-IsSound (initial_units o) events (initial_units-IsSound o c)).known
    (subst (λ p. IsCanonical (initial_store p)) (sym (run-opening (initial_units o) events)) (initial-canonical o c)) refl
