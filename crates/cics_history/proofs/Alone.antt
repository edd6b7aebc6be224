-- A unit whose entries are the last ones leaves no trace in what is recoverable.
use Rattle.std.proofs.Common.{arith, suc, ◌≡◌, ℕ, Bool, true, false, cond, List, [], ◌∷◌, ◌++◌, length, refl, ap, sym, subst, ◌∙◌, inl, inr, ltb}
use Rattle.std.specs.Prelude.{filter, All, slice_set}
use Rattle.std.proofs.lemmas.Bool.{cases_Bool, and_parts, ltb-true}
use Rattle.std.proofs.lemmas.Option.{unwrap_or-slice_get}
use Rattle.std.proofs.lemmas.List.{get_or-set_same}
use Rattle.cics_names.specs.Keyed.{value_at}
use Rattle.cics_history.specs.State.{OpeningState, Store, initial_store, UnitsValue}
use Rattle.cics_history.specs.Openings.{IsOpeningInOrder}
use Rattle.cics_history.specs.Store.{apply, is_recoverable}
use Rattle.cics_history.specs.Headline.{outcome_of, is_open, is_backed_out, kept, replay, IsSameRecoverable, LeftNoTrace, LeavesNoTrace}
use Rattle.cics_history.specs.Holding.{store_of}
use Rattle.cics_history.specs.Execution.{after_end}
use Rattle.cics_history.specs.Events.{is_live}
use Rattle.cics_history.specs.declared.ops.Entry.{Entry}
use Rattle.cics_history.specs.declared.ops.UnitState.{UnitState}
use Rattle.cics_history.specs.declared.ops.UnitState.TheVariants.{Open, BackedOut}
use Rattle.cics_history.specs.Cells.{Cell, Key, Ts, Td, Content, content, touches, recovers, IsCanonical}
use Rattle.cics_history.specs.Isolation.{Outcomes, stays, Each}
use Rattle.cics_history.proofs.Joining.{touches-recovers}
use Rattle.cics_history.proofs.Replays.{apply-other, filter_step, content-cond}
use Rattle.cics_history.proofs.Stores.{same_file, same_queue, initial-canonical, replay-canonical}

module _ (o : OpeningState) (out : Outcomes) (u : ℕ) (gone : is_backed_out (out u) ≡ true) (x : Cell)
    (r : recovers o x ≡ true) where
  step : (s : Store) (e : Entry) → e.unit ≡ u →
      content (cond (stays o out e) (apply s e.op).store s) x ≡ content s x
  step s e is = elim (cases_Bool (touches e.op x)) [
    | inl y ↦
        let rec : is_recoverable o e.op ≡ true = touches-recovers o e.op x y ∙ r in
        let back : is_backed_out (out e.unit) ≡ true = ap (λ n. is_backed_out (out n)) is ∙ gone in
        rw (rec, back) refl
    | inr n ↦
        content-cond (stays o out e) (apply s e.op).store s x
        ∙
        (ap (λ c. cond (stays o out e) c (content s x)) (apply-other s e.op x n)
        ∙ same (stays o out e) (content s x))
  ]
    where
      same : (b : Bool) (c : Content) → cond b c c ≡ c
      same true c = refl
      same false c = refl

  own_only : (s : Store) (own : List Entry) → Each (λ e. e.unit ≡ u) own →
      content (replay s (filter (stays o out) own)) x ≡ content s x
  own_only s [] h = refl
  own_only s (e ∷ own) h =
      ap (λ t. content t x) (filter_step (stays o out) s e own)
      ∙ (own_only (cond (stays o out e) (apply s e.op).store s) own h.1 ∙ step s e h.0)

  pub ran_alone : (s : Store) (before own : List Entry) → Each (λ e. e.unit ≡ u) own →
      content (replay s (filter (stays o out) (before ++ own))) x
      ≡ content (replay s (filter (stays o out) before)) x
  ran_alone s [] own h = own_only s own h
  ran_alone s (e ∷ before) own h =
      ap (λ t. content t x) (filter_step (stays o out) s e (before ++ own))
      ∙
      (ran_alone (cond (stays o out e) (apply s e.op).store s) before own h
      ∙ sym (ap (λ t. content t x) (filter_step (stays o out) s e before)))

each_of_all : (u : ℕ) (es : List Entry) → All (λ e. e.unit ≡ u) es → Each (λ e. e.unit ≡ u) es
each_of_all u [] h = tt
each_of_all u (e ∷ es) h = (h 0 e (omega arith), each_of_all u es (λ k d l. h (suc k) d (omega arith)))

pub no_trace : (o : OpeningState) (outcomes : List UnitState) (u : ℕ) (before own : List Entry) →
    IsCanonical (initial_store o) → is_backed_out (outcome_of outcomes u) ≡ true →
    All (λ e. e.unit ≡ u) own →
    IsSameRecoverable o (replay (initial_store o) (kept o (before ++ own) outcomes))
    (replay (initial_store o) (kept o before outcomes))
no_trace o outcomes u before own c gone h =
    let out : Outcomes = outcome_of outcomes in
    let s : Store = replay (initial_store o) (kept o (before ++ own) outcomes) in
    let t : Store = replay (initial_store o) (kept o before outcomes) in
    let i : IsCanonical s = replay-canonical (initial_store o) (kept o (before ++ own) outcomes) c in
    let j : IsCanonical t = replay-canonical (initial_store o) (kept o before outcomes) c in
    let at : (x : Cell) → recovers o x ≡ true →
    content s x ≡ content t x =
    λ x r. ran_alone o out u gone x r (initial_store o) before own (each_of_all u own h) in
    record {
      files =
          λ f r. same_file (value_at f s.files) (value_at f t.files) (i.records f) (j.records f)
          (λ k. at (Key f k) r);
      ts = λ q r. same_queue (value_at q s.ts) (value_at q t.ts) (i.there q) (j.there q) (at (Ts q) r);
      td = λ q r. at (Td q) r;
    }

-- so a unit that was backed out left no trace, where the store is the replay
pub left_no_trace : (v : UnitsValue) → IsOpeningInOrder v.state.opening → v.store ≡ store_of v.state →
    (u : ℕ) → is_backed_out (outcome_of v.state.outcomes u) ≡ true → LeftNoTrace v u
left_no_trace v order same u gone before own split each =
    let o : OpeningState = v.state.opening in
    let outcomes : List UnitState = v.state.outcomes in
    let given : Store = replay (initial_store o) (kept o before outcomes) in
    subst (λ t. IsSameRecoverable o t given) (sym same)
    (subst (λ h. IsSameRecoverable o (replay (initial_store o) (kept o h outcomes)) given) (sym split)
    (no_trace o outcomes u before own (initial-canonical o order) gone each))

-- and the call that backs out a unit leaves no trace of it
module _ (old : UnitsValue) (u : ℕ) where
  abbrev opened : OpeningState
  opened = old.state.opening

  abbrev outcomes_then : List UnitState
  outcomes_then = slice_set old.state.outcomes u BackedOut

  gone : is_live old.state u ≡ true → is_backed_out (outcome_of outcomes_then u) ≡ true
  gone live =
      let both = and_parts (ltb u (length old.state.outcomes)) (is_open (outcome_of old.state.outcomes u)) live in
      ap is_backed_out
      (unwrap_or-slice_get outcomes_then u Open
      ∙ get_or-set_same old.state.outcomes u BackedOut Open (ltb-true u (length old.state.outcomes) both.0))

  pub leaves_no_trace : (store : Store) → IsOpeningInOrder opened → is_live old.state u ≡ true →
      store ≡ store_of (after_end old.state u BackedOut) →
      LeavesNoTrace old (record { state = after_end old.state u BackedOut; store = store }) u
  leaves_no_trace store order live same =
      left_no_trace (record { state = after_end old.state u BackedOut; store = store }) order same u (gone live)
