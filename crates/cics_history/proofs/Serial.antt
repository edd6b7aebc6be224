-- One command more, and one end, keep the units in serial order.
use Rattle.std.proofs.Common.{◌≡◌, ℕ, Bool, true, false, cond, not, ◌&&◌, ◌||◌, List, [], ◌∷◌, ◌++◌, refl, ap, sym, subst, ◌∙◌, eqb, ◌⊎◌, inl, inr}
use Rattle.std.specs.Prelude.{if◌then◌else◌}
use Rattle.std.proofs.lemmas.Bool.{true≢false, false≢true, cases_Bool, and_from, and_parts, not-true, eqb-true, eq-eqb, or_left, or_right}
use Rattle.std.proofs.lemmas.List.Elements.{filter-append}
use Rattle.std.proofs.lemmas.List.{append-nil}
use Rattle.std.proofs.lemmas.List.Concat.{flat_map-append}
use Rattle.cics_history.specs.State.{OpeningState, Store, initial_store}
use Rattle.cics_history.specs.Store.{apply, is_recoverable, is_normal}
use Rattle.cics_history.specs.Headline.{is_open, is_backed_out, replay, Agrees}
use Rattle.cics_history.specs.declared.ops.Op.{Op}
use Rattle.cics_history.specs.declared.ops.Entry.{Entry}
use Rattle.cics_history.specs.declared.ops.UnitState.{UnitState}
use Rattle.cics_history.specs.declared.ops.UnitState.TheVariants.{BackedOut}
use Rattle.cics_history.specs.Cells.{Cell, content, touches, effect, End, Reading, Writing, uses, IsOrdered}
use Rattle.cics_history.specs.Isolation.{Outcomes, stays, left_by, store_by, Each, claims, used, Extends, IsIsolated, IsFree}
use Rattle.cics_history.specs.Serial.{among, are_distinct, is_done_by, done_by, one_by_one, IsSerial, IsLast, IsWithout, EachCanBeLast, OrderIsSerial}
use Rattle.cics_history.proofs.Replays.{replay-push, Each_from}
use Rattle.cics_history.proofs.Executes.{MayRun, same_answer}
use Rattle.cics_history.proofs.Isolated.{store_ordered}
use Rattle.cics_history.proofs.Stores.{replay-ordered}
use Rattle.cics_history.proofs.Steps.{entry, unchanged, content-push, content-push_other}
use Rattle.cics_history.proofs.SerialLists.{eqb-turned, or_neither, append_one}
use Rattle.cics_history.proofs.Commuting.{AreAlike, alike_both, alike_turned, apply-alike, answer-alike, unrecoverable-alike, AreRecoverable, replay-alike, Agrees-alike, PassedBy, Passes, passes, replay-behind, Agrees-behind}

-- ---- What a unit did

-- each entry of a filtered list has what the test and the whole list give
done_each : (o : OpeningState) (u : ℕ) (P : Entry → Type 0) → ((e : Entry) → is_done_by o u e ≡ true → P e) →
    (es : List Entry) → Each P (done_by o es u)
done_each o u P h [] = tt
done_each o u P h (e ∷ es) =
    elim (is_done_by o u e) as (λ b. is_done_by o u e ≡ b → Each P (cond b (e ∷ done_by o es u) (done_by o es u))) [
      | true ↦ λ y. (h e y, done_each o u P h es)
      | false ↦ λ n. done_each o u P h es
    ] refl

-- what a unit did is recoverable
pub done_recoverable : (o : OpeningState) (es : List Entry) (u : ℕ) → AreRecoverable o (done_by o es u)
done_recoverable o es u =
    done_each o u (λ e. is_recoverable o e.op ≡ true) (λ e y. (and_parts _ _ (and_parts _ _ y).1).1) es

-- one entry more that the unit did not do, and one that it did
pub done_more : (o : OpeningState) (es : List Entry) (e : Entry) (u : ℕ) → is_done_by o u e ≡ false →
    done_by o (es ++ e ∷ []) u ≡ done_by o es u
done_more o [] e u n = rw n refl
done_more o (d ∷ es) e u n =
    ap (λ l. cond (is_done_by o u d) (d ∷ l) l) (done_more o es e u n)

pub done_one : (o : OpeningState) (es : List Entry) (e : Entry) (u : ℕ) → is_done_by o u e ≡ true →
    done_by o (es ++ e ∷ []) u ≡ done_by o es u ++ e ∷ []
done_one o es e u y = filter-append (is_done_by o u) es (e ∷ []) ∙ rw y refl

-- a unit that uses no end of a cell that a command uses did nothing there that uses it
apart_from : (o : OpeningState) (u : ℕ) (op : Op) (es : List Entry) →
    ((x : Cell) (end : End) → touches op x ≡ true → uses op end ≡ true → used es u x end ≡ false) →
    Each (PassedBy o op) (done_by o es u)
apart_from o u op [] h = tt
apart_from o u op (e ∷ es) h =
    let rest : Each (PassedBy o op) (done_by o es u) =
    apart_from o u op es
    (λ x end y k. (or_neither (claims x end e && eqb e.unit u) (used es u x end) (h x end y k)).1) in
    elim (is_done_by o u e) as
    (λ b. is_done_by o u e ≡ b → Each (PassedBy o op) (cond b (e ∷ done_by o es u) (done_by o es u))) [
      | true ↦ λ y. (own y, rest)
      | false ↦ λ n. rest
    ] refl
  where
    own : is_done_by o u e ≡ true → PassedBy o op e
    own y =
        let p = and_parts _ _ y in
        let q = and_parts _ _ p.1 in (
          q.1,
          q.0,
          λ x t z end k. elim (cases_Bool (uses e.op end)) [
            | inr n ↦ n
            | inl used_too ↦
                absurd
                (true≢false
                (sym (and_from _ _ (and_from _ _ t (and_from _ _ q.0 used_too)) p.0)
                ∙ (or_neither (claims x end e && eqb e.unit u) (used es u x end) (h x end z k)).0))
          ],
        )

-- ---- One command more

module _ {o : OpeningState} {es : List Entry} {out : Outcomes} (i : IsIsolated o es out) (v : ℕ) (op : Op)
    (may : MayRun o es out v op) where
  abbrev e : Entry
  e = entry i v op may

  -- the store of an ending with the command, and without it
  pushed : (fin : Outcomes) →
      store_by o fin (es ++ e ∷ []) ≡ cond (stays o fin e) (apply (store_by o fin es) op).store (store_by o fin es)
  pushed fin = replay-push (stays o fin) e (initial_store o) es

  pushed_kept : (fin : Outcomes) → is_backed_out (fin v) ≡ false →
      store_by o fin (es ++ e ∷ []) ≡ (apply (store_by o fin es) op).store
  pushed_kept fin k = pushed fin ∙ kept (is_recoverable o op) k
    where
      kept : (r : Bool) → is_backed_out (fin v) ≡ false →
          cond (not (r && is_backed_out (fin v))) (apply (store_by o fin es) op).store (store_by o fin es)
          ≡ (apply (store_by o fin es) op).store
      kept true k = rw k refl
      kept false k = refl

  pushed_gone : (fin : Outcomes) → is_recoverable o op ≡ true → is_backed_out (fin v) ≡ true →
      store_by o fin (es ++ e ∷ []) ≡ store_by o fin es
  pushed_gone fin r g = pushed fin ∙ rw (r, g) refl

  -- a command on something unrecoverable changes nothing that is recoverable
  pushed_aside : (fin : Outcomes) → is_recoverable o op ≡ false →
      AreAlike o (store_by o fin (es ++ e ∷ [])) (store_by o fin es)
  pushed_aside fin n =
      subst (λ s. AreAlike o s (store_by o fin es)) (sym (pushed fin ∙ rw n refl))
      (unrecoverable-alike o (store_by o fin es) op n)

  -- nor does one that is refused
  pushed_refused : (fin : Outcomes) → Extends out fin → is_recoverable o op ≡ true →
      is_normal e.answer.condition ≡ false → AreAlike o (store_by o fin (es ++ e ∷ [])) (store_by o fin es)
  pushed_refused fin f r n x c = elim (cases_Bool (touches op x)) [
    | inl y ↦
        content-push o fin es e x y
        ∙ (ap (λ b. cond b (effect op (content (store_by o fin es) x)).cell (content (store_by o fin es) x)) (stays_on fin r) ∙ unchanged i v op may r n x y fin f)
    | inr other ↦ content-push_other o fin es e x other
  ]
    where
      stays_on : (fin : Outcomes) → is_recoverable o op ≡ true → stays o fin e ≡ not (is_backed_out (fin v))
      stays_on fin r = rw r refl

  -- nothing recoverable changes where the command's unit is backed out
  pub pushed_alike_gone : (fin : Outcomes) → is_backed_out (fin v) ≡ true →
      AreAlike o (store_by o fin (es ++ e ∷ [])) (store_by o fin es)
  pushed_alike_gone fin g = elim (cases_Bool (is_recoverable o op)) [
    | inl r ↦ subst (λ s. AreAlike o s (store_by o fin es)) (sym (pushed_gone fin r g)) (λ x c. refl)
    | inr n ↦ pushed_aside fin n
  ]

  -- another open unit has used no end that the command uses
  free_of : (u : ℕ) → is_open (out u) ≡ true → eqb v u ≡ false → is_recoverable o op ≡ true → (x : Cell) (end : End) →
      touches op x ≡ true → uses op end ≡ true → used es u x end ≡ false
  free_of u live other r x end y k = elim (cases_Bool (used es u x end)) [
    | inr n ↦ n
    | inl t ↦ elim (free end k u t) [
      | inl same ↦ absurd (true≢false (sym (eq-eqb v u (sym same)) ∙ other))
      | inr shut ↦ absurd (true≢false (sym live ∙ shut))
    ]
  ]
    where
      free : (end : End) → uses op end ≡ true → IsFree es out v x end
      free Reading k = may.reading r k x y
      free Writing k = may.writing r k x y

  -- what a unit did goes from two stores to two that hold the same as they
  carried : (u : ℕ) (s t s' t' : Store) → IsOrdered s → IsOrdered s' → AreAlike o s' s → AreAlike o t' t → Agrees s (done_by o es u) →
      AreAlike o (replay s (done_by o es u)) t →
      Agrees s' (done_by o es u) × AreAlike o (replay s' (done_by o es u)) t'
  carried u s t s' t' c d a b h k = (
    Agrees-alike o s s' (done_by o es u) c d (done_recoverable o es u) (alike_turned o s' s a) h,
    alike_both o (replay s' (done_by o es u)) (replay s (done_by o es u)) t' (replay-alike o s' s (done_by o es u) a)
        (alike_both o (replay s (done_by o es u)) t t' k (alike_turned o t' t b)),
  )

  module _ (k : EachCanBeLast o es out) (u : ℕ) (live : is_open (out u) ≡ true) (fin more : Outcomes)
      (f : Extends out fin) (m : Extends out more) (w : IsWithout u fin more) where
    abbrev old : IsLast o es u fin more
    old = k u live fin more f m w

    abbrev own : List Entry
    own = done_by o es u

    abbrev Last : List Entry → Type 0
    Last done =
        Agrees (store_by o fin (es ++ e ∷ [])) done
        × AreAlike o (replay (store_by o fin (es ++ e ∷ [])) done) (store_by o more (es ++ e ∷ []))

    -- the command changes no recoverable cell in either ending
    aside : AreAlike o (store_by o fin (es ++ e ∷ [])) (store_by o fin es) →
        AreAlike o (store_by o more (es ++ e ∷ [])) (store_by o more es) → Last own
    aside a b = carried u (store_by o fin es) (store_by o more es) _ _ (store_ordered i fin es) (store_ordered i fin (es ++ e ∷ [])) a b old.answers old.cells

    -- the unit's own command comes behind what it did
    own_command : is_recoverable o op ≡ true → v ≡ u → Last (own ++ e ∷ [])
    own_command r same =
        let gone : is_backed_out (fin v) ≡ true = ap (λ n. is_backed_out (fin n)) same ∙ w.gone in
        let there : is_backed_out (more v) ≡ false = ap (λ n. is_backed_out (more n)) same ∙ w.there in
        rw (pushed_gone fin r gone, pushed_kept more there, replay-behind (store_by o fin es) own (e ∷ [])) (
          Agrees-behind (store_by o fin es) own (e ∷ []) old.answers (
            same_answer i v op may r more m there
                ∙ sym (answer-alike o (replay (store_by o fin es) own) (store_by o more es) op (replay-ordered (store_by o fin es) own (store_ordered i fin es))
                (store_ordered i more es) r old.cells),
            tt,
          ),
          apply-alike o (replay (store_by o fin es) own) (store_by o more es) op old.cells,
        )

    -- another unit's command goes behind what the unit did
    other_command : is_recoverable o op ≡ true → is_normal e.answer.condition ≡ true → eqb v u ≡ false → Last own
    other_command r n other = elim (cases_Bool (is_backed_out (fin v))) [
      | inl g ↦
          aside (pushed_alike_gone fin g) (pushed_alike_gone more (sym (w.others v other) ∙ g))
      | inr stay ↦
          let p : Passes o (store_by o fin es) op own =
          passes o (store_by o fin es) (store_ordered i fin es) op own
          (apart_from o u op es (λ x end y t. free_of u live other r x end y t))
          (ap (λ a. is_normal a.condition) (sym (same_answer i v op may r fin f stay)) ∙ n) old.answers in
          rw (pushed_kept fin stay, pushed_kept more (sym (w.others v other) ∙ stay)) (
            p.agrees,
            alike_both o (replay (apply (store_by o fin es) op).store own) (apply (replay (store_by o fin es) own) op).store
                (apply (store_by o more es) op).store p.stores
                (apply-alike o (replay (store_by o fin es) own) (store_by o more es) op old.cells),
          )
    ]

    as_last : Last (done_by o (es ++ e ∷ []) u) → IsLast o (es ++ e ∷ []) u fin more
    as_last h = record { answers = h.0; cells = h.1 }

    not_done : is_done_by o u e ≡ false → Last own → IsLast o (es ++ e ∷ []) u fin more
    not_done n h = as_last (subst (λ d. Last d) (sym (done_more o es e u n)) h)

    done : is_done_by o u e ≡ true → Last (own ++ e ∷ []) → IsLast o (es ++ e ∷ []) u fin more
    done y h = as_last (subst (λ d. Last d) (sym (done_one o es e u y)) h)

    after_command : IsLast o (es ++ e ∷ []) u fin more
    after_command = elim (cases_Bool (is_recoverable o op)) [
      | inr n ↦ not_done (and_last (eqb v u) (is_normal e.answer.condition) n) (aside (pushed_aside fin n) (pushed_aside more n))
      | inl r ↦ elim (cases_Bool (is_normal e.answer.condition)) [
        | inr n ↦
            not_done (and_middle (eqb v u) (is_recoverable o op) n)
            (aside (pushed_refused fin f r n) (pushed_refused more m r n))
        | inl n ↦ elim (cases_Bool (eqb v u)) [
          | inl same ↦ done (and_from _ _ same (and_from _ _ n r)) (own_command r (eqb-true v u same))
          | inr other ↦ not_done (and_first (is_normal e.answer.condition && is_recoverable o op) other) (other_command r n other)
        ]
      ]
    ]
      where
        and_last : (a b : Bool) {c : Bool} → c ≡ false → (a && (b && c)) ≡ false
        and_last true true h = h
        and_last true false h = refl
        and_last false b h = refl

        and_middle : (a c : Bool) {b : Bool} → b ≡ false → (a && (b && c)) ≡ false
        and_middle true c h = rw h refl
        and_middle false c h = refl

        and_first : (b : Bool) {a : Bool} → a ≡ false → (a && b) ≡ false
        and_first b h = rw h refl

  -- so it stays true of each open unit that what it did can be done last
  pub executes-last : EachCanBeLast o es out → EachCanBeLast o (es ++ e ∷ []) out
  executes-last k u live fin more f m w = after_command k u live fin more f m w

  -- and what the units that committed did stays as it was
  one_by_one-more : (order : List ℕ) → among v order ≡ false →
      one_by_one o (es ++ e ∷ []) order ≡ one_by_one o es order
  one_by_one-more [] n = refl
  one_by_one-more (u ∷ order) n =
      let p = or_neither (eqb u v) (among v order) n in
      ap (λ l. l ++ one_by_one o (es ++ e ∷ []) order) (done_more o es e u (rw (eqb-turned v u p.0) refl))
      ∙ ap (λ l. done_by o es u ++ l) (one_by_one-more order p.1)

  pub executes-serial : (order : List ℕ) → among v order ≡ false → OrderIsSerial o es out order →
      OrderIsSerial o (es ++ e ∷ []) out order
  executes-serial order n h fin f gone =
      let same = sym (one_by_one-more order n) in
      let old : IsSerial o es fin order = h fin f gone in
      record {
        answers = subst (λ l. Agrees (initial_store o) l) same old.answers;
        cells =
            subst (λ l. AreAlike o (replay (initial_store o) l) (store_by o fin (es ++ e ∷ []))) same
            (alike_both o (replay (initial_store o) (one_by_one o es order)) (store_by o fin es) (store_by o fin (es ++ e ∷ []))
            old.cells (alike_turned o (store_by o fin (es ++ e ∷ [])) (store_by o fin es) (pushed_alike_gone fin (gone v may.is_live))));
      }

-- ---- Endings

-- two endings that back out the same units of the history leave the same
pub same_left : (o : OpeningState) (es : List Entry) (fin more : Outcomes) →
    Each (λ e. is_backed_out (fin e.unit) ≡ is_backed_out (more e.unit)) es → left_by o fin es ≡ left_by o more es
same_left o [] fin more h = refl
same_left o (e ∷ es) fin more h =
    ap (λ b. cond (not (is_recoverable o e.op && b)) (e ∷ left_by o fin es) (left_by o fin es)) h.0
    ∙ ap (λ l. cond (stays o more e) (e ∷ l) l) (same_left o es fin more h.1)

-- one unit more, done last
pub one_more : (o : OpeningState) → IsOrdered (initial_store o) → (es : List Entry) (u : ℕ) (fin more : Outcomes) (units : List ℕ) →
    IsSerial o es fin units → IsLast o es u fin more → IsSerial o es more (units ++ u ∷ [])
one_more o c es u fin more units h k =
    let before = one_by_one o es units in
    let own = done_by o es u in
    let split : one_by_one o es (units ++ u ∷ []) ≡ before ++ own =
    flat_map-append (done_by o es) units (u ∷ []) ∙ ap (λ l. before ++ l) (append-nil own) in
    let near : AreAlike o (store_by o fin es) (replay (initial_store o) before) =
    alike_turned o (replay (initial_store o) before) (store_by o fin es) h.cells in
    let behind : replay (initial_store o) (before ++ own) ≡ replay (replay (initial_store o) before) own =
    replay-behind (initial_store o) before own in
    record {
      answers =
          subst (λ l. Agrees (initial_store o) l) (sym split)
          (Agrees-behind (initial_store o) before own h.answers
          (Agrees-alike o (store_by o fin es) (replay (initial_store o) before) own (replay-ordered (initial_store o) (left_by o fin es) c)
          (replay-ordered (initial_store o) before c) (done_recoverable o es u) near k.answers));
      cells =
          subst (λ l. AreAlike o (replay (initial_store o) l) (store_by o more es)) (sym split)
          (subst (λ s. AreAlike o s (store_by o more es)) (sym behind)
          (alike_both o (replay (replay (initial_store o) before) own) (replay (store_by o fin es) own) (store_by o more es)
          (replay-alike o (replay (initial_store o) before) (store_by o fin es) own h.cells) k.cells));
    }

-- the ending in which this unit stands as it did
abbrev pub put : ℕ → UnitState → Outcomes → Outcomes
put u oc fin = λ n. if eqb n u then oc else fin n

put-own : (u : ℕ) (oc : UnitState) (fin : Outcomes) → put u oc fin u ≡ oc
put-own u oc fin = rw (eq-eqb u u refl) refl

put-other : (u : ℕ) (oc : UnitState) (fin : Outcomes) (n : ℕ) → eqb n u ≡ false → put u oc fin n ≡ fin n
put-other u oc fin n other = rw other refl

-- an ending of an open unit is an ending whatever becomes of it
put-Extends : (out fin : Outcomes) (u : ℕ) (oc : UnitState) → is_open (out u) ≡ true → Extends out fin →
    Extends out (put u oc fin)
put-Extends out fin u oc live f n shut = elim (cases_Bool (eqb n u)) [
  | inl y ↦ absurd (true≢false (sym live ∙ (ap (λ k. is_open (out k)) (sym (eqb-true n u y)) ∙ shut)))
  | inr other ↦ put-other u oc fin n other ∙ f n shut
]

-- the open units come last, in any order
module _ {o : OpeningState} {es : List Entry} {out : Outcomes} (c : IsOrdered (initial_store o)) (k : EachCanBeLast o es out) where
  pub open_last : (later before : List ℕ) (fin more : Outcomes) → Extends out fin → Extends out more →
      ((n : ℕ) → among n later ≡ true → is_open (out n) ≡ true) → are_distinct later ≡ true →
      ((n : ℕ) → among n later ≡ true → is_backed_out (fin n) ≡ true) →
      ((n : ℕ) → among n later ≡ true → is_backed_out (more n) ≡ false) →
      ((n : ℕ) → among n later ≡ false → is_backed_out (fin n) ≡ is_backed_out (more n)) →
      IsSerial o es fin before → IsSerial o es more (before ++ later)
  open_last [] before fin more f m live once gone there others h =
      let same : store_by o fin es ≡ store_by o more es =
      ap (λ l. replay (initial_store o) l) (same_left o es fin more (Each_from _ (λ e. others e.unit refl) es)) in
      subst (λ l. IsSerial o es more l) (sym (append-nil before))
      (record { answers = h.answers; cells = subst (λ s. AreAlike o (replay (initial_store o) (one_by_one o es before)) s) same h.cells })
  open_last (u ∷ later) before fin more f m live once gone there others h =
      let p = and_parts (not (among u later)) (are_distinct later) once in
      let absent : among u later ≡ false = not-true (among u later) p.0 in
      let first : among u (u ∷ later) ≡ true = or_left _ _ (eq-eqb u u refl) in
      let own : is_open (out u) ≡ true = live u first in
      let mid : Outcomes = put u (more u) fin in
      let e : Extends out mid = put-Extends out fin u (more u) own f in
      let one : IsSerial o es mid (before ++ u ∷ []) =
      one_more o c es u fin mid before h
      (k u own fin mid f e (record {
        gone = gone u first;
        there = ap is_backed_out (put-own u (more u) fin) ∙ there u first;
        others = λ n other. ap is_backed_out (sym (put-other u (more u) fin n other));
      })) in
      let apart : (n : ℕ) → among n later ≡ true → eqb n u ≡ false =
      λ n y. elim (cases_Bool (eqb n u)) [
        | inl same ↦ absurd (true≢false (sym y ∙ (ap (λ w. among w later) (eqb-true n u same) ∙ absent)))
        | inr other ↦ other
      ] in
      subst (λ l. IsSerial o es more l) (sym (append_one before u later))
      (open_last later (before ++ u ∷ []) mid more e m (λ n y. live n (or_right _ _ y)) p.1
      (λ n y. ap is_backed_out (put-other u (more u) fin n (apart n y)) ∙ gone n (or_right _ _ y))
      (λ n y. there n (or_right _ _ y))
      (λ n y. elim (cases_Bool (eqb n u)) [
        | inl same ↦ subst (λ w. is_backed_out (mid w) ≡ is_backed_out (more w)) (sym (eqb-true n u same))
            (ap is_backed_out (put-own u (more u) fin))
        | inr other ↦ ap is_backed_out (put-other u (more u) fin n other) ∙ others n (or_none (eqb-turned u n other) y)
      ]) one)
    where
      or_none : {a b : Bool} → a ≡ false → b ≡ false → (a || b) ≡ false
      or_none {a} {b} h g = rw h g

-- ---- The ends of units

-- fewer endings are left
through : (out next fin : Outcomes) → Extends out next → Extends next fin → Extends out fin
through out next fin h f u shut = f u (ap is_open (h u shut) ∙ shut) ∙ h u shut

was_open : (out next : Outcomes) → Extends out next → (u : ℕ) → is_open (next u) ≡ true → is_open (out u) ≡ true
was_open out next h u live = elim (cases_Bool (is_open (out u))) [
  | inl y ↦ y
  | inr shut ↦ absurd (true≢false (sym live ∙ (ap is_open (h u shut) ∙ shut)))
]

pub ends-last : {o : OpeningState} {es : List Entry} {out next : Outcomes} → EachCanBeLast o es out →
    Extends out next → EachCanBeLast o es next
ends-last {o} {es} {out} {next} k h u live fin more f m w =
    k u (was_open out next h u live) fin more (through out next fin h f) (through out next more h m) w

-- nobody commits: a unit begins, or units are backed out
pub ends-serial : {o : OpeningState} {es : List Entry} {out next : Outcomes} (order : List ℕ) →
    OrderIsSerial o es out order → Extends out next →
    ((u : ℕ) → is_open (out u) ≡ true → (is_open (next u) ≡ true) ⊎ (is_backed_out (next u) ≡ true)) →
    OrderIsSerial o es next order
ends-serial {o} {es} {out} {next} order k h b fin f gone =
    k fin (through out next fin h f) (λ u live. elim (b u live) [
      | inl still ↦ gone u still
      | inr back ↦ ap is_backed_out (f u (shut (next u) back)) ∙ back
    ])
  where
    shut : (oc : UnitState) → is_backed_out oc ≡ true → is_open oc ≡ false
    shut BackedOut e = refl
    shut _ e = absurd (false≢true e)

-- a unit commits: it comes behind those that committed before it
pub commits-serial : {o : OpeningState} {es : List Entry} {out next : Outcomes} → IsOrdered (initial_store o) → (order : List ℕ) (u : ℕ) →
    OrderIsSerial o es out order → EachCanBeLast o es out → Extends out next → is_open (out u) ≡ true →
    is_open (next u) ≡ false → is_backed_out (next u) ≡ false →
    ((n : ℕ) → eqb n u ≡ false → next n ≡ out n) → OrderIsSerial o es next (order ++ u ∷ [])
commits-serial {o} {es} {out} {next} c order u k l h live shut kept others fin f gone =
    let before : Outcomes = put u BackedOut fin in
    let g : Extends out fin = through out next fin h f in
    let e : Extends out before = put-Extends out fin u BackedOut live g in
    one_more o c es u before fin order
    (k before e (λ n still. elim (cases_Bool (eqb n u)) [
      | inl same ↦ ap is_backed_out (ap (λ w. before w) (eqb-true n u same) ∙ put-own u BackedOut fin)
      | inr other ↦
          ap is_backed_out (put-other u BackedOut fin n other) ∙ gone n (ap is_open (others n other) ∙ still)
    ]))
    (l u live before fin e g (record {
      gone = ap is_backed_out (put-own u BackedOut fin);
      there = ap is_backed_out (f u shut) ∙ kept;
      others = λ n other. ap is_backed_out (put-other u BackedOut fin n other);
    }))
