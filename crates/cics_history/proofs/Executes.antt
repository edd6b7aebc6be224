-- One command more, executed where it need not wait.
use Rattle.std.proofs.Common.{◌≡◌, ℕ, true, false, ◌&&◌, not, List, refl, ap, sym, subst, ◌∙◌, eqb, ◌⊎◌, inl, inr}
use Rattle.std.specs.Prelude.{if◌then◌else◌, is_some}
use Rattle.std.proofs.lemmas.Bool.{true≢false, false≢true, cases_Bool, eqb-true, eq-eqb}
use Rattle.cics_history.specs.State.{OpeningState, initial_store}
use Rattle.cics_history.specs.Store.{apply, is_recoverable}
use Rattle.cics_history.specs.Headline.{is_open, is_backed_out}
use Rattle.cics_history.specs.declared.ops.Op.{Op}
use Rattle.cics_history.specs.declared.ops.Entry.{Entry}
use Rattle.cics_history.specs.declared.ops.UnitState.{UnitState}
use Rattle.cics_history.specs.declared.ops.UnitState.TheVariants.{Open, Committed, BackedOut}
use Rattle.cics_history.specs.declared.ops.Op.TheVariants.{TdRead}
use Rattle.cics_history.specs.Cells.{Td, Cell, content, cell_of, touches, Reading, Writing, uses}
use Rattle.cics_history.proofs.Effects.{is_empty}
use Rattle.cics_history.proofs.Joining.{same_cell-true, same_cell-refl, answer-local, blind-answer, front-answer, touches-recovers}
use Rattle.cics_history.proofs.Replays.{replay-there}
use Rattle.cics_history.proofs.Isolated.{store_ordered, Extends-refl, same_content, alike_if_alone}
use Rattle.cics_history.specs.Isolation.{Begins, Outcomes, left_by, store_by, Extends, IsIsolated, IsFree}

-- the outcomes in which every other open unit is backed out
abbrev pub alone : Outcomes → ℕ → Outcomes
alone out v = λ u. if is_open (out u) && not (eqb u v) then BackedOut else out u

pub alone-ended : (out : Outcomes) (v : ℕ) → Extends out (alone out v)
alone-ended out v u e = rw e refl

pub open_kept : (oc : UnitState) → is_open oc ≡ true → is_backed_out oc ≡ false
open_kept Open h = refl
open_kept Committed h = refl
open_kept BackedOut h = absurd (false≢true h)

pub alone-own : (out : Outcomes) (v : ℕ) → is_open (out v) ≡ true → is_backed_out (alone out v v) ≡ false
alone-own out v e = rw (eq-eqb v v refl, e) (open_kept (out v) e)

-- what the unit need not wait for
pub record MayRun (o : OpeningState) (es : List Entry) (out : Outcomes) (v : ℕ) (op : Op) : Type 0 where
  pub is_live : is_open (out v) ≡ true
  pub reading : is_recoverable o op ≡ true → uses op Reading ≡ true → (x : Cell) → touches op x ≡ true →
      IsFree es out v x Reading
  pub writing : is_recoverable o op ≡ true → uses op Writing ≡ true → (x : Cell) → touches op x ≡ true →
      IsFree es out v x Writing
  pub first : is_recoverable o op ≡ true → uses op Writing ≡ false →
      (is_empty (content (store_by o (alone out v) es) (cell_of op)) ≡ false)
      ⊎ (IsFree es out v (cell_of op) Writing)

pub same_there : (o : OpeningState) (es : List Entry) (fin more : Outcomes) (x : Cell) →
    is_some (content (store_by o fin es) x) ≡ is_some (content (store_by o more es) x)
same_there o es fin more x =
    replay-there x (initial_store o) (left_by o fin es)
    ∙ sym (replay-there x (initial_store o) (left_by o more es))

-- a command that leaves the writing end alone touches its cell alone
reads_cell : (op : Op) (x : Cell) → uses op Writing ≡ false → touches op x ≡ true → cell_of op ≡ x
reads_cell (TdRead q) x n y = same_cell-true (Td q) x y
reads_cell _ x n y = absurd (true≢false n)

read_touches : (op : Op) → uses op Writing ≡ false → touches op (cell_of op) ≡ true
read_touches (TdRead q) n = same_cell-refl (Td q)
read_touches _ n = absurd (true≢false n)

-- the answer is the same however the other open units end
pub same_answer : {o : OpeningState} {es : List Entry} {out : Outcomes} → IsIsolated o es out →
    (v : ℕ) (op : Op) → MayRun o es out v op → is_recoverable o op ≡ true → (fin : Outcomes) →
    Extends out fin → is_backed_out (fin v) ≡ false →
    (apply (store_by o out es) op).answer ≡ (apply (store_by o fin es) op).answer
same_answer {o} {es} {out} i v op may r fin f stay =
    let own : is_backed_out (out v) ≡ is_backed_out (fin v) = open_kept (out v) may.is_live ∙ sym stay in
    let self : Extends out out = Extends-refl out in
    let whole : ((x : Cell) → touches op x ≡ true → IsFree es out v x Reading) →
    ((x : Cell) → touches op x ≡ true → IsFree es out v x Writing) →
    (apply (store_by o out es) op).answer ≡ (apply (store_by o fin es) op).answer =
    λ b c. answer-local op _ _ (store_ordered i out es) (store_ordered i fin es)
    (λ x y. same_content i x (sym (touches-recovers o op x y) ∙ r) out fin self f
    (alike_if_alone es out v x Reading (b x y) out fin self f own)
    (alike_if_alone es out v x Writing (c x y) out fin self f own)) in
    elim (cases_Bool (uses op Reading)) [
      | inr blind ↦ blind-answer op _ _ blind (same_there o es out fin (cell_of op))
      | inl reads ↦ elim (cases_Bool (uses op Writing)) [
        | inl writes ↦ whole (may.reading r reads) (may.writing r writes)
        | inr only ↦ elim (may.first r only) [
          | inr free ↦
              whole (may.reading r reads)
              (λ x y. subst (λ z. IsFree es out v z Writing) (reads_cell op x only y) free)
          | inl some ↦
              let x = cell_of op in
              let y : touches op x ≡ true = read_touches op only in
              let front : (more : Outcomes) → Extends out more → is_backed_out (more v) ≡ false →
              Begins (content (store_by o (alone out v) es) x) (content (store_by o more es) x) =
              λ more m k. i.fronts x (sym (touches-recovers o op x y) ∙ r) (alone out v) more
              (alone-ended out v) m
              (alike_if_alone es out v x Reading (may.reading r reads x y) (alone out v) more
              (alone-ended out v) m (alone-own out v may.is_live ∙ sym k))
              (λ u t g. alone_first more m k u g) in
              sym (front-answer op (store_by o (alone out v) es) (store_by o out es) only some
              (front out self (open_kept (out v) may.is_live)))
              ∙ front-answer op (store_by o (alone out v) es) (store_by o fin es) only some (front fin f stay)
        ]
      ]
    ]
  where
    -- whom another ending backs out, and this one does not own, this one backs out too
    alone_first : (more : Outcomes) → Extends out more → is_backed_out (more v) ≡ false → (u : ℕ) →
        is_backed_out (more u) ≡ true → is_backed_out (alone out v u) ≡ true
    alone_first more m k u g = elim (cases_Bool (is_open (out u))) [
      | inr shut ↦ rw shut (ap is_backed_out (sym (m u shut)) ∙ g)
      | inl live ↦ elim (cases_Bool (eqb u v)) [
        | inl same ↦
            absurd (false≢true (sym k ∙ (ap (λ n. is_backed_out (more n)) (sym (eqb-true u v same)) ∙ g)))
        | inr other ↦ rw (live, other) refl
      ]
    ]
