-- One command more, and one end, keep the open units apart.
use Rattle.std.proofs.Common.{◌≡◌, ℕ, Bool, true, false, cond, not, List, [], ◌∷◌, ◌++◌, refl, ap, sym, subst, ◌∙◌, inl, inr}
use Rattle.std.proofs.lemmas.Bool.{true≢false, false≢true, cases_Bool, and_from, not-true}
use Rattle.cics_history.specs.State.{OpeningState, initial_store}
use Rattle.cics_history.specs.Store.{apply, is_recoverable, is_normal}
use Rattle.cics_history.specs.Headline.{is_open, is_backed_out}
use Rattle.cics_history.specs.declared.ops.Op.{Op}
use Rattle.cics_history.specs.declared.ops.Entry.{Entry}
use Rattle.cics_history.specs.Cells.{Cell, Content, content, touches, effect, End, Reading, Writing, uses}
use Rattle.cics_history.proofs.Effects.{Begins-refl, effect-front, front-effect, uses-some}
use Rattle.cics_history.proofs.Joining.{answer-local, answer-refused, touches-recovers}
use Rattle.cics_history.proofs.Replays.{replay-push, Agrees-push, apply-own, apply-other, content-cond}
use Rattle.cics_history.proofs.Isolated.{store_ordered, same_content, unrecovered, used-more, used-last, alike_if_alone}
use Rattle.cics_history.proofs.Executes.{MayRun, same_answer}
use Rattle.cics_history.specs.Isolation.{Begins, Outcomes, stays, store_by, used, Extends, Alike, AtMost, FrontsAt, IsIsolated}

-- what a cell holds after one entry more
pub content-push : (o : OpeningState) (fin : Outcomes) (es : List Entry) (e : Entry) (x : Cell) →
    touches e.op x ≡ true →
    content (store_by o fin (es ++ e ∷ [])) x ≡ cond (stays o fin e)
    (effect e.op (content (store_by o fin es) x)).cell (content (store_by o fin es) x)
content-push o fin es e x c =
    ap (λ s. content s x) (replay-push (stays o fin) e (initial_store o) es)
    ∙ (content-cond (stays o fin e) (apply (store_by o fin es) e.op).store (store_by o fin es) x
    ∙ ap (λ l. cond (stays o fin e) l (content (store_by o fin es) x)) (apply-own (store_by o fin es) e.op x c))

pub content-push_other : (o : OpeningState) (fin : Outcomes) (es : List Entry) (e : Entry) (x : Cell) →
    touches e.op x ≡ false → content (store_by o fin (es ++ e ∷ [])) x ≡ content (store_by o fin es) x
content-push_other o fin es e x c =
    ap (λ s. content s x) (replay-push (stays o fin) e (initial_store o) es)
    ∙ (content-cond (stays o fin e) (apply (store_by o fin es) e.op).store (store_by o fin es) x
    ∙ (ap (λ l. cond (stays o fin e) l (content (store_by o fin es) x))
    (apply-other (store_by o fin es) e.op x c) ∙ same (stays o fin e) (content (store_by o fin es) x)))
  where
    same : (b : Bool) (l : Content) → cond b l l ≡ l
    same true l = refl
    same false l = refl

-- a command executed in two endings, c in the one and d in the other: g and k say that its unit is backed out there
grown : (op : Op) (c d : Content) (g k : Bool) → Begins c d → (uses op Reading ≡ true → g ≡ k) →
    (uses op Writing ≡ true → k ≡ true → g ≡ true) → (uses op Writing ≡ true → g ≡ k → c ≡ d) →
    Begins (cond (not g) (effect op c).cell c) (cond (not k) (effect op d).cell d)
grown op c d true true h a b e = h
grown op c d false false h a b e = elim (cases_Bool (uses op Writing)) [
  | inl t ↦
      subst (λ z. Begins (effect op c).cell (effect op z).cell) (e t refl) (Begins-refl (effect op c).cell)
  | inr n ↦ effect-front op c d n h
]
grown op c d true false h a b e =
    elim (cases_Bool (uses op Reading)) [
      | inl t ↦ absurd (true≢false (a t))
      | inr n ↦ front-effect op c d n h
    ]
grown op c d false true h a b e =
    elim (cases_Bool (uses op Reading)) [
      | inl t ↦ absurd (false≢true (a t))
      | inr n ↦ absurd (false≢true (b (uses-some op n) refl))
    ]

module _ {o : OpeningState} {es : List Entry} {out : Outcomes} (i : IsIsolated o es out) (v : ℕ) (op : Op)
    (may : MayRun o es out v op) where
  abbrev pub entry : Entry
  entry = record { unit = v; op = op; answer = (apply (store_by o out es) op).answer }

  -- a refused command changes nothing in any ending
  pub unchanged : is_recoverable o op ≡ true → is_normal entry.answer.condition ≡ false → (x : Cell) →
      touches op x ≡ true → (fin : Outcomes) → Extends out fin →
      cond (not (is_backed_out (fin v))) (effect op (content (store_by o fin es) x)).cell
      (content (store_by o fin es) x) ≡ content (store_by o fin es) x
  unchanged r refused x y fin f = elim (cases_Bool (is_backed_out (fin v))) [
    | inl gone ↦ rw gone refl
    | inr stay ↦
        rw stay
        (answer-refused op (store_by o fin es)
        (ap (λ a. is_normal a.condition) (sym (same_answer i v op may r fin f stay)) ∙ refused) x y)
  ]

  pub stays_on : is_recoverable o op ≡ true → (fin : Outcomes) →
      stays o fin entry ≡ not (is_backed_out (fin v))
  stays_on r fin = rw r refl

  right : (fin : Outcomes) → Extends out fin → stays o fin entry ≡ true →
      entry.answer ≡ (apply (store_by o fin es) op).answer
  right fin f s = elim (cases_Bool (is_recoverable o op)) [
    | inl r ↦ same_answer i v op may r fin f (not-true _ (sym (stays_on r fin) ∙ s))
    | inr n ↦
        answer-local op (store_by o out es) (store_by o fin es) (store_ordered i out es) (store_ordered i fin es)
        (λ x y. unrecovered o x (sym (touches-recovers o op x y) ∙ n) out fin es)
  ]

  own_cell : (x : Cell) → touches op x ≡ true → FrontsAt o (es ++ entry ∷ []) out x
  own_cell x y rx fin more f m a b =
      let r : is_recoverable o op ≡ true = touches-recovers o op x y ∙ rx in
      let a' : Alike es x Reading fin more = λ u t. a u (used-more es entry u x Reading t) in
      let b' : AtMost es x Writing fin more = λ u t. b u (used-more es entry u x Writing t) in
      let old = i.fronts x rx fin more f m a' b' in
      let claimed : (end : End) → is_normal entry.answer.condition ≡ true → uses op end ≡ true →
      used (es ++ entry ∷ []) v x end ≡ true =
      λ end n t. used-last es entry x end (and_from _ _ y (and_from _ _ n t)) in
      rw (content-push o fin es entry x y, content-push o more es entry x y, stays_on r fin, stays_on r more)
      (elim (cases_Bool (is_normal entry.answer.condition)) [
        | inr refused ↦ rw (unchanged r refused x y fin f, unchanged r refused x y more m) old
        | inl normal ↦
            grown op _ _ _ _ old (λ t. a v (claimed Reading normal t))
            (λ t g. b v (claimed Writing normal t) g)
            (λ t e. same_content i x rx fin more f m a'
            (alike_if_alone es out v x Writing (may.writing r t x y) fin more f m e))
      ])

  -- every command keeps the open units apart
  pub executes : IsIsolated o (es ++ entry ∷ []) out
  executes = record {
    ordered = i.ordered;
    answers = λ fin f. Agrees-push (stays o fin) entry (initial_store o) es (i.answers fin f) (right fin f);
    fronts = λ x. elim (cases_Bool (touches op x)) [
      | inl own ↦ own_cell x own
      | inr n ↦
          λ r fin more f m a b. rw
          (content-push_other o fin es entry x n, content-push_other o more es entry x n)
          (i.fronts x r fin more f m (λ u t. a u (used-more es entry u x Reading t))
          (λ u t. b u (used-more es entry u x Writing t)))
    ];
  }

-- any outcomes that leave who has ended keep the units apart: when a unit begins, and when one ends
pub ends : {o : OpeningState} {es : List Entry} {out next : Outcomes} → IsIsolated o es out →
    Extends out next → IsIsolated o es next
ends {o} {es} {out} {next} i h = record {
  ordered = i.ordered;
  answers = λ fin f. i.answers fin (through fin f);
  fronts = λ x r fin more f m a b. i.fronts x r fin more (through fin f) (through more m) a b;
}
  where
    through : (fin : Outcomes) → Extends next fin → Extends out fin
    through fin f u shut = f u (ap is_open (h u shut) ∙ shut) ∙ h u shut
