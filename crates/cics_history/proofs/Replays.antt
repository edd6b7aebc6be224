-- One more entry, and one cell of a replay.
use Rattle.std.proofs.Common.{◌≡◌, Bool, true, false, cond, List, [], ◌∷◌, ◌++◌, refl, ap, sym, ◌∙◌, inl, inr}
use Rattle.std.specs.Prelude.{filter, is_some}
use Rattle.std.proofs.lemmas.Bool.{true≢false, false≢true, cond_both, cases_Bool}
use Rattle.cics_history.specs.State.{Store}
use Rattle.cics_history.specs.Store.{apply}
use Rattle.cics_history.specs.Headline.{replay, Agrees}
use Rattle.cics_history.specs.declared.ops.Op.{Op}
use Rattle.cics_history.specs.declared.ops.Entry.{Entry}
use Rattle.cics_history.specs.Cells.{Cell, content, touches, effect}
use Rattle.cics_history.proofs.Joining.{apply-content, apply-there}
use Rattle.cics_history.specs.Isolation.{Each}

-- an entry more that passes is one command more
pub replay-push : (p : Entry → Bool) (e : Entry) (s : Store) (es : List Entry) →
    replay s (filter p (es ++ e ∷ [])) ≡ cond (p e) (apply (replay s (filter p es)) e.op).store
    (replay s (filter p es))
replay-push p e s [] =
    elim (p e) as (λ b. replay s (cond b (e ∷ []) []) ≡ cond b (apply s e.op).store s) [
      | true ↦ refl
      | false ↦ refl
    ]
replay-push p e s (d ∷ es) =
    elim (p d) as (λ b. replay s (cond b (d ∷ filter p (es ++ e ∷ [])) (filter p (es ++ e ∷ []))) ≡ cond (p e)
    (apply (replay s (cond b (d ∷ filter p es) (filter p es))) e.op).store
    (replay s (cond b (d ∷ filter p es) (filter p es))))
    [ true ↦ replay-push p e (apply s d.op).store es | false ↦ replay-push p e s es ]

-- an entry more agrees if its answer is the one that the replay so far gives
pub Agrees-push : (p : Entry → Bool) (e : Entry) (s : Store) (es : List Entry) → Agrees s (filter p es) →
    (p e ≡ true → e.answer ≡ (apply (replay s (filter p es)) e.op).answer) →
    Agrees s (filter p (es ++ e ∷ []))
Agrees-push p e s [] h a = cond_both (p e) (e ∷ []) [] (λ l. Agrees s l) (λ t. (a t, tt)) (λ f. tt)
Agrees-push p e s (d ∷ es) h a =
    elim (p d) as (λ b. Agrees s (cond b (d ∷ filter p es) (filter p es)) →
    (p e ≡ true → e.answer ≡ (apply (replay s (cond b (d ∷ filter p es) (filter p es))) e.op).answer) →
    Agrees s (cond b (d ∷ filter p (es ++ e ∷ [])) (filter p (es ++ e ∷ [])))) [
      | true ↦ λ g b. (g.0, Agrees-push p e (apply s d.op).store es g.1 b)
      | false ↦
          λ g b. Agrees-push p e s es g b
    ] h a

-- a command changes the cells that it touches, each by what it holds
pub apply-other : (s : Store) (op : Op) (x : Cell) → touches op x ≡ false →
    content (apply s op).store x ≡ content s x
apply-other s op x e = apply-content s op x ∙ rw e refl

pub apply-own : (s : Store) (op : Op) (x : Cell) → touches op x ≡ true →
    content (apply s op).store x ≡ (effect op (content s x)).cell
apply-own s op x e = apply-content s op x ∙ rw e refl

pub content-cond : (b : Bool) (s t : Store) (x : Cell) →
    content (cond b s t) x ≡ cond b (content s x) (content t x)
content-cond true s t x = refl
content-cond false s t x = refl

one_step : (x : Cell) (d : Entry) (a b : Bool) (s t : Store) → (touches d.op x ≡ true → a ≡ b) →
    content s x ≡ content t x →
    content (cond a (apply s d.op).store s) x ≡ content (cond b (apply t d.op).store t) x
one_step x d true true s t h e = elim (cases_Bool (touches d.op x)) [
  | inl y ↦ apply-own s d.op x y ∙ (ap (λ c. (effect d.op c).cell) e ∙ sym (apply-own t d.op x y))
  | inr n ↦ apply-other s d.op x n ∙ (e ∙ sym (apply-other t d.op x n))
]
one_step x d false false s t h e = e
one_step x d true false s t h e =
    elim (cases_Bool (touches d.op x)) [
      | inl y ↦ absurd (true≢false (h y))
      | inr n ↦ apply-other s d.op x n ∙ e
    ]
one_step x d false true s t h e =
    elim (cases_Bool (touches d.op x)) [
      | inl y ↦ absurd (false≢true (h y))
      | inr n ↦ e ∙ sym (apply-other t d.op x n)
    ]

pub filter_step : (p : Entry → Bool) (s : Store) (d : Entry) (es : List Entry) →
    replay s (filter p (d ∷ es)) ≡ replay (cond (p d) (apply s d.op).store s) (filter p es)
filter_step p s d es =
    elim (p d) as
    (λ b. replay s (cond b (d ∷ filter p es) (filter p es)) ≡ replay (cond b (apply s d.op).store s)
    (filter p es)) [
      | true ↦ refl
      | false ↦ refl
    ]

pub Each_from : (P : Entry → Type 0) → ((e : Entry) → P e) → (es : List Entry) → Each P es
Each_from P h [] = tt
Each_from P h (e ∷ es) = (h e, Each_from P h es)

pub Each-push : (P : Entry → Type 0) (es : List Entry) (e : Entry) → Each P es → P e → Each P (es ++ e ∷ [])
Each-push P [] e h p = (p, tt)
Each-push P (d ∷ es) e h p = (h.0, Each-push P es e h.1 p)

pub Each_more : (P Q : Entry → Type 0) → ((e : Entry) → P e → Q e) → (es : List Entry) → Each P es → Each Q es
Each_more P Q f [] h = tt
Each_more P Q f (e ∷ es) h = (f e h.0, Each_more P Q f es h.1)

-- a cell depends only on which entries that touch it are replayed
pub replay-at : (x : Cell) (p q : Entry → Bool) (es : List Entry) →
    Each (λ e. touches e.op x ≡ true → p e ≡ q e) es → (s t : Store) → content s x ≡ content t x →
    content (replay s (filter p es)) x ≡ content (replay t (filter q es)) x
replay-at x p q [] h s t e = e
replay-at x p q (d ∷ es) h s t e =
    ap (λ r. content r x) (filter_step p s d es)
    ∙ (replay-at x p q es h.1 (cond (p d) (apply s d.op).store s) (cond (q d) (apply t d.op).store t)
    (one_step x d (p d) (q d) s t h.0 e) ∙ sym (ap (λ r. content r x) (filter_step q t d es)))

-- no file and no queue comes or goes
pub replay-there : (x : Cell) (s : Store) (es : List Entry) →
    is_some (content (replay s es) x) ≡ is_some (content s x)
replay-there x s [] = refl
replay-there x s (e ∷ es) = replay-there x (apply s e.op).store es ∙ apply-there s e.op x
