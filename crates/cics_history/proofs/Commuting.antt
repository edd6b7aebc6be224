-- Commands of two units that use no common end of a cell: whichever goes first, both have the same answers and the cell
-- holds the same.
use Rattle.std.proofs.Common.{◌≡◌, Bool, true, false, Some, None, List, [], ◌∷◌, ◌++◌, ◌||◌, refl, ap, sym, subst, ◌∙◌, inl, inr}
use Rattle.std.proofs.lemmas.Bool.{true≢false, false≢true, cases_Bool, or_cases, or_parts, false_from_ne_true}
use Rattle.cics_names.specs.Keyed.{Bytes}
use Rattle.cics_history.specs.State.{OpeningState, Store}
use Rattle.cics_history.specs.Store.{apply, is_recoverable, is_normal}
use Rattle.cics_history.specs.Headline.{replay, Agrees}
use Rattle.cics_history.specs.declared.ops.Op.{Op}
use Rattle.cics_history.specs.declared.ops.Op.TheVariants.{DeleteGeneric, TdWrite, TdRead}
use Rattle.cics_history.specs.declared.ops.Entry.{Entry}
use Rattle.cics_history.specs.Cells.{Cell, Content, content, is_generic, cell_of, touches, effect, End, Reading, Writing, uses, recovers, IsOrdered}
use Rattle.cics_history.specs.Isolation.{Each}
use Rattle.cics_history.proofs.Effects.{uses-some}
use Rattle.cics_history.proofs.Joining.{apply-answer, answer-local, touches-self, touched-is, touches-recovers}
use Rattle.cics_history.proofs.Stores.{apply-ordered}
use Rattle.cics_history.proofs.Replays.{apply-own, apply-other}

-- two commands use no common end
abbrev pub AreApart : Op → Op → Type 0
AreApart a b = (end : End) → uses b end ≡ true → uses a end ≡ false

-- in both orders two commands are answered the same, and the cell holds the same
record Commute (a b : Op) (c : Content) : Type 0 where
  answer : (effect a (effect b c).cell).answer ≡ (effect a c).answer
  turned : (effect b (effect a c).cell).answer ≡ (effect b c).answer
  cell : (effect a (effect b c).cell).cell ≡ (effect b (effect a c).cell).cell

write_read : (q d r : Bytes) (c : Content) → is_normal (effect (TdRead r) c).answer.condition ≡ true →
    Commute (TdWrite q d) (TdRead r) c
write_read q d r None n = absurd (false≢true n)
write_read q d r (Some []) n = absurd (false≢true n)
write_read q d r (Some (x ∷ xs)) n = record { answer = refl; turned = refl; cell = refl }

read_write : (q r d : Bytes) (c : Content) → is_normal (effect (TdRead q) c).answer.condition ≡ true →
    Commute (TdRead q) (TdWrite r d) c
read_write q r d None n = absurd (false≢true n)
read_write q r d (Some []) n = absurd (false≢true n)
read_write q r d (Some (x ∷ xs)) n = record { answer = refl; turned = refl; cell = refl }

write_and : (q d : Bytes) (b : Op) (c : Content) → uses b Writing ≡ false →
    is_normal (effect b c).answer.condition ≡ true → Commute (TdWrite q d) b c
write_and q d (TdRead r) c e n = write_read q d r c n
write_and q d _ c e n = absurd (true≢false e)

read_and : (q : Bytes) (b : Op) (c : Content) → uses b Reading ≡ false →
    is_normal (effect (TdRead q) c).answer.condition ≡ true → Commute (TdRead q) b c
read_and q (TdWrite r d) c e n = read_write q r d c n
read_and q _ c e n = absurd (true≢false e)

unused : (b : Bool) → (b ≡ true → true ≡ false) → b ≡ false
unused true h = absurd (true≢false (h refl))
unused false h = refl

-- a command that uses both ends is apart from none
whole : (a b : Op) → uses a Reading ≡ true → uses a Writing ≡ true → AreApart a b → ⊥
whole a b r w h = elim (cases_Bool (uses b Reading)) [
  | inl y ↦ true≢false (sym r ∙ h Reading y)
  | inr n ↦ true≢false (sym w ∙ h Writing (uses-some b n))
]

-- only a read and a write of a queue use no common end
commute : (a b : Op) (c : Content) → AreApart a b → is_normal (effect a c).answer.condition ≡ true →
    is_normal (effect b c).answer.condition ≡ true → Commute a b c
commute (TdWrite q d) b c h n m = write_and q d b c (unused (uses b Writing) (h Writing)) m
commute (TdRead q) b c h n m = read_and q b c (unused (uses b Reading) (h Reading)) n
commute a b c h n m = absurd (whole a b refl refl h)

-- ---- Stores

-- two stores hold the same in each recoverable cell
abbrev pub AreAlike : OpeningState → Store → Store → Type 0
AreAlike o s t = (x : Cell) → recovers o x ≡ true → content s x ≡ content t x

pub alike_both : (o : OpeningState) (s t r : Store) → AreAlike o s t → AreAlike o t r → AreAlike o s r
alike_both o s t r h k x y = h x y ∙ k x y

pub alike_turned : (o : OpeningState) (s t : Store) → AreAlike o s t → AreAlike o t s
alike_turned o s t h x y = sym (h x y)

-- so they do after one command
pub apply-alike : (o : OpeningState) (s t : Store) (op : Op) → AreAlike o s t →
    AreAlike o (apply s op).store (apply t op).store
apply-alike o s t op h x r = elim (cases_Bool (touches op x)) [
  | inl y ↦ apply-own s op x y ∙ (ap (λ c. (effect op c).cell) (h x r) ∙ sym (apply-own t op x y))
  | inr n ↦ apply-other s op x n ∙ (h x r ∙ sym (apply-other t op x n))
]

-- and a command on something recoverable has the same answer
pub answer-alike : (o : OpeningState) (s t : Store) (op : Op) → IsOrdered s → IsOrdered t → is_recoverable o op ≡ true →
    AreAlike o s t → (apply s op).answer ≡ (apply t op).answer
answer-alike o s t op i j r h =
    answer-local op s t i j (λ x y. h x (sym (touches-recovers o op x y) ∙ r))

-- a command on something unrecoverable changes no recoverable cell
pub unrecoverable-alike : (o : OpeningState) (s : Store) (op : Op) → is_recoverable o op ≡ false →
    AreAlike o (apply s op).store s
unrecoverable-alike o s op n x r = elim (cases_Bool (touches op x)) [
  | inl y ↦ absurd (true≢false (sym (touches-recovers o op x y ∙ r) ∙ n))
  | inr other ↦ apply-other s op x other
]

-- commands on what is recoverable
abbrev pub AreRecoverable : OpeningState → List Entry → Type 0
AreRecoverable o es = Each (λ e. is_recoverable o e.op ≡ true) es

pub replay-alike : (o : OpeningState) (s t : Store) (es : List Entry) → AreAlike o s t →
    AreAlike o (replay s es) (replay t es)
replay-alike o s t [] h = h
replay-alike o s t (e ∷ es) h =
    replay-alike o (apply s e.op).store (apply t e.op).store es (apply-alike o s t e.op h)

pub Agrees-alike : (o : OpeningState) (s t : Store) (es : List Entry) → IsOrdered s → IsOrdered t → AreRecoverable o es → AreAlike o s t →
    Agrees s es → Agrees t es
Agrees-alike o s t [] i j r h a = tt
Agrees-alike o s t (e ∷ es) i j r h a = (
  a.0 ∙ answer-alike o s t e.op i j r.0 h,
  Agrees-alike o (apply s e.op).store (apply t e.op).store es (apply-ordered s e.op i) (apply-ordered t e.op j) r.1 (apply-alike o s t e.op h) a.1,
)

-- ---- Two commands, one after the other

-- the two are apart where they touch one cell
abbrev pub AreApartIn : Op → Op → Type 0
AreApartIn a b = (x : Cell) → touches a x ≡ true → touches b x ≡ true → AreApart a b

record Exchange (o : OpeningState) (s : Store) (a b : Op) : Type 0 where
  answer : (apply (apply s b).store a).answer ≡ (apply s a).answer
  turned : (apply (apply s a).store b).answer ≡ (apply s b).answer
  stores : AreAlike o (apply (apply s b).store a).store (apply (apply s a).store b).store

-- the answer of a command whose cells the other does not touch
answer-aside : (s : Store) (a b : Op) → IsOrdered s → ((x : Cell) → touches a x ≡ true → touches b x ≡ false) →
    (apply (apply s b).store a).answer ≡ (apply s a).answer
answer-aside s a b i h = answer-local a (apply s b).store s (apply-ordered s b i) i (λ x y. apply-other s b x (h x y))

-- what a command that acts on one cell answers, by any cell that it touches
answer_at : (s : Store) (a : Op) → is_generic a ≡ false → (x : Cell) → touches a x ≡ true →
    (apply s a).answer ≡ (effect a (content s x)).answer
answer_at s a g x y = apply-answer s a g ∙ ap (λ z. (effect a (content s z)).answer) (touched-is a g x y)

-- and after another that touches the same cell
answer_after : (s : Store) (a b : Op) → is_generic a ≡ false → (x : Cell) → touches a x ≡ true → touches b x ≡ true →
    (apply (apply s b).store a).answer ≡ (effect a (effect b (content s x)).cell).answer
answer_after s a b g x y z =
    answer_at (apply s b).store a g x y ∙ ap (λ c. (effect a c).answer) (apply-own s b x z)

-- DELETE GENERIC uses both ends of its cells
generic_uses : (op : Op) (end : End) → is_generic op ≡ true → uses op end ≡ true
generic_uses (DeleteGeneric f p) end g = refl
generic_uses op end g = absurd (false≢true g)

-- so no other command that is apart from it touches any of them
none_both : (a b : Op) → (is_generic a || is_generic b) ≡ true → AreApartIn a b → (x : Cell) → touches a x ≡ true → touches b x ≡ true → ⊥
none_both a b g apart x y z = elim (or_cases (is_generic a) (is_generic b) g) [
  | inl first ↦ whole a b (generic_uses a Reading first) (generic_uses a Writing first) (apart x y z)
  | inr second ↦ true≢false (sym (uses-some a (apart x y z Reading (generic_uses b Reading second)))
      ∙ apart x y z Writing (generic_uses b Writing second))
]

module _ (o : OpeningState) (s : Store) (i : IsOrdered s) (a b : Op) (apart : AreApartIn a b)
    (n : is_normal (apply s a).answer.condition ≡ true) (m : is_normal (apply s b).answer.condition ≡ true) where
  at_one : (is_generic a || is_generic b) ≡ false → (x : Cell) → touches a x ≡ true → touches b x ≡ true → Commute a b (content s x)
  at_one g x y z =
      let one = or_parts (is_generic a) (is_generic b) g in
      commute a b (content s x) (apart x y z) (ap (λ w. is_normal w.condition) (sym (answer_at s a one.0 x y)) ∙ n)
      (ap (λ w. is_normal w.condition) (sym (answer_at s b one.1 x z)) ∙ m)

  one_answer : (is_generic a || is_generic b) ≡ false → (apply (apply s b).store a).answer ≡ (apply s a).answer
  one_answer g =
      let x = cell_of a in
      let one = or_parts (is_generic a) (is_generic b) g in
      elim (cases_Bool (touches b x)) [
        | inl z ↦
            answer_after s a b one.0 x (touches-self a) z
            ∙ ((at_one g x (touches-self a) z).answer ∙ sym (answer_at s a one.0 x (touches-self a)))
        | inr other ↦
            answer-aside s a b i (λ w y. subst (λ k. touches b k ≡ false) (touched-is a one.0 w y) other)
      ]

  first_answer : (apply (apply s b).store a).answer ≡ (apply s a).answer
  first_answer = elim (cases_Bool (is_generic a || is_generic b)) [
    | inl g ↦ answer-aside s a b i (λ w y. false_from_ne_true (touches b w) (λ z. none_both a b g apart w y z))
    | inr g ↦ one_answer g
  ]

  one_turned : (is_generic a || is_generic b) ≡ false → (apply (apply s a).store b).answer ≡ (apply s b).answer
  one_turned g =
      let x = cell_of b in
      let one = or_parts (is_generic a) (is_generic b) g in
      elim (cases_Bool (touches a x)) [
        | inl y ↦
            answer_after s b a one.1 x (touches-self b) y
            ∙ ((at_one g x y (touches-self b)).turned ∙ sym (answer_at s b one.1 x (touches-self b)))
        | inr other ↦
            answer-aside s b a i (λ w z. subst (λ k. touches a k ≡ false) (touched-is b one.1 w z) other)
      ]

  second_answer : (apply (apply s a).store b).answer ≡ (apply s b).answer
  second_answer = elim (cases_Bool (is_generic a || is_generic b)) [
    | inl g ↦ answer-aside s b a i (λ w z. false_from_ne_true (touches a w) (λ y. none_both a b g apart w y z))
    | inr g ↦ one_turned g
  ]

  -- a cell that both touch
  both_cells : (x : Cell) → touches a x ≡ true → touches b x ≡ true →
      (effect a (effect b (content s x)).cell).cell ≡ (effect b (effect a (content s x)).cell).cell
  both_cells x y z = elim (cases_Bool (is_generic a || is_generic b)) [
    | inl g ↦ absurd (none_both a b g apart x y z)
    | inr g ↦ (at_one g x y z).cell
  ]

  both_stores : (x : Cell) →
      content (apply (apply s b).store a).store x ≡ content (apply (apply s a).store b).store x
  both_stores x = elim (cases_Bool (touches a x)) [
    | inl y ↦ elim (cases_Bool (touches b x)) [
      | inl z ↦
          apply-own (apply s b).store a x y
          ∙ (ap (λ c. (effect a c).cell) (apply-own s b x z) ∙ (both_cells x y z
          ∙ (sym (ap (λ c. (effect b c).cell) (apply-own s a x y)) ∙ sym (apply-own (apply s a).store b x z))))
      | inr k ↦
          apply-own (apply s b).store a x y
          ∙ (ap (λ c. (effect a c).cell) (apply-other s b x k)
          ∙ (sym (apply-own s a x y) ∙ sym (apply-other (apply s a).store b x k)))
    ]
    | inr i ↦ apply-other (apply s b).store a x i ∙ elim (cases_Bool (touches b x)) [
      | inl z ↦
          apply-own s b x z
          ∙ (ap (λ c. (effect b c).cell) (sym (apply-other s a x i)) ∙ sym (apply-own (apply s a).store b x z))
      | inr k ↦
          apply-other s b x k ∙ (sym (apply-other s a x i) ∙ sym (apply-other (apply s a).store b x k))
    ]
  ]

  exchange : Exchange o s a b
  exchange = record { answer = first_answer; turned = second_answer; stores = λ x r. both_stores x }

-- ---- A command of one unit goes behind all that another did

-- each of these is recoverable, answered NORMAL, and apart from a command
abbrev pub PassedBy : OpeningState → Op → Entry → Type 0
PassedBy o op e =
    (is_recoverable o e.op ≡ true) × (is_normal e.answer.condition ≡ true) × AreApartIn e.op op

pub record Passes (o : OpeningState) (s : Store) (op : Op) (es : List Entry) : Type 0 where
  pub agrees : Agrees (apply s op).store es
  pub stores : AreAlike o (replay (apply s op).store es) (apply (replay s es) op).store

pub recoverable_of : (o : OpeningState) (op : Op) (es : List Entry) → Each (PassedBy o op) es → AreRecoverable o es
recoverable_of o op [] h = tt
recoverable_of o op (e ∷ es) h = (h.0.0, recoverable_of o op es h.1)

pub passes : (o : OpeningState) (s : Store) → IsOrdered s → (op : Op) (es : List Entry) → Each (PassedBy o op) es →
    is_normal (apply s op).answer.condition ≡ true → Agrees s es → Passes o s op es
passes o s i op [] h m a = record { agrees = tt; stores = λ x r. refl }
passes o s i op (e ∷ es) h m a =
    let n : is_normal (apply s e.op).answer.condition ≡ true = ap (λ w. is_normal w.condition) (sym a.0) ∙ h.0.1 in
    let x = exchange o s i e.op op h.0.2 n m in
    let s' : Store = (apply s e.op).store in
    let t' : Store = (apply (apply s op).store e.op).store in
    let p : Passes o s' op es =
    passes o s' (apply-ordered s e.op i) op es h.1 (ap (λ w. is_normal w.condition) x.turned ∙ m) a.1 in
    let near : AreAlike o (apply s' op).store t' = alike_turned o t' (apply s' op).store x.stores in
    record {
      agrees = (
        a.0 ∙ sym x.answer,
        Agrees-alike o (apply s' op).store t' es (apply-ordered s' op (apply-ordered s e.op i))
            (apply-ordered (apply s op).store e.op (apply-ordered s op i)) (recoverable_of o op es h.1) near p.agrees,
      );
      stores =
          alike_both o (replay t' es) (replay (apply s' op).store es) (apply (replay s' es) op).store
          (replay-alike o t' (apply s' op).store es x.stores) p.stores;
    }

-- ---- Lists of entries, one behind the other

pub replay-behind : (s : Store) (es fs : List Entry) → replay s (es ++ fs) ≡ replay (replay s es) fs
replay-behind s [] fs = refl
replay-behind s (e ∷ es) fs = replay-behind (apply s e.op).store es fs

pub Agrees-behind : (s : Store) (es fs : List Entry) → Agrees s es → Agrees (replay s es) fs → Agrees s (es ++ fs)
Agrees-behind s [] fs a b = b
Agrees-behind s (e ∷ es) fs a b = (a.0, Agrees-behind (apply s e.op).store es fs a.1 b)
