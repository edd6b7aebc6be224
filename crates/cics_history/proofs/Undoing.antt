-- The cells in place hold what the history gives, and each open unit's images lead to what it gives without that
-- unit.
use Rattle.std.proofs.Common.{◌≡◌, ℕ, true, false, ◌&&◌, not, Some, None, List, [], ◌∷◌, ◌++◌, refl, ap, sym, subst, ◌∙◌, eqb, inl, inr}
use Rattle.std.specs.Prelude.{if◌then◌else◌}
use Rattle.std.proofs.lemmas.List.Folds.{list_any-append}
use Rattle.std.proofs.lemmas.Bool.{true≢false, false≢true, cases_Bool, cond_both, eqb-true, eq-eqb, and_parts, and_from, and_cases, and_left, and_right, or_parts, or_from, false_from_ne_true, MatchBool-at_true, MatchBool-at_false}
use Rattle.cics_history.specs.State.{OpeningState, Store, initial_store}
use Rattle.cics_history.specs.Store.{apply, is_normal, is_recoverable}
use Rattle.cics_history.specs.Headline.{is_open, is_backed_out}
use Rattle.cics_history.specs.declared.ops.Op.{Op}
use Rattle.cics_history.specs.declared.ops.Op.TheVariants.{DeleteGeneric, ReadUpdate, TdWrite, TdRead, TdDelete}
use Rattle.cics_history.specs.declared.ops.Entry.{Entry}
use Rattle.cics_history.specs.declared.ops.UnitState.{UnitState}
use Rattle.cics_history.specs.declared.ops.UnitState.TheVariants.{BackedOut}
use Rattle.cics_history.specs.Cells.{Cell, Key, Ts, Td, Content, content, cell_of, same_cell, touches, effect, End, Reading, Writing, uses, recovers}
use Rattle.cics_history.specs.Isolation.{Outcomes, stays, store_by, claims, used, Extends, Alike, IsIsolated, IsFree}
use Rattle.cics_history.specs.Undo.{Image, Cells, undone, Leads, names, is_plain, changes, AreImages, Place, put, ended, IsUndoable}
use Rattle.cics_history.proofs.Effects.{effect-refused}
use Rattle.cics_names.specs.Keyed.{value_at, is_same}
use Rattle.cics_names.specs.KeyedLaws.{is_same-eq}
use Rattle.cics_ksds.specs.Prefixes.{has_prefix}
use Rattle.cics_history.proofs.Generic.{normal-generic}
use Rattle.cics_history.proofs.Joining.{apply-answer, touched-is, touches-recovers}
use Rattle.cics_history.proofs.Replays.{Each_from, replay-at}
use Rattle.cics_history.proofs.Isolated.{Extends-refl, same_content, used-more, used-last, alike_if_alone}
use Rattle.cics_history.proofs.Executes.{MayRun, open_kept}
use Rattle.cics_history.proofs.Steps.{content-push, content-push_other, executes}

pub Leads-skip : (i : Image) (is : List Image) (x : Cell) (c d : Content) → same_cell i.cell x ≡ false →
    Leads is x c d → Leads (i ∷ is) x c d
Leads-skip i is x c d n h = rw n h

pub Leads-none : (is : List Image) (x : Cell) (c d : Content) → names x is ≡ false → c ≡ d → Leads is x c d
Leads-none [] x c d n e = e
Leads-none (i ∷ is) x c d n e =
    let h = or_parts (same_cell i.cell x) (names x is) n in
    Leads-skip i is x c d h.0 (Leads-none is x c d h.1 e)

pub Leads-past : (new is : List Image) (x : Cell) (c d : Content) → names x new ≡ false → Leads is x c d →
    Leads (new ++ is) x c d
Leads-past [] is x c d n h = h
Leads-past (i ∷ new) is x c d n h =
    let g = or_parts (same_cell i.cell x) (names x new) n in
    Leads-skip i (new ++ is) x c d g.0 (Leads-past new is x c d g.1 h)

names-append : (x : Cell) (new is : List Image) → names x new ≡ false → names x is ≡ false →
    names x (new ++ is) ≡ false
names-append x new is a b = list_any-append (λ i. same_cell i.cell x) new is ∙ or_from _ _ a b

-- undoing the images gives what they lead to
pub undone-at : (is : List Image) (x : Cell) (s : Cells) (d : Content) → Leads is x (s x) d →
    undone s is x ≡ d
undone-at [] x s d h = h
undone-at (i ∷ is) x s d h = elim (cases_Bool (same_cell i.cell x)) [
  | inl t ↦
      let l = rw t at h in undone-at is x (λ y. if same_cell i.cell y then i.before else s y) d (rw t l.1)
  | inr n ↦ undone-at is x (λ y. if same_cell i.cell y then i.before else s y) d (rw n (rw n at h))
]

-- outcomes that back out the same units give one store
pub store_by-alike : (o : OpeningState) (fin more : Outcomes) →
    ((u : ℕ) → is_backed_out (fin u) ≡ is_backed_out (more u)) → (es : List Entry) (x : Cell) →
    content (store_by o fin es) x ≡ content (store_by o more es) x
store_by-alike o fin more h es x =
    replay-at x (stays o fin) (stays o more) es
    (Each_from _ (λ e c. ap (λ b. not (is_recoverable o e.op && b)) (h e.unit)) es) (initial_store o)
    (initial_store o) refl

Extends-more : (out fin : Outcomes) (u : ℕ) → is_open (out u) ≡ true → Extends out fin →
    Extends out (ended fin u BackedOut)
Extends-more out fin u live f n shut = elim (cases_Bool (eqb n u)) [
  | inl same ↦ absurd (false≢true (sym shut ∙ (ap (λ k. is_open (out k)) (eqb-true n u same) ∙ live)))
  | inr other ↦ rw other (f n shut)
]

pub Extends-ended : (out : Outcomes) (u : ℕ) (outcome : UnitState) (fin : Outcomes) →
    is_open (out u) ≡ true → Extends (ended out u outcome) fin → Extends out fin
Extends-ended out u outcome fin live f n shut = elim (cases_Bool (eqb n u)) [
  | inl same ↦ absurd (false≢true (sym shut ∙ (ap (λ k. is_open (out k)) (eqb-true n u same) ∙ live)))
  | inr other ↦ rw other at (f n (rw other shut))
]

-- what a unit that does not hold the cell leaves there, whether it is kept or not
unheld : {o : OpeningState} {es : List Entry} {out : Outcomes} → IsIsolated o es out → (x : Cell) →
    recovers o x ≡ true → (u : ℕ) → is_open (out u) ≡ true → used es u x Reading ≡ false →
    used es u x Writing ≡ false → (fin : Outcomes) → Extends out fin →
    content (store_by o fin es) x ≡ content (store_by o (ended fin u BackedOut) es) x
unheld {o} {es} {out} i x r u live a b fin f =
    same_content i x r fin (ended fin u BackedOut) f (Extends-more out fin u live f) (apart Reading a)
    (apart Writing b)
  where
    apart : (end : End) → used es u x end ≡ false → Alike es x end fin (ended fin u BackedOut)
    apart end h n t = elim (cases_Bool (eqb n u)) [
      | inl same ↦ absurd (true≢false (sym t ∙ (ap (λ k. used es k x end) (eqb-true n u same) ∙ h)))
      | inr other ↦ rw other refl
    ]

-- a command on a plain, recoverable cell uses both its ends
plain_uses : (o : OpeningState) (op : Op) (end : End) → is_plain o (cell_of op) ≡ true →
    is_recoverable o op ≡ true → uses op end ≡ true
plain_uses o (TdWrite q r) end h t = absurd (false≢true (ap not (sym t) ∙ h))
plain_uses o (TdRead q) end h t = absurd (false≢true (ap not (sym t) ∙ h))
plain_uses o (TdDelete q) end h t = absurd (false≢true (ap not (sym t) ∙ h))
plain_uses o _ end h t = refl

touches-plain : (o : OpeningState) (op : Op) (x : Cell) → touches op x ≡ true →
    is_plain o (cell_of op) ≡ is_plain o x
touches-plain o (DeleteGeneric f p) (Key g l) y = refl
touches-plain o (DeleteGeneric f p) (Ts q) y = absurd (false≢true y)
touches-plain o (DeleteGeneric f p) (Td q) y = absurd (false≢true y)
touches-plain o op x y = ap (is_plain o) (touched-is op refl x y)

effect-still : (op : Op) (c : Content) → changes op c ≡ false → (effect op c).cell ≡ c
effect-still (ReadUpdate f k) None e = refl
effect-still (ReadUpdate f k) (Some []) e = refl
effect-still (ReadUpdate f k) (Some (x ∷ c)) e = refl
effect-still op c e = effect-refused op c e

-- a command that changes a cell is answered NORMAL
changes-normal : (op : Op) (s : Store) (x : Cell) → touches op x ≡ true → changes op (content s x) ≡ true →
    is_normal (apply s op).answer.condition ≡ true
changes-normal (ReadUpdate f k) s x y t = absurd (false≢true t)
changes-normal (DeleteGeneric f p) s (Key g l) y t =
    let both = and_parts (is_same f g) (has_prefix p l) y in
    normal-generic s f p (value_at f s.files) l both.1
    (subst (λ z. changes (DeleteGeneric f p) (content s (Key z l)) ≡ true) (sym (is_same-eq f g both.0)) t)
changes-normal (DeleteGeneric f p) s (Ts q) y t = absurd (false≢true y)
changes-normal (DeleteGeneric f p) s (Td q) y t = absurd (false≢true y)
changes-normal op s x y t =
    ap (λ a. is_normal a.condition) (apply-answer s op refl)
    ∙ subst (λ z. changes op (content s z) ≡ true) (sym (touched-is op refl x y)) t

used-other : (es : List Entry) (e : Entry) (u : ℕ) (x : Cell) (end : End) → eqb e.unit u ≡ false →
    used es u x end ≡ false → used (es ++ e ∷ []) u x end ≡ false
used-other es e u x end n h =
    list_any-append (λ d. claims x end d && eqb d.unit u) es (e ∷ [])
    ∙ or_from _ _ h (or_from _ _ (and_right (claims x end e) (eqb e.unit u) n) refl)

used-less : (es : List Entry) (e : Entry) (u : ℕ) (x : Cell) (end : End) →
    used (es ++ e ∷ []) u x end ≡ false → used es u x end ≡ false
used-less es e u x end h =
    false_from_ne_true (used es u x end) (λ t. true≢false (sym (used-more es e u x end t) ∙ h))

module _ {o : OpeningState} {es : List Entry} {out : Outcomes} {p : Place} (i : IsIsolated o es out)
    (h : IsUndoable o es out p) (v : ℕ) (op : Op) (may : MayRun o es out v op) (new : List Image)
    (are : AreImages op p.cells new) where
  abbrev entry : Entry
  entry = record { unit = v; op = op; answer = (apply (store_by o out es) op).answer }

  abbrev longer : List Entry
  longer = es ++ entry ∷ []

  stays_kept : (fin : Outcomes) → is_backed_out (fin v) ≡ false → stays o fin entry ≡ true
  stays_kept fin k = ap not (and_right (is_recoverable o op) (is_backed_out (fin v)) k)

  stays_gone : (fin : Outcomes) → is_recoverable o op ≡ true → stays o (ended fin v BackedOut) entry ≡ false
  stays_gone fin r = rw (r, eq-eqb v v refl) refl

  both_ends : (x : Cell) → touches op x ≡ true → is_plain o x ≡ true → recovers o x ≡ true → (end : End) →
      IsFree es out v x end
  both_ends x y plain r Reading =
      let rec = touches-recovers o op x y ∙ r in
      may.reading rec (plain_uses o op Reading (touches-plain o op x y ∙ plain) rec) x y
  both_ends x y plain r Writing =
      let rec = touches-recovers o op x y ∙ r in
      may.writing rec (plain_uses o op Writing (touches-plain o op x y ∙ plain) rec) x y

  -- what the unit itself finds in the cell, in every ending that keeps it
  own_content : (x : Cell) → touches op x ≡ true → is_plain o x ≡ true → recovers o x ≡ true →
      (fin : Outcomes) → Extends out fin → is_backed_out (fin v) ≡ false →
      content (store_by o fin es) x ≡ p.cells x
  own_content x y plain r fin f stay =
      let alike : is_backed_out (fin v) ≡ is_backed_out (out v) = stay ∙ sym (open_kept (out v) may.is_live) in
      let self : Extends out out = Extends-refl out in
      same_content i x r fin out f self
      (alike_if_alone es out v x Reading (both_ends x y plain r Reading) fin out f self alike)
      (alike_if_alone es out v x Writing (both_ends x y plain r Writing) fin out f self alike)
      ∙ sym (h.in_place x plain)

  abbrev LeadsMore : Cell → ℕ → Outcomes → Type 0
  LeadsMore x u fin =
      Leads ((put o p v op new).images u) x (content (store_by o fin longer) x)
      (content (store_by o (ended fin u BackedOut) longer) x)

  quiet : (x : Cell) → (touches op x && changes op (p.cells x)) ≡ false → names x new ≡ false
  quiet x n = MatchBool-at_false _ _ n (are x)

  leads_other : (x : Cell) → touches op x ≡ false → is_plain o x ≡ true → recovers o x ≡ true → (u : ℕ) →
      is_open (out u) ≡ true → (fin : Outcomes) → Extends out fin → is_backed_out (fin u) ≡ false →
      LeadsMore x u fin
  leads_other x n plain r u on fin f stay =
      rw (content-push_other o fin es entry x n, content-push_other o (ended fin u BackedOut) es entry x n)
      (cond_both (eqb u v && is_recoverable o op) (new ++ p.images u) (p.images u)
      (λ l. Leads l x (content (store_by o fin es) x) (content (store_by o (ended fin u BackedOut) es) x))
      (λ t. Leads-past new (p.images u) x _ _ (quiet x (and_left (touches op x) (changes op (p.cells x)) n))
      (h.leads x plain r u on fin f stay))
      (λ t. h.leads x plain r u on fin f stay))

  -- the unit's own images: one more, or the cell is as it was
  leads_mine : (x : Cell) → touches op x ≡ true → is_plain o x ≡ true → recovers o x ≡ true →
      (fin : Outcomes) → Extends out fin → is_backed_out (fin v) ≡ false → LeadsMore x v fin
  leads_mine x y plain r fin f k =
      let rec : is_recoverable o op ≡ true = touches-recovers o op x y ∙ r in
      let to = content (store_by o (ended fin v BackedOut) es) x in
      let before : Leads (p.images v) x (p.cells x) to =
      subst (λ c. Leads (p.images v) x c to) (own_content x y plain r fin f k)
      (h.leads x plain r v may.is_live fin f k) in
      let kept_cell : content (store_by o fin longer) x ≡ (effect op (p.cells x)).cell =
      content-push o fin es entry x y
      ∙ rw (stays_kept fin k) (ap (λ c. (effect op c).cell) (own_content x y plain r fin f k)) in
      let gone_cell : content (store_by o (ended fin v BackedOut) longer) x ≡ to =
      content-push o (ended fin v BackedOut) es entry x y ∙ rw (stays_gone fin rec) refl in
      rw (kept_cell, gone_cell, eq-eqb v v refl, rec)
      (elim (cases_Bool (changes op (p.cells x))) [
        | inl t ↦ MatchBool-at_true _ _ (and_from _ _ y t) (are x) (p.images v) to before
        | inr n ↦
            rw (effect-still op (p.cells x) n)
            (Leads-past new (p.images v) x (p.cells x) to
            (quiet x (and_right (touches op x) (changes op (p.cells x)) n)) before)
      ])

  not_used : (x : Cell) → touches op x ≡ true → is_plain o x ≡ true → recovers o x ≡ true → (u : ℕ) →
      is_open (out u) ≡ true → eqb u v ≡ false → (end : End) → used es u x end ≡ false
  not_used x y plain r u on other end =
      false_from_ne_true (used es u x end) (λ t. elim (both_ends x y plain r end u t) [
        | inl same ↦ false≢true (sym other ∙ eq-eqb u v same)
        | inr shut ↦ true≢false (sym on ∙ shut)
      ])

  -- another open unit does not hold the cell, so it has no image there
  leads_theirs : (x : Cell) → touches op x ≡ true → is_plain o x ≡ true → recovers o x ≡ true → (u : ℕ) →
      is_open (out u) ≡ true → eqb u v ≡ false → (fin : Outcomes) → Extends out fin → LeadsMore x u fin
  leads_theirs x y plain r u on other fin f =
      let mine : eqb v u ≡ false =
      false_from_ne_true (eqb v u) (λ t. false≢true (sym other ∙ eq-eqb u v (sym (eqb-true v u t)))) in
      let free_of : (end : End) →
      used longer u x end ≡ false =
      λ end. used-other es entry u x end mine (not_used x y plain r u on other end) in
      rw other (Leads-none (p.images u) x _ _
      (h.named x u (and_right (recovers o x) (used es u x Writing) (not_used x y plain r u on other Writing)))
      (unheld (executes i v op may) x r u on (free_of Reading) (free_of Writing) fin f))

  leads_own : (x : Cell) → touches op x ≡ true → is_plain o x ≡ true → recovers o x ≡ true → (u : ℕ) →
      is_open (out u) ≡ true → (fin : Outcomes) → Extends out fin → is_backed_out (fin u) ≡ false →
      LeadsMore x u fin
  leads_own x y plain r u on fin f stay = elim (cases_Bool (eqb u v)) [
    | inl same ↦
        subst (λ n. is_backed_out (fin n) ≡ false → LeadsMore x n fin) (sym (eqb-true u v same))
        (leads_mine x y plain r fin f) stay
    | inr other ↦ leads_theirs x y plain r u on other fin f
  ]

  in_place_more : (x : Cell) → is_plain o x ≡ true →
      (put o p v op new).cells x ≡ content (store_by o out longer) x
  in_place_more x plain = elim (cases_Bool (touches op x)) [
    | inl y ↦
        rw y
        (ap (λ c. (effect op c).cell) (h.in_place x plain)
        ∙ sym (content-push o out es entry x y ∙ rw (stays_kept out (open_kept (out v) may.is_live)) refl))
    | inr n ↦ rw n (h.in_place x plain ∙ sym (content-push_other o out es entry x n))
  ]

  named_before : (x : Cell) (u : ℕ) → (recovers o x && used longer u x Writing) ≡ false →
      names x (p.images u) ≡ false
  named_before x u n = h.named x u (elim (and_cases (recovers o x) (used longer u x Writing) n) [
    | inl r ↦ and_left (recovers o x) (used es u x Writing) r
    | inr t ↦ and_right (recovers o x) (used es u x Writing) (used-less es entry u x Writing t)
  ])

  named_more : is_plain o (cell_of op) ≡ true → (x : Cell) (u : ℕ) →
      (recovers o x && used longer u x Writing) ≡ false → names x ((put o p v op new).images u) ≡ false
  named_more plain x u n =
      cond_both (eqb u v && is_recoverable o op) (new ++ p.images u) (p.images u) (λ l. names x l ≡ false)
      (λ t.
      let b = and_parts (eqb u v) (is_recoverable o op) t in
      let apart : (touches op x && changes op (p.cells x)) ≡ false = false_from_ne_true _ (λ z.
      let c = and_parts (touches op x) (changes op (p.cells x)) z in
      let on : recovers o x ≡ true = sym (touches-recovers o op x c.0) ∙ b.1 in
      let there : p.cells x ≡ content (store_by o out es) x =
      h.in_place x (sym (touches-plain o op x c.0) ∙ plain) in
      let normal : is_normal entry.answer.condition ≡ true =
      changes-normal op (store_by o out es) x c.0 (ap (changes op) (sym there) ∙ c.1) in
      let last : used longer v x Writing ≡ true =
      used-last es entry x Writing
      (and_from _ _ c.0 (and_from _ _ normal (plain_uses o op Writing plain b.1))) in
      let held : used longer u x Writing ≡ true = ap (λ k. used longer k x Writing) (eqb-true u v b.0) ∙ last in
      false≢true (sym n ∙ and_from _ _ on held)) in
      names-append x new (p.images u) (quiet x apart) (named_before x u n))
      (λ t. named_before x u n)

  bare_more : is_plain o (cell_of op) ≡ true → (x : Cell) (u : ℕ) → is_plain o x ≡ false →
      names x ((put o p v op new).images u) ≡ false
  bare_more plain x u two =
      let apart : touches op x ≡ false =
      false_from_ne_true (touches op x) (λ y. false≢true (sym two ∙ (sym (touches-plain o op x y) ∙ plain))) in
      cond_both (eqb u v && is_recoverable o op) (new ++ p.images u) (p.images u) (λ l. names x l ≡ false)
      (λ t. names-append x new (p.images u) (quiet x (and_left (touches op x) (changes op (p.cells x)) apart))
      (h.bare x u two)) (λ t. h.bare x u two)

  pub puts : is_plain o (cell_of op) ≡ true → IsUndoable o longer out (put o p v op new)
  puts plain = record {
    in_place = in_place_more;
    leads = λ x plain r u on fin f stay. elim (cases_Bool (touches op x)) [
      | inl y ↦ leads_own x y plain r u on fin f stay
      | inr n ↦ leads_other x n plain r u on fin f stay
    ];
    named = named_more plain;
    bare = bare_more plain;
  }

  -- a command on a queue with two ends leaves the other cells
  pub passes : is_plain o (cell_of op) ≡ false → IsUndoable o longer out p
  passes two = record {
    in_place = λ x plain. h.in_place x plain ∙ sym (content-push_other o out es entry x (elsewhere x plain));
    leads =
        λ x plain r u on fin f stay. rw (
          content-push_other o fin es entry x (elsewhere x plain),
          content-push_other o (ended fin u BackedOut) es entry x (elsewhere x plain),
        )
        (h.leads x plain r u on fin f stay);
    named = named_before;
    bare = h.bare;
  }
    where
      elsewhere : (x : Cell) → is_plain o x ≡ true → touches op x ≡ false
      elsewhere x plain =
          false_from_ne_true (touches op x) (λ y. false≢true (sym two ∙ (touches-plain o op x y ∙ plain)))
