-- Regions that look alike have the same future: what an open unit did can be done last. So each
-- ending is what stands without open units, and then what those units did that it keeps.
use Rattle.std.proofs.Common.{◌≡◌, ℕ, zero, suc, Bool, true, false, not, ◌||◌, Option, Some, None, List, [], ◌∷◌, inl, inr, refl, ap, sym, ◌∙◌, arith}
use Rattle.std.specs.Prelude.{if◌then◌else◌, map, slice_get}
use Rattle.std.specs.List.{list_any}
use Rattle.std.proofs.lemmas.Bool.{cases_Bool, eq-eqb}
use Rattle.std.proofs.Math.Bool.{or-true}
use Rattle.cics_names.specs.Keyed.{Bytes, is_same}
use Rattle.cics_names.specs.KeyedLaws.{is_same-self, is_same-eq}
use Rattle.cics_history.specs.State.{Store, initial_store}
use Rattle.cics_history.specs.Store.{apply}
use Rattle.cics_history.specs.Headline.{outcome_of, replay}
use Rattle.cics_history.specs.Cells.{Cell, Content, content, recovers}
use Rattle.cics_history.specs.Isolation.{Outcomes, left_by, store_by}
use Rattle.cics_history.specs.Serial.{done_by}
use Rattle.cics_history.specs.declared.ops.Op.{Op}
use Rattle.cics_history.specs.declared.ops.Entry.{Entry}
use Rattle.cics_history.proofs.Executes.{open_kept}
use Rattle.cics_history.proofs.Isolated.{unrecovered}
use Rattle.cics_history.proofs.Joining.{after_at, apply-content}
use Rattle.cics_history.proofs.SerialLists.{eqb-turned}
use Rattle.cics_history.proofs.Stores.{same_store, replay-canonical}
use Rattle.cics_dispatch.specs.Notes.Notes.{is_unit}
use Rattle.cics_dispatch.specs.Machine.Machine.{Machine, Task, label_of}
use Rattle.cics_dispatch.specs.Machine.Blockers.{unit_of}
use Rattle.cics_dispatch.specs.Future.Futures.{Own, own, own_by, unnumbered, ending, store_if, IsSteady, HaveSameFuture}
use Rattle.cics_dispatch.specs.Future.Compared.{LookAlike}
use Rattle.cics_dispatch.proofs.OfFuture.Labels.{live_open, task_of, told_by, live_at, label_at}
use Rattle.cics_dispatch.proofs.OfFuture.Blocking.{same_if_open}

-- ---- One cell, by the commands on it

-- what a cell holds after these commands
abbrev after_ops : Cell → Content → List Op → Content
after_ops x c [] = c
after_ops x c (op ∷ ops) = after_ops x (after_at op c x) ops

content_after : (x : Cell) (s : Store) (es : List Entry) → content (replay s es) x ≡ after_ops x (content s x) (map (λ e. e.op) es)
content_after x s [] = refl
content_after x s (e ∷ es) = content_after x (apply s e.op).store es ∙ ap (λ c. after_ops x c (map (λ d. d.op) es)) (apply-content s e.op x)

-- ---- One unit after the other

-- all tasks' units are backed out but those of these labels, and of these the ones that are gone
abbrev but : (Bytes → Bool) → List Bytes → Bytes → Bool
but gone kept l = gone l || not (list_any (λ k. is_same l k) kept)

-- a label more that is gone, or that is there before, keeps no unit more
but_same : (gone : Bytes → Bool) (kept : List Bytes) (l : Bytes) → gone l ≡ but gone kept l → but gone (l ∷ kept) ≡ but gone kept
but_same gone kept l same = λ i k. at k i
  where
    at : (k : Bytes) → but gone (l ∷ kept) k ≡ but gone kept k
    at k = grind (arith, is_same-eq k l, same)

module _ (m : Machine) (steady : IsSteady m) (gone : Bytes → Bool) (kept : List Bytes) (l : Bytes) (stays : gone l ≡ false) (new : but gone kept l ≡ true) where
  -- the ending that keeps one unit more
  abbrev kept_too : Option ℕ → Outcomes
  kept_too o = λ u. if is_unit o u then outcome_of m.units.outcomes u else ending m (but gone kept) u

  is_ending : store_if m (but gone (l ∷ kept)) ≡ store_by m.units.opening (kept_too (unit_of m l)) m.units.trace
  is_ending =
      same_if_open m steady (but gone (l ∷ kept)) (kept_too (unit_of m l))
      (λ u begun shut. grind (arith, shut))
      (λ u live. grind (arith, told_by m steady l u live, is_same-eq (label_of m.tasks u) l, stays, live_open m.units u live))

  -- gives what the ending without it gives, and then what the unit did
  one_more : (x : Cell) → recovers m.units.opening x ≡ true →
      content (store_if m (but gone (l ∷ kept))) x ≡ after_ops x (content (store_if m (but gone kept)) x) (own m l).ops
  one_more x rec = ap (λ s. content s x) is_ending ∙ by (unit_of m l) refl
    where
      by : (o : Option ℕ) → unit_of m l ≡ o →
          content (store_by m.units.opening (kept_too o) m.units.trace) x ≡ after_ops x (content (store_if m (but gone kept)) x) (own_by m.units o).ops
      by None has = refl
      by (Some w) has =
          let stands = live_open m.units w (live_at m steady l w has) in
          let here = label_at m steady l w has in
          let last = steady.units.order.last w stands (ending m (but gone kept)) (kept_too (Some w))
          (λ u shut. rw shut refl)
          (λ u shut. grind (arith, shut))
          (record {
            gone = rw (stands, here, new) refl;
            there = rw (eq-eqb w w refl) (open_kept (outcome_of m.units.outcomes w) stands);
            others = λ u other. rw (eqb-turned w u other) refl;
          }) in
          sym (last.cells x rec) ∙ content_after x (store_if m (but gone kept)) (done_by m.units.opening m.units.trace w)

-- ---- The same future

-- the labels of tasks
abbrev labels : List Task → List Bytes
labels ts = map (λ t. t.label) ts

bare-labels : (ts : List Task) → labels ts ≡ labels (map unnumbered ts)
bare-labels [] = refl
bare-labels (t ∷ ts) = ap (λ ls. t.label ∷ ls) (bare-labels ts)

in_labels : (ts : List Task) (i : ℕ) (t : Task) → slice_get ts i ≡ Some t → list_any (λ k. is_same t.label k) (labels ts) ≡ true
in_labels [] i t there = grind arith
in_labels (x ∷ xs) zero t there = grind (arith, is_same-self t.label)
in_labels (x ∷ xs) (suc i) t there = grind (arith, in_labels xs i t there)

-- each ending keeps the units of some tasks
all_labels : (m : Machine) → IsSteady m → (gone : Bytes → Bool) → store_if m gone ≡ store_if m (but gone (labels m.tasks))
all_labels m steady gone =
    same_if_open m steady gone (ending m (but gone (labels m.tasks))) (λ u begun shut. rw shut refl)
    (λ u live.
    let found = task_of m steady u live in
    let there : list_any (λ k. is_same (label_of m.tasks u) k) (labels m.tasks) ≡ true = rw found.label (in_labels m.tasks found.place found.task found.placed) in
    grind (arith, live_open m.units u live, there))

module _ (m n : Machine) (first : IsSteady m) (second : IsSteady n) (look : LookAlike m n) where
  cells_kept : (gone : Bytes → Bool) (kept : List Bytes) (x : Cell) → recovers m.units.opening x ≡ true → content (store_if m (but gone kept)) x ≡ content (store_if n (but gone kept)) x
  cells_kept gone [] x rec = ap (λ k. content (store_if m k) x) all ∙ (ap (λ s. content s x) look.committed ∙ sym (ap (λ k. content (store_if n k) x) all))
    where
      all : but gone [] ≡ (λ l. true)
      all = λ i l. or-true (gone l) i
  cells_kept gone (l ∷ kept) x rec = elim (cases_Bool (gone l)) [
    | inl out ↦ same (cells_kept gone kept x rec) (out ∙ sym (ap (λ b. b || not (list_any (λ k. is_same l k) kept)) out))
    | inr stays ↦ elim (cases_Bool (but gone kept l)) [
      | inr there ↦ same (cells_kept gone kept x rec) (stays ∙ sym there)
      | inl new ↦
          one_more m first gone kept l stays new x rec
          ∙ (ap (λ c. after_ops x c (own m l).ops) (cells_kept gone kept x rec)
          ∙ (ap (λ (y : Own). after_ops x (content (store_if n (but gone kept)) x) y.ops) (look.own l)
          ∙ sym (one_more n second gone kept l stays new x (ap (λ o. recovers o x) (sym look.opening) ∙ rec))))
    ]
  ]
    where
      same : content (store_if m (but gone kept)) x ≡ content (store_if n (but gone kept)) x → gone l ≡ but gone kept l →
          content (store_if m (but gone (l ∷ kept))) x ≡ content (store_if n (but gone (l ∷ kept))) x
      same before e =
          ap (λ k. content (store_if m k) x) (but_same gone kept l e) ∙ (before ∙ sym (ap (λ k. content (store_if n k) x) (but_same gone kept l e)))

  cells_alike : (gone : Bytes → Bool) (x : Cell) → content (store_if m gone) x ≡ content (store_if n gone) x
  cells_alike gone x = elim (cases_Bool (recovers m.units.opening x)) [
    | inl rec ↦
        ap (λ s. content s x) (all_labels m first gone)
        ∙ (cells_kept gone (labels m.tasks) x rec
        ∙ (ap (λ ls. content (store_if n (but gone ls)) x) (bare-labels m.tasks ∙ (ap labels look.tasks ∙ sym (bare-labels n.tasks)))
        ∙ sym (ap (λ s. content s x) (all_labels n second gone))))
    | inr un ↦
        unrecovered m.units.opening x un (ending m gone) (ending m (λ l. true)) m.units.trace
        ∙ (ap (λ s. content s x) look.committed
        ∙ unrecovered n.units.opening x (ap (λ o. recovers o x) (sym look.opening) ∙ un) (ending n (λ l. true)) (ending n gone) n.units.trace)
  ]

  pub looks_same : HaveSameFuture m n
  looks_same = record {
    first = first;
    second = second;
    alike = record {
      opening = look.opening;
      tasks = look.tasks;
      own = look.own;
      stores = λ gone.
          same_store (store_if m gone) (store_if n gone)
          (replay-canonical (initial_store m.units.opening) (left_by m.units.opening (ending m gone) m.units.trace) first.units.canonical)
          (replay-canonical (initial_store n.units.opening) (left_by n.units.opening (ending n gone) n.units.trace) second.units.canonical)
          (cells_alike gone);
      next = look.next;
      waiting = look.waiting;
      clock = look.clock;
      down = look.down;
    };
  }
