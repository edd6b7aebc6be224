-- What is kept by turn, by task and by cell, read back.
use Rattle.std.proofs.Common.{◌≡◌, ℕ, Bool, true, false, cond, ◌&&◌, ◌||◌, ◌==◌, List, [], ◌∷◌, ◌++◌, Option, Some, reverse, ap, sym, ◌∙◌, refl, arith}
use Rattle.std.specs.Prelude.{option_map, unwrap_or}
use Rattle.std.specs.declared.cmp.Ordering.{Ordering}
use Rattle.std.specs.declared.cmp.Ordering.TheVariants.{Less, Equal, Greater}
use Rattle.std.specs.Ordering.{is_eq, match_ordering, nat_cmp, ordering_then, ordering_reverse}
use Rattle.std.specs.Cmp.{IsTotalOrder, Equal-is}
use Rattle.std.specs.Cmp.Lexicographic.{nat_list_cmp_total}
use Rattle.std.proofs.lemmas.Cmp.{nat_cmp_total, then_total, on_total}
use Rattle.std.proofs.lemmas.Bool.Decides.{nat_tests}
use Rattle.std.proofs.lemmas.Grind.{common_steps}
use Rattle.std.specs.FinMap.Entries.{by_order, find-put}
use Rattle.std.specs.FinMap as map_by
use Rattle.std.specs.List.{find, fold, list_any}
use Rattle.std.specs.Map.{lookup, keys_of}
use Rattle.std.specs.BTreeSet.{insert_key}
use Rattle.std.specs.BTreeMap.{is_at, insert_entry}
use Rattle.cics_names.specs.Keyed.{Bytes, bytes_cmp, is_same}
use Rattle.cics_run.specs.declared.reads.steps.Cell.{Cell}
use Rattle.cics_run.specs.declared.reads.steps.Cell.TheVariants.{Record, Item}
use Rattle.cics_run.specs.contracts.reads.steps.CellOrd.TheImpl as CellOrd
use Rattle.cics_run.specs.declared.reads.past.Mark.{Mark}
use Rattle.cics_run.specs.Reads.Steps.{same_cell, changes, cells_of}
use Rattle.cics_run.specs.Reads.Runs.{Run, is_in, is_by, last_in, stands, last}
use Rattle.cics_run.specs.Reads.Past.{latest_of, mark_of, turns_of, tasks_of, cell_cmp, marks_at, put_mark, marks_of, is_standing, cells}

-- ---- Entries of an ordered map
module _ {K X : Type 0} (R : K → K → Ordering) where
  lookup-find : (q : K) (es : List (K × X)) → lookup (is_at (R q)) es ≡ map_by.find R q es
  lookup-find q [] = refl
  lookup-find q (e ∷ es) = ap (cond (is_eq (R q e.0)) (Some e.1)) (lookup-find q es)

  insert-put : (k : K) (x : X) (es : List (K × X)) → insert_entry R es k x ≡ map_by.put R k x es
  insert-put k x [] = refl
  insert-put k x (e ∷ es) =
      elim (R k e.0) as (λ o. match_ordering o ((k, x) ∷ e ∷ es) ((e.0, x) ∷ es) (e ∷ insert_entry R es k x) ≡ by_order o ((k, x) ∷ e ∷ es) ((e.0, x) ∷ es) (e ∷ map_by.put R k x es)) [
        | Less ↦ refl
        | Equal ↦ refl
        | Greater ↦ ap (λ r. e ∷ r) (insert-put k x es)
      ]

  -- what a key has after one was put in
  pub lookup-inserted : IsTotalOrder R → (q k : K) (x : X) (es : List (K × X)) → lookup (is_at (R q)) (insert_entry R es k x) ≡ cond (is_eq (R q k)) (Some x) (lookup (is_at (R q)) es)
  lookup-inserted total q k x es =
      ap (lookup (is_at (R q))) (insert-put k x es) ∙ lookup-find q (map_by.put R k x es) ∙ find-put R total q k x es
      ∙ ap (cond (is_eq (R q k)) (Some x)) (sym (lookup-find q es))

-- ---- The last step of a turn and of a task

-- a value that is chosen and then changed
pub map-cond : {A B : Type 0} (f : A → B) (b : Bool) (x : A) (o : Option A) → cond b (Some (f x)) (option_map f o) ≡ option_map f (cond b (Some x) o)
map-cond f true x o = refl
map-cond f false x o = refl

same_number : (a b : ℕ) → is_eq (nat_cmp a b) ≡ (b == a)
same_number a b = grind (arith, nat_tests)

pub turn_known : (t : ℕ) (run : Run) → lookup (is_at (nat_cmp t)) (turns_of run) ≡ option_map latest_of (last_in t run)
turn_known t [] = refl
turn_known t (s ∷ run) =
    lookup-inserted nat_cmp nat_cmp_total t s.moment.turn (latest_of s) (turns_of run)
    ∙ ap (λ b. cond b (Some (latest_of s)) (lookup (is_at (nat_cmp t)) (turns_of run))) (same_number t s.moment.turn)
    ∙ ap (cond (is_in t s) (Some (latest_of s))) (turn_known t run) ∙ map-cond latest_of (is_in t s) s (last_in t run)

pub task_known : (task : Bytes) (run : Run) → lookup (is_at (bytes_cmp task)) (tasks_of run) ≡ option_map latest_of (find (is_by task) run)
task_known task [] = refl
task_known task (s ∷ run) =
    lookup-inserted bytes_cmp nat_list_cmp_total task s.moment.task (latest_of s) (tasks_of run)
    ∙ ap (cond (is_by task s) (Some (latest_of s))) (task_known task run) ∙ map-cond latest_of (is_by task s) s (find (is_by task) run)

-- ---- Cells are ordered totally
records : IsTotalOrder (λ (p q : Bytes × Bytes). ordering_then (bytes_cmp p.0 q.0) (bytes_cmp p.1 q.1))
records = then_total (on_total (λ p. p.0) nat_list_cmp_total) (on_total (λ p. p.1) nat_list_cmp_total)

items : IsTotalOrder (λ (p q : Bytes × ℕ). ordering_then (bytes_cmp p.0 q.0) (nat_cmp p.1 q.1))
items = then_total (on_total (λ p. p.0) nat_list_cmp_total) (on_total (λ p. p.1) nat_cmp_total)

turned : (x y : Cell) → cell_cmp x y ≡ ordering_reverse (cell_cmp y x)
turned (Record f k) (Record g l) = records.antisymm (f, k) (g, l)
turned (Record f k) (Item q n) = refl
turned (Item q n) (Record f k) = refl
turned (Item q n) (Item p m) = items.antisymm (q, n) (p, m)

rising : (x y z : Cell) → cell_cmp x y ≡ Less → cell_cmp y z ≡ Less → cell_cmp x z ≡ Less
rising (Record f k) (Record g l) (Record h m) a b = records.trans (f, k) (g, l) (h, m) a b
rising (Record f k) (Record g l) (Item q n) a b = refl
rising (Record f k) (Item q n) (Record h m) a b = cc
rising (Record f k) (Item q n) (Item p m) a b = refl
rising (Item q n) (Record g l) z a b = cc
rising (Item q n) (Item p m) (Record g l) a b = cc
rising (Item q n) (Item p m) (Item r o) a b = items.trans (q, n) (p, m) (r, o) a b

tied : (x y z : Cell) → cell_cmp x y ≡ Equal → cell_cmp x z ≡ cell_cmp y z
tied (Record f k) (Record g l) (Record h m) a = records.congr (f, k) (g, l) (h, m) a
tied (Record f k) (Record g l) (Item q n) a = refl
tied (Record f k) (Item q n) z a = cc
tied (Item q n) (Record g l) z a = cc
tied (Item q n) (Item p m) (Record g l) a = refl
tied (Item q n) (Item p m) (Item r o) a = items.congr (q, n) (p, m) (r, o) a

-- the program's order is this one
ordered : (x y : Cell) → CellOrd.ghosts.cmp x y ≡ cell_cmp x y
ordered (Record f k) (Record g l) = refl
ordered (Record f k) (Item q n) = refl
ordered (Item q n) (Record g l) = refl
ordered (Item q n) (Item p m) = refl

pub cells_ordered : CellOrd.ghosts.cmp ≡ cell_cmp
cells_ordered = λ i x y. ordered x y i

pub cells_total : IsTotalOrder cell_cmp
cells_total = record { antisymm = turned; trans = rising; congr = tied }

pub both : (a b : Ordering) → is_eq (ordering_then a b) ≡ (is_eq a && is_eq b)
both Less b = refl
both Equal b = refl
both Greater b = refl

-- two cells are the same exactly if they tie
pub same-tie : (x y : Cell) → is_eq (cell_cmp x y) ≡ same_cell x y
same-tie (Record f k) (Record g l) = both (bytes_cmp f g) (bytes_cmp k l)
same-tie (Record f k) (Item q n) = refl
same-tie (Item q n) (Record g l) = refl
same-tie (Item q n) (Item p m) = both (bytes_cmp q p) (nat_cmp n m) ∙ ap (λ b. is_same q p && b) (grind (arith, nat_tests))

-- ---- The last change of a cell

-- the last of some elements that passes a test, with one more
newest : {X : Type 0} (p : X → Bool) (ks : List X) (k : X) → find p (reverse (ks ++ k ∷ [])) ≡ cond (p k) (Some k) (find p (reverse ks))
newest p ks k = grind (arith, common_steps)

-- what is chosen twice
pub join : {A : Type 0} (a b c : Bool) (k o : A) → cond (b && c) k (cond (a && c) k o) ≡ cond ((a || b) && c) k o
join true true true k o = refl
join true true false k o = refl
join true false true k o = refl
join true false false k o = refl
join false b c k o = refl

-- a list by its key, with one more element at a key
module _ {K X : Type 0} (R : K → K → Ordering) (total : IsTotalOrder R) (p : X → Bool) (q : K) where
  abbrev pub list_at : K → List (K × List X) → List X
  list_at x m = unwrap_or (lookup (is_at (R x)) m) []

  same_list : (m : List (K × List X)) (x : K) → is_eq (R q x) ≡ true → list_at x m ≡ list_at q m
  same_list m x e = sym (λ i. unwrap_or (lookup (λ z. is_eq (total.congr q x z ((Equal-is _).0 e) i)) m) [])

  chosen : (k : X) (m : List (K × List X)) (x : K) (b : Bool) → is_eq (R q x) ≡ b
      → find p (reverse (unwrap_or (cond b (Some (list_at x m ++ k ∷ [])) (lookup (is_at (R q)) m)) [])) ≡ cond (b && p k) (Some k) (find p (reverse (list_at q m)))
  chosen k m x true e = ap (λ (l : List X). find p (reverse (l ++ k ∷ []))) (same_list m x e) ∙ newest p (list_at q m) k
  chosen k m x false e = refl

  pub newest_put : (k : X) (m : List (K × List X)) (x : K) → find p (reverse (list_at q (insert_entry R m x (list_at x m ++ k ∷ [])))) ≡ cond (is_eq (R q x) && p k) (Some k) (find p (reverse (list_at q m)))
  newest_put k m x =
      ap (λ (o : Option (List X)). find p (reverse (unwrap_or o []))) (lookup-inserted R total q x (list_at x m ++ k ∷ []) m)
      ∙ chosen k m x (is_eq (R q x)) refl

module _ (p : Mark → Bool) (q : Cell) where
  at_all : (k : Mark) (xs : List Cell) (m : List (Cell × List Mark)) → find p (reverse (marks_at q (fold (put_mark k) m xs))) ≡ cond (list_any (same_cell q) xs && p k) (Some k) (find p (reverse (marks_at q m)))
  at_all k [] m = refl
  at_all k (x ∷ xs) m =
      at_all k xs (put_mark k m x)
      ∙ ap (cond (list_any (same_cell q) xs && p k) (Some k)) (newest_put cell_cmp cells_total p q k m x ∙ ap (λ b. cond (b && p k) (Some k) (find p (reverse (marks_at q m)))) (same-tie q x))
      ∙ join (same_cell q x) (list_any (same_cell q) xs) (p k) (Some k) (find p (reverse (marks_at q m)))

-- the last change of a cell that stands
pub newest_known : (now : Run) (q : Cell) (run : Run) → find (is_standing now) (reverse (marks_at q (marks_of run))) ≡ option_map mark_of (find (λ c. changes c q && stands now c) run)
newest_known now q [] = refl
newest_known now q (s ∷ run) =
    at_all (is_standing now) q (mark_of s) (cells_of s) (marks_of run)
    ∙ ap (cond (changes s q && stands now s) (Some (mark_of s))) (newest_known now q run)
    ∙ map-cond mark_of (changes s q && stands now s) s (find (λ c. changes c q && stands now c) run)

-- what a look-up among what is kept leads to
pub last_known : (now : Run) (q : Cell) (o : Option (List Mark)) (es : List (Cell × List Mark)) {run : Run} → o ≡ lookup (is_at (CellOrd.ghosts.cmp q)) es → es ≡ marks_of run → run ≡ now
    → find (is_standing now) (reverse (unwrap_or o [])) ≡ option_map mark_of (last q now)
last_known now q o es found kept same =
    ap (λ (o : Option (List Mark)). find (is_standing now) (reverse (unwrap_or o []))) (found ∙ (λ i. lookup (is_at (cells_ordered i q)) ((kept ∙ ap marks_of same) i)))
    ∙ newest_known now q now

-- ---- The cells that were changed
keys-inserted : {K X : Type 0} (R : K → K → Ordering) (k : K) (v : X) (es : List (K × X)) → keys_of (insert_entry R es k v) ≡ insert_key R (keys_of es) k
keys-inserted R k v [] = refl
keys-inserted R k v (e ∷ es) =
    elim (R k e.0) as (λ o. keys_of (match_ordering o ((k, v) ∷ e ∷ es) ((e.0, v) ∷ es) (e ∷ insert_entry R es k v)) ≡ match_ordering o (k ∷ e.0 ∷ keys_of es) (e.0 ∷ keys_of es) (e.0 ∷ insert_key R (keys_of es) k)) [
      | Less ↦ refl
      | Equal ↦ refl
      | Greater ↦ ap (λ l. e.0 ∷ l) (keys-inserted R k v es)
    ]

keys-put : (k : Mark) (xs : List Cell) (m : List (Cell × List Mark)) → keys_of (fold (put_mark k) m xs) ≡ fold (insert_key cell_cmp) (keys_of m) xs
keys-put k [] m = refl
keys-put k (x ∷ xs) m = keys-put k xs (put_mark k m x) ∙ ap (λ l. fold (insert_key cell_cmp) l xs) (keys-inserted cell_cmp x (marks_at x m ++ k ∷ []) m)

pub cells_known : (run : Run) → keys_of (marks_of run) ≡ cells run
cells_known [] = refl
cells_known (s ∷ run) = keys-put (mark_of s) (cells_of s) (marks_of run) ∙ ap (λ l. fold (insert_key cell_cmp) l (cells_of s)) (cells_known run)
