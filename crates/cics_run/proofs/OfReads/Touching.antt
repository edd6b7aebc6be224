-- The last step of a task at a cell, by what is kept of the task's steps.
use Rattle.std.proofs.Common.{◌≡◌, ◌<◌, ℕ, Bool, true, false, cond, not, ◌&&◌, ◌||◌, List, [], ◌∷◌, ◌++◌, Option, Some, None, suc, length, reverse, ap, sym, subst, append-nil, ◌∙◌, refl, arith}
use Rattle.std.specs.Prelude.{option_map, is_none, slice_get, if◌then◌else◌}
use Rattle.std.specs.declared.cmp.Ordering.{Ordering}
use Rattle.std.specs.declared.cmp.Ordering.TheVariants.{Less, Equal, Greater}
use Rattle.std.specs.Ordering.{is_eq, is_lt, ordering_reverse, ordering_then}
use Rattle.std.specs.Cmp.{IsTotalOrder, Equal-is}
use Rattle.std.specs.Cmp.Lexicographic.{nat_list_cmp_total}
use Rattle.std.proofs.lemmas.Cmp.{then_total, on_total}
use Rattle.std.proofs.lemmas.Grind.{common_steps}
use Rattle.std.specs.List.{find, fold, list_any, AllByRecursion}
use Rattle.std.specs.Option.{option_to_list}
use Rattle.std.specs.Map.{lookup}
use Rattle.std.specs.BTreeMap.{is_at, insert_entry}
use Rattle.cics_names.specs.Keyed.{Bytes, bytes_cmp, is_same}
use Rattle.cics_run.specs.declared.reads.steps.Act.{Act}
use Rattle.cics_run.specs.declared.reads.steps.Act.TheVariants.{Look, LookForUpdate, Change, End}
use Rattle.cics_run.specs.declared.reads.steps.Bound.{Bound}
use Rattle.cics_run.specs.declared.reads.steps.Bound.TheVariants.{In, Out}
use Rattle.cics_run.specs.declared.reads.steps.Cell.{Cell}
use Rattle.cics_run.specs.declared.reads.steps.Cell.TheVariants.{Record, Item}
use Rattle.cics_run.specs.declared.reads.steps.Spot.{Spot}
use Rattle.cics_run.specs.declared.reads.steps.Spot.TheVariants as spots
use Rattle.cics_run.specs.declared.reads.steps.Step.{Step}
use Rattle.cics_run.specs.declared.reads.past.Touched.{Touched}
use Rattle.cics_run.specs.contracts.reads.past.TouchedOrd.TheImpl as TouchedOrd
use Rattle.cics_run.specs.Reads.Steps.{same_cell, views, covers, looks_at, changes, cells_of, touches, single, altered}
use Rattle.cics_run.specs.Reads.Runs.{Run, is_by, near}
use Rattle.cics_run.specs.Reads.Past.{cell_cmp}
use Rattle.cics_run.specs.Reads.Touches.{touched_cmp, points, put_point, points_of, is_span, numbers_at, put_span, spans_of, there, covering, covers_at, newer, IsNumbered}
use Rattle.cics_run.proofs.OfReads.Keeping.{lookup-inserted, cells_total, cells_ordered, same-tie, both, join, map-cond, newest_put}

-- ---- What is kept of single cells
pub touched_total : IsTotalOrder touched_cmp
touched_total = then_total (on_total (λ t. t.task) nat_list_cmp_total) (on_total (λ t. t.cell) cells_total)

-- the program's order is this one
pub touched_ordered : TouchedOrd.ghosts.cmp ≡ touched_cmp
touched_ordered = λ i a b. ordering_then (bytes_cmp a.task b.task) (cells_ordered i a.cell b.cell)

abbrev number : Step → ℕ
number s = s.moment.at

-- whether a task is at a cell by a step that names it
abbrev is_point : Touched → Step → Bool
is_point t s = is_by t.task s && list_any (same_cell t.cell) (points s)

-- what is chosen twice of what passes a test
twice : {A : Type 0} (a b c : Bool) (k o : A) → cond (c && b) k (cond (c && a) k o) ≡ cond (c && (a || b)) k o
twice true true true k o = refl
twice true false true k o = refl
twice false b true k o = refl
twice a b false k o = refl

none_at : {A : Type 0} (b : Bool) (k o : A) → cond (b && false) k o ≡ o
none_at true k o = refl
none_at false k o = refl

at_points : (t : Touched) (s : Step) (xs : List Cell) (m : List (Touched × ℕ))
    → lookup (is_at (touched_cmp t)) (fold (put_point s.moment) m xs) ≡ cond (is_by t.task s && list_any (same_cell t.cell) xs) (Some s.moment.at) (lookup (is_at (touched_cmp t)) m)
at_points t s [] m = sym (none_at (is_by t.task s) (Some s.moment.at) (lookup (is_at (touched_cmp t)) m))
at_points t s (x ∷ xs) m =
    let k : Touched = record { task = s.moment.task; cell = x } in
    let rest = lookup (is_at (touched_cmp t)) m in
    at_points t s xs (put_point s.moment m x)
    ∙ ap (cond (is_by t.task s && list_any (same_cell t.cell) xs) (Some s.moment.at))
    (lookup-inserted touched_cmp touched_total t k s.moment.at m
    ∙ ap (λ b. cond b (Some s.moment.at) rest) (both (bytes_cmp t.task s.moment.task) (cell_cmp t.cell x) ∙ ap (λ b. is_by t.task s && b) (same-tie t.cell x)))
    ∙ twice (same_cell t.cell x) (list_any (same_cell t.cell) xs) (is_by t.task s) (Some s.moment.at) rest

pub point_known : (t : Touched) (run : Run) → lookup (is_at (touched_cmp t)) (points_of run) ≡ option_map number (find (is_point t) run)
point_known t [] = refl
point_known t (s ∷ run) =
    at_points t s (points s) (points_of run) ∙ ap (cond (is_point t s) (Some s.moment.at)) (point_known t run)
    ∙ map-cond number (is_point t s) s (find (is_point t) run)

-- ---- Steps by their numbers
abbrev pub IsThere : List Step → Step → Type 0
IsThere steps s = slice_get steps s.moment.at ≡ Some s

get_last : (xs zs : List Step) (s : Step) → slice_get (xs ++ s ∷ zs) (length xs) ≡ Some s
get_last [] zs s = refl
get_last (x ∷ xs) zs s = get_last xs zs s

reversed : (s : Step) (run zs : List Step) → reverse (s ∷ run) ++ zs ≡ reverse run ++ s ∷ zs
reversed s run zs = grind (arith, common_steps)

length_reversed : (run : List Step) → length run ≡ length (reverse run)
length_reversed run = grind (arith, common_steps)

are_there : (run zs : List Step) → IsNumbered run → AllByRecursion (IsThere (reverse run ++ zs)) run
are_there [] zs n = tt
are_there (s ∷ run) zs n =
    let same = sym (reversed s run zs) in
    subst (λ l. AllByRecursion (IsThere l) (s ∷ run)) same
    ((ap (slice_get (reverse run ++ s ∷ zs)) (n.0 ∙ length_reversed run) ∙ get_last (reverse run) zs s), are_there run (s ∷ zs) n.1)

pub all_there : (run : Run) → IsNumbered run → AllByRecursion (IsThere (reverse run)) run
all_there run n = subst (λ l. AllByRecursion (IsThere l) run) (append-nil (reverse run)) (are_there run [] n)

-- the step of the number of one that is found
pub step_known : (steps : List Step) (p : Step → Bool) (run : Run) → AllByRecursion (IsThere steps) run → there steps (option_map number (find p run)) ≡ find p run
step_known steps p [] all = refl
step_known steps p (s ∷ run) all =
    elim (p s) as (λ b. there steps (option_map number (cond b (Some s) (find p run))) ≡ cond b (Some s) (find p run)) [
      | true ↦ all.0
      | false ↦ step_known steps p run all.1
    ]

-- ---- Looks at several keys
abbrev is_wide : Touched → Step → Bool
is_wide t s = is_by t.task s && (is_span s.act && looks_at s t.cell)

none_in : (b c : Bool) → (b && (false && c)) ≡ false
none_in true c = refl
none_in false c = refl

module _ (steps : List Step) (t : Touched) where
  abbrev newest_of : List (Bytes × List ℕ) → Option ℕ
  newest_of m = find (covers_at steps t.cell) (reverse (numbers_at t.task m))

  put_known : (s : Step) (m : List (Bytes × List ℕ)) → IsThere steps s → newest_of (put_span s m) ≡ cond (is_wide t s) (Some s.moment.at) (newest_of m)
  put_known s m is =
      elim (is_span s.act) as (λ b. newest_of (if b then insert_entry bytes_cmp m s.moment.task (numbers_at s.moment.task m ++ s.moment.at ∷ []) else m) ≡ cond (is_by t.task s && (b && looks_at s t.cell)) (Some s.moment.at) (newest_of m)) [
        | true ↦ newest_put bytes_cmp nat_list_cmp_total (covers_at steps t.cell) t.task s.moment.at m s.moment.task ∙ ap (λ (o : Option Step). cond (is_by t.task s && covering t.cell o) (Some s.moment.at) (newest_of m)) is
        | false ↦ sym (ap (λ b. cond b (Some s.moment.at) (newest_of m)) (none_in (is_by t.task s) (looks_at s t.cell)))
      ]

  pub span_known : (run : Run) → AllByRecursion (IsThere steps) run → newest_of (spans_of run) ≡ option_map number (find (is_wide t) run)
  span_known [] all = refl
  span_known (s ∷ run) all =
      put_known s (spans_of run) all.0 ∙ ap (cond (is_wide t s) (Some s.moment.at)) (span_known run all.1)
      ∙ map-cond number (is_wide t s) s (find (is_wide t) run)

-- ---- The later of both
abbrev IsBelow : ℕ → Option ℕ → Type 0
IsBelow n None = Unit {0}
IsBelow n (Some m) = m < n

below_more : (n : ℕ) (o : Option ℕ) → IsBelow n o → IsBelow (suc n) o
below_more n None b = tt
below_more n (Some m) b = omega (arith, b)

below : (p : Step → Bool) (run : Run) → IsNumbered run → IsBelow (length run) (option_map number (find p run))
below p [] n = tt
below p (s ∷ run) n =
    elim (p s) as (λ b. IsBelow (suc (length run)) (option_map number (cond b (Some s) (find p run)))) [
      | true ↦ (let e = n.0 in omega (arith, e))
      | false ↦ below_more (length run) (option_map number (find p run)) (below p run n.1)
    ]

newer_left : (n k : ℕ) (o : Option ℕ) → n ≡ k → IsBelow k o → newer (Some n) o ≡ Some n
newer_left n k None e b = refl
newer_left n k (Some m) e b = grind (arith, e, b, common_steps)

newer_right : (n k : ℕ) (o : Option ℕ) → n ≡ k → IsBelow k o → newer o (Some n) ≡ Some n
newer_right n k None e b = refl
newer_right n k (Some m) e b = grind (arith, e, b, common_steps)

newer_same : (n : ℕ) → newer (Some n) (Some n) ≡ Some n
newer_same n = grind (arith, common_steps)

pub newer_known : (p q : Step → Bool) (run : Run) → IsNumbered run
    → newer (option_map number (find p run)) (option_map number (find q run)) ≡ option_map number (find (λ s. p s || q s) run)
newer_known p q [] n = refl
newer_known p q (s ∷ run) n = by (p s) (q s) (newer_known p q run n.1)
  where
    by : (a b : Bool) → newer (option_map number (find p run)) (option_map number (find q run)) ≡ option_map number (find (λ s. p s || q s) run)
        → newer (option_map number (cond a (Some s) (find p run))) (option_map number (cond b (Some s) (find q run))) ≡ option_map number (cond (a || b) (Some s) (find (λ s. p s || q s) run))
    by true true e = newer_same s.moment.at
    by true false e = newer_left s.moment.at (length run) (option_map number (find q run)) n.0 (below q run n.1)
    by false true e = newer_right s.moment.at (length run) (option_map number (find p run)) n.0 (below p run n.1)
    by false false e = e

-- ---- A step at a cell names it, or is a look at several keys
same_key : (o : Ordering) → (not (is_lt (ordering_reverse o)) && not (is_lt o)) ≡ is_eq o
same_key Less = refl
same_key Equal = refl
same_key Greater = refl

turned : (o : Ordering) → is_eq (ordering_reverse o) ≡ is_eq o
turned Less = refl
turned Equal = refl
turned Greater = refl

same_turned : (x y : Cell) → same_cell x y ≡ same_cell y x
same_turned x y = sym (same-tie x y) ∙ ap is_eq (cells_total.antisymm x y) ∙ turned (cell_cmp y x) ∙ same-tie y x

in_both : (a b c : Bool) → ((a && b) && c) ≡ (a && (b && c))
in_both true b c = refl
in_both false b c = refl

or_false : (a : Bool) → (a || false) ≡ a
or_false true = refl
or_false false = refl

either : (a b c : Bool) → (a && (b || c)) ≡ ((a && b) || (a && c))
either true b c = refl
either false b c = refl

-- from a key to the same one
one_key : (f k l : Bytes) (x : Cell) → is_same k l ≡ true → covers (spots.Keys f (In k) (In l)) x ≡ same_cell (Record f k) x
one_key f k l (Record g m) e =
    let o = bytes_cmp k m in
    ap (λ p. (is_same f g && not (is_lt p)) && not (is_lt (bytes_cmp l m))) (nat_list_cmp_total.antisymm m k)
    ∙ ap (λ p. (is_same f g && not (is_lt (ordering_reverse o))) && not (is_lt p)) (sym (nat_list_cmp_total.congr k l m ((Equal-is _).0 e)))
    ∙ in_both (is_same f g) (not (is_lt (ordering_reverse o))) (not (is_lt o)) ∙ ap (λ b. is_same f g && b) (same_key o)
one_key f k l (Item p m) e = refl

item_only : (q : Bytes) (n : ℕ) (x : Cell) → covers (spots.Item q n) x ≡ same_cell (Item q n) x
item_only q n (Record g k) = refl
item_only q n (Item p m) = refl

-- a look at one cell
by_name : (a : Bool) (x y : Cell) → a ≡ same_cell y x → (a || false) ≡ ((same_cell x y || false) || false)
by_name a x y e = ap (λ b. b || false) (e ∙ same_turned y x ∙ sym (or_false (same_cell x y)))

act_known : (act : Act) (x : Cell) → (views act x || list_any (same_cell x) (altered act)) ≡ (list_any (same_cell x) (altered act ++ option_to_list (single act)) || (is_span act && views act x))
act_known (Look (spots.Keys f (In k) (In l))) x =
    elim (is_same k l) as (λ b. is_same k l ≡ b → (covers (spots.Keys f (In k) (In l)) x || false) ≡ (list_any (same_cell x) (option_to_list (if b then Some (Record f k) else None)) || (is_none (if b then Some (Record f k) else None) && covers (spots.Keys f (In k) (In l)) x))) [
      | true ↦ λ e. by_name (covers (spots.Keys f (In k) (In l)) x) x (Record f k) (one_key f k l x e)
      | false ↦ λ e. or_false (covers (spots.Keys f (In k) (In l)) x)
    ] refl
act_known (Look (spots.Keys f (In k) (Out l))) x = or_false (covers (spots.Keys f (In k) (Out l)) x)
act_known (Look (spots.Keys f (Out k) to)) x = or_false (covers (spots.Keys f (Out k) to) x)
act_known (Look (spots.Item q n)) x = by_name (covers (spots.Item q n) x) x (Item q n) (item_only q n x)
act_known (LookForUpdate f k) x = by_name (same_cell (Record f k) x) x (Record f k) refl
act_known (Change c) x = sym (or_false (list_any (same_cell x) (c.cells ++ [])) ∙ ap (list_any (same_cell x)) (append-nil c.cells))
act_known (End committed) x = refl

at_cell : (t : Touched) (s : Step) → (is_by t.task s && touches s t.cell) ≡ (is_point t s || is_wide t s)
at_cell t s =
    ap (λ b. is_by t.task s && b) (act_known s.act t.cell)
    ∙ either (is_by t.task s) (list_any (same_cell t.cell) (points s)) (is_span s.act && looks_at s t.cell)

-- what is kept leads to what passing all steps gives
pub near_known : (t : Touched) (run : Run) → IsNumbered run
    → there (reverse run) (newer (lookup (is_at (touched_cmp t)) (points_of run)) (find (covers_at (reverse run) t.cell) (reverse (numbers_at t.task (spans_of run))))) ≡ near t.task t.cell run
near_known t run n =
    let all = all_there run n in
    ap (there (reverse run)) ((λ i. newer (point_known t run i) (span_known (reverse run) t run all i)) ∙ newer_known (is_point t) (is_wide t) run n)
    ∙ step_known (reverse run) (λ s. is_point t s || is_wide t s) run all ∙ sym (λ i. find (λ s. at_cell t s i) run)
