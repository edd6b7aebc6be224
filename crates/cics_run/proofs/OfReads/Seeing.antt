-- What a look sees among the cells between its ends is all that it sees.
use Rattle.std.proofs.Common.{◌≡◌, Bool, true, false, cond, not, ◌&&◌, List, [], ◌∷◌, ◌++◌, Option, Some, map, reverse, ap, sym, subst, ◌∙◌, refl, true≢false}
use Rattle.std.specs.Prelude.{option_map, unwrap_or, if◌then◌else◌}
use Rattle.std.specs.declared.cmp.Ordering.{Ordering}
use Rattle.std.specs.declared.cmp.Ordering.TheVariants.{Less, Equal, Greater}
use Rattle.std.specs.declared.ops.Bound.TheVariants.{Included}
use Rattle.std.specs.Ordering.{is_eq, is_lt, is_le, is_gt, ordering_reverse, ordering_then}
use Rattle.std.specs.Cmp.{alike_right}
use Rattle.std.specs.Cmp.Lexicographic.{nat_list_cmp_total}
use Rattle.std.specs.List.{find, filter, flat_map, AllByRecursion}
use Rattle.std.specs.Map.{lookup, keys_of}
use Rattle.std.specs.Map.Iter.{TakesFirst}
use Rattle.std.specs.Iterator.{Yields}
use Rattle.std.specs.BTreeMap.{is_at}
use Rattle.std.specs.BTreeMap.Range.{entries_between, range_contains}
use Rattle.std.proofs.lemmas.Bool.{false_from_ne_true}
use Rattle.cics_names.specs.Keyed.{Bytes, bytes_cmp, is_same}
use Rattle.cics_run.specs.declared.reads.steps.Act.{Act}
use Rattle.cics_run.specs.declared.reads.steps.Act.TheVariants.{Look, LookForUpdate, Change, End}
use Rattle.cics_run.specs.declared.reads.steps.Bound.{Bound}
use Rattle.cics_run.specs.declared.reads.steps.Bound.TheVariants.{In, Out}
use Rattle.cics_run.specs.declared.reads.steps.Cell.{Cell}
use Rattle.cics_run.specs.declared.reads.steps.Cell.TheVariants.{Record, Item}
use Rattle.cics_run.specs.declared.reads.steps.Spot.{Spot}
use Rattle.cics_run.specs.declared.reads.steps.Spot.TheVariants as spots
use Rattle.cics_run.specs.declared.reads.steps.Step.{Step}
use Rattle.cics_run.specs.declared.reads.past.Mark.{Mark}
use Rattle.cics_run.specs.Reads.Steps.{key_of, is_from, is_upto, covers, views, ends_of, view_ends, looks_at}
use Rattle.cics_run.specs.Reads.Runs.{Run, last}
use Rattle.cics_run.specs.Reads.Past.{mark_of, cell_cmp, marks_of, is_standing, cells}
use Rattle.cics_run.specs.Reads.Findings.{of_another, seen_in}
use Rattle.cics_run.specs.Reads.Seeing.{shown}
use Rattle.cics_run.proofs.OfReads.Keeping.{cells_total, same-tie, newest_known, cells_known}

-- ---- Orders
not_below : (o : Ordering) → not (is_lt (ordering_reverse o)) ≡ is_le o
not_below Less = refl
not_below Equal = refl
not_below Greater = refl

weaker : (o : Ordering) → is_lt o ≡ true → is_le o ≡ true
weaker Less e = refl
weaker Equal e = refl
weaker Greater e = cc

not_above : (o : Ordering) → is_lt (ordering_reverse o) ≡ true → not (is_lt o) ≡ true
not_above Less e = cc
not_above Equal e = refl
not_above Greater e = refl

tied_between : (o : Ordering) → is_eq o ≡ true → (is_le o && not (is_lt o)) ≡ true
tied_between Less e = cc
tied_between Equal e = refl
tied_between Greater e = cc

first : (a b : Bool) → (a && b) ≡ true → a ≡ true
first true b e = refl
first false b e = e

second : (a b : Bool) → (a && b) ≡ true → b ≡ true
second true b e = e
second false b e = cc

both : (a b : Bool) → a ≡ true → b ≡ true → (a && b) ≡ true
both a b p q = ap (λ x. x && b) p ∙ q

-- ---- A cell that a look is at lies between its ends
above : (a : Bound) (k : Bytes) → is_from a k ≡ true → is_le (bytes_cmp (key_of a) k) ≡ true
above (In a) k e = sym (ap (λ o. not (is_lt o)) (nat_list_cmp_total.antisymm k a) ∙ not_below (bytes_cmp a k)) ∙ e
above (Out a) k e = weaker (bytes_cmp a k) e

below : (b : Bound) (k : Bytes) → is_upto b k ≡ true → not (is_lt (bytes_cmp (key_of b) k)) ≡ true
below (In b) k e = e
below (Out b) k e = not_above (bytes_cmp b k) (sym (ap is_lt (nat_list_cmp_total.antisymm k b)) ∙ e)

in_file : (o p q : Ordering) → is_eq o ≡ true → is_le p ≡ true → not (is_lt q) ≡ true → (is_le (ordering_then o p) && not (is_lt (ordering_then o q))) ≡ true
in_file Less p q e low high = cc
in_file Equal p q e low high = both (is_le p) (not (is_lt q)) low high
in_file Greater p q e low high = cc

covered : (spot : Spot) (x : Cell) → covers spot x ≡ true → range_contains cell_cmp (Included (ends_of spot).0) (Included (ends_of spot).1) x ≡ true
covered (spots.Keys f a b) (Record g k) e =
    let front = first (is_same f g && is_from a k) (is_upto b k) e in
    in_file (bytes_cmp f g) (bytes_cmp (key_of a) k) (bytes_cmp (key_of b) k) (first (is_same f g) (is_from a k) front) (above a k (second (is_same f g) (is_from a k) front)) (below b k (second (is_same f g && is_from a k) (is_upto b k) e))
covered (spots.Keys f a b) (Item p m) e = cc
covered (spots.Item q n) (Record g k) e = cc
covered (spots.Item q n) (Item p m) e = tied_between (cell_cmp (Item q n) (Item p m)) (same-tie (Item q n) (Item p m) ∙ e)

viewed : (act : Act) (x low high : Cell) → view_ends act ≡ Some (low, high) → views act x ≡ true → range_contains cell_cmp (Included low) (Included high) x ≡ true
viewed (Look spot) x low high is e = subst (λ (o : Option (Cell × Cell)). range_contains cell_cmp (Included (unwrap_or o (low, high)).0) (Included (unwrap_or o (low, high)).1) x ≡ true) is (covered spot x e)
viewed (LookForUpdate f k) x low high is e = subst (λ (o : Option (Cell × Cell)). range_contains cell_cmp (Included (unwrap_or o (low, high)).0) (Included (unwrap_or o (low, high)).1) x ≡ true) is (tied_between (cell_cmp (Record f k) x) (same-tie (Record f k) x ∙ e))
viewed (Change c) x low high is e = cc
viewed (End committed) x low high is e = cc

-- none lies between ends that are the wrong way round
crossed : (low high x : Cell) → is_gt (cell_cmp low high) ≡ true → range_contains cell_cmp (Included low) (Included high) x ≡ true → ⊥
crossed low high x over e = by (cell_cmp low x) refl (first (is_le (cell_cmp low x)) (not (is_lt (cell_cmp high x))) e)
  where
    under : (o : Ordering) → is_gt o ≡ true → ordering_reverse o ≡ Less
    under Less e = cc
    under Equal e = cc
    under Greater e = refl

    turned : cell_cmp high low ≡ Less
    turned = cells_total.antisymm high low ∙ under (cell_cmp low high) over

    no : cell_cmp high x ≡ Less → ⊥
    no less = true≢false (sym (second (is_le (cell_cmp low x)) (not (is_lt (cell_cmp high x))) e) ∙ ap (λ o. not (is_lt o)) less)

    by : (o : Ordering) → cell_cmp low x ≡ o → is_le o ≡ true → ⊥
    by Less is le = no (cells_total.trans high low x turned is)
    by Equal is le = no (sym (alike_right cells_total low x high is) ∙ turned)
    by Greater is le = true≢false (sym le)

-- ---- Lists
inner : {A : Type 0} (p q : A → Bool) → ((x : A) → p x ≡ true → q x ≡ true) → (xs : List A) → filter p (filter q xs) ≡ filter p xs
inner p q f [] = refl
inner p q f (x ∷ xs) =
    elim (q x) as (λ b. q x ≡ b → filter p (cond b (x ∷ filter q xs) (filter q xs)) ≡ cond (p x) (x ∷ filter p xs) (filter p xs)) [
      | true ↦ λ e. ap (λ l. cond (p x) (x ∷ l) l) (inner p q f xs)
      | false ↦ λ e. inner p q f xs ∙ sym (ap (λ b. cond b (x ∷ filter p xs) (filter p xs)) (false_from_ne_true (p x) (λ h. true≢false (sym (f x h) ∙ e))))
    ] refl

none : {A : Type 0} (p : A → Bool) → ((x : A) → p x ≡ true → ⊥) → (xs : List A) → filter p xs ≡ []
none p f [] = refl
none p f (x ∷ xs) = ap (λ b. cond b (x ∷ filter p xs) (filter p xs)) (false_from_ne_true (p x) (f x)) ∙ none p f xs

of_keys : {K X : Type 0} (p : K → Bool) (es : List (K × X)) → keys_of (filter (λ e. p e.0) es) ≡ filter p (keys_of es)
of_keys p [] = refl
of_keys p (e ∷ es) =
    elim (p e.0) as (λ b. keys_of (cond b (e ∷ filter (λ e. p e.0) es) (filter (λ e. p e.0) es)) ≡ cond b (e.0 ∷ filter p (keys_of es)) (filter p (keys_of es))) [
      | true ↦ ap (λ l. e.0 ∷ l) (of_keys p es)
      | false ↦ of_keys p es
    ]

-- ---- What a look sees
abbrev pub IsKept : Run → Cell × List Mark → Type 0
IsKept now e = lookup (is_at (cell_cmp e.0)) (marks_of now) ≡ Some e.1

module _ (now : Run) (look : Step) (low high : Cell) (is : view_ends look.act ≡ Some (low, high)) where
  all_shown : (r : List (Cell × List Mark)) → AllByRecursion (IsKept now) r → flat_map (shown now look) r ≡ flat_map (seen_in now look) (filter (looks_at look) (keys_of r))
  all_shown [] kept = refl
  all_shown (e ∷ r) kept =
      let known : find (is_standing now) (reverse e.1) ≡ option_map mark_of (last e.0 now) =
      ap (λ (o : Option (List Mark)). find (is_standing now) (reverse (unwrap_or o []))) (sym kept.0) ∙ newest_known now e.0 now in
      elim (looks_at look e.0) as (λ b. (if b then of_another look (find (is_standing now) (reverse e.1)) else []) ++ flat_map (shown now look) r ≡ flat_map (seen_in now look) (cond b (e.0 ∷ filter (looks_at look) (keys_of r)) (filter (looks_at look) (keys_of r)))) [
        | true ↦ λ i. of_another look (known i) ++ all_shown r kept.1 i
        | false ↦ all_shown r kept.1
      ]

  -- between the ends
  pub seen_between : (r : List (Cell × List Mark)) → r ≡ entries_between cell_cmp (Included low) (Included high) (marks_of now) → AllByRecursion (IsKept now) r
      → flat_map (shown now look) r ≡ flat_map (seen_in now look) (filter (looks_at look) (cells now))
  seen_between r there kept =
      let within = range_contains cell_cmp (Included low) (Included high) in
      all_shown r kept ∙ ap (flat_map (seen_in now look))
      (ap (λ (r : List (Cell × List Mark)). filter (looks_at look) (keys_of r)) there ∙ ap (filter (looks_at look)) (of_keys within (marks_of now))
      ∙ inner (looks_at look) within (λ x. viewed look.act x low high is) (keys_of (marks_of now)) ∙ ap (filter (looks_at look)) (cells_known now))

  -- ends the wrong way round
  pub none_seen : is_gt (cell_cmp low high) ≡ true → flat_map (seen_in now look) (filter (looks_at look) (cells now)) ≡ []
  none_seen over = ap (flat_map (seen_in now look)) (none (looks_at look) (λ x e. crossed low high x over (viewed look.act x low high is e)) (cells now))

-- what an iterator has given, and what it has left, is all
pub given : {A X : Type 0} (shows : A → X) (s : List X) (xs : List A) (t : List X) → Yields (TakesFirst shows) s xs t → s ≡ map shows xs ++ t
given shows s [] t y = y
given shows s (x ∷ xs) t y = y.1 ∙ ap (λ l. shows x ∷ l) (given shows y.0 xs t y.2)
