-- The browses of a task are changed where they stand.
use Rattle.std.specs.Prelude.{◌≡◌, Bool, true, false, not, cond, ◌&&◌, T, Option, Some, None, List, [], ◌∷◌, refl}
use Rattle.std.proofs.Common.{sym, ap, ◌∙◌, subst}
use Rattle.std.specs.declared.cmp.Ordering.{Ordering}
use Rattle.std.specs.declared.cmp.Ordering.TheVariants.{Less, Equal, Greater}
use Rattle.std.specs.Ordering.{is_eq, is_lt}
use Rattle.std.specs.FinMap.Entries.{below_all}
use Rattle.std.specs.Map.{lookup, set_value, remove_entry}
use Rattle.std.specs.BTreeMap.{is_at}
use Rattle.cics_names.specs.Keyed.{Bytes, Map, bytes_cmp, value_at, with_value, without, is_rising}
use Rattle.cics_names.specs.KeyedLaws.{same_bytes}
use Rattle.cics_names.specs.RisingLaws.{rising-without}
use Rattle.cics_browse.specs.Positions.{Position}
use Rattle.cics_dispatch.specs.Machine.BrowseLoans.{moved, IsMoved}
use Rattle.cics_history.proofs.Entries.{value_at-looked_up, with_value-set, rising-set, unchanged-set}

first : (a b : Bool) → T (a && b) → T a
first true b p = tt
first false b p = p

second : (a b : Bool) → T (a && b) → T b
second true b p = p
second false b p = absurd p

not_equal : (o : Ordering) → T (is_lt o) → is_eq o ≡ false
not_equal Less p = refl
not_equal Equal p = absurd p
not_equal Greater p = absurd p

module _ {X : Type 0} where
  -- a key below all isn't there
  without-below : (k : Bytes) (es : Map X) → T (below_all bytes_cmp k es) → without k es ≡ es
  without-below k [] below = refl
  without-below k (e ∷ es) below =
      ap (λ b. cond (not b) (e ∷ without k es) (without k es)) (not_equal (bytes_cmp k e.0) (first _ _ below)) ∙ ap (λ r. e ∷ r) (without-below k es (second _ _ below))

  -- entries without the one of a key are the map without the key
  pub remove_entry-without : (k : Bytes) (es : Map X) → T (is_rising es) → remove_entry (is_at (bytes_cmp k)) es ≡ without k es
  remove_entry-without k [] rising = refl
  remove_entry-without k (e ∷ es) rising =
      let rest : remove_entry (is_at (bytes_cmp k)) es ≡ without k es = remove_entry-without k es (second (below_all bytes_cmp e.0 es) (is_rising es) rising) in
      elim (bytes_cmp k e.0) as (λ o. bytes_cmp k e.0 ≡ o → cond (is_eq o) es (e ∷ remove_entry (is_at (bytes_cmp k)) es) ≡ cond (not (is_eq o)) (e ∷ without k es) (without k es)) [
        | Less ↦ λ tied. ap (λ r. e ∷ r) rest
        | Equal ↦ λ tied. sym (without-below k es (subst (λ x. T (below_all bytes_cmp x es)) (sym (same_bytes k e.0 tied)) (first (below_all bytes_cmp e.0 es) (is_rising es) rising)))
        | Greater ↦ λ tied. ap (λ r. e ∷ r) rest
      ] refl

-- a write where nothing is changes nothing
set_value-absent : {K X : Type 0} (test : K → Bool) (x : X) (es : List (K × X)) → lookup test es ≡ None → set_value test es x ≡ es
set_value-absent test x [] none = refl
set_value-absent test x (e ∷ es) none = by (test e.0) none (set_value-absent test x es)
  where
    by : (b : Bool) → cond b (Some e.1) (lookup test es) ≡ None → (lookup test es ≡ None → set_value test es x ≡ es) → cond b ((e.0, x) ∷ es) (e ∷ set_value test es x) ≡ e ∷ es
    by true found rest = cc
    by false found rest = ap (λ r. e ∷ r) (rest found)

-- the browses of a task as they are kept, and as contracts see them
module _ (k : Bytes) (es browses : Map Position) (rising : T (is_rising es)) (view : es ≡ browses) where
  module _ (new : Map Position) (removed : new ≡ remove_entry (is_at (bytes_cmp k)) es) where
    pub ended : new ≡ without k browses
    ended = removed ∙ remove_entry-without k es rising ∙ ap (without k) view

    pub ended-rising : T (is_rising new)
    ended-rising = subst (λ m. T (is_rising m)) (sym (removed ∙ remove_entry-without k es rising)) (rising-without k es rising)

  -- the browse of the file is written, if it is open
  pub moved-rising : (o : Option Position) → o ≡ lookup (is_at (bytes_cmp k)) es → (p : Position) (new : Map Position) → new ≡ set_value (is_at (bytes_cmp k)) es p → T (is_rising new)
  moved-rising None found p new set = subst (λ m. T (is_rising m)) (sym (set ∙ set_value-absent (is_at (bytes_cmp k)) p es (sym found))) rising
  moved-rising (Some q) found p new set = rising-set k p q es new rising (value_at-looked_up k es es (Some q) found refl) set

  pub is-moved : (o : Option Position) → o ≡ lookup (is_at (bytes_cmp k)) es → (p : Position) (new : Map Position) → new ≡ set_value (is_at (bytes_cmp k)) es p → IsMoved k browses p new
  is-moved None found p new set = record {
    moved = unmoved ∙ ap (λ o. moved k p o browses) (sym (value_at-looked_up k es browses None found view));
    same = λ there. unmoved;
  }
    where
      unmoved : new ≡ browses
      unmoved = set ∙ set_value-absent (is_at (bytes_cmp k)) p es (sym found) ∙ view
  is-moved (Some q) found p new set = record {
    moved = with_value-set k p q es new rising there set ∙ ap (with_value k p) view ∙ ap (λ o. moved k p o browses) (sym (value_at-looked_up k es browses (Some q) found view));
    same = λ was. unchanged-set k p q es new rising there set (one (sym was ∙ value_at-looked_up k es browses (Some q) found view)) ∙ view;
  }
    where
      there : value_at k es ≡ Some q
      there = value_at-looked_up k es es (Some q) found refl

      one : {a b : Position} → Some a ≡ Some b → a ≡ b
      one e = cc
