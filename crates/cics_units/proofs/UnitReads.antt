-- A list of entries by file: where that of a file stands, and how one goes in and out.
use Rattle.std.specs.Prelude.{◌≡◌, ◌<◌, ◌≤◌, ◌+◌, ℕ, suc, Bool, true, false, cond, not, ◌&&◌, T, Option, Some, None, [], ◌∷◌, length, refl}
use Rattle.std.proofs.Common.{sym, ap, ◌∙◌, subst, arith, drop, drop-cons}
use Rattle.std.specs.declared.cmp.Ordering.{Ordering}
use Rattle.std.specs.declared.cmp.Ordering.TheVariants.{Less, Greater}
use Rattle.std.specs.Ordering.{is_eq, is_lt, ordering_reverse}
use Rattle.std.specs.Cmp.Lexicographic.{nat_list_cmp_total}
use Rattle.std.specs.FinMap.Entries.{below_all, by_order}
use Rattle.std.specs.List.{slice_get, slice_index_or, insert}
use Rattle.cics_names.specs.Keyed.{Bytes, Map, bytes_cmp, is_same, is_below, value_at, with_value, without, is_rising}
use Rattle.cics_names.specs.KeyedLaws.{is_same-eq}
use Rattle.cics_names.specs.RisingLaws.{without-absent}
use Rattle.cics_units.specs.OpenReads.{place_of, IsFoundAt}

both : (a b : Bool) → T (a && b) → T a × T b
both true b h = (tt, h)
both false b h = absurd h

reversed : (o : Ordering) → is_lt o ≡ true → ordering_reverse o ≡ Greater
reversed Less e = refl
reversed _ e = cc

-- one more entry is looked at
pub place_at : (f : Bytes) (es : Map Bytes) (i : ℕ) (e : Bytes × Bytes) → i < length es → e ≡ slice_index_or es i e → (b : Bool) → b ≡ is_below e.0 f →
    place_of f (drop i es) ≡ cond b (suc (place_of f (drop (i + 1) es))) 0
place_at f es i e inside read b test =
    let one_more : suc i ≡ i + 1 = omega arith in
    ap (place_of f) (drop-cons es i e inside ∙ ap (λ n. slice_index_or es i e ∷ drop n es) one_more ∙ ap (λ x. x ∷ drop (i + 1) es) (sym read))
    ∙ ap (λ t. cond t (suc (place_of f (drop (i + 1) es))) 0) (sym test)

-- a file's place is within the list or at its end
pub within : (f : Bytes) (es : Map Bytes) → place_of f es ≤ length es
within f [] = omega arith
within f (e ∷ es) =
    let rest = within f es in
    elim (is_below e.0 f) as (λ b. cond b (suc (place_of f es)) 0 ≤ suc (length es)) [ true ↦ omega (arith, rest) | false ↦ omega arith ]

-- a file that another comes before
above : (f a : Bytes) → is_below a f ≡ true → bytes_cmp f a ≡ Greater
above f a below = nat_list_cmp_total.antisymm f a ∙ reversed (bytes_cmp a f) below

-- a file that doesn't come behind one is not among those that do
none_after : (f k : Bytes) (es : Map Bytes) → T (below_all bytes_cmp k es) → is_below k f ≡ false → value_at f es ≡ None
none_after f k [] below past = refl
none_after f k (e ∷ es) below past =
    elim (is_same f e.0) as (λ b. is_same f e.0 ≡ b → cond b (Some e.1) (value_at f es) ≡ None) [
      | true ↦ λ same. absurd (subst T (ap (is_below k) (sym (is_same-eq f e.0 same)) ∙ past) (both _ _ below).0)
      | false ↦ λ other. none_after f k es (both _ _ below).1 past
    ] refl

-- the entry at a file's place is the file's
pub found : (f : Bytes) (es : Map Bytes) → T (is_rising es) → (e : Bytes × Bytes) → slice_get es (place_of f es) ≡ Some e → is_same f e.0 ≡ true → IsFoundAt f es (place_of f es)
found f [] rising e there same = let wrong : None ≡ Some e = there in cc
found f (x ∷ es) rising e there same =
    elim (is_below x.0 f) as (λ b. is_below x.0 f ≡ b → slice_get (x ∷ es) (cond b (suc (place_of f es)) 0) ≡ Some e → IsFoundAt f (x ∷ es) (cond b (suc (place_of f es)) 0)) [
      | true ↦ λ below at.
          let later : IsFoundAt f es (place_of f es) = found f es (both _ _ rising).1 e at same in
          let apart : is_same f x.0 ≡ false = ap is_eq (above f x.0 below) in
          record {
            inside = omega (arith, later.inside);
            value = λ d. ap (λ b. cond b (Some x.1) (value_at f es)) apart ∙ later.value d;
            rest = ap (λ r. x ∷ r) later.rest ∙ sym (ap (λ b. cond (not b) (x ∷ without f es) (without f es)) apart);
          }
      | false ↦ λ past at.
          let is : x ≡ e = cc in
          let here : is_same f x.0 ≡ true = ap (λ y. is_same f y.0) is ∙ same in
          record {
            inside = omega arith;
            value = λ d. ap (λ b. cond b (Some x.1) (value_at f es)) here;
            rest = sym (without-absent f es (none_after f x.0 es (both _ _ rising).0 past))
                ∙ sym (ap (λ b. cond (not b) (x ∷ without f es) (without f es)) here);
          }
    ] refl there

-- no entry at a file's place is the file's
pub not_there : (f : Bytes) (es : Map Bytes) → T (is_rising es) → ((e : Bytes × Bytes) → slice_get es (place_of f es) ≡ Some e → is_same f e.0 ≡ false) → value_at f es ≡ None
not_there f [] rising other = refl
not_there f (x ∷ es) rising other =
    elim (is_below x.0 f) as (λ b. is_below x.0 f ≡ b → ((e : Bytes × Bytes) → slice_get (x ∷ es) (cond b (suc (place_of f es)) 0) ≡ Some e → is_same f e.0 ≡ false) → value_at f (x ∷ es) ≡ None) [
      | true ↦ λ below at. ap (λ b. cond b (Some x.1) (value_at f es)) (ap is_eq (above f x.0 below)) ∙ not_there f es (both _ _ rising).1 at
      | false ↦ λ past at. ap (λ b. cond b (Some x.1) (value_at f es)) (at x refl) ∙ none_after f x.0 es (both _ _ rising).0 past
    ] refl other

-- what was found at a file's place, of the value
module _ (f : Bytes) (es now : Map Bytes) (view : es ≡ now) (rising : T (is_rising es)) (at : ℕ) (place : at ≡ place_of f now) where
  at_place : at ≡ place_of f es
  at_place = place ∙ ap (place_of f) (sym view)

  pub found_now : (e : Bytes × Bytes) → slice_get es at ≡ Some e → is_same f e.0 ≡ true → IsFoundAt f now at
  found_now e there same =
      subst (λ l. IsFoundAt f l at) view (subst (IsFoundAt f es) (sym at_place) (found f es rising e (ap (slice_get es) (sym at_place) ∙ there) same))

  pub other_now : (e : Bytes × Bytes) → slice_get es at ≡ Some e → is_same f e.0 ≡ false → value_at f now ≡ None
  other_now e there other =
      ap (value_at f) (sym view)
      ∙ not_there f es rising (λ x here.
      let both : Some x ≡ Some e = sym here ∙ ap (slice_get es) (sym at_place) ∙ there in
      let is : x ≡ e = cc in
      ap (λ y. is_same f y.0) is ∙ other)

  pub none_now : slice_get es at ≡ None → value_at f now ≡ None
  none_now none =
      ap (value_at f) (sym view)
      ∙ not_there f es rising (λ x here. let wrong : Some x ≡ None = sym here ∙ ap (slice_get es) (sym at_place) ∙ none in cc)

-- if an entry doesn't come behind a file that it isn't of, the file goes in before it
first : (f k : Bytes) (x : Bytes × Bytes) (es : Map Bytes) (o : Ordering) → is_lt (ordering_reverse o) ≡ false → is_eq o ≡ false →
    (f, k) ∷ x ∷ es ≡ by_order o ((f, k) ∷ x ∷ es) ((x.0, k) ∷ es) (x ∷ with_value f k es)
first f k x es Less past other = refl
first f k x es _ past other = cc

not_chosen : {X : Type 0} (b : Bool) (x : X) (o : Option X) → cond b (Some x) o ≡ None → (b ≡ false) × (o ≡ None)
not_chosen true x o e = let wrong : Some x ≡ None = e in cc
not_chosen false x o e = (refl, e)

-- a new file goes in at its place
pub goes_in : (f k : Bytes) (es : Map Bytes) → value_at f es ≡ None → insert es (place_of f es) (f, k) ≡ with_value f k es
goes_in f k [] absent = refl
goes_in f k (x ∷ es) absent =
    let parts = not_chosen (is_same f x.0) x.1 (value_at f es) absent in
    elim (is_below x.0 f) as (λ b. is_below x.0 f ≡ b → insert (x ∷ es) (cond b (suc (place_of f es)) 0) (f, k) ≡ with_value f k (x ∷ es)) [
      | true ↦ λ below.
          ap (λ r. x ∷ r) (goes_in f k es parts.1)
          ∙ sym (ap (λ o. by_order o ((f, k) ∷ x ∷ es) ((x.0, k) ∷ es) (x ∷ with_value f k es)) (above f x.0 below))
      | false ↦ λ past. first f k x es (bytes_cmp f x.0) (ap is_lt (sym (nat_list_cmp_total.antisymm x.0 f)) ∙ past) parts.0
    ] refl
