-- Entries that are put into an empty map one after the other, if their keys rise, are the map.
use Rattle.std.specs.Prelude.{◌≡◌, Bool, true, false, ◌&&◌, T, [], ◌∷◌, ◌++◌, fold, refl}
use Rattle.std.proofs.Common.{sym, ap, ◌∙◌}
use Rattle.std.specs.declared.cmp.Ordering.{Ordering}
use Rattle.std.specs.declared.cmp.Ordering.TheVariants.{Less, Greater}
use Rattle.std.specs.Ordering.{is_lt, ordering_reverse}
use Rattle.std.specs.Cmp.Lexicographic.{nat_list_cmp_total}
use Rattle.std.proofs.lemmas.List.{append_assoc, append-nil}
use Rattle.std.proofs.lemmas.List.Sums.{fold-append}
use Rattle.std.specs.FinMap.Entries.{by_order, below_all}
use Rattle.cics_names.specs.Keyed.{Bytes, Map, bytes_cmp, with_value, is_rising}
use Rattle.cics_units.specs.Opening.RegionFiles.{refilled}

turned : (o : Ordering) → T (is_lt o) → ordering_reverse o ≡ Greater
turned Less t = refl
turned _ t = absurd t

both : (a b : Bool) → T (a && b) → T a × T b
both true b t = (tt, t)
both false b t = absurd t

above : (k q : Bytes) → T (is_lt (bytes_cmp k q)) → bytes_cmp q k ≡ Greater
above k q t = nat_list_cmp_total.antisymm q k ∙ turned (bytes_cmp k q) t

module _ {X : Type 0} where
  -- every key of the map is below this one
  abbrev pub AreBelow : Map X → Bytes → Type 0
  AreBelow [] k = Unit {0}
  AreBelow (e ∷ es) k = (bytes_cmp k e.0 ≡ Greater) × AreBelow es k

  pub with_value-last : (k : Bytes) (x : X) (m : Map X) → AreBelow m k → with_value k x m ≡ m ++ (k, x) ∷ []
  with_value-last k x [] below = refl
  with_value-last k x (e ∷ es) below = ap (λ o. by_order o ((k, x) ∷ e ∷ es) ((e.0, x) ∷ es) (e ∷ with_value k x es)) below.0 ∙ ap (λ r. e ∷ r) (with_value-last k x es below.1)

  below_next : (m : Map X) (e : Bytes × X) (q : Bytes) → AreBelow m q → bytes_cmp q e.0 ≡ Greater → AreBelow (m ++ e ∷ []) q
  below_next [] e q below next = (next, tt)
  below_next (d ∷ m) e q below next = (below.0, below_next m e q below.1 next)

  -- every key that is still to come is above what the map has
  abbrev pub AreAhead : Map X → Map X → Type 0
  AreAhead m [] = Unit {0}
  AreAhead m (e ∷ es) = AreBelow m e.0 × AreAhead m es

  ahead_next : (m : Map X) (d : Bytes × X) (es : Map X) → AreAhead m es → T (below_all bytes_cmp d.0 es) → AreAhead (m ++ d ∷ []) es
  ahead_next m d [] ahead below = tt
  ahead_next m d (e ∷ es) ahead below =
      let parts = both (is_lt (bytes_cmp d.0 e.0)) (below_all bytes_cmp d.0 es) below in
      (below_next m d e.0 ahead.0 (above d.0 e.0 parts.0), ahead_next m d es ahead.1 parts.1)

  put_behind : (m es : Map X) → AreAhead m es → T (is_rising es) → fold (λ n e. with_value e.0 e.1 n) m es ≡ m ++ es
  put_behind m [] ahead rising = sym (append-nil m)
  put_behind m (e ∷ es) ahead rising =
      let parts = both (below_all bytes_cmp e.0 es) (is_rising es) rising in
      ap (λ n. fold (λ n e. with_value e.0 e.1 n) n es) (with_value-last e.0 e.1 m ahead.0)
      ∙ put_behind (m ++ e ∷ []) es (ahead_next m e es ahead.1 parts.0) parts.1
      ∙ append_assoc m (e ∷ []) es

  ahead_of_none : (es : Map X) → AreAhead [] es
  ahead_of_none [] = tt
  ahead_of_none (e ∷ es) = (tt, ahead_of_none es)

  pub refilled-rising : (es : Map X) → T (is_rising es) → refilled es ≡ es
  refilled-rising es rising = put_behind [] es (ahead_of_none es) rising

  -- one entry more is put in
  pub refilled-more : (new m es : Map X) (k : Bytes) (x y : X) → new ≡ with_value k x m → x ≡ y → m ≡ refilled es → new ≡ refilled (es ++ (k, y) ∷ [])
  refilled-more new m es k x y put same is = put ∙ ap (λ v. with_value k v m) same ∙ ap (with_value k y) is ∙ sym (fold-append (λ n e. with_value e.0 e.1 n) [] es ((k, y) ∷ []))
