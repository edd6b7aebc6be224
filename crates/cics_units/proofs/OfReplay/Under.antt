-- The records of a plain map under a prefix, from the first key on that isn't below it.
use Rattle.std.specs.Prelude.{◌≡◌, Bool, true, false, not, ◌&&◌, cond, T, Option, Some, is_some, [], ◌∷◌, refl}
use Rattle.std.proofs.Common.{sym, ap, ◌∙◌, inl, inr}
use Rattle.std.specs.List.{filter}
use Rattle.std.specs.Map.{lookup}
use Rattle.std.specs.BTreeMap.{is_at}
use Rattle.std.proofs.lemmas.Bool.{cases_Bool}
use Rattle.std.specs.FinMap.Entries.{below_all}
use Rattle.std.specs.declared.cmp.Ordering.{Ordering}
use Rattle.std.specs.declared.cmp.Ordering.TheVariants.{Less, Equal, Greater}
use Rattle.std.specs.Ordering.{is_lt, is_le}
use Rattle.cics_names.specs.Keyed.{Bytes, Map, bytes_cmp, is_same, is_rising, has_key, without}
use Rattle.cics_names.specs.KeyedLaws.{is_same-self, is_same-eq, same_bytes}
use Rattle.cics_ksds.specs.Prefixes.{has_prefix, under, outside}
use Rattle.cics_history.specs.ResourceLaws.{has_prefix-self}
use Rattle.cics_history.proofs.Entries.{first, second, value_at-looked_up}
use Rattle.cics_enqueue.proofs.Seeking.{has_prefix-le, passed}

-- whether a look-up from a prefix on passes an entry
abbrev pub is_reached : Bytes → Bytes × Bytes → Bool
is_reached p e = is_le (bytes_cmp p e.0) && true

less : (o : Ordering) → T (is_lt o) → o ≡ Less
less Less below = refl
less Equal below = absurd below
less Greater below = absurd below

-- an entry that isn't reached isn't under the prefix
unreached : (p k : Bytes) → (is_le (bytes_cmp p k) && true) ≡ false → has_prefix p k ≡ false
unreached p k out = elim (cases_Bool (has_prefix p k)) [
  | inl under ↦ let wrong : true ≡ false = sym (ap (λ b. b && true) (has_prefix-le p k under)) ∙ out in cc
  | inr beside ↦ beside
]

-- the first entry that is reached is in the map
pub reached_there : (p : Bytes) (m : Map Bytes) (e : Bytes × Bytes) (rest : Map Bytes) →
    filter (is_reached p) m ≡ e ∷ rest → is_some (lookup (is_at (bytes_cmp e.0)) m) ≡ true
reached_there p [] e rest is = cc
reached_there p (x ∷ m) e rest is =
    elim (is_reached p x) as (λ b. cond b (x ∷ filter (is_reached p) m) (filter (is_reached p) m) ≡ e ∷ rest → is_some (cond (is_same e.0 x.0) (Some x.1) (lookup (is_at (bytes_cmp e.0)) m)) ≡ true) [
      | true ↦ λ is.
          let same : x ≡ e = cc in
          ap (λ b. is_some (cond b (Some x.1) (lookup (is_at (bytes_cmp e.0)) m))) (ap (λ y. is_same e.0 y.0) same ∙ is_same-self e.0)
      | false ↦ λ is. either (is_same e.0 x.0) (lookup (is_at (bytes_cmp e.0)) m) (reached_there p m e rest is)
    ] is
  where
    either : (b : Bool) (o : Option Bytes) → is_some o ≡ true → is_some (cond b (Some x.1) o) ≡ true
    either true o there = refl
    either false o there = there

-- a key that the map has is looked up
pub looked_up_there : (k : Bytes) (es m : Map Bytes) → es ≡ m → has_key k m ≡ true → is_some (lookup (is_at (bytes_cmp k)) es) ≡ true
looked_up_there k es m is there = sym (ap is_some (value_at-looked_up k es m (lookup (is_at (bytes_cmp k)) es) refl is)) ∙ there

-- if no entry is reached, none is under the prefix
pub none_reached : (p : Bytes) (m : Map Bytes) → filter (is_reached p) m ≡ [] → under p m ≡ []
none_reached p [] none = refl
none_reached p (x ∷ m) none =
    elim (is_reached p x) as (λ b. is_reached p x ≡ b → cond b (x ∷ filter (is_reached p) m) (filter (is_reached p) m) ≡ [] → under p (x ∷ m) ≡ []) [
      | true ↦ λ in_reach some. cc
      | false ↦ λ out none. ap (λ b. cond b (x ∷ under p m) (under p m)) (unreached p x.0 out) ∙ none_reached p m none
    ] refl none

-- above a key past the prefix none is under it
none_above : (p k : Bytes) → is_lt (bytes_cmp p k) ≡ true → has_prefix p k ≡ false → (m : Map Bytes) → T (below_all bytes_cmp k m) → under p m ≡ []
none_above p k above other [] below = refl
none_above p k above other (x ∷ m) below =
    ap (λ b. cond b (x ∷ under p m) (under p m)) (passed p k x.0 above other (less _ (first _ _ below)))
    ∙ none_above p k above other m (second _ _ below)

-- a key that isn't below the prefix, and isn't under it, is above it
above_prefix : (p k : Bytes) → is_le (bytes_cmp p k) ≡ true → has_prefix p k ≡ false → is_lt (bytes_cmp p k) ≡ true
above_prefix p k le other = by (bytes_cmp p k) refl le
  where
    by : (o : Ordering) → bytes_cmp p k ≡ o → is_le o ≡ true → is_lt o ≡ true
    by Less is le = refl
    by Equal is le = let wrong : true ≡ false = sym (ap (has_prefix p) (sym (same_bytes p k is)) ∙ has_prefix-self p) ∙ other in cc
    by Greater is le = cc

in_reach : (b : Bool) → (b && true) ≡ true → b ≡ true
in_reach true is = refl
in_reach false is = is

-- if the first entry that is reached isn't under the prefix, none is
pub first_beside : (p : Bytes) (m : Map Bytes) → T (is_rising m) → (e : Bytes × Bytes) (rest : Map Bytes) →
    filter (is_reached p) m ≡ e ∷ rest → has_prefix p e.0 ≡ false → under p m ≡ []
first_beside p [] rising e rest is other = refl
first_beside p (x ∷ m) rising e rest is other =
    elim (is_reached p x) as (λ b. is_reached p x ≡ b → cond b (x ∷ filter (is_reached p) m) (filter (is_reached p) m) ≡ e ∷ rest → under p (x ∷ m) ≡ []) [
      | true ↦ λ reached is.
          let same : x ≡ e = cc in
          let beside : has_prefix p x.0 ≡ false = ap (λ y. has_prefix p y.0) same ∙ other in
          ap (λ b. cond b (x ∷ under p m) (under p m)) beside
          ∙ none_above p x.0 (above_prefix p x.0 (in_reach _ reached) beside) beside m (first _ _ rising)
      | false ↦ λ out is.
          ap (λ b. cond b (x ∷ under p m) (under p m)) (unreached p x.0 out)
          ∙ first_beside p m (second _ _ rising) e rest is other
    ] refl is

-- without a key under the prefix the same is beside it
pub outside_without : (p k : Bytes) → has_prefix p k ≡ true → (m : Map Bytes) → outside p (without k m) ≡ outside p m
outside_without p k has [] = refl
outside_without p k has (x ∷ m) = by (outside_without p k has m) (is_same k x.0) refl
  where
    by : outside p (without k m) ≡ outside p m → (b : Bool) → is_same k x.0 ≡ b →
        outside p (cond (not (is_same k x.0)) (x ∷ without k m) (without k m)) ≡ cond (not (has_prefix p x.0)) (x ∷ outside p m) (outside p m)
    by rest true is =
        ap (λ b. outside p (cond (not b) (x ∷ without k m) (without k m))) is ∙ rest
        ∙ sym (ap (λ b. cond (not b) (x ∷ outside p m) (outside p m)) (ap (has_prefix p) (sym (is_same-eq k x.0 is)) ∙ has))
    by rest false is =
        ap (λ b. outside p (cond (not b) (x ∷ without k m) (without k m))) is
        ∙ ap (λ l. cond (not (has_prefix p x.0)) (x ∷ l) l) rest
