-- DELETE GENERIC: what it answers and leaves, by the keys that begin with its prefix.
use Rattle.std.proofs.Common.{◌≡◌, Bool, true, false, cond, Option, Some, None, List, [], ◌∷◌, refl, ap, sym, ◌∙◌, inl, inr}
use Rattle.std.specs.Prelude.{filter}
use Rattle.std.specs.FinMap.Entries.{find-where_key, is_sorted-where_key}
use Rattle.std.proofs.lemmas.Bool.{true≢false, false≢true, cases_Bool}
use Rattle.cics_names.specs.Keyed.{Bytes, Map, bytes_cmp, value_at, is_rising}
use Rattle.cics_names.specs.KeyedLaws.{same_bytes}
use Rattle.cics_ksds.specs.Prefixes.{has_prefix, under}
use Rattle.cics_ksds.proofs.UnderPrefix.{prefix_itself}
use Rattle.cics_history.specs.Openings.{is_in_order}
use Rattle.cics_history.specs.State.{Store}
use Rattle.cics_history.specs.Store.{is_normal, counted_answer, apply_delete_generic}
use Rattle.cics_history.specs.declared.ops.Op.TheVariants.{DeleteGeneric}
use Rattle.cics_history.specs.Cells.{listed, record_in, effect}
use Rattle.cics_history.proofs.Maps.{to_T, of_T, same_map}

-- the records whose keys pass a test, at one key
pub value_at-where : (p : Bytes → Bool) (k : Bytes) (m : Map Bytes) →
    value_at k (filter (λ e. p e.0) m) ≡ cond (p k) (value_at k m) None
value_at-where p k m = find-where_key bytes_cmp p k (λ x e. ap p (sym (same_bytes k x e))) m

-- their keys go on rising
pub rising-where : (p : Bytes → Bool) (m : Map Bytes) → is_rising m ≡ true → is_rising (filter (λ e. p e.0) m) ≡ true
rising-where p m h = of_T _ (is_sorted-where_key bytes_cmp p m (to_T _ h))

-- where no record is under a prefix, no key that begins with it has one
pub none_under : (p : Bytes) (m : Map Bytes) → under p m ≡ [] → (k : Bytes) → has_prefix p k ≡ true → value_at k m ≡ None
none_under p m none k y =
    sym (value_at-where (has_prefix p) k m ∙ ap (λ b. cond b (value_at k m) None) y) ∙ ap (value_at k) none

-- a record or none is told by its list
pub one_listed : (v w : Option Bytes) → Some (listed v) ≡ Some (listed w) → v ≡ w
one_listed None None e = refl
one_listed None (Some y) e = cc
one_listed (Some x) None e = cc
one_listed (Some x) (Some y) e = cc

-- two files in order whose keys under the prefix hold the same give one answer
pub answer-generic : (s t : Store) (f p : Bytes) (a b : Option (Map Bytes)) → is_in_order a ≡ true → is_in_order b ≡ true →
    ((l : Bytes) → has_prefix p l ≡ true → record_in l a ≡ record_in l b) →
    (apply_delete_generic s f p a).answer ≡ (apply_delete_generic t f p b).answer
answer-generic s t f p None None i j h = refl
answer-generic s t f p None (Some n) i j h = absurd (none_some (listed (value_at p n)) (h p (prefix_itself p)))
  where
    none_some : (l : List Bytes) → None ≡ Some l → ⊥
    none_some l e = cc
answer-generic s t f p (Some m) None i j h = absurd (some_none (listed (value_at p m)) (h p (prefix_itself p)))
  where
    some_none : (l : List Bytes) → Some l ≡ None → ⊥
    some_none l e = cc
answer-generic s t f p (Some m) (Some n) i j h =
    ap counted_answer (same_map (under p m) (under p n) (rising-where (has_prefix p) m i) (rising-where (has_prefix p) n j) at)
  where
    at : (k : Bytes) → value_at k (under p m) ≡ value_at k (under p n)
    at k =
        value_at-where (has_prefix p) k m
        ∙ elim (cases_Bool (has_prefix p k)) [
          | inl y ↦ rw y (one_listed (value_at k m) (value_at k n) (h k y))
          | inr other ↦ rw other refl
        ]
        ∙ sym (value_at-where (has_prefix p) k n)

-- where it isn't answered NORMAL, no key under the prefix had a record
pub refused-generic : (s : Store) (f p : Bytes) (o : Option (Map Bytes)) → is_normal (apply_delete_generic s f p o).answer.condition ≡ false →
    (l : Bytes) → has_prefix p l ≡ true → (effect (DeleteGeneric f p) (record_in l o)).cell ≡ record_in l o
refused-generic s f p None n l y = refl
refused-generic s f p (Some m) n l y = by (under p m) refl n
  where
    by : (u : Map Bytes) → under p m ≡ u → is_normal (counted_answer u).condition ≡ false → Some [] ≡ Some (listed (value_at l m))
    by [] is n = ap (λ v. Some (listed v)) (sym (none_under p m is l y))
    by (x ∷ xs) is n = absurd (true≢false n)

-- where a key under the prefix has a record, it is answered NORMAL
pub normal-generic : (s : Store) (f p : Bytes) (o : Option (Map Bytes)) (l : Bytes) → has_prefix p l ≡ true →
    is_normal (effect (DeleteGeneric f p) (record_in l o)).answer.condition ≡ true →
    is_normal (apply_delete_generic s f p o).answer.condition ≡ true
normal-generic s f p None l y e = e
normal-generic s f p (Some m) l y e = by (under p m) refl
  where
    by : (u : Map Bytes) → under p m ≡ u → is_normal (counted_answer u).condition ≡ true
    by [] is = absurd (false≢true (sym (ap (λ v. is_normal (counted_answer (listed v)).condition) (none_under p m is l y)) ∙ e))
    by (x ∷ xs) is = refl
