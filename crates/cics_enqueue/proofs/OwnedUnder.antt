-- What conflicts with a prefix of keys, by the bytes of table keys; and what a unit owns of it.
use Rattle.std.proofs.Common.{◌≡◌, ℕ, ◌&&◌, ◌||◌, Bool, true, Option, Some, None, List, [], length, refl, sym, ap, subst, ◌∙◌, inl, inr}
use Rattle.std.specs.Prelude.{option_map}
use Rattle.std.specs.List.{list_any}
use Rattle.std.specs.Map.{lookup}
use Rattle.std.proofs.lemmas.Bool.{and_parts, and_from, or_cases, or_left, or_right, eqb-true, eq-eqb, false≢true}
use Rattle.std.proofs.lemmas.List.Folds.{Any-from_list_any, list_any-from_Any}
use Rattle.arrayvec.specs.ArrayVec.{ArrayVec}
use Rattle.cics_names.specs.Keyed.{Bytes, is_same}
use Rattle.cics_names.specs.KeyedLaws.{is_same-eq, is_same-self}
use Rattle.cics_history.specs.declared.resources.Resource.{Resource}
use Rattle.cics_history.specs.declared.resources.Resource.TheVariants.{FileKey, FilePrefix, TsQueue, TdRead, TdWrite, User}
use Rattle.cics_history.specs.Resources.{bytes_of}
use Rattle.cics_history.specs.Holding.{conflicts}
use Rattle.cics_ksds.specs.Prefixes.{has_prefix}
use Rattle.cics_enqueue.specs.declared.enqueues.Holding.{Holding}
use Rattle.cics_enqueue.specs.Table.{resource_key}
use Rattle.cics_enqueue.specs.Order.{resource_of}
use Rattle.cics_enqueue.specs.Kept.{Entries, Owned, IsKept, table_of, is_units}
use Rattle.cics_enqueue.specs.Under.{OwnsOver, is_over}
use Rattle.cics_enqueue.specs.FreedomLaws.{under_file}
use Rattle.cics_enqueue.proofs.Tables.{key_sound, holder_of-table_of}
use Rattle.cics_enqueue.proofs.Least.{near_prefix, under_name, under_key, under_prefix}

module _ (f : Bytes) (p : ArrayVec ℕ) where
  abbrev pub start : Bytes
  start = resource_key (FileKey f p)

  abbrev pub front : Bytes
  front = resource_key (FilePrefix f p)

  abbrev prefix : Bytes → Bytes
  prefix b = resource_key (FilePrefix f (bytes_of b))

  -- what conflicts with the prefix is over it
  over_if_meets : (s : Resource) → conflicts (FilePrefix f p) s ≡ true → is_over start front (resource_key s) ≡ true
  over_if_meets s h = elim (near_prefix f None [] p s h) [
    | inl x ↦ ap (λ q. is_over start front (resource_key q)) x.2 ∙ or_left _ _ (under_file 1 (length f) f p.items x.0 x.1)
    | inr y ↦ elim y [
      | inl x ↦ ap (λ q. is_over start front (resource_key q)) x.2 ∙ or_left (has_prefix front (prefix x.0)) (has_prefix (prefix x.0) front) (under_file 0 (length f) f p.items x.0 x.1)
      | inr x ↦ ap (λ q. is_over start front (resource_key q)) x.2 ∙ or_right (has_prefix front (prefix x.0)) (has_prefix (prefix x.0) front) (under_file 0 (length f) f x.0 p.items x.1)
    ]
  ]

  -- a prefix with which it begins conflicts with it
  meets_shorter : (s : Resource) → has_prefix (resource_key s) front ≡ true → conflicts (FilePrefix f p) s ≡ true
  meets_shorter (FilePrefix g q) h =
      let parts = under_name g None [] f q.items p.items h in
      and_from _ _ (subst (λ n. is_same n g ≡ true) parts.0 (is_same-self g)) (or_right _ _ parts.1)
  meets_shorter (FileKey g k) h = cc
  meets_shorter (TsQueue q) h = cc
  meets_shorter (TdRead q) h = cc
  meets_shorter (TdWrite q) h = cc
  meets_shorter (User v) h = cc

  -- and what is over it conflicts with it
  meets_if_over : (s : Resource) → is_over start front (resource_key s) ≡ true → conflicts (FilePrefix f p) s ≡ true
  meets_if_over s h = elim (or_cases (has_prefix start (resource_key s)) (has_prefix front (resource_key s) || has_prefix (resource_key s) front) h) [
    | inl a ↦
        let u = under_key f None [] p.items s a in
        ap (conflicts (FilePrefix f p)) u.2 ∙ and_from _ _ (is_same-self f) u.1
    | inr y ↦ elim (or_cases (has_prefix front (resource_key s)) (has_prefix (resource_key s) front) y) [
      | inl b ↦
          let u = under_prefix f None [] p.items s b in
          ap (conflicts (FilePrefix f p)) u.2 ∙ and_from _ _ (is_same-self f) (or_left _ _ u.1)
      | inr b ↦ meets_shorter s b
    ]
  ]

  module _ (es : Entries) (own : Owned) (kept : IsKept es own) (unit : ℕ) where
    -- a table key is the unit's and conflicts with the prefix
    abbrev pub is_held_over : Bytes → Bool
    is_held_over key = is_over start front key && is_units unit (lookup (is_same key) es)

    -- with such a key the unit owns what conflicts
    pub owns_if_key : (key : Bytes) → is_held_over key ≡ true → OwnsOver (table_of es) (FilePrefix f p) unit
    owns_if_key key h = by (lookup (is_same key) es) refl (and_parts (is_over start front key) (is_units unit (lookup (is_same key) es)) h)
      where
        by : (o : Option Holding) → lookup (is_same key) es ≡ o → (is_over start front key ≡ true) × (is_units unit o ≡ true) → OwnsOver (table_of es) (FilePrefix f p) unit
        by None at parts = absurd (false≢true parts.1)
        by (Some x) at parts =
            let sound = key_sound es key x kept.keys at in
            record {
              owned = resource_of key;
              meets = meets_if_over (resource_of key) (subst (λ b. is_over start front b ≡ true) sound parts.0);
              holder = holder_of-table_of (resource_of key) key sound es (Some x) kept.keys (sym at) ∙ ap Some (eqb-true x.unit unit parts.1);
            }

    -- if it owns what conflicts, it has such a key
    pub key_if_owns : OwnsOver (table_of es) (FilePrefix f p) unit → (keys : List Bytes) → ((key : Bytes) → is_units unit (lookup (is_same key) es) ≡ true → list_any (is_same key) keys ≡ true) → list_any is_held_over keys ≡ true
    key_if_owns o keys listed =
        let key : Bytes = resource_key o.owned in
        let its = units (lookup (is_same key) es) (sym (holder_of-table_of o.owned key refl es (lookup (is_same key) es) kept.keys refl) ∙ o.holder) in
        let passes : is_held_over key ≡ true = and_from _ _ (over_if_meets o.owned o.meets) its in
        let (k, b, within, is, same) = Any-from_list_any (is_same key) keys (listed key its) in
        list_any-from_Any is_held_over keys (k, b, within, is, subst (λ x. is_held_over x ≡ true) (is_same-eq key b same) passes)
      where
        units : (h : Option Holding) → option_map (λ x. x.unit) h ≡ Some unit → is_units unit h ≡ true
        units None is = cc
        units (Some x) is = let same : x.unit ≡ unit = cc in eq-eqb x.unit unit same
