-- What the table says of each resource, and what it is after a change.
use Rattle.std.proofs.Common.{arith, ◌≤◌, ◌≡◌, ◌+◌, ◌-◌, ℕ, ◌&&◌, ◌==◌, not, Bool, true, false, cond, T, Option, Some, None, [], ◌∷◌, nat_eq, refl, sym, ap, subst, ◌∙◌}
use Rattle.std.specs.Prelude.{Result, Ok, Err, OnOk, OnErr, is_err, is_some, option_map, nat_le, nat_lt, if◌then◌else◌}
use Rattle.std.specs.Map.{lookup, keys_of, set_value, remove_entry}
use Rattle.std.specs.List.Sorted.{IsStrictlySortedBy}
use Rattle.std.specs.Cmp.{IsTotalOrder}
use Rattle.std.specs.Cmp.Lexicographic.{nat_list_cmp_total}
use Rattle.std.proofs.lemmas.Map.{lookup-none}
use Rattle.std.proofs.lemmas.Map.Keys.{sorted_tail}
use Rattle.std.proofs.lemmas.Map.Entries.{none_below_head}
use Rattle.std.specs.BTreeMap.{insert_entry}
use Rattle.std.specs.Option.{unwrap_or}
use Rattle.std.specs.declared.cmp.Ordering.TheVariants.{Less, Equal, Greater}
use Rattle.std.specs.Ordering.{is_eq, match_ordering}
use Rattle.std.specs.FinMap as map_by
use Rattle.std.specs.FinMap.Entries.{below_all, by_order, is_sorted-put, is_sorted-where_key, same_entries}
use Rattle.std.proofs.lemmas.Bool.{eq-eqb, eqb-true, and_parts}
use Rattle.cics_names.specs.Keyed.{Bytes, bytes_cmp, is_same}
use Rattle.cics_names.specs.KeyedLaws.{is_same-eq, is_same-self}
use Rattle.cics_history.specs.declared.resources.Resource.{Resource}
use Rattle.cics_enqueue.specs.declared.enqueues.Holding.{Holding}
use Rattle.cics_enqueue.specs.Kept.{Entries, Owned, table_of, seen, AreKeys, AreOwned, Adds, Drops, owns, has_in, is_units, is_place, IsKept, without_own, Frees}
use Rattle.cics_history.specs.Resources.{is_one, is_user, most_count}
use Rattle.cics_enqueue.specs.Table.{IsFreeFor, Table, Held, held_at, holder_of, count_of, count_in, is_full, raised_count, is_in_order, resource_cmp, resource_key, with_holder, freed, released, taken, given_back, given_back_of}
use Rattle.cics_history.specs.ResourceLaws.{is_one-eq}
use Rattle.cics_enqueue.specs.Order.{resource_cmp_total, is_one-cmp, same_resources, resource_of, resource_of-resource_key}
use Rattle.cics_enqueue.proofs.TableLaws.{taken-held, held_own, given_back-taken, left_of, right_of, not_tied, held_before, held_without, held_at-released, is_in_order-released}

-- keys are ordered totally
key_cmp_total : IsTotalOrder bytes_cmp
key_cmp_total = record {
  antisymm = λ x y. nat_list_cmp_total.antisymm x y;
  trans = λ x y z. nat_list_cmp_total.trans x y z;
  congr = λ x y z. nat_list_cmp_total.congr x y z;
}

-- what is kept, put under its key once more, changes nothing
pub insert_same : (es : Entries) (k : Bytes) (v : Holding) → IsStrictlySortedBy bytes_cmp (keys_of es) → lookup (is_same k) es ≡ Some v → insert_entry bytes_cmp es k v ≡ es
insert_same [] k v rises at = cc
insert_same (e ∷ es) k v rises at =
    let rest : lookup (is_same k) es ≡ Some v → insert_entry bytes_cmp es k v ≡ es = insert_same es k v (sorted_tail bytes_cmp e.0 (keys_of es) rises) in
    elim (bytes_cmp k e.0) as (λ c. bytes_cmp k e.0 ≡ c → cond (is_eq c) (Some e.1) (lookup (is_same k) es) ≡ Some v → match_ordering c ((k, v) ∷ e ∷ es) ((e.0, v) ∷ es) (e ∷ insert_entry bytes_cmp es k v) ≡ e ∷ es) [
      | Less ↦ λ less at.
          let wrong : None ≡ Some v = sym (lookup-none (is_same k) es (none_below_head key_cmp_total k e es rises less).1) ∙ at in cc
      | Equal ↦ λ same at. let one : e.1 ≡ v = cc in ap (λ x. (e.0, x) ∷ es) (sym one)
      | Greater ↦ λ more at. ap (λ t. e ∷ t) (rest at)
    ] refl at

-- if there are as many entries as before, the key had an entry
pub insert_kept : (es : Entries) (k : Bytes) (v w : Holding) → IsStrictlySortedBy bytes_cmp (keys_of es) → v ≡ unwrap_or (lookup (is_same k) es) w → (if is_some (lookup (is_same k) es) then 0 else 1) ≤ 0 → insert_entry bytes_cmp es k v ≡ es
insert_kept es k v w rises is more = by (lookup (is_same k) es) refl is more
  where
    by : (o : Option Holding) → lookup (is_same k) es ≡ o → v ≡ unwrap_or o w → (if is_some o then 0 else 1) ≤ 0 → insert_entry bytes_cmp es k v ≡ es
    by None at is more = absurd (omega arith)
    by (Some h) at is more = insert_same es k v rises (at ∙ ap Some (sym is))

-- what was added under a key is removed again
pub insert_undone : (es : Entries) (k : Bytes) (v : Holding) → lookup (is_same k) es ≡ None → remove_entry (is_same k) (insert_entry bytes_cmp es k v) ≡ es
insert_undone [] k v absent = ap (λ b. cond b [] ((k, v) ∷ [])) (is_same-self k)
insert_undone (e ∷ es) k v absent =
    elim (bytes_cmp k e.0) as (λ c. bytes_cmp k e.0 ≡ c → cond (is_eq c) (Some e.1) (lookup (is_same k) es) ≡ None → remove_entry (is_same k) (match_ordering c ((k, v) ∷ e ∷ es) ((e.0, v) ∷ es) (e ∷ insert_entry bytes_cmp es k v)) ≡ e ∷ es) [
      | Less ↦ λ less at. ap (λ b. cond b (e ∷ es) ((k, v) ∷ remove_entry (is_same k) (e ∷ es))) (is_same-self k)
      | Equal ↦ λ same at. cc
      | Greater ↦ λ more at. ap (λ c. cond (is_eq c) (insert_entry bytes_cmp es k v) (e ∷ remove_entry (is_same k) (insert_entry bytes_cmp es k v))) more ∙ ap (λ t. e ∷ t) (insert_undone es k v at)
    ] refl absent

module _ (r : Resource) (key : Bytes) (is : key ≡ resource_key r) where
  -- a resource compares to an entry's as its bytes do
  compares : (k : Bytes) → resource_key (resource_of k) ≡ k → bytes_cmp key k ≡ resource_cmp r (resource_of k)
  compares k sound = λ i. bytes_cmp (is i) (sym sound i)

  -- the holding of a resource in the table is that of its bytes in the entries
  pub held_at-table_of : (es : Entries) → AreKeys es → held_at r (table_of es) ≡ option_map seen (lookup (is_same key) es)
  held_at-table_of [] sound = refl
  held_at-table_of (e ∷ es) sound =
      ap (λ o. cond (is_eq o) (Some (seen e.1)) (held_at r (table_of es))) (sym (compares e.0 sound.0))
      ∙ step (is_same key e.0) (held_at-table_of es sound.1)
    where
      step : (b : Bool) → held_at r (table_of es) ≡ option_map seen (lookup (is_same key) es) → cond b (Some (seen e.1)) (held_at r (table_of es)) ≡ option_map seen (cond b (Some e.1) (lookup (is_same key) es))
      step true h = refl
      step false h = h

  -- the resource is read back from its bytes, and has these
  pub read_back : resource_of key ≡ r
  read_back = ap resource_of is ∙ resource_of-resource_key r

  pub own_key : resource_key (resource_of key) ≡ key
  own_key = ap resource_key read_back ∙ sym is

  -- the owner of a resource, and how many times it owns it
  pub holder_of-table_of : (es : Entries) (o : Option Holding) → AreKeys es → o ≡ lookup (is_same key) es → holder_of r (table_of es) ≡ option_map (λ h. h.unit) o
  holder_of-table_of es o sound found = ap (option_map (λ h. h.unit)) (held_at-table_of es sound ∙ ap (option_map seen) (sym found)) ∙ step o
    where
      step : (o : Option Holding) → option_map (λ h. h.unit) (option_map seen o) ≡ option_map (λ h. h.unit) o
      step None = refl
      step (Some h) = refl

  -- ---- changes of one entry
  -- an entry is added in order
  pub table_of-inserted : (k : Bytes) (h : Holding) (es : Entries) → k ≡ key → AreKeys es → table_of (insert_entry bytes_cmp es k h) ≡ map_by.put resource_cmp r (seen h) (table_of es)
  table_of-inserted k h [] same sound = ap (λ s. (s, seen h) ∷ []) (here k same)
    where
      here : (k : Bytes) → k ≡ key → resource_of k ≡ r
      here k same = ap resource_of (same ∙ is) ∙ resource_of-resource_key r
  table_of-inserted k h (e ∷ es) same sound =
      let o : bytes_cmp k e.0 ≡ resource_cmp r (resource_of e.0) = ap (λ b. bytes_cmp b e.0) same ∙ compares e.0 sound.0 in
      let here : resource_of k ≡ r = ap resource_of (same ∙ is) ∙ resource_of-resource_key r in
      let rest = table_of-inserted k h es same sound.1 in
      elim (bytes_cmp k e.0) as (λ c. table_of (match_ordering c ((k, h) ∷ e ∷ es) ((e.0, h) ∷ es) (e ∷ insert_entry bytes_cmp es k h))
      ≡ by_order c ((r, seen h) ∷ table_of (e ∷ es)) ((resource_of e.0, seen h) ∷ table_of es) ((resource_of e.0, seen e.1) ∷ map_by.put resource_cmp r (seen h) (table_of es))) [
        | Less ↦ ap (λ s. (s, seen h) ∷ table_of (e ∷ es)) here
        | Equal ↦ refl
        | Greater ↦ ap (λ t. (resource_of e.0, seen e.1) ∷ t) rest
      ] ∙ ap (λ c. by_order c ((r, seen h) ∷ table_of (e ∷ es)) ((resource_of e.0, seen h) ∷ table_of es) ((resource_of e.0, seen e.1) ∷ map_by.put resource_cmp r (seen h) (table_of es))) o

  pub AreKeys-inserted : (k : Bytes) (h : Holding) (es : Entries) → k ≡ key → AreKeys es → AreKeys (insert_entry bytes_cmp es k h)
  AreKeys-inserted k h [] same sound = (own_key k same, tt)
    where
      own_key : (k : Bytes) → k ≡ key → resource_key (resource_of k) ≡ k
      own_key k same = ap resource_key (ap resource_of (same ∙ is) ∙ resource_of-resource_key r) ∙ sym (same ∙ is)
  AreKeys-inserted k h (e ∷ es) same sound =
      let mine : resource_key (resource_of k) ≡ k = ap resource_key (ap resource_of (same ∙ is) ∙ resource_of-resource_key r) ∙ sym (same ∙ is) in
      let rest = AreKeys-inserted k h es same sound.1 in
      elim (bytes_cmp k e.0) as (λ c. AreKeys (match_ordering c ((k, h) ∷ e ∷ es) ((e.0, h) ∷ es) (e ∷ insert_entry bytes_cmp es k h))) [
        | Less ↦ (mine, sound)
        | Equal ↦ sound
        | Greater ↦ (sound.0, rest)
      ]

  -- a resource that comes before all of a table isn't in it
  freed-before : (t : Table) → T (below_all resource_cmp r t) → freed t r ≡ t
  freed-before [] below = refl
  freed-before (e ∷ es) below =
      ap (λ b. cond (not b) (e ∷ freed es r) (freed es r)) (is_one-cmp r e.0 ∙ not_tied (resource_cmp r e.0) (left_of _ _ below))
      ∙ ap (λ t. e ∷ t) (freed-before es (right_of _ _ below))

  -- an entry is removed
  pub table_of-removed : (es : Entries) → AreKeys es → T (is_in_order (table_of es)) → table_of (remove_entry (is_same key) es) ≡ freed (table_of es) r
  table_of-removed [] sound rises = refl
  table_of-removed (e ∷ es) sound rises =
      let s : Resource = resource_of e.0 in
      let o : bytes_cmp key e.0 ≡ resource_cmp r s = compares e.0 sound.0 in
      let rest = table_of-removed es sound.1 (right_of _ _ rises) in
      elim (is_one r s) as (λ b. is_one r s ≡ b → table_of (cond (is_same key e.0) es (e ∷ remove_entry (is_same key) es)) ≡ cond (not b) ((s, seen e.1) ∷ freed (table_of es) r) (freed (table_of es) r)) [
        | true ↦ λ one. ap (λ b. table_of (cond b es (e ∷ remove_entry (is_same key) es))) (ap is_eq o ∙ sym (is_one-cmp r s) ∙ one)
            ∙ sym (freed-before (table_of es) (subst (λ x. T (below_all resource_cmp x (table_of es))) (sym (is_one-eq r s one)) (left_of _ _ rises)))
        | false ↦ λ other. ap (λ b. table_of (cond b es (e ∷ remove_entry (is_same key) es))) (ap is_eq o ∙ sym (is_one-cmp r s) ∙ other)
            ∙ ap (λ t. (s, seen e.1) ∷ t) rest
      ] refl

  pub AreKeys-removed : (es : Entries) → AreKeys es → AreKeys (remove_entry (is_same key) es)
  AreKeys-removed [] sound = tt
  AreKeys-removed (e ∷ es) sound = elim (is_same key e.0) as (λ b. AreKeys (cond b es (e ∷ remove_entry (is_same key) es))) [ true ↦ sound.1 | false ↦ (sound.0, AreKeys-removed es sound.1) ]

  -- a holding is replaced
  module _ (v w : Holding) where
    pub table_of-written : (es : Entries) → AreKeys es → T (is_in_order (table_of es)) → lookup (is_same key) es ≡ Some v → table_of (set_value (is_same key) es w) ≡ with_holder (table_of es) r w.unit w.count
    table_of-written [] sound rises found = cc
    table_of-written (e ∷ es) sound rises found =
        let s : Resource = resource_of e.0 in
        let o : bytes_cmp key e.0 ≡ resource_cmp r s = compares e.0 sound.0 in
        ap (λ c. table_of (cond (is_eq c) ((e.0, w) ∷ es) (e ∷ set_value (is_same key) es w))) o ∙ elim (resource_cmp r s) as (λ c. resource_cmp r s ≡ c → cond (is_eq c) (Some e.1) (lookup (is_same key) es) ≡ Some v →
        table_of (cond (is_eq c) ((e.0, w) ∷ es) (e ∷ set_value (is_same key) es w)) ≡ by_order c ((r, seen w) ∷ table_of (e ∷ es)) ((s, seen w) ∷ table_of es) ((s, seen e.1) ∷ with_holder (table_of es) r w.unit w.count)) [
          | Less ↦ λ less at.
              let none : held_at r (table_of es) ≡ None = held_before r s (table_of es) less (left_of _ _ rises) in
              let wrong : None ≡ Some (seen v) = sym none ∙ held_at-table_of es sound.1 ∙ ap (option_map seen) at in cc
          | Equal ↦ λ same at. refl
          | Greater ↦ λ more at. ap (λ t. (s, seen e.1) ∷ t) (table_of-written es sound.1 (right_of _ _ rises) at)
        ] refl (ap (λ c. cond (is_eq c) (Some e.1) (lookup (is_same key) es)) (sym o) ∙ found)

    pub AreKeys-written : (es : Entries) → AreKeys es → AreKeys (set_value (is_same key) es w)
    AreKeys-written [] sound = tt
    AreKeys-written (e ∷ es) sound = elim (is_same key e.0) as (λ b. AreKeys (cond b ((e.0, w) ∷ es) (e ∷ set_value (is_same key) es w))) [ true ↦ sound | false ↦ (sound.0, AreKeys-written es sound.1) ]

    -- a holding that replaces its like changes nothing
    pub table_of-same : (es : Entries) → w ≡ v → lookup (is_same key) es ≡ Some v → table_of (set_value (is_same key) es w) ≡ table_of es
    table_of-same es same found = ap table_of (ap (set_value (is_same key) es) same ∙ set_value-same es found)
      where
        set_value-same : (es : Entries) → lookup (is_same key) es ≡ Some v → set_value (is_same key) es v ≡ es
        set_value-same [] = λ h. refl
        set_value-same (e ∷ es) = elim (is_same key e.0) as (λ b. cond b (Some e.1) (lookup (is_same key) es) ≡ Some v → cond b ((e.0, v) ∷ es) (e ∷ set_value (is_same key) es v) ≡ e ∷ es) [
          | true ↦ λ h. let one : e.1 ≡ v = cc in ap (λ x. (e.0, x) ∷ es) (sym one)
          | false ↦ λ h. ap (λ t. e ∷ t) (set_value-same es h)
        ]

    -- the holding of each key
    module _ (es fs : Entries) (own : Owned) (found : lookup (is_same key) es ≡ Some v) (updated : (k : Bytes) → lookup (is_same k) fs ≡ cond (is_same key k) (Some w) (lookup (is_same k) es)) where
      -- the keys that a unit owns stay in its list, if a holding keeps its unit
      pub AreOwned-written : w.unit ≡ v.unit → AreOwned es own → AreOwned fs own
      AreOwned-written unit owned u k = subst (λ b. b ≡ true → owns own u k ≡ true) (sym (ap (is_units u) (updated k) ∙ elim (is_same key k) as (λ b. is_same key k ≡ b → is_units u (cond b (Some w) (lookup (is_same k) es)) ≡ is_units u (lookup (is_same k) es)) [
        | true ↦ λ t. ap (λ n. n == u) unit ∙ sym (ap (is_units u) (ap (λ b. lookup (is_same b) es) (sym (is_same-eq key k t)) ∙ found))
        | false ↦ λ t. refl
      ] refl)) (owned u k)

  -- a new holding
  pub AreOwned-added : (es fs : Entries) (own after : Owned) (h : Holding) → ((k : Bytes) → lookup (is_same k) fs ≡ cond (is_same key k) (Some h) (lookup (is_same k) es)) →
      Adds h.unit key own after → AreOwned es own → AreOwned fs after
  AreOwned-added es fs own after h updated adds owned u k held = adds u k (elim (is_same key k) as (λ b. is_units u (cond b (Some h) (lookup (is_same k) es)) ≡ true → (if nat_eq h.unit u && b then true else owns own u k) ≡ true) [
    | true ↦ elim (nat_eq h.unit u) as (λ b. b ≡ true → (if b && true then true else owns own u k) ≡ true) [ true ↦ λ mine. refl | false ↦ λ mine. cc ]
    | false ↦ λ mine. ap (λ b. if b then true else owns own u k) (never (nat_eq h.unit u)) ∙ owned u k mine
  ] (sym (ap (is_units u) (updated k)) ∙ held))
    where
      never : (b : Bool) → (b && false) ≡ false
      never true = refl
      never false = refl

  -- a holding that was removed
  pub AreOwned-removed : (es fs : Entries) (own after : Owned) (unit : ℕ) → ((k : Bytes) → lookup (is_same k) fs ≡ cond (is_same key k) None (lookup (is_same k) es)) →
      Drops unit key own after → AreOwned es own → AreOwned fs after
  AreOwned-removed es fs own after unit updated drops owned u k held = elim (is_same key k) as (λ b. is_same key k ≡ b → is_units u (cond b None (lookup (is_same k) es)) ≡ true → owns after u k ≡ true) [
    | true ↦ λ t mine. cc
    | false ↦ λ t mine. drops u k (ap (λ b. nat_eq unit u && b) t ∙ never (nat_eq unit u)) (owned u k mine)
  ] refl (sym (ap (is_units u) (updated k)) ∙ held)
    where
      never : (b : Bool) → (b && false) ≡ false
      never true = refl
      never false = refl

  -- ---- what is acquired
  module _ (es : Entries) (sound : AreKeys es) where
    module _ (v : Holding) (found : lookup (is_same key) es ≡ Some v) where
      pub held_here : held_at r (table_of es) ≡ Some (seen v)
      held_here = held_at-table_of es sound ∙ ap (option_map seen) found

      pub count_here : count_of r (table_of es) ≡ v.count
      count_here = ap count_in held_here

      pub holder_here : holder_of r (table_of es) ≡ Some v.unit
      holder_here = ap (option_map (λ h. h.unit)) held_here

      -- the unit acquires once more what it owns
      pub taken-raised : (u : ℕ) (w : Holding) → T (is_in_order (table_of es)) → w.unit ≡ v.unit → v.unit ≡ u → w.count ≡ (if is_user r then v.count + 1 else v.count) → table_of (set_value (is_same key) es w) ≡ taken (table_of es) r u
      taken-raised u w rises unit holder count = table_of-written v w es sound rises found ∙ (λ i. with_holder (table_of es) r ((unit ∙ holder) i) ((count ∙ ap (raised_count r) (sym held_here)) i))

      -- ---- what is released
      opened : (u : ℕ) → given_back (table_of es) r u ≡ given_back_of (Some (seen v)) (table_of es) r u
      opened u = ap (λ o. given_back_of o (table_of es) r u) held_here

      pub given_back-foreign : (u : ℕ) → (v.unit == u) ≡ false → given_back (table_of es) r u ≡ table_of es
      given_back-foreign u other = opened u ∙ ap (λ b. if b then (if nat_lt 1 v.count then with_holder (table_of es) r u (v.count - 1) else freed (table_of es) r) else table_of es) other

      mine_then : (u : ℕ) → (v.unit == u) ≡ true → given_back (table_of es) r u ≡ (if nat_lt 1 v.count then with_holder (table_of es) r u (v.count - 1) else freed (table_of es) r)
      mine_then u mine = opened u ∙ ap (λ b. if b then (if nat_lt 1 v.count then with_holder (table_of es) r u (v.count - 1) else freed (table_of es) r) else table_of es) mine

      pub given_back-once : (u : ℕ) → (v.unit == u) ≡ true → nat_lt 1 v.count ≡ true → given_back (table_of es) r u ≡ with_holder (table_of es) r u (v.count - 1)
      given_back-once u mine more = mine_then u mine ∙ ap (λ b. if b then with_holder (table_of es) r u (v.count - 1) else freed (table_of es) r) more

      pub given_back-last : (u : ℕ) → (v.unit == u) ≡ true → nat_lt 1 v.count ≡ false → given_back (table_of es) r u ≡ freed (table_of es) r
      given_back-last u mine last = mine_then u mine ∙ ap (λ b. if b then with_holder (table_of es) r u (v.count - 1) else freed (table_of es) r) last

    module _ (absent : lookup (is_same key) es ≡ None) where
      pub free_here : held_at r (table_of es) ≡ None
      free_here = held_at-table_of es sound ∙ ap (option_map seen) absent

      -- a unit acquires what nobody owns
      pub taken-new : (k : Bytes) (h : Holding) → k ≡ key → h.count ≡ 1 → table_of (insert_entry bytes_cmp es k h) ≡ taken (table_of es) r h.unit
      taken-new k h same one = table_of-inserted k h es same sound ∙ ap (with_holder (table_of es) r h.unit) (one ∙ ap (raised_count r) (sym free_here))

      -- it isn't full
      pub not_full : is_full r (table_of es) ≡ false
      not_full = ap (λ o. is_user r && nat_le most_count (count_in o)) free_here ∙ never (is_user r)
        where
          never : (b : Bool) → (b && nat_le most_count 0) ≡ false
          never true = refl
          never false = refl

      pub given_back-free : (u : ℕ) → given_back (table_of es) r u ≡ table_of es
      given_back-free u = ap (λ o. given_back_of o (table_of es) r u) free_here

    -- ---- what is kept after a change
    module _ (own : Owned) (kept : IsKept es own) where
      pub IsKept-written : (v w : Holding) (fs : Entries) → fs ≡ set_value (is_same key) es w → lookup (is_same key) es ≡ Some v → w.unit ≡ v.unit →
          ((k : Bytes) → lookup (is_same k) fs ≡ cond (is_same key k) (Some w) (lookup (is_same k) es)) → IsKept fs own
      IsKept-written v w fs written found unit updated = record {
        keys = subst AreKeys (sym written) (AreKeys-written v w es sound);
        in_order = subst (λ t. T (is_in_order t)) (sym (ap table_of written ∙ table_of-written v w es sound kept.in_order found)) (is_sorted-put resource_cmp resource_cmp_total r (seen w) (table_of es) kept.in_order);
        owned = AreOwned-written v w es fs own found updated unit kept.owned;
      }

      pub IsKept-added : (k : Bytes) (h : Holding) (fs : Entries) (after : Owned) → k ≡ key → fs ≡ insert_entry bytes_cmp es k h →
          ((k : Bytes) → lookup (is_same k) fs ≡ cond (is_same key k) (Some h) (lookup (is_same k) es)) → Adds h.unit key own after → IsKept fs after
      IsKept-added k h fs after same inserted updated adds = record {
        keys = subst AreKeys (sym inserted) (AreKeys-inserted k h es same sound);
        in_order = subst (λ t. T (is_in_order t)) (sym (ap table_of inserted ∙ table_of-inserted k h es same sound)) (is_sorted-put resource_cmp resource_cmp_total r (seen h) (table_of es) kept.in_order);
        owned = AreOwned-added es fs own after h updated adds kept.owned;
      }

      pub IsKept-removed : (unit : ℕ) (fs : Entries) (after : Owned) → fs ≡ remove_entry (is_same key) es →
          ((k : Bytes) → lookup (is_same k) fs ≡ cond (is_same key k) None (lookup (is_same k) es)) → Drops unit key own after → IsKept fs after
      IsKept-removed unit fs after removed updated drops = record {
        keys = subst AreKeys (sym removed) (AreKeys-removed es sound);
        in_order = subst (λ t. T (is_in_order t)) (sym (ap table_of removed ∙ table_of-removed es sound kept.in_order)) (is_sorted-where_key resource_cmp (λ s. not (is_one r s)) (table_of es) kept.in_order);
        owned = AreOwned-removed es fs own after unit updated drops kept.owned;
      }

-- ---- what a unit releases at its end
-- to free first what the unit releases anyway changes nothing
pub released-freed : (t : Table) (r : Resource) (u : ℕ) → T (is_in_order t) → ((h : Held) → held_at r t ≡ Some h → h.unit ≡ u) → released (freed t r) u ≡ released t u
released-freed [] r u rises own_held = refl
released-freed (e ∷ es) r u rises own_held =
    elim (is_one r e.0) as (λ b. is_one r e.0 ≡ b → released (cond (not b) (e ∷ freed es r) (freed es r)) u ≡ released (e ∷ es) u) [
      | true ↦ λ one.
          let same : r ≡ e.0 = is_one-eq r e.0 one in
          let gone : e.1.unit ≡ u = own_held e.1 (ap (λ b. cond b (Some e.1) (held_at r es)) (sym (is_one-cmp r e.0) ∙ one)) in
          ap (λ t. released t u) (freed-before r (resource_key r) refl es (subst (λ s. T (below_all resource_cmp s es)) (sym same) (left_of _ _ rises)))
          ∙ sym (ap (λ b. cond (not b) (e ∷ released es u) (released es u)) (eq-eqb e.1.unit u gone))
      | false ↦ λ other. ap (λ rest. cond (not (e.1.unit == u)) (e ∷ rest) rest)
          (released-freed es r u (right_of _ _ rises) (λ h at. own_held h (ap (λ b. cond b (Some e.1) (held_at r es)) (sym (is_one-cmp r e.0) ∙ other) ∙ at)))
    ] refl

-- the bytes of an entry are its resource's
pub key_sound : (es : Entries) (b : Bytes) (h : Holding) → AreKeys es → lookup (is_same b) es ≡ Some h → b ≡ resource_key (resource_of b)
key_sound [] b h sound at = cc
key_sound (e ∷ es) b h sound at = elim (is_same b e.0) as (λ t. is_same b e.0 ≡ t → cond t (Some e.1) (lookup (is_same b) es) ≡ Some h → b ≡ resource_key (resource_of b)) [
  | true ↦ λ t f. subst (λ x. x ≡ resource_key (resource_of x)) (sym (is_same-eq b e.0 t)) (sym sound.0)
  | false ↦ λ t f. key_sound es b h sound.1 f
] refl at

-- a unit doesn't own what isn't in its list
pub unheld : (es : Entries) (own : Owned) (u : ℕ) (k : Bytes) → AreOwned es own → owns own u k ≡ false → is_units u (lookup (is_same k) es) ≡ false
unheld es own u k owned none = elim (is_units u (lookup (is_same k) es)) as (λ b. is_units u (lookup (is_same k) es) ≡ b → b ≡ false) [
  | true ↦ λ t. let wrong : false ≡ true = sym none ∙ owned u k t in cc
  | false ↦ λ f. refl
] refl

-- to free first what a unit owns under a key changes nothing of what its end leaves
pub released-let_go : (es : Entries) (key : Bytes) (unit : ℕ) → AreKeys es → T (is_in_order (table_of es)) → released (table_of (without_own unit key es)) unit ≡ released (table_of es) unit
released-let_go es key unit sound rises = by (lookup (is_same key) es) refl
  where
    by : (o : Option Holding) → lookup (is_same key) es ≡ o → released (table_of (if is_units unit o then remove_entry (is_same key) es else es)) unit ≡ released (table_of es) unit
    by None at = refl
    by (Some h) at = elim (h.unit == unit) as (λ b. (h.unit == unit) ≡ b → released (table_of (if b then remove_entry (is_same key) es else es)) unit ≡ released (table_of es) unit) [
      | true ↦ λ mine.
          let r = resource_of key in
          let is = key_sound es key h sound at in
          ap (λ t. released t unit) (table_of-removed r key is es sound rises)
          ∙ released-freed (table_of es) r unit rises (λ g gt. let some : Some g ≡ Some (seen h) = sym gt ∙ held_here r key is es sound h at in let same : g ≡ seen h = cc in ap (λ x. x.unit) same ∙ eqb-true h.unit unit mine)
      | false ↦ λ other. refl
    ] refl

-- a key that was removed from a unit's list, and that isn't its own
pub AreOwned-passed : (key : Bytes) (es : Entries) (own after : Owned) (unit : ℕ) → is_units unit (lookup (is_same key) es) ≡ false → Drops unit key own after → AreOwned es own → AreOwned es after
AreOwned-passed key es own after unit other drops owned u k held = drops u k (not_place (is_place unit key u k) refl) (owned u k held)
  where
    not_place : (b : Bool) → is_place unit key u k ≡ b → is_place unit key u k ≡ false
    not_place true t =
        let p = and_parts (nat_eq unit u) (is_same key k) t in
        let wrong : false ≡ true = sym other ∙ ap (λ x. is_units x (lookup (is_same key) es)) (eqb-true unit u p.0) ∙ ap (λ b. is_units u (lookup (is_same b) es)) (is_same-eq key k p.1) ∙ held in cc
    not_place false f = f

-- a key removed from a unit's list is removed from the entries if it was the unit's
pub IsKept-let_go : (key : Bytes) (es : Entries) (own : Owned) (unit : ℕ) (fs : Entries) (after : Owned) → fs ≡ without_own unit key es → Frees unit key es fs → Drops unit key own after → IsKept es own → IsKept fs after
IsKept-let_go key es own unit fs after went each drops kept = by (is_units unit (lookup (is_same key) es)) refl went each
  where
    found_own : (o : Option Holding) → is_units unit o ≡ true → (h : Holding) × (o ≡ Some h)
    found_own None t = cc
    found_own (Some h) t = (h, refl)

    by : (b : Bool) → is_units unit (lookup (is_same key) es) ≡ b → fs ≡ (if b then remove_entry (is_same key) es else es) → ((k : Bytes) → lookup (is_same k) fs ≡ (if b && is_same key k then None else lookup (is_same k) es)) → IsKept fs after
    by true t went each =
        let held = found_own (lookup (is_same key) es) t in
        IsKept-removed (resource_of key) key (key_sound es key held.0 kept.keys held.1) es kept.keys own kept unit fs after went each drops
    by false f went each = subst (λ fs. IsKept fs after) (sym went) (record { keys = kept.keys; in_order = kept.in_order; owned = AreOwned-passed key es own after unit f drops kept.owned })

-- a unit that owns nothing releases nothing
pub released-nothing : (es : Entries) (own : Owned) (u : ℕ) → IsKept es own → ((k : Bytes) → owns own u k ≡ false) → released (table_of es) u ≡ table_of es
released-nothing es own u kept none = same_entries resource_cmp resource_cmp_total same_resources (released (table_of es) u) (table_of es) (is_in_order-released (table_of es) u kept.in_order) kept.in_order
    (λ q. held_at-released (table_of es) u q kept.in_order ∙ ap (held_without u) (is q) ∙ others q (lookup (is_same (resource_key q)) es) refl ∙ sym (is q))
  where
    is : (q : Resource) → held_at q (table_of es) ≡ option_map seen (lookup (is_same (resource_key q)) es)
    is q = held_at-table_of q (resource_key q) refl es kept.keys

    others : (q : Resource) (o : Option Holding) → lookup (is_same (resource_key q)) es ≡ o → held_without u (option_map seen o) ≡ option_map seen o
    others q None at = refl
    others q (Some h) at =
        let other : (h.unit == u) ≡ false = ap (is_units u) (sym at) ∙ unheld es own u (resource_key q) kept.owned (none (resource_key q)) in
        ap (λ b. if b then None else Some (seen h)) other

-- the keys of a unit that owns none can go
pub IsKept-ended : (es : Entries) (own between after : Owned) (unit : ℕ) → ((k : Bytes) → owns own unit k ≡ false) → ((u : ℕ) (k : Bytes) → owns between u k ≡ owns own u k) →
    ((q : ℕ) → lookup (nat_eq q) after ≡ cond (nat_eq unit q) None (lookup (nat_eq q) between)) → IsKept es own → IsKept es after
IsKept-ended es own between after unit none stays ended kept = record {
  keys = kept.keys;
  in_order = kept.in_order;
  owned = λ u k held. ap (λ o. has_in o k) (ended u) ∙ elim (nat_eq unit u) as (λ b. nat_eq unit u ≡ b → has_in (cond b None (lookup (nat_eq u) between)) k ≡ true) [
    | true ↦ λ t. let wrong : false ≡ true = sym (subst (λ x. owns own x k ≡ false) (eqb-true unit u t) (none k)) ∙ kept.owned u k held in cc
    | false ↦ λ t. stays u k ∙ kept.owned u k held
  ] refl;
}

-- any lists do for no entries
pub IsKept-emptied : (es : Entries) (after : Owned) → es ≡ [] → IsKept es after
IsKept-emptied es after empty = subst (λ fs. IsKept fs after) (sym empty) (record { keys = tt; in_order = tt; owned = λ u k held. cc })

-- what holds on success, of what succeeded, and on a refusal, of what was refused
pub ok_holds : {X E P : Type 0} (r : Result X E) → is_err r ≡ false → OnOk r P → P
ok_holds (Ok x) e p = p
ok_holds (Err x) e p = cc

pub err_holds : {X E P : Type 0} (r : Result X E) → is_err r ≡ true → OnErr r P → P
err_holds (Ok x) e p = cc
err_holds (Err x) e p = p

-- the table after a resource other than a user's value was acquired, if it was free
pub hold_taken : (t s : Table) (r : Resource) (u : ℕ) (o : Option Holding) → T (is_in_order t) → IsFreeFor t r u → is_user r ≡ false → option_map seen o ≡ held_at r t → s ≡ (if is_some o then t else taken t r u) → s ≡ taken t r u
hold_taken t s r u None rises free plain at new = new
hold_taken t s r u (Some h) rises free plain at new = new ∙ sym (taken-held t r u rises (held_own t r u free (ap is_some (ap (option_map (λ h. h.unit)) (sym at)))) plain)

pub hold_undone : (t s : Table) (r : Resource) (u : ℕ) (o : Option Holding) (b : Bool) → T (is_in_order t) → option_map seen o ≡ held_at r t → s ≡ (if is_some o then t else taken t r u) → is_some o ≡ not b → (if b then given_back s r u else s) ≡ t
hold_undone t s r u None true rises at new same = ap (λ t. given_back t r u) new ∙ given_back-taken t r u rises (sym at)
hold_undone t s r u None false rises at new same = cc
hold_undone t s r u (Some h) true rises at new same = cc
hold_undone t s r u (Some h) false rises at new same = new

-- the table that others see is in order
pub in_order : {t : Table} {es : Entries} {own : Owned} → table_of es ≡ t → IsKept es own → T (is_in_order t)
in_order view kept = subst (λ t. T (is_in_order t)) view kept.in_order
