-- The blocker at a resource is the same by the table of enqueues and by the history.
use Rattle.std.proofs.Common.{arith, nat_eq, ◌<◌, ◌≡◌, ℕ, Bool, true, false, Option, Some, None, is_some, List, [], ◌∷◌, ◌++◌, length, refl, ap, sym, subst, ◌∙◌, inl, inr}
use Rattle.std.specs.Prelude.{not, if◌then◌else◌, option_map}
use Rattle.std.specs.List.{list_any}
use Rattle.std.specs.Ordering.{is_lt, is_eq, ordering_reverse, ordering_then}
use Rattle.std.specs.declared.cmp.Ordering.{Ordering}
use Rattle.std.specs.declared.cmp.Ordering.TheVariants.{Less, Equal, Greater}
use Rattle.std.specs.Cmp.{nat_cmp_is}
use Rattle.std.specs.Cmp.Lexicographic.{nat_list_cmp_total}
use Rattle.std.proofs.lemmas.Bool.{true≢false, false≢true, eq-eqb, eqb-true, and_parts, and_from, or_cases, or_left, or_right, false_from_ne_true}
use Rattle.cics_names.specs.Keyed.{Bytes, bytes_cmp, is_below, is_same}
use Rattle.cics_names.specs.KeyedLaws.{is_same-eq, is_same-self}
use Rattle.cics_ksds.specs.Prefixes.{has_prefix}
use Rattle.cics_history.specs.Resources.{is_one}
use Rattle.cics_enqueue.specs.Table.{Table, HoldsLeast, IsFreeFor, holder_of, holder_over, other_than, place_of}
use Rattle.cics_history.specs.ResourceLaws.{is_one-self, is_one-eq, has_prefix-self}
use Rattle.cics_enqueue.specs.FreedomLaws.{free_where_none, free_for}
use Rattle.cics_history.specs.declared.resources.Resource.{Resource}
use Rattle.cics_history.specs.declared.resources.Resource.TheVariants.{FileKey, TsQueue, TdRead as ReadingEnd, TdWrite as WritingEnd, User, FilePrefix}
use Rattle.cics_enqueue.proofs.Least.{holder_over-least}
use Rattle.cics_history.specs.State.{UnitsState}
use Rattle.cics_history.specs.Holding.{held_by, conflicts, bytes_in, is_other, owned, smallest_conflict, blocker_at}
use Rattle.cics_history.specs.Holders.{IsLeastHeld}
use Rattle.cics_history.specs.Isolation.{IsSound}
use Rattle.cics_history.specs.Execution.{unit_or_next, IsOpenUnit}
use Rattle.cics_history.proofs.Holders.{none_found, conflicts-joined, holder_begun, held_cases}
use Rattle.cics_history.proofs.LeastHeld.{least_held, holder_some}
use Rattle.cics_history.proofs.Waiting.{any_more}
use Rattle.cics_units.specs.TableInPlace.{is_holder, value_of, IsTableOf}

-- ---- Two of the same bytes

-- of two that are both not below the other the bytes are the same
same_place : (a b : Bytes) → is_below a b ≡ false → is_below b a ≡ false → a ≡ b
same_place a b low high = is_same-eq a b (by (bytes_cmp a b) refl)
  where
    by : (o : Ordering) → bytes_cmp a b ≡ o → is_eq o ≡ true
    by Less e = absurd (true≢false (sym (ap is_lt e) ∙ low))
    by Equal e = refl
    by Greater e = absurd (true≢false (sym (ap is_lt (nat_list_cmp_total.antisymm b a ∙ ap ordering_reverse e)) ∙ high))

-- behind the same bytes two are in the order in which they are without them
below_behind : (f k l : Bytes) → is_below (f ++ k) (f ++ l) ≡ is_below k l
below_behind [] k l = refl
below_behind (x ∷ f) k l = ap (λ o. is_lt (ordering_then o (bytes_cmp (f ++ k) (f ++ l)))) (sym (nat_cmp_is x x Equal refl)) ∙ below_behind f k l

-- of one file, if neither stands before the other
same_behind : (f g h : Bytes) (k l : Bytes) → is_same f g ≡ true → is_same f h ≡ true → is_below (length g ∷ (g ++ k)) (length h ∷ (h ++ l)) ≡ false → is_below l k ≡ false → (is_same g h ≡ true) × (k ≡ l)
same_behind f g h k l a b low high =
    let same : g ≡ h = sym (is_same-eq f g a) ∙ is_same-eq f h b in (
      subst (λ x. is_same g x ≡ true) same (is_same-self g),
      same_place k l (sym (below_behind (length g ∷ g) k l) ∙ ap (λ x. is_below (length g ∷ (g ++ k)) (length x ∷ (x ++ l))) same ∙ low) high,
    )

-- the same bytes under a prefix
begins_as : (k l : Bytes) → k ≡ l → has_prefix k l ≡ true
begins_as k l same = subst (λ x. has_prefix k x ≡ true) same (has_prefix-self k)

-- two that conflict with a resource, neither of which is smaller in the table or in the history,
-- conflict
pub conflict_there : (r a b : Resource) → conflicts r a ≡ true → conflicts r b ≡ true → is_below (place_of a) (place_of b) ≡ false → is_below (bytes_in b) (bytes_in a) ≡ false → conflicts a b ≡ true
conflict_there (FilePrefix f p) (FileKey g k) (FileKey h l) a b low high =
    let s = same_behind f g h k.items l.items (and_parts (is_same f g) _ a).0 (and_parts (is_same f h) _ b).0 low high in
    and_from _ _ s.0 (subst (λ x. is_same k.items x ≡ true) s.1 (is_same-self k.items))
conflict_there (FilePrefix f p) (FileKey g k) (FilePrefix h l) a b low high =
    let s = same_behind f g h k.items l.items (and_parts (is_same f g) _ a).0 (and_parts (is_same f h) _ b).0 low high in
    and_from _ _ s.0 (begins_as l.items k.items (sym s.1))
conflict_there (FilePrefix f p) (FilePrefix g k) (FileKey h l) a b low high =
    let s = same_behind f g h k.items l.items (and_parts (is_same f g) _ a).0 (and_parts (is_same f h) _ b).0 low high in
    and_from _ _ s.0 (begins_as k.items l.items s.1)
conflict_there (FilePrefix f p) (FilePrefix g k) (FilePrefix h l) a b low high =
    let s = same_behind f g h k.items l.items (and_parts (is_same f g) _ a).0 (and_parts (is_same f h) _ b).0 low high in
    and_from _ _ s.0 (or_left _ _ (begins_as k.items l.items s.1))
conflict_there (FilePrefix f p) (FileKey g k) (TsQueue q) a b low high = absurd (false≢true b)
conflict_there (FilePrefix f p) (FileKey g k) (ReadingEnd q) a b low high = absurd (false≢true b)
conflict_there (FilePrefix f p) (FileKey g k) (WritingEnd q) a b low high = absurd (false≢true b)
conflict_there (FilePrefix f p) (FileKey g k) (User v) a b low high = absurd (false≢true b)
conflict_there (FilePrefix f p) (FilePrefix g k) (TsQueue q) a b low high = absurd (false≢true b)
conflict_there (FilePrefix f p) (FilePrefix g k) (ReadingEnd q) a b low high = absurd (false≢true b)
conflict_there (FilePrefix f p) (FilePrefix g k) (WritingEnd q) a b low high = absurd (false≢true b)
conflict_there (FilePrefix f p) (FilePrefix g k) (User v) a b low high = absurd (false≢true b)
conflict_there (FilePrefix f p) (TsQueue q) x a b low high = absurd (false≢true a)
conflict_there (FilePrefix f p) (ReadingEnd q) x a b low high = absurd (false≢true a)
conflict_there (FilePrefix f p) (WritingEnd q) x a b low high = absurd (false≢true a)
conflict_there (FilePrefix f p) (User v) x a b low high = absurd (false≢true a)
conflict_there (FileKey f k) x y a b low high = conflicts-joined (FileKey f k) x y refl a b
conflict_there (TsQueue q) x y a b low high = conflicts-joined (TsQueue q) x y refl a b
conflict_there (ReadingEnd q) x y a b low high = conflicts-joined (ReadingEnd q) x y refl a b
conflict_there (WritingEnd q) x y a b low high = conflicts-joined (WritingEnd q) x y refl a b
conflict_there (User v) x y a b low high = conflicts-joined (User v) x y refl a b

-- ---- What a unit owns, one by one

-- one that passes a test stands among them
any_one : {P : Type 0} (test : Resource → Bool) (qs : List Resource) → list_any test qs ≡ true →
    ((q : Resource) → test q ≡ true → list_any (is_one q) qs ≡ true → P) → P
any_one test [] h found = absurd (false≢true h)
any_one test (q ∷ qs) h found = elim (or_cases (test q) (list_any test qs) h) [
  | inl here ↦ found q here (or_left _ _ (is_one-self q))
  | inr later ↦ any_one test qs later (λ x passes stands. found x passes (or_right _ _ stands))
]

-- a unit that is the holder
holder_is : (n : ℕ) (h : Option ℕ) → is_holder n h ≡ true → h ≡ Some n
holder_is n None is = absurd (false≢true is)
holder_is n (Some v) is = ap Some (eqb-true v n is)

module _ (s : UnitsState) (t : Table) (i : IsSound s) (k : IsTableOf s t) where
  -- what a unit owns the table has as its
  held_there : (q : Resource) (n : ℕ) → list_any (is_one q) (held_by s n) ≡ true → holder_of q t ≡ Some n
  held_there q n h = holder_is n (holder_of q t) (sym (k.holders q n) ∙ h)

  -- and the other way round
  there_held : (q : Resource) (n : ℕ) → holder_of q t ≡ Some n → list_any (is_one q) (held_by s n) ≡ true
  there_held q n at = k.holders q n ∙ ap (is_holder n) at ∙ eq-eqb n n refl

  -- the unit that owns the least, in the table, is the one that the history gives
  least_found : (asking : Option ℕ) (r : Resource) (v : ℕ) → HoldsLeast t r asking v → blocker_at (owned s) asking r ≡ Some v
  least_found asking r v holds = by (smallest_conflict (owned s) asking r) refl
    where
      q : Resource
      q = holds.0

      in_conflict : conflicts r q ≡ true
      in_conflict = holds.1.0

      another : is_other asking v ≡ true
      another = holds.1.2

      -- it is the unit of the least entry
      same : (e : Resource × ℕ) → IsLeastHeld s asking r e → e.1 ≡ v
      same e least = i.one e.1 v
          (any_more (is_one e.0) (λ x. list_any (conflicts x) (held_by s v))
          (λ x one. subst (λ y. list_any (conflicts y) (held_by s v) ≡ true) (is_one-eq e.0 x one)
          (any_more (is_one q) (conflicts e.0) (λ x one. subst (λ y. conflicts e.0 y ≡ true) (is_one-eq q x one) meets) (held_by s v) (there_held q v holds.1.1)))
          (held_by s e.1) least.holds)
        where
          meets : conflicts e.0 q ≡ true
          meets = conflict_there r e.0 q least.meets in_conflict
              (holds.2 e.0 e.1 (least.meets, held_there e.0 e.1 least.holds, least.other))
              (least.least q v in_conflict another (there_held q v holds.1.1))

      by : (o : Option (Resource × ℕ)) → smallest_conflict (owned s) asking r ≡ o → blocker_at (owned s) asking r ≡ Some v
      by (Some e) found = ap (option_map (λ e. e.1)) found ∙ ap Some (same e (least_held s asking r e i found))
      by None found = absurd (true≢false (
          sym (holder_some s asking r v i another
          (any_more (is_one q) (conflicts r) (λ x one. subst (λ y. conflicts r y ≡ true) (is_one-eq q x one) in_conflict) (held_by s v) (there_held q v holds.1.1)))
          ∙ ap (λ o. is_some (option_map (λ e. e.1) o)) found))

  -- the unit that is found in the history is the one that is found in the table
  pub table_holder : (asking : Option ℕ) (r : Resource) → blocker_at (owned s) asking r ≡ holder_over r asking t
  table_holder asking r =
      elim (holder_over r asking t) as (λ h. holder_over r asking t ≡ h → blocker_at (owned s) asking r ≡ h) [
        | None ↦ λ none. none_found s asking r (λ n other. false_from_ne_true _ (λ any.
            any_one (conflicts r) (held_by s n) any (λ q meets stands.
            true≢false (sym other ∙ free_where_none t r asking none q n meets (held_there q n stands)))))
        | Some v ↦ λ found. least_found asking r v (holder_over-least t asking k.in_order r v found)
      ] refl

  -- what no other unit owns is free for the unit that acts
  pub table_free : (u : Option ℕ) (r : Resource) → holder_over r u t ≡ None → IsFreeFor t r (unit_or_next u s.outcomes)
  table_free None r none = λ q v meets at. absurd (true≢false (free_where_none t r None none q v meets at))
  table_free (Some u) r none = free_for t r u (free_where_none t r (Some u) none)

  -- the unit that is found is open
  pub holder_open : (asking : Option ℕ) (r : Resource) (h : ℕ) → holder_over r asking t ≡ Some h → IsOpenUnit s h
  holder_open asking r h found =
      let least = holder_over-least t asking k.in_order r h found in
      let stands = there_held least.0 h least.1.1 in
      (holder_begun s i.known i.begun h (is_one least.0) stands, (held_cases s h (is_one least.0) stands).0)

  -- who is in the way of a unit that has yet to begin is in the way of a task without a unit
  pub same_over : (u : Option ℕ) (v : Bytes) → holder_over (value_of v) (Some (unit_or_next u s.outcomes)) t ≡ holder_over (value_of v) u t
  same_over (Some u) v = refl
  same_over None v = by (holder_of (value_of v) t) refl
    where
      by : (o : Option ℕ) → holder_of (value_of v) t ≡ o → other_than (Some (length s.outcomes)) o ≡ other_than None o
      by None at = refl
      by (Some w) at =
          let begun : w < length s.outcomes = (holder_open None (value_of v) w (ap (other_than None) at)).0 in
          let other : nat_eq w (length s.outcomes) ≡ false = grind (arith, begun) in
          ap (λ b. if not b then Some w else None) other
