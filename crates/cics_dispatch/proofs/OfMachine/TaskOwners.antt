-- Whose a unit is, as the tasks of a region have it in a table: what stands there once a task comes
-- in, has a unit, or gives it up, and once all units are entered anew.
use Rattle.std.specs.Prelude.{◌≡◌, ◌<◌, ◌≤◌, ◌+◌, ◌-◌, ℕ, cond, Bool, true, false, Option, Some, None, is_some, List, [], ◌∷◌, ◌++◌, ◌⊎◌, length, nat_eq, slice_get, refl}
use Rattle.std.proofs.Common.{sym, ap, ◌∙◌, subst, inl, inr, zero, suc, arith, eq-eqb, length-append}
use Rattle.std.proofs.lemmas.Bool.{eqb-true, false_from_ne_true, true≢false}
use Rattle.std.proofs.lemmas.Option.{slice_get_within}
use Rattle.std.specs.Map.{lookup, values_of}
use Rattle.indexmap.specs.IndexMap.{IndexMap, index_map_len, spare, set_value_at}
use Rattle.cics_names.specs.Keyed.{Bytes}
use Rattle.cics_dispatch.specs.Machine.Machine.{Task, label_of, with_unit}
use Rattle.cics_dispatch.specs.Machine.Tasks.{IsOwn, AreTaskRowsKept, HasNoOwner, HasRoomForUnits, AreOwnersKept, own_unit, had_by, had_at}
use Rattle.cics_dispatch.proofs.OfMachine.TaskTable.{had_at-append, label_of-owner, kept-begun}

-- nothing is something
nothing : {X : Type 0} {x : X} → None ≡ Some x → ⊥
nothing e = cc

-- what is the same something is the same
same_unit : {a b : ℕ} → Some a ≡ Some b → a ≡ b
same_unit e = cc

-- numbers that are told apart aren't the same
apart_from : (i j : ℕ) → nat_eq i j ≡ false → i ≡ j → ⊥
apart_from i j other same = absurd (true≢false (sym (eq-eqb i j same) ∙ other))

-- the unit of a task is that of its place
pub unit_there : (ts : List Task) (i : ℕ) (t : Task) → slice_get ts i ≡ Some t → had_at own_unit ts i ≡ t.unit
unit_there ts i t there = ap (had_by own_unit) there

-- a place where a task has a unit is one of a task
owner_within : (ts : List Task) (i u : ℕ) → had_at own_unit ts i ≡ Some u → i < length ts
owner_within ts i u has = by (slice_get ts i) refl has
  where
    by : (o : Option Task) → slice_get ts i ≡ o → had_by own_unit o ≡ Some u → i < length ts
    by None there has = absurd (nothing has)
    by (Some t) there has = slice_get_within ts i t there

-- a unit that no task has is at no place
not_owned : (ts : List Task) (u : ℕ) → HasNoOwner ts u → (i : ℕ) → had_at own_unit ts i ≡ Some u → ⊥
not_owned ts u none i has = by (slice_get ts i) refl has
  where
    by : (o : Option Task) → slice_get ts i ≡ o → had_by own_unit o ≡ Some u → ⊥
    by None there has = nothing has
    by (Some t) there has = none.other i t there has

-- what isn't something is nothing
pub none_from : {X : Type 0} (o : Option X) → is_some o ≡ false → o ≡ None
none_from None e = refl
none_from (Some x) e = cc

-- a task that was seen to have no unit has none
pub idle_task : (ts : List Task) (at : ℕ) (x v : Task) (o : Option ℕ) (b : Bool) → slice_get ts at ≡ Some x → o ≡ x.unit → b ≡ is_some o → b ≡ false → slice_get ts at ≡ Some v → v.unit ≡ None
idle_task ts at x v o b here has some none there = let same : Some x ≡ Some v = sym here ∙ there in let is : x ≡ v = cc in ap (λ t. t.unit) (sym is) ∙ sym has ∙ none_from o (sym some ∙ none)

-- ---- What is found

module _ {S : Type 0} (ts : List Task) (owners : IndexMap ℕ (Option ℕ) S) (kept : AreOwnersKept ts owners) (u : ℕ) where
  -- a unit that isn't found is no task's
  pub no_owner : lookup (nat_eq u) owners.entries ≡ None → HasNoOwner ts u
  no_owner none = record { other = λ i t there has. nothing (sym none ∙ kept.found i u (unit_there ts i t there ∙ has)) }

  -- nor is one that is found without a place
  pub placeless_owner : lookup (nat_eq u) owners.entries ≡ Some None → HasNoOwner ts u
  placeless_owner none = record { other = λ i t there has. never (sym none ∙ kept.found i u (unit_there ts i t there ∙ has)) }
    where
      never : {i : ℕ} → Some None ≡ Some (Some i) → ⊥
      never e = cc

  -- one that is found at a place is the unit of the task there
  module _ (at : ℕ) (found : lookup (nat_eq u) owners.entries ≡ Some (Some at)) where
    pub found_within : at < length ts
    found_within = owner_within ts at u (kept.owned at u found)

    pub found_label : (t : Task) → slice_get ts at ≡ Some t → IsOwn own_unit ts → label_of ts u ≡ t.label
    found_label t there apart = label_of-owner ts u at t apart there (sym (unit_there ts at t there) ∙ kept.owned at u found)

-- ---- A task that is written over another

module _ (w : Task) where
  unit_here : (es : List (Bytes × Task)) (at : ℕ) (v : Task) → slice_get (values_of es) at ≡ Some v → had_at own_unit (values_of (set_value_at es at w)) at ≡ w.unit
  unit_here [] at v there = cc
  unit_here (e ∷ es) zero v there = refl
  unit_here (e ∷ es) (suc at) v there = unit_here es at v there

  unit_elsewhere : (es : List (Bytes × Task)) (at i : ℕ) → (at ≡ i → ⊥) → had_at own_unit (values_of (set_value_at es at w)) i ≡ had_at own_unit (values_of es) i
  unit_elsewhere [] at i other = refl
  unit_elsewhere (e ∷ es) zero zero other = absurd (other refl)
  unit_elsewhere (e ∷ es) zero (suc i) other = refl
  unit_elsewhere (e ∷ es) (suc at) zero other = refl
  unit_elsewhere (e ∷ es) (suc at) (suc i) other = unit_elsewhere es at i (λ same. other (ap suc same))

  -- the units once a task is written over the one at a place
  unit-written : (es : List (Bytes × Task)) (at i : ℕ) (v : Task) → slice_get (values_of es) at ≡ Some v →
      had_at own_unit (values_of (set_value_at es at w)) i ≡ cond (nat_eq at i) w.unit (had_at own_unit (values_of es) i)
  unit-written es at i v there = elim (nat_eq at i) as (λ b. nat_eq at i ≡ b → had_at own_unit (values_of (set_value_at es at w)) i ≡ cond b w.unit (had_at own_unit (values_of es) i)) [
    | true ↦ λ e. ap (had_at own_unit (values_of (set_value_at es at w))) (sym (eqb-true at i e)) ∙ unit_here es at v there
    | false ↦ λ e. unit_elsewhere es at i (apart_from at i e)
  ] refl

-- there are as many tasks
as_many-written : (es : List (Bytes × Task)) (at : ℕ) (w : Task) → length (values_of (set_value_at es at w)) ≡ length (values_of es)
as_many-written [] at w = refl
as_many-written (e ∷ es) zero w = refl
as_many-written (e ∷ es) (suc at) w = ap suc (as_many-written es at w)

module _ {S : Type 0} (ts vs : List Task) (owners : IndexMap ℕ (Option ℕ) S) (at : ℕ) (o : Option ℕ)
    (written : (i : ℕ) → had_at own_unit vs i ≡ cond (nat_eq at i) o (had_at own_unit ts i)) (as_many : length vs ≡ length ts) where
  -- there is room as before
  room_kept : (m : IndexMap ℕ (Option ℕ) S) → HasRoomForUnits ts owners → index_map_len owners + spare owners ≤ index_map_len m + spare m → HasRoomForUnits vs m
  room_kept m room as_much = record { room = let was = room.room in rw as_many (omega (arith, was, as_much)) }

  module _ (kept : AreOwnersKept ts owners) where
    -- a task with the same unit
    owners_same : had_at own_unit ts at ≡ o → AreOwnersKept vs owners
    owners_same same = record {
      found = λ i u has. kept.found i u (sym (stays i) ∙ has);
      owned = λ i u there. stays i ∙ kept.owned i u there;
      room = room_kept owners kept.room (omega arith);
    }
      where
        stays : (i : ℕ) → had_at own_unit vs i ≡ had_at own_unit ts i
        stays i = written i ∙ elim (nat_eq at i) as (λ b. nat_eq at i ≡ b → cond b o (had_at own_unit ts i) ≡ had_at own_unit ts i) [
          | true ↦ λ e. sym same ∙ ap (had_at own_unit ts) (eqb-true at i e)
          | false ↦ λ e. refl
        ] refl

    module _ (m : IndexMap ℕ (Option ℕ) S) (u : ℕ) (as_much : index_map_len owners + spare owners ≤ index_map_len m + spare m) where
      -- a task that had no unit has one that was no task's
      owners_begun : o ≡ Some u → had_at own_unit ts at ≡ None → ((i : ℕ) → had_at own_unit ts i ≡ Some u → ⊥) →
          ((q : ℕ) → lookup (nat_eq q) m.entries ≡ cond (nat_eq u q) (Some (Some at)) (lookup (nat_eq q) owners.entries)) → AreOwnersKept vs m
      owners_begun is idle free looks = record {
        found = λ i x has. found i x (sym (written i) ∙ has);
        owned = λ i x there. owned i x (sym (looks x) ∙ there);
        room = room_kept m kept.room as_much;
      }
        where
          found : (i x : ℕ) → cond (nat_eq at i) o (had_at own_unit ts i) ≡ Some x → lookup (nat_eq x) m.entries ≡ Some (Some i)
          found i x = elim (nat_eq at i) as (λ b. nat_eq at i ≡ b → cond b o (had_at own_unit ts i) ≡ Some x → lookup (nat_eq x) m.entries ≡ Some (Some i)) [
            | true ↦ λ e has. let same : u ≡ x = cc in looks x ∙ ap (λ b. cond b (Some (Some at)) (lookup (nat_eq x) owners.entries)) (eq-eqb u x same) ∙ ap (λ n. Some (Some n)) (eqb-true at i e)
            | false ↦ λ e has. looks x ∙ ap (λ b. cond b (Some (Some at)) (lookup (nat_eq x) owners.entries)) (false_from_ne_true (nat_eq u x) (λ t. free i (has ∙ ap Some (sym (eqb-true u x t))))) ∙ kept.found i x has
          ] refl

          owned : (i x : ℕ) → cond (nat_eq u x) (Some (Some at)) (lookup (nat_eq x) owners.entries) ≡ Some (Some i) → had_at own_unit vs i ≡ Some x
          owned i x = elim (nat_eq u x) as (λ b. nat_eq u x ≡ b → cond b (Some (Some at)) (lookup (nat_eq x) owners.entries) ≡ Some (Some i) → had_at own_unit vs i ≡ Some x) [
            | true ↦ λ e there. let same : at ≡ i = cc in written i ∙ ap (λ b. cond b o (had_at own_unit ts i)) (eq-eqb at i same) ∙ is ∙ ap Some (eqb-true u x e)
            | false ↦ λ e there. let has = kept.owned i x there in
                written i ∙ ap (λ b. cond b o (had_at own_unit ts i)) (false_from_ne_true (nat_eq at i) (λ t. nothing (sym idle ∙ ap (had_at own_unit ts) (eqb-true at i t) ∙ has))) ∙ has
          ] refl

      -- a task gives its unit up
      owners_closed : o ≡ None → had_at own_unit ts at ≡ Some u → IsOwn own_unit ts →
          ((q : ℕ) → lookup (nat_eq q) m.entries ≡ cond (nat_eq u q) (Some None) (lookup (nat_eq q) owners.entries)) → AreOwnersKept vs m
      owners_closed is had apart looks = record {
        found = λ i x has. found i x (sym (written i) ∙ has);
        owned = λ i x there. owned i x (sym (looks x) ∙ there);
        room = room_kept m kept.room as_much;
      }
        where
          found : (i x : ℕ) → cond (nat_eq at i) o (had_at own_unit ts i) ≡ Some x → lookup (nat_eq x) m.entries ≡ Some (Some i)
          found i x = elim (nat_eq at i) as (λ b. nat_eq at i ≡ b → cond b o (had_at own_unit ts i) ≡ Some x → lookup (nat_eq x) m.entries ≡ Some (Some i)) [
            | true ↦ λ e has. absurd (nothing (sym is ∙ has))
            | false ↦ λ e has. looks x ∙ ap (λ b. cond b (Some None) (lookup (nat_eq x) owners.entries))
                (false_from_ne_true (nat_eq u x) (λ t. apart_from at i e (apart.one at i u had (has ∙ ap Some (sym (eqb-true u x t)))))) ∙ kept.found i x has
          ] refl

          owned : (i x : ℕ) → cond (nat_eq u x) (Some None) (lookup (nat_eq x) owners.entries) ≡ Some (Some i) → had_at own_unit vs i ≡ Some x
          owned i x = elim (nat_eq u x) as (λ b. nat_eq u x ≡ b → cond b (Some None) (lookup (nat_eq x) owners.entries) ≡ Some (Some i) → had_at own_unit vs i ≡ Some x) [
            | true ↦ λ e there. cc
            | false ↦ λ e there. let has = kept.owned i x there in
                written i ∙ ap (λ b. cond b o (had_at own_unit ts i)) (false_from_ne_true (nat_eq at i) (λ t. apart_from u x e (same_unit (sym had ∙ ap (had_at own_unit ts) (eqb-true at i t) ∙ has)))) ∙ has
          ] refl

-- there is room as before once a task is written over another
pub room_written : {S : Type 0} (es : List (Bytes × Task)) (at : ℕ) (w : Task) (owners : IndexMap ℕ (Option ℕ) S) → HasRoomForUnits (values_of es) owners →
    HasRoomForUnits (values_of (set_value_at es at w)) owners
room_written es at w owners room = record { room = subst (λ n. n + n ≤ index_map_len owners + spare owners + 1) (sym (as_many-written es at w)) room.room }

-- a task is written over the one at a place, and what it has may be another unit
module _ {S : Type 0} (es : List (Bytes × Task)) (at : ℕ) (v w : Task) (owners : IndexMap ℕ (Option ℕ) S) (kept : AreOwnersKept (values_of es) owners) (there : slice_get (values_of es) at ≡ Some v) where
  abbrev after : List Task
  after = values_of (set_value_at es at w)

  pub owners_kept : w.unit ≡ v.unit → AreOwnersKept after owners
  owners_kept same = owners_same (values_of es) after owners at w.unit (λ i. unit-written w es at i v there) (as_many-written es at w) kept (unit_there (values_of es) at v there ∙ sym same)

  module _ (m : IndexMap ℕ (Option ℕ) S) (u : ℕ) (as_much : index_map_len owners + spare owners ≤ index_map_len m + spare m) where
    pub owners_given : w.unit ≡ Some u → v.unit ≡ None → HasNoOwner (values_of es) u →
        ((q : ℕ) → lookup (nat_eq q) m.entries ≡ cond (nat_eq u q) (Some (Some at)) (lookup (nat_eq q) owners.entries)) → AreOwnersKept after m
    owners_given is idle free = owners_begun (values_of es) after owners at w.unit (λ i. unit-written w es at i v there) (as_many-written es at w) kept m u as_much is
        (unit_there (values_of es) at v there ∙ idle) (not_owned (values_of es) u free)

    pub owners_taken : w.unit ≡ None → v.unit ≡ Some u → IsOwn own_unit (values_of es) →
        ((q : ℕ) → lookup (nat_eq q) m.entries ≡ cond (nat_eq u q) (Some None) (lookup (nat_eq q) owners.entries)) → AreOwnersKept after m
    owners_taken is had = owners_closed (values_of es) after owners at w.unit (λ i. unit-written w es at i v there) (as_many-written es at w) kept m u as_much is
        (unit_there (values_of es) at v there ∙ had)

-- a task that had no unit is given one that was no task's
pub record IsGiven (es : List (Bytes × Task)) (at : ℕ) (v w : Task) (u : ℕ) : Type 0 where
  pub idle : v.unit ≡ None
  pub free : HasNoOwner (values_of es) u
  pub rows : AreTaskRowsKept (set_value_at es at w)

pub given : (es : List (Bytes × Task)) (ts : List Task) (at : ℕ) (seen v w : Task) (asked : Option ℕ) (has : Bool) (u : ℕ) → AreTaskRowsKept es → values_of es ≡ ts →
    slice_get (values_of es) at ≡ Some seen → asked ≡ seen.unit → has ≡ is_some asked → has ≡ false → slice_get (values_of es) at ≡ Some v →
    ((t : Task) → slice_get ts at ≡ Some t → t.unit ≡ None → HasNoOwner ts u) → w ≡ with_unit v u → IsGiven es at v w u
given es ts at seen v w asked has u kept view first unit is_some none there free is =
    let idle = idle_task (values_of es) at seen v asked has first unit is_some none there in
    let no_owner = free v (ap (λ l. slice_get l at) (sym view) ∙ there) idle in
    record {
      idle = idle;
      free = subst (λ l. HasNoOwner l u) (sym view) no_owner;
      rows = kept-begun es ts at v w kept view there (ap (λ t. t.label) is) u no_owner (ap (λ t. t.unit) is);
    }

-- ---- One more task

-- each has the unit that it had
had_at-front : (ts : List Task) (t : Task) (i u : ℕ) → had_at own_unit ts i ≡ Some u → had_at own_unit (ts ++ t ∷ []) i ≡ Some u
had_at-front [] t i u has = absurd (nothing has)
had_at-front (s ∷ ts) t zero u has = has
had_at-front (s ∷ ts) t (suc i) u has = had_at-front ts t i u has

-- there is room for it once that was made
pub room_made : {S : Type 0} (ts vs : List Task) (t : Task) (owners m : IndexMap ℕ (Option ℕ) S) (n : ℕ) → n ≡ length ts → vs ≡ ts ++ t ∷ [] → m.entries ≡ owners.entries →
    {more : ℕ} → more ≡ n + n + 1 - index_map_len owners → more ≤ spare m → HasRoomForUnits vs m
room_made ts vs t owners m n many added same {more} is fits = record {
  room =
      let longer : length vs ≡ length ts + 1 = ap length added ∙ length-append ts (t ∷ []) in
      let alike : index_map_len m ≡ index_map_len owners = ap length same in
      omega (arith, many, longer, alike, is, fits);
}

-- a task without a unit comes in, and there is more room
pub owners_attached : {S : Type 0} (ts vs : List Task) (t : Task) (owners m : IndexMap ℕ (Option ℕ) S) → AreOwnersKept ts owners → t.unit ≡ None → vs ≡ ts ++ t ∷ [] → m.entries ≡ owners.entries →
    HasRoomForUnits vs m → AreOwnersKept vs m
owners_attached {S} ts vs t owners m kept idle added same room = record {
  found = λ i u has. looks u ∙ found i u (had_at-append t own_unit ts i u (ap (λ l. had_at own_unit l i) (sym added) ∙ has));
  owned = λ i u there. ap (λ l. had_at own_unit l i) added ∙ had_at-front ts t i u (kept.owned i u (sym (looks u) ∙ there));
  room = room;
}
  where
    looks : (u : ℕ) → lookup (nat_eq u) m.entries ≡ lookup (nat_eq u) owners.entries
    looks u = ap (lookup (nat_eq u)) same

    found : (i u : ℕ) → (had_at own_unit ts i ≡ Some u) ⊎ ((i ≡ length ts) × (own_unit t ≡ Some u)) → lookup (nat_eq u) owners.entries ≡ Some (Some i)
    found i u (inl has) = kept.found i u has
    found i u (inr last) = absurd (nothing (sym idle ∙ last.1))

-- ---- All entered anew

-- the units of the first tasks are entered, and nothing else
pub record AreEntered (n : ℕ) (ts : List Task) (es : List (ℕ × Option ℕ)) : Type 0 where
  pub found : (i u : ℕ) → i < n → had_at own_unit ts i ≡ Some u → lookup (nat_eq u) es ≡ Some (Some i)
  pub owned : (i u : ℕ) → lookup (nat_eq u) es ≡ Some (Some i) → (i < n) × (had_at own_unit ts i ≡ Some u)
  pub placed : (u : ℕ) → lookup (nat_eq u) es ≡ Some None → ⊥

module _ (n : ℕ) (ts : List Task) (es : List (ℕ × Option ℕ)) (entered : AreEntered n ts es) where
  -- a place that was passed, and isn't the last, was passed before
  before : (i : ℕ) → i < n + 1 → (i ≡ n → ⊥) → i < n
  before i within other = omega (arith, within, other)

  -- if the task has none
  pub passed_entered : had_at own_unit ts n ≡ None → AreEntered (n + 1) ts es
  passed_entered idle = record {
    found = λ i u within has. elim (nat_eq i n) as (λ b. nat_eq i n ≡ b → lookup (nat_eq u) es ≡ Some (Some i)) [
      | true ↦ λ e. absurd (nothing (sym idle ∙ ap (had_at own_unit ts) (sym (eqb-true i n e)) ∙ has))
      | false ↦ λ e. entered.found i u (before i within (apart_from i n e)) has
    ] refl;
    owned = λ i u there. let was = entered.owned i u there in let within = was.0 in (omega (arith, within), was.1);
    placed = entered.placed;
  }

  -- if it has one
  module _ (u : ℕ) (has_unit : had_at own_unit ts n ≡ Some u) (apart : IsOwn own_unit ts) where
    -- that isn't there yet
    pub not_entered : lookup (nat_eq u) es ≡ None
    not_entered = by (lookup (nat_eq u) es) refl
      where
        by : (o : Option (Option ℕ)) → lookup (nat_eq u) es ≡ o → o ≡ None
        by None there = refl
        by (Some None) there = absurd (entered.placed u there)
        by (Some (Some i)) there = let was = entered.owned i u there in let within = was.0 in let same = apart.one i n u was.1 has_unit in absurd (omega (arith, within, same))

    pub more_entered : (fs : List (ℕ × Option ℕ)) → ((q : ℕ) → lookup (nat_eq q) fs ≡ cond (nat_eq u q) (Some (Some n)) (lookup (nat_eq q) es)) → AreEntered (n + 1) ts fs
    more_entered fs looks = record {
      found = λ i x within has. looks x ∙ found i x within has;
      owned = λ i x there. owned i x (sym (looks x) ∙ there);
      placed = λ x there. placed x (sym (looks x) ∙ there);
    }
      where
        found : (i x : ℕ) → i < n + 1 → had_at own_unit ts i ≡ Some x → cond (nat_eq u x) (Some (Some n)) (lookup (nat_eq x) es) ≡ Some (Some i)
        found i x within has = elim (nat_eq u x) as (λ b. nat_eq u x ≡ b → cond b (Some (Some n)) (lookup (nat_eq x) es) ≡ Some (Some i)) [
          | true ↦ λ e. ap (λ k. Some (Some k)) (apart.one n i u has_unit (has ∙ ap Some (sym (eqb-true u x e))))
          | false ↦ λ e. entered.found i x (before i within (λ same. apart_from u x e (same_unit (sym has_unit ∙ ap (had_at own_unit ts) (sym same) ∙ has)))) has
        ] refl

        owned : (i x : ℕ) → cond (nat_eq u x) (Some (Some n)) (lookup (nat_eq x) es) ≡ Some (Some i) → (i < n + 1) × (had_at own_unit ts i ≡ Some x)
        owned i x = elim (nat_eq u x) as (λ b. nat_eq u x ≡ b → cond b (Some (Some n)) (lookup (nat_eq x) es) ≡ Some (Some i) → (i < n + 1) × (had_at own_unit ts i ≡ Some x)) [
          | true ↦ λ e there. let same : n ≡ i = cc in (omega (arith, same), ap (had_at own_unit ts) (sym same) ∙ has_unit ∙ ap Some (eqb-true u x e))
          | false ↦ λ e there. let was = entered.owned i x there in let within = was.0 in (omega (arith, within), was.1)
        ] refl

        placed : (x : ℕ) → cond (nat_eq u x) (Some (Some n)) (lookup (nat_eq x) es) ≡ Some None → ⊥
        placed x = elim (nat_eq u x) as (λ b. cond b (Some (Some n)) (lookup (nat_eq x) es) ≡ Some None → ⊥) [
          | true ↦ λ there. cc
          | false ↦ λ there. entered.placed x there
        ]

-- with those of all tasks entered, the table is as it should be
pub all_entered : {S : Type 0} (n : ℕ) (ts : List Task) (owners : IndexMap ℕ (Option ℕ) S) → length ts ≤ n → AreEntered n ts owners.entries → HasRoomForUnits ts owners → AreOwnersKept ts owners
all_entered n ts owners all entered room = record {
  found = λ i u has. entered.found i u (let within = owner_within ts i u has in omega (arith, within, all)) has;
  owned = λ i u there. (entered.owned i u there).1;
  room = room;
}
