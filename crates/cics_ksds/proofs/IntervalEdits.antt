-- What an edit of an interval does to all slots.
use Rattle.std.proofs.Common.{◌≡◌, ℕ, suc, ◌+◌, ◌-◌, ◌*◌, ◌<◌, ◌≤◌, cond, List, [], ◌∷◌, length, get_or, set, take, drop, inl, inr, refl, sym, ◌∙◌, ap, subst, arith, length-append, length-drop}
use Rattle.std.specs.Prelude.{nat_le}
use Rattle.std.specs.List.{insert, remove, All}
use Rattle.std.proofs.lemmas.Bool.{le-leb, lt-leb}
use Rattle.std.proofs.lemmas.Bool.Decides.{leb_tells}
use Rattle.std.proofs.lemmas.List.{length-take-le}
use Rattle.std.proofs.lemmas.List.Elements.{All-append}
use Rattle.cics_ksds.specs.declared.slots.Slot.{Slot}
use Rattle.cics_ksds.specs.declared.slots.Position.{Position}
use Rattle.cics_ksds.specs.Slots.{joined, slots_in, IsInterval, IsArea, interval_in, index_in, interval_at, number_of, index_of, IsThere, halved, with_room, put_in, with_slot, without_slot, IsRoom, IsAreaRoom, HasHalves}
use Rattle.cics_ksds.proofs.Joins.{joined_put, joined_insert, joined_remove, joined_alone, joined_split, joined_read, joined_length, halves-length, halves-first, halves-second, halves-before, halves-offset}
use Rattle.cics_ksds.proofs.AreaEdits.{nth, within}

-- where the new slot goes
module _ (intervals : List (List Slot)) (n p : ℕ) where
  pub room_there : length (interval_in intervals n) < 16 → with_room intervals n p ≡ (intervals, n, p)
  room_there free = ap (λ b. cond b (cond (nat_le p 8) (halved intervals n, n, p) (halved intervals n, suc n, p - 8)) (intervals, n, p)) (lt-leb 16 (length (interval_in intervals n)) free)

  pub room_before : 16 ≤ length (interval_in intervals n) → p ≤ 8 → with_room intervals n p ≡ (halved intervals n, n, p)
  room_before full low =
      ap (λ b. cond b (cond (nat_le p 8) (halved intervals n, n, p) (halved intervals n, suc n, p - 8)) (intervals, n, p)) (le-leb 16 (length (interval_in intervals n)) full)
      ∙ ap (λ b. cond b (halved intervals n, n, p) (halved intervals n, suc n, p - 8)) (le-leb p 8 low)

  pub room_behind : 16 ≤ length (interval_in intervals n) → 8 < p → with_room intervals n p ≡ (halved intervals n, suc n, p - 8)
  room_behind full high =
      ap (λ b. cond b (cond (nat_le p 8) (halved intervals n, n, p) (halved intervals n, suc n, p - 8)) (intervals, n, p)) (le-leb 16 (length (interval_in intervals n)) full)
      ∙ ap (λ b. cond b (halved intervals n, n, p) (halved intervals n, suc n, p - 8)) (lt-leb p 8 high)

module _ (intervals : List (List Slot)) (n : ℕ) (lt : n < length intervals) (p : ℕ) where
  -- all slots have the new one at its index
  pub inserted : (new : Slot) → p ≤ length (interval_in intervals n) → joined (put_in (with_room intervals n p) new) ≡ insert (joined intervals) (index_in intervals n p) new
  inserted new fits = elim (leb_tells 16 (length (interval_in intervals n))) [
    | inr free ↦ ap (λ t. joined (put_in t new)) (room_there intervals n p free.1) ∙ joined_insert intervals n lt p new fits
    | inl full ↦ elim (leb_tells p 8) [
      | inl low ↦ ap (λ t. joined (put_in t new)) (room_before intervals n p full.1 low.1) ∙ before full.1 low.1
      | inr high ↦ ap (λ t. joined (put_in t new)) (room_behind intervals n p full.1 high.1) ∙ behind full.1 high.1
    ]
  ]
    where
      before : 16 ≤ length (interval_in intervals n) → p ≤ 8 → joined (put_in (halved intervals n, n, p) new) ≡ insert (joined intervals) (index_in intervals n p) new
      before full low =
          let long : length (take 8 (interval_in intervals n)) ≡ 8 = length-take-le 8 (interval_in intervals n) (omega arith) in
          joined_insert (halved intervals n) n (omega (arith, halves-length intervals n lt 8, lt)) p new (omega (arith, ap length (halves-first intervals n lt 8), long))
          ∙ (λ i. insert (joined_split intervals n lt 8 i) (length (joined (halves-before intervals n lt 8 i)) + p) new)

      behind : 16 ≤ length (interval_in intervals n) → 8 < p → joined (put_in (halved intervals n, suc n, p - 8) new) ≡ insert (joined intervals) (index_in intervals n p) new
      behind full high =
          let long : length (drop 8 (interval_in intervals n)) ≡ length (interval_in intervals n) - 8 = length-drop 8 (interval_in intervals n) in
          let here : length (joined (take (suc n) (halved intervals n))) + (p - 8) ≡ index_in intervals n p = omega (arith, halves-offset intervals n lt 8 (omega arith), high) in
          joined_insert (halved intervals n) (suc n) (omega (arith, halves-length intervals n lt 8, lt)) (p - 8) new (omega (arith, ap length (halves-second intervals n lt 8), long, fits, high))
          ∙ (λ i. insert (joined_split intervals n lt 8 i) (here i) new)

  -- all slots without the one at the index
  pub others_stay : 1 < length (interval_in intervals n) → without_slot intervals n p ≡ set intervals n (remove (interval_in intervals n) p)
  others_stay others = ap (λ b. cond b (remove intervals n) (set intervals n (remove (interval_in intervals n) p))) (lt-leb (length (interval_in intervals n)) 1 others)

  pub none_stays : length (interval_in intervals n) ≤ 1 → without_slot intervals n p ≡ remove intervals n
  none_stays alone = ap (λ b. cond b (remove intervals n) (set intervals n (remove (interval_in intervals n) p))) (le-leb (length (interval_in intervals n)) 1 alone)

  pub removed : p < length (interval_in intervals n) → joined (without_slot intervals n p) ≡ remove (joined intervals) (index_in intervals n p)
  removed below = elim (leb_tells (length (interval_in intervals n)) 1) [
    | inl alone ↦ ap joined (none_stays alone.1) ∙ joined_alone intervals n lt alone.1 p below
    | inr others ↦ ap joined (others_stay others.1) ∙ joined_remove intervals n lt p below
  ]

some : (intervals : List (List Slot)) (n p : ℕ) (slot : Slot) → n < length intervals → with_slot intervals n p slot ≡ put_in (with_room intervals n p) slot
some [] n p slot lt = absurd (omega arith)
some (x ∷ xs) n p slot lt = refl

-- ---- by positions
module _ (areas : List (List (List Slot))) (at : Position) (there : IsThere areas at) where
  -- the interval of the position, as the one with its number
  pub put_slots : (slot : Slot) → at.slot < length (interval_at areas at) → joined (set (joined areas) (number_of areas at) (set (interval_at areas at) at.slot slot)) ≡ set (slots_in areas) (index_of areas at) slot
  put_slots slot below =
      let is = nth areas at there in
      ap (λ x. joined (set (joined areas) (number_of areas at) (set x at.slot slot))) (sym is)
      ∙ joined_put (joined areas) (number_of areas at) (within areas at there) at.slot slot (omega (arith, ap length is, below))

  pub fill_slots : (slot : Slot) → at.slot ≤ length (interval_at areas at) → joined (set (joined areas) (number_of areas at) (insert (interval_at areas at) at.slot slot)) ≡ insert (slots_in areas) (index_of areas at) slot
  fill_slots slot fits =
      let is = nth areas at there in
      ap (λ x. joined (set (joined areas) (number_of areas at) (insert x at.slot slot))) (sym is)
      ∙ joined_insert (joined areas) (number_of areas at) (within areas at there) at.slot slot (omega (arith, ap length is, fits))

  pub read_slot : (d : Slot) → at.slot < length (interval_at areas at) → get_or (slots_in areas) (index_of areas at) d ≡ get_or (interval_at areas at) at.slot d
  read_slot d below =
      let is = nth areas at there in
      joined_read (joined areas) (number_of areas at) (within areas at there) at.slot d (omega (arith, ap length is, below)) ∙ ap (λ x. get_or x at.slot d) is

  pub index_fits : at.slot ≤ length (interval_at areas at) → index_of areas at ≤ length (slots_in areas)
  index_fits fits = omega (arith, joined_length (joined areas) (number_of areas at) (within areas at there), ap length (nth areas at there), fits)

  pub index_within : at.slot < length (interval_at areas at) → index_of areas at < length (slots_in areas)
  index_within below = omega (arith, joined_length (joined areas) (number_of areas at) (within areas at there), ap length (nth areas at there), below)

  pub insert_slots : (slot : Slot) → at.slot ≤ length (interval_at areas at) → joined (with_slot (joined areas) (number_of areas at) at.slot slot) ≡ insert (slots_in areas) (index_of areas at) slot
  insert_slots slot fits =
      ap joined (some (joined areas) (number_of areas at) at.slot slot (within areas at there))
      ∙ inserted (joined areas) (number_of areas at) (within areas at there) at.slot slot (omega (arith, ap length (nth areas at there), fits))

  pub remove_slots : at.slot < length (interval_at areas at) → joined (without_slot (joined areas) (number_of areas at) at.slot) ≡ remove (slots_in areas) (index_of areas at)
  remove_slots below = removed (joined areas) (number_of areas at) (within areas at there) at.slot (omega (arith, ap length (nth areas at there), below))

  pub removed_others : 1 < length (interval_at areas at) → set (joined areas) (number_of areas at) (remove (interval_at areas at) at.slot) ≡ without_slot (joined areas) (number_of areas at) at.slot
  removed_others others =
      let is = nth areas at there in
      sym (others_stay (joined areas) (number_of areas at) (within areas at there) at.slot (omega (arith, ap length is, others))
      ∙ ap (λ x. set (joined areas) (number_of areas at) (remove x at.slot)) is)

  pub removed_last : length (interval_at areas at) ≤ 1 → remove (joined areas) (number_of areas at) ≡ without_slot (joined areas) (number_of areas at) at.slot
  removed_last alone = sym (none_stays (joined areas) (number_of areas at) (within areas at there) at.slot (omega (arith, ap length (nth areas at there), alone)))

  pub is_room : at.slot ≤ length (interval_at areas at) → length (interval_at areas at) < 16 → IsRoom areas at areas at
  is_room fits free = record {
    there = there;
    slot = fits;
    room = free;
    rule = room_there (joined areas) (number_of areas at) at.slot (omega (arith, ap length (nth areas at there), free));
  }

-- a slot that was put into the room made for it
pub filled : (old mid new : List (List (List Slot))) (at next : Position) (slot : Slot) → IsThere old at → IsRoom old at mid next →
    joined new ≡ set (joined mid) (number_of mid next) (insert (interval_at mid next) next.slot slot) → joined new ≡ with_slot (joined old) (number_of old at) at.slot slot
filled old mid new at next slot there room is =
    is
    ∙ ap (λ x. set (joined mid) (number_of mid next) (insert x next.slot slot)) (sym (nth mid next room.there))
    ∙ ap (λ t. put_in t slot) (sym room.rule)
    ∙ sym (some (joined old) (number_of old at) at.slot slot (within old at there))

-- the interval with a number, wherever its area has come to
pub same_interval : (old new : List (List (List Slot))) (at next : Position) → IsThere old at → IsThere new next → joined new ≡ joined old → number_of new next ≡ number_of old at → interval_at new next ≡ interval_at old at
same_interval old new at next there later same number =
    sym (nth new next later) ∙ (λ i. interval_in (same i) (number i)) ∙ nth old at there

module _ (old mid new : List (List (List Slot))) (at next : Position) (there : IsThere old at) (same : joined mid ≡ joined old) (moved : IsAreaRoom old at mid next)
    (halves : HasHalves mid next new) (split : joined new ≡ halved (joined mid) (number_of mid next)) (full : length (interval_at old at) ≡ 16) where
  here : interval_at mid next ≡ interval_at old at
  here = same_interval old mid at next there moved.there same moved.same

  -- the same intervals, in the words of the state before
  split_old : joined new ≡ halved (joined old) (number_of old at)
  split_old = split ∙ (λ i. halved (same i) (moved.same i))

  pub is_room_before : next.slot ≤ 8 → IsRoom old at new next
  is_room_before low =
      let long : length (take 8 (interval_at mid next)) ≡ 8 = length-take-le 8 (interval_at mid next) (omega (arith, ap length here)) in
      record {
        there = record { area = halves.area; interval = omega (arith, halves.interval) };
        slot = omega (arith, ap length halves.first, long);
        room = omega (arith, ap length halves.first, long);
        rule = room_before (joined old) (number_of old at) at.slot (omega (arith, ap length (nth old at there), full)) (omega (arith, moved.slot, low))
            ∙ (λ i. (sym split_old i, sym (halves.number ∙ moved.same) i, sym moved.slot i));
      }

  pub is_room_behind : 8 < next.slot → at.slot ≤ 16 → (m : ℕ) → m ≡ suc next.interval → IsRoom old at new (record { area = next.area; interval = m; slot = next.slot - 8 })
  is_room_behind high fits m is = subst (λ m. IsRoom old at new (record { area = next.area; interval = m; slot = next.slot - 8 })) (sym is)
      (let long : length (drop 8 (interval_at mid next)) ≡ length (interval_at mid next) - 8 = length-drop 8 (interval_at mid next) in
      let number : suc (number_of old at) ≡ number_of new (record { area = next.area; interval = suc next.interval; slot = next.slot - 8 }) = omega (arith, halves.number, moved.same) in
      let slot : at.slot - 8 ≡ next.slot - 8 = omega (arith, moved.slot) in
      record {
        there = record { area = halves.area; interval = halves.interval };
        slot = omega (arith, ap length halves.second, long, ap length here, full, moved.slot, fits, high);
        room = omega (arith, ap length halves.second, long, ap length here, full);
        rule = room_behind (joined old) (number_of old at) at.slot (omega (arith, ap length (nth old at there), full)) (omega (arith, moved.slot, high))
            ∙ (λ i. (sym split_old i, number i, slot i));
      })

-- ---- how many there are
pub each_filled : (intervals : List (List Slot)) → All IsInterval intervals → length intervals ≤ length (joined intervals)
each_filled [] each = omega arith
each_filled (x ∷ xs) each = omega (arith, each_filled xs (λ k d lt. each (suc k) d (omega arith)), (each 0 x (omega arith)).filled, length-append x (joined xs))

pub each_at_most : (intervals : List (List Slot)) → All IsInterval intervals → length (joined intervals) ≤ 16 * length intervals
each_at_most [] each = omega arith
each_at_most (x ∷ xs) each = omega (arith, each_at_most xs (λ k d lt. each (suc k) d (omega arith)), (each 0 x (omega arith)).at_most, length-append x (joined xs))

pub all_intervals : (areas : List (List (List Slot))) → All IsArea areas → All IsInterval (joined areas)
all_intervals [] each = λ k d lt. absurd (omega arith)
all_intervals (x ∷ xs) each = All-append IsInterval x (joined xs) (each 0 x (omega arith)).each (all_intervals xs (λ k d lt. each (suc k) d (omega arith)))
