-- The images of a queue's two ends: each end by itself, and that no record that is to go is marked as read.
use Rattle.std.proofs.Common.{◌≡◌, ℕ, ◌+◌, ◌≤◌, Bool, true, false, List, [], ◌∷◌, ◌++◌, length, refl, sym, subst, inl, inr, arith}
use Rattle.std.specs.Prelude.{if◌then◌else◌, MatchBool}
use Rattle.std.specs.List.{list_any}
use Rattle.std.proofs.lemmas.List.{length-append}
use Rattle.std.proofs.lemmas.Bool.{true≢false, cases_Bool, or_parts}
use Rattle.cics_names.specs.Keyed.{Bytes, is_same}
use Rattle.cics_names.specs.KeyedLaws.{is_same-self}
use Rattle.cics_history.specs.Marks.{MarkedQueue, Queues, queue_backed_out}
use Rattle.cics_history.specs.MarkImages.{MarkImage, OfReading, OfWriting, queue_of, Unmarks, marks_queue, queues_unmarked, marks_undone, AllMarksReady}
use Rattle.cics_history.specs.Ends.{LeadsTaken, LeadsFresh, Fits, is_of_reading, is_of_writing, HasEnds}

-- the two ends and the fit together
Unmarks_from : (is : List MarkImage) (q : Bytes) (m : MarkedQueue) (t : ℕ) (f : List Bytes) →
    LeadsTaken is q m.taken t → LeadsFresh is q m.fresh f → Fits is q (length m.settled) m.taken →
    Unmarks is q m (record { settled = m.settled; fresh = f; taken = t })
Unmarks_from [] q m t f a b c = rw (← a, ← b) refl
Unmarks_from (OfReading n d k ∷ is) q m t f a b c = elim (cases_Bool (is_same n q)) [
  | inl y ↦ let l = rw y at a in rw y (l.0, Unmarks_from is q (record m { taken = d }) t f l.1 b (rw y at c))
  | inr z ↦ rw z (Unmarks_from is q m t f (rw z at a) b (rw z at c))
]
Unmarks_from (OfWriting n d k ∷ is) q m t f a b c = elim (cases_Bool (is_same n q)) [
  | inl y ↦
      let l = rw y at b in
      let fit = rw y at c.0 in
      rw y
      ((l.0, rw (length-append m.settled d) fit), Unmarks_from is q (record m { fresh = d }) t f a l.1 c.1)
  | inr z ↦ rw z (Unmarks_from is q m t f a (rw z at b) c.1)
]

-- an end without images
LeadsTaken-none : (is : List MarkImage) (q : Bytes) (t : ℕ) → list_any (is_of_reading q) is ≡ false →
    LeadsTaken is q t t
LeadsTaken-none [] q t n = refl
LeadsTaken-none (OfReading m b k ∷ is) q t n =
    let h = or_parts (is_same m q) (list_any (is_of_reading q) is) n in rw h.0 (LeadsTaken-none is q t h.1)
LeadsTaken-none (OfWriting m b k ∷ is) q t n = LeadsTaken-none is q t n

LeadsFresh-none : (is : List MarkImage) (q : Bytes) (f : List Bytes) →
    list_any (is_of_writing q) is ≡ false → LeadsFresh is q f f
LeadsFresh-none [] q f n = refl
LeadsFresh-none (OfWriting m b k ∷ is) q f n =
    let h = or_parts (is_same m q) (list_any (is_of_writing q) is) n in rw h.0 (LeadsFresh-none is q f h.1)
LeadsFresh-none (OfReading m b k ∷ is) q f n = LeadsFresh-none is q f n

-- with no reading of its own a unit's writes fit where all that is read is settled
Fits-settled : (is : List MarkImage) (q : Bytes) (s t : ℕ) → list_any (is_of_reading q) is ≡ false → t ≤ s →
    Fits is q s t
Fits-settled [] q s t n l = tt
Fits-settled (OfReading m b k ∷ is) q s t n l =
    let h = or_parts (is_same m q) (list_any (is_of_reading q) is) n in rw h.0 (Fits-settled is q s t h.1 l)
Fits-settled (OfWriting m b k ∷ is) q s t n l = (room (is_same m q), Fits-settled is q s t n l)
  where
    room : (y : Bool) → MatchBool y (t ≤ s + length b) (Unit {0})
    room true = omega arith
    room false = tt

-- with no write of its own nothing is to fit
Fits-unwritten : (is : List MarkImage) (q : Bytes) (s t : ℕ) → list_any (is_of_writing q) is ≡ false →
    Fits is q s t
Fits-unwritten [] q s t n = tt
Fits-unwritten (OfReading m b k ∷ is) q s t n = Fits-unwritten is q s (if is_same m q then b else t) n
Fits-unwritten (OfWriting m b k ∷ is) q s t n =
    let h = or_parts (is_same m q) (list_any (is_of_writing q) is) n in
    rw h.0 (tt, Fits-unwritten is q s t h.1)

-- more settled records leave more room
Fits-more : (is : List MarkImage) (q : Bytes) (s t r : ℕ) → s ≤ r → Fits is q s t → Fits is q r t
Fits-more [] q s t r l h = tt
Fits-more (OfReading m b k ∷ is) q s t r l h = Fits-more is q s (if is_same m q then b else t) r l h
Fits-more (OfWriting m b k ∷ is) q s t r l h = (room (is_same m q) h.0, Fits-more is q s t r l h.1)
  where
    room : (y : Bool) → MatchBool y (t ≤ s + length b) (Unit {0}) → MatchBool y (t ≤ r + length b) (Unit {0})
    room true g = omega arith
    room false g = tt

pub HasEnds-unmarks : (a b : Bool) (is : List MarkImage) (q : Bytes) (m : MarkedQueue) →
    HasEnds a b is q m → Unmarks is q m (queue_backed_out a b m)
HasEnds-unmarks true true is q m h = Unmarks_from is q m 0 [] h.taken h.fresh h.fits
HasEnds-unmarks true false is q m h = Unmarks_from is q m 0 m.fresh h.taken h.fresh h.fits
HasEnds-unmarks false true is q m h = Unmarks_from is q m m.taken [] h.taken h.fresh h.fits
HasEnds-unmarks false false is q m h = Unmarks_from is q m m.taken m.fresh h.taken h.fresh h.fits

-- a unit without images
pub HasEnds-empty : (a b : Bool) (q : Bytes) (m : MarkedQueue) → (a ≡ true → m.taken ≡ 0) →
    (b ≡ true → m.fresh ≡ []) → HasEnds a b [] q m
HasEnds-empty a b q m t f =
    record {
      taken = zero_if a t;
      fresh = empty_if b f;
      fits = tt;
      none_of_reading = λ n. refl;
      none_of_writing = λ n. refl;
    }
  where
    zero_if : (a : Bool) → (a ≡ true → m.taken ≡ 0) → m.taken ≡ (if a then 0 else m.taken)
    zero_if true t = t refl
    zero_if false t = refl

    empty_if : (b : Bool) → (b ≡ true → m.fresh ≡ []) → m.fresh ≡ (if b then [] else m.fresh)
    empty_if true f = f refl
    empty_if false f = refl

-- its own commands
now_empty : (b : Bool) (is : List MarkImage) (q : Bytes) (f : List Bytes) → (b ≡ false → f ≡ []) →
    LeadsFresh is q f (if b then [] else f) → LeadsFresh is q f []
now_empty true is q f e h = h
now_empty false is q f e h = subst (λ c. LeadsFresh is q f c) (e refl) h

now_zero : (a : Bool) (is : List MarkImage) (q : Bytes) (t : ℕ) → (a ≡ false → t ≡ 0) →
    LeadsTaken is q t (if a then 0 else t) → LeadsTaken is q t 0
now_zero true is q t e h = h
now_zero false is q t e h = subst (λ c. LeadsTaken is q t c) (e refl) h

pub own_write : (a b : Bool) (is : List MarkImage) (q : Bytes) (m : MarkedQueue) (k : List Bytes) →
    HasEnds a b is q m → (b ≡ false → m.fresh ≡ []) → m.taken ≤ length (m.settled ++ m.fresh) →
    HasEnds a true (OfWriting q m.fresh k ∷ is) q (record m { fresh = k })
own_write a b is q m k h e l = record {
  taken = h.taken;
  fresh = rw (is_same-self q) (refl, now_empty b is q m.fresh e h.fresh);
  fits = rw (is_same-self q) (rw (length-append m.settled m.fresh) at l, h.fits);
  none_of_reading = h.none_of_reading;
  none_of_writing = λ n. absurd (true≢false n);
}

pub own_read : (a b : Bool) (is : List MarkImage) (q : Bytes) (m : MarkedQueue) (k : ℕ) →
    HasEnds a b is q m → (a ≡ false → m.taken ≡ 0) →
    HasEnds true b (OfReading q m.taken k ∷ is) q (record m { taken = k })
own_read a b is q m k h e = record {
  taken = rw (is_same-self q) (refl, now_zero a is q m.taken e h.taken);
  fresh = h.fresh;
  fits = rw (is_same-self q) h.fits;
  none_of_reading = λ n. absurd (true≢false n);
  none_of_writing = h.none_of_writing;
}

pub own_hold : (a b : Bool) (is : List MarkImage) (q : Bytes) (m : MarkedQueue) → HasEnds a b is q m →
    (b ≡ false → m.fresh ≡ []) → HasEnds a true is q m
own_hold a b is q m h e = record {
  taken = h.taken;
  fresh = now_empty b is q m.fresh e h.fresh;
  fits = h.fits;
  none_of_reading = h.none_of_reading;
  none_of_writing = λ n. absurd (true≢false n);
}

-- an image of another queue
pub HasEnds-skip : (a b : Bool) (i : MarkImage) (is : List MarkImage) (q : Bytes) (m : MarkedQueue) →
    is_same (queue_of i) q ≡ false → HasEnds a b is q m → HasEnds a b (i ∷ is) q m
HasEnds-skip a b (OfReading n d k) is q m z h =
    record {
      taken = rw z h.taken;
      fresh = h.fresh;
      fits = rw z h.fits;
      none_of_reading = λ e. rw z (h.none_of_reading e);
      none_of_writing = h.none_of_writing;
    }
HasEnds-skip a b (OfWriting n d k) is q m z h =
    record {
      taken = h.taken;
      fresh = rw z h.fresh;
      fits = rw z (tt, h.fits);
      none_of_reading = h.none_of_reading;
      none_of_writing = λ e. rw z (h.none_of_writing e);
    }

-- another unit changes the queue: not the ends that this one holds
pub HasEnds-other : (a b : Bool) (is : List MarkImage) (q : Bytes) (m n : MarkedQueue) →
    HasEnds a b is q m → (a ≡ true → n.taken ≡ m.taken) → (b ≡ true → n.fresh ≡ m.fresh) →
    (a ≡ true → b ≡ true → length m.settled ≤ length n.settled) →
    (a ≡ false → b ≡ true → n.taken ≤ length n.settled) → HasEnds a b is q n
HasEnds-other a b is q m n h t f s l = record {
  taken = reading a h.taken h.none_of_reading t;
  fresh = writing b h.fresh h.none_of_writing f;
  fits = fit a b h.none_of_reading h.none_of_writing t s l;
  none_of_reading = h.none_of_reading;
  none_of_writing = h.none_of_writing;
}
  where
    reading : (a : Bool) → LeadsTaken is q m.taken (if a then 0 else m.taken) →
        (a ≡ false → list_any (is_of_reading q) is ≡ false) → (a ≡ true → n.taken ≡ m.taken) →
        LeadsTaken is q n.taken (if a then 0 else n.taken)
    reading true g z e = subst (λ c. LeadsTaken is q c 0) (sym (e refl)) g
    reading false g z e = LeadsTaken-none is q n.taken (z refl)

    writing : (b : Bool) → LeadsFresh is q m.fresh (if b then [] else m.fresh) →
        (b ≡ false → list_any (is_of_writing q) is ≡ false) → (b ≡ true → n.fresh ≡ m.fresh) →
        LeadsFresh is q n.fresh (if b then [] else n.fresh)
    writing true g z e = subst (λ c. LeadsFresh is q c []) (sym (e refl)) g
    writing false g z e = LeadsFresh-none is q n.fresh (z refl)

    fit : (a b : Bool) → (a ≡ false → list_any (is_of_reading q) is ≡ false) →
        (b ≡ false → list_any (is_of_writing q) is ≡ false) → (a ≡ true → n.taken ≡ m.taken) →
        (a ≡ true → b ≡ true → length m.settled ≤ length n.settled) →
        (a ≡ false → b ≡ true → n.taken ≤ length n.settled) → Fits is q (length n.settled) n.taken
    fit true true y z t s l =
        subst (λ c. Fits is q (length n.settled) c) (sym (t refl))
        (Fits-more is q (length m.settled) m.taken (length n.settled) (s refl refl) h.fits)
    fit true false y z t s l = Fits-unwritten is q (length n.settled) n.taken (z refl)
    fit false true y z t s l = Fits-settled is q (length n.settled) n.taken (y refl) (l refl refl)
    fit false false y z t s l = Fits-unwritten is q (length n.settled) n.taken (z refl)

-- a queue without images is left as it is
pub Unmarks-none : (is : List MarkImage) (q : Bytes) (m : MarkedQueue) → marks_queue q is ≡ false →
    Unmarks is q m m
Unmarks-none [] q m n = refl
Unmarks-none (i ∷ is) q m n =
    let h = or_parts (is_same (queue_of i) q) (marks_queue q is) n in rw h.0 (Unmarks-none is q m h.1)

-- undoing the images leads each queue to what its own images lead it to
pub marks_undone-at : (is : List MarkImage) (q : Bytes) (queues : Queues) (to : MarkedQueue) →
    Unmarks is q (queues q) to → marks_undone queues is q ≡ to
marks_undone-at [] q queues to h = h
marks_undone-at (i ∷ is) q queues to h = elim (cases_Bool (is_same (queue_of i) q)) [
  | inl t ↦ let l = rw t at h in marks_undone-at is q (queues_unmarked queues i) to (rw t l.1)
  | inr n ↦ marks_undone-at is q (queues_unmarked queues i) to (rw n (rw n at h))
]

-- the statement for each queue gives that each image is ready when its turn comes
pub AllMarksReady_from : (is : List MarkImage) (queues : Queues) →
    ((q : Bytes) → (to : MarkedQueue) × Unmarks is q (queues q) to) → AllMarksReady queues is
AllMarksReady_from [] queues h = tt
AllMarksReady_from (i ∷ is) queues h =
    let own = h (queue_of i) in
    let head = rw (is_same-self (queue_of i)) at own.1 in (
      head.0,
      AllMarksReady_from is (queues_unmarked queues i) (λ q. elim (cases_Bool (is_same (queue_of i) q)) [
        | inl y ↦ let l = rw y at (h q).1 in ((h q).0, rw y l.1)
        | inr n ↦ let l = rw n at (h q).1 in ((h q).0, rw n l)
      ]),
    )
