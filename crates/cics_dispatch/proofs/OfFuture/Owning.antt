-- What an open unit has after each step of the units: the unit that acts has what the step gives
-- it, the others what they had.
use Rattle.std.proofs.Common.{◌≡◌, ◌≢◌, ℕ, ◌<◌, ◌==◌, true, not, ◌&&◌, Option, Some, None, List, [], ◌∷◌, ◌++◌, length, refl, ap, ◌∙◌, arith}
use Rattle.std.specs.Prelude.{if◌then◌else◌, filter, map, flat_map}
use Rattle.std.specs.List.{list_any}
use Rattle.std.proofs.lemmas.Bool.{false_from_ne_true, eq-eqb, ne_eqb}
use Rattle.std.proofs.lemmas.List.{append-nil}
use Rattle.cics_names.specs.Keyed.{Bytes}
use Rattle.cics_history.specs.declared.resources.Resource.{Resource}
use Rattle.cics_history.specs.State.{OpeningState, UnitsState, UpdateRead, EnqCount}
use Rattle.cics_history.specs.Store.{is_normal, is_recoverable}
use Rattle.cics_history.specs.Headline.{outcome_of, is_open}
use Rattle.cics_history.specs.Holding.{uses_of, held_by_entry, held_by_read, held_by_count, held_by}
use Rattle.cics_history.specs.Execution.{unit_or_next, is_read_of, read_at, has_read, reads_after, entered, count_at, counted, uncounted, with_counts, after_dequeue, after_unlock, after_ts_reading}
use Rattle.cics_history.specs.Isolation.{Each, IsSound}
use Rattle.cics_history.specs.Serial.{is_done_by, done_by}
use Rattle.cics_history.specs.declared.ops.Op.{Op}
use Rattle.cics_history.specs.declared.ops.Answer.{Answer}
use Rattle.cics_history.specs.declared.ops.Entry.{Entry}
use Rattle.cics_history.specs.declared.ops.UnitState.{UnitState}
use Rattle.cics_dispatch.specs.Machine.Machine.{units_after}
use Rattle.cics_dispatch.proofs.OfMachine.OtherUnits.{item_read_is}
use Rattle.cics_dispatch.specs.Future.Futures.{reader, any_read, counter, any_count, Own, own_by, AreRising, is_earlier, is_lower}
use Rattle.cics_dispatch.proofs.OfFuture.Rows.{rows-filter, rows-kept, rows-flat_map, none_begun, apart, reads_of, reads_after-step, read-own, counts_of, counted-step, uncounted-step, count-own}

-- ---- What is told of a unit by what it has

-- these commands, update reads and counts
abbrev own_of : List Op → List UpdateRead → List EnqCount → Own
own_of ops reads counts = record { ops = ops; reads = reads; counts = counts }

-- what a unit did
abbrev done : OpeningState → ℕ → List Entry → List Op
done o u es = map (λ e. e.op) (done_by o es u)

done-push : (o : OpeningState) (u : ℕ) (es : List Entry) (e : Entry) → done o u (es ++ e ∷ []) ≡ done o u es ++ (if is_done_by o u e then e.op ∷ [] else [])
done-push o u [] e = grind arith
done-push o u (d ∷ es) e = grind (arith, done-push o u es e)

-- what it holds by its commands is what these use
held_done : (o : OpeningState) (u : ℕ) (es : List Entry) → flat_map (held_by_entry o u) es ≡ flat_map (uses_of o) (done o u es)
held_done o u [] = refl
held_done o u (e ∷ es) = grind (arith, held_done o u es)

-- the key of its update read of a file
pub read_told : (s : UnitsState) (o : Option ℕ) (f : Bytes) → has_read s o f ≡ read_at (own_by s o).reads 0 f
read_told s None f = refl
read_told s (Some u) f = read-own u f s.reads

-- all that it holds
abbrev pub held_own : OpeningState → Own → List Resource
held_own o x = flat_map (uses_of o) x.ops ++ flat_map (held_by_read o 0) x.reads ++ flat_map (held_by_count 0) x.counts

pub held_told : (s : UnitsState) (u : ℕ) → is_open (outcome_of s.outcomes u) ≡ true → held_by s u ≡ held_own s.opening (own_by s (Some u))
held_told s u live = rw live (λ i. by_ops i ++ by_reads i ++ by_counts i)
  where
    by_ops : flat_map (held_by_entry s.opening u) s.trace ≡ flat_map (uses_of s.opening) (done s.opening u s.trace)
    by_ops = held_done s.opening u s.trace

    by_reads : flat_map (held_by_read s.opening u) s.reads ≡ flat_map (held_by_read s.opening 0) (reads_of u s.reads)
    by_reads = rows-flat_map reader any_read u (held_by_read s.opening u) (held_by_read s.opening 0) (λ x own. rw own refl) (λ x other. rw other refl) s.reads

    by_counts : flat_map (held_by_count u) s.counts ≡ flat_map (held_by_count 0) (counts_of u s.counts)
    by_counts = rows-flat_map counter any_count u (held_by_count u) (held_by_count 0) (λ c own. rw own refl) (λ c other. rw other refl) s.counts

-- ---- A unit that begins

none_done : (o : OpeningState) (n : ℕ) (es : List Entry) → Each (λ e. e.unit < n) es → done o n es ≡ []
none_done o n [] known = refl
none_done o n (e ∷ es) known = grind (arith, none_done o n es known.1, known.0)

-- the unit that acts has what its task's unit has, if it has one, or nothing
pub acting_own : (s : UnitsState) (o : Option ℕ) → IsSound s → own_by s (Some (unit_or_next o s.outcomes)) ≡ own_by s o
acting_own s (Some u) sound = refl
acting_own s None sound =
    λ i. record {
      ops = none_done s.opening next s.trace sound.known i;
      reads = none_begun reader any_read next s.reads (false_from_ne_true (list_any (λ r. r.unit == next) s.reads) (λ t. above (sound.begun.readers next t))) i;
      counts = none_begun counter any_count next s.counts (false_from_ne_true (list_any (λ c. c.unit == next) s.counts) (λ t. above (sound.begun.counters next t))) i;
    }
  where
    next : ℕ
    next = length s.outcomes

    above : length s.outcomes < length s.outcomes → ⊥
    above less = omega arith

-- how many times it has enqueued on a value
pub count_told : (s : UnitsState) (o : Option ℕ) (v : Bytes) → IsSound s → count_at s.counts (unit_or_next o s.outcomes) v ≡ count_at (own_by s o).counts 0 v
count_told s o v sound = count-own (unit_or_next o s.outcomes) v s.counts ∙ ap (λ (x : Own). count_at x.counts 0 v) (acting_own s o sound)

-- ---- A command

-- what a unit has after a command, by what it had
abbrev pub own_entered : OpeningState → Op → Answer → Own → Own
own_entered o op a x =
    own_of (x.ops ++ (if is_normal a.condition && is_recoverable o op then op ∷ [] else [])) (reads_after 0 op a.condition x.reads) x.counts

-- the entry of a command
abbrev entry : UnitsState → Option ℕ → Op → Answer → Entry
entry s o op a = record { unit = unit_or_next o s.outcomes; op = op; answer = a }

pub entered_own : (s : UnitsState) (o : Option ℕ) (op : Op) (a : Answer) → IsSound s → AreRising is_earlier s.reads →
    own_by (entered s o op a) (Some (unit_or_next o s.outcomes)) ≡ own_entered s.opening op a (own_by s o)
entered_own s o op a sound rising =
    (λ i. own_of (grown i) ((reads_after-step u op a.condition s.reads rising).own i) (counts_of u s.counts)) ∙ ap (own_entered s.opening op a) (acting_own s o sound)
  where
    u : ℕ
    u = unit_or_next o s.outcomes

    grown : done s.opening u (s.trace ++ entry s o op a ∷ []) ≡ done s.opening u s.trace ++ (if is_normal a.condition && is_recoverable s.opening op then op ∷ [] else [])
    grown = done-push s.opening u s.trace (entry s o op a) ∙ rw (eq-eqb u u refl) refl

pub entered_other : (s : UnitsState) (o : Option ℕ) (op : Op) (a : Answer) (w : ℕ) → AreRising is_earlier s.reads → unit_or_next o s.outcomes ≢ w → own_by (entered s o op a) (Some w) ≡ own_by s (Some w)
entered_other s o op a w rising other =
    λ i. own_of (same i) ((reads_after-step (unit_or_next o s.outcomes) op a.condition s.reads rising).others w other i) (counts_of w s.counts)
  where
    same : done s.opening w (s.trace ++ entry s o op a ∷ []) ≡ done s.opening w s.trace
    same = done-push s.opening w s.trace (entry s o op a) ∙ rw (ne_eqb (unit_or_next o s.outcomes) w other) (append-nil (done s.opening w s.trace))

-- ---- ENQ and DEQ

abbrev pub own_counted : Bytes → Own → Own
own_counted v x = own_of x.ops x.reads (counted x.counts 0 v)

pub counted_own : (s : UnitsState) (o : Option ℕ) (v : Bytes) (outcomes : List UnitState) → IsSound s → AreRising is_lower s.counts →
    own_by (with_counts s outcomes (counted s.counts (unit_or_next o s.outcomes) v)) (Some (unit_or_next o s.outcomes)) ≡ own_counted v (own_by s o)
counted_own s o v outcomes sound rising =
    ap (own_of (done s.opening (unit_or_next o s.outcomes) s.trace) (reads_of (unit_or_next o s.outcomes) s.reads)) (counted-step (unit_or_next o s.outcomes) v s.counts rising).own
    ∙ ap (own_counted v) (acting_own s o sound)

pub counted_other : (s : UnitsState) (u : ℕ) (v : Bytes) (outcomes : List UnitState) (w : ℕ) → AreRising is_lower s.counts → u ≢ w →
    own_by (with_counts s outcomes (counted s.counts u v)) (Some w) ≡ own_by s (Some w)
counted_other s u v outcomes w rising other = ap (own_of (done s.opening w s.trace) (reads_of w s.reads)) ((counted-step u v s.counts rising).others w other)

abbrev pub own_uncounted : Bytes → Own → Own
own_uncounted v x = own_of x.ops x.reads (uncounted x.counts 0 v)

pub dequeued_own : (s : UnitsState) (u : ℕ) (v : Bytes) → AreRising is_lower s.counts → own_by (after_dequeue s u v) (Some u) ≡ own_uncounted v (own_by s (Some u))
dequeued_own s u v rising = ap (own_of (done s.opening u s.trace) (reads_of u s.reads)) (uncounted-step u v s.counts rising).own

pub dequeued_other : (s : UnitsState) (u : ℕ) (v : Bytes) (w : ℕ) → AreRising is_lower s.counts → u ≢ w → own_by (after_dequeue s u v) (Some w) ≡ own_by s (Some w)
dequeued_other s u v w rising other = ap (own_of (done s.opening w s.trace) (reads_of w s.reads)) ((uncounted-step u v s.counts rising).others w other)

-- ---- UNLOCK, the end of a unit, READQ TS

abbrev pub own_unlocked : Bytes → Own → Own
own_unlocked f x = own_of x.ops (filter (λ r. not (is_read_of 0 f r)) x.reads) x.counts

pub unlocked_own : (s : UnitsState) (u : ℕ) (f : Bytes) → own_by (after_unlock s u f) (Some u) ≡ own_unlocked f (own_by s (Some u))
unlocked_own s u f =
    ap (λ l. own_of (done s.opening u s.trace) l (counts_of u s.counts))
    (rows-filter reader any_read u (λ r. not (is_read_of u f r)) (λ r. not (is_read_of 0 f r)) (λ x own. rw own refl) s.reads)

pub unlocked_other : (s : UnitsState) (u : ℕ) (f : Bytes) (w : ℕ) → u ≢ w → own_by (after_unlock s u f) (Some w) ≡ own_by s (Some w)
unlocked_other s u f w other =
    ap (λ l. own_of (done s.opening w s.trace) l (counts_of w s.counts))
    (rows-kept reader any_read w (λ r. not (is_read_of u f r)) (λ x own. rw (apart u w x.unit other own) refl) s.reads)

pub ended_other : (s : UnitsState) (o : Option ℕ) (outcome : UnitState) (w : ℕ) → (o ≡ Some w → ⊥) → own_by (units_after s o outcome) (Some w) ≡ own_by s (Some w)
ended_other s None outcome w other = refl
ended_other s (Some u) outcome w other =
    λ i. own_of (done s.opening w s.trace)
    (rows-kept reader any_read w (λ r. not (r.unit == u)) (λ x own. ap not (apart u w x.unit (λ e. other (ap Some e)) own)) s.reads i)
    (rows-kept counter any_count w (λ c. not (c.unit == u)) (λ c own. ap not (apart u w c.unit (λ e. other (ap Some e)) own)) s.counts i)

pub item_read_own : (s : UnitsState) (q : Bytes) (item : ℕ) (o : Option ℕ) → own_by (after_ts_reading s q item) o ≡ own_by s o
item_read_own s q item None = refl
item_read_own s q item (Some u) = item_read_is (λ n. own_by n (Some u) ≡ own_by s (Some u)) s q item refl refl
