-- In two regions that are alike a command of the same task is blocked by the unit of the same task,
-- or by none.
use Rattle.std.proofs.Common.{◌≡◌, ℕ, ◌<◌, ◌==◌, Bool, true, false, not, Option, Some, None, List, [], ◌∷◌, length, inl, inr, refl, ap, sym, ◌∙◌, subst, arith}
use Rattle.std.specs.Prelude.{is_some, option_map, unwrap_or, if◌then◌else◌, take}
use Rattle.std.specs.List.{list_any}
use Rattle.std.specs.Cmp.Lexicographic.{nat_list_cmp_total}
use Rattle.std.proofs.lemmas.Bool.{true≢false, false≢true, cases_Bool, and_from, lt-ltb}
use Rattle.cics_names.specs.Keyed.{Bytes, is_same, is_below}
use Rattle.cics_names.specs.KeyedLaws.{is_same-self, is_same-eq, same_bytes}
use Rattle.cics_names.specs.declared.commands.Verb.{Verb}
use Rattle.cics_names.specs.declared.commands.Verb.TheVariants.{Enq}
use Rattle.cics_ksds.specs.Prefixes.{has_prefix}
use Rattle.cics_history.specs.Resources.{is_one}
use Rattle.cics_history.specs.ResourceLaws.{is_one-eq}
use Rattle.cics_history.specs.declared.resources.Resource.{Resource}
use Rattle.cics_history.specs.declared.resources.Resource.TheVariants.{FileKey, TsQueue, TdRead as ReadingEnd, TdWrite as WritingEnd, User, FilePrefix}
use Rattle.cics_history.specs.State.{queue_logical, initial_store}
use Rattle.cics_history.specs.Headline.{outcome_of, is_open, is_backed_out, replay}
use Rattle.cics_history.specs.Holding.{uses_of, held_by, conflicts, bytes_in, owned, is_other, smallest_conflict, blocker_at, first_some, blocker_among, committed_for, is_nothing, writer_awaited, awaited, own_value}
use Rattle.cics_history.specs.Holders.{IsLeastHeld}
use Rattle.cics_history.specs.Execution.{unit_or_next}
use Rattle.cics_history.specs.Cells.{Td, content}
use Rattle.cics_history.specs.Isolation.{Outcomes, Each, left_by, store_by, AreKnown}
use Rattle.cics_history.specs.declared.ops.Entry.{Entry}
use Rattle.cics_history.specs.declared.ops.Op.{Op}
use Rattle.cics_history.specs.declared.ops.Op.TheVariants.{TdRead}
use Rattle.cics_history.specs.State.{UnitsState}
use Rattle.cics_history.specs.Events.{is_live}
use Rattle.cics_history.specs.declared.ops.UnitState.TheVariants.{BackedOut}
use Rattle.cics_history.proofs.Executes.{alone}
use Rattle.cics_history.proofs.Replays.{Each_more}
use Rattle.cics_history.proofs.Holders.{held_cases, holder_begun, conflicts-joined, found_holds, found_other}
use Rattle.cics_history.proofs.LeastHeld.{least_held, holder_some}
use Rattle.cics_history.proofs.Waiting.{any_more, committed-content}
use Rattle.cics_dispatch.specs.Notes.Notes.{is_unit}
use Rattle.cics_dispatch.specs.Machine.Machine.{Machine, Task, task_at, label_of}
use Rattle.cics_dispatch.specs.Machine.Waking.{awaited_by}
use Rattle.cics_dispatch.proofs.OfMachine.OtherUnits.{begun}
use Rattle.cics_dispatch.specs.Future.Futures.{store_if, ending, IsSteady}
use Rattle.cics_dispatch.proofs.OfFuture.Labels.{turned, live_open, AreActing, same_label, partner, told_by_label, other_by_label}

-- ---- The least of what conflicts

-- bytes of which neither is below the other are the same
neither_below : (a b : Bytes) → is_below a b ≡ false → is_below b a ≡ false → a ≡ b
neither_below a b h k = grind (arith, nat_list_cmp_total.antisymm b a, same_bytes a b)

has_prefix-self : (p : Bytes) → has_prefix p p ≡ true
has_prefix-self [] = refl
has_prefix-self (x ∷ p) = grind (arith, has_prefix-self p)

-- two resources of the same bytes that conflict with a third conflict
conflict_joined : (r s t : Resource) → conflicts r s ≡ true → conflicts r t ≡ true → bytes_in s ≡ bytes_in t → conflicts s t ≡ true
conflict_joined (FilePrefix f p) (FileKey g k) (FileKey h l) a b same = grind (arith, is_same-eq f g, is_same-eq f h, is_same-self g, is_same-self k.items)
conflict_joined (FilePrefix f p) (FileKey g k) (FilePrefix h q) a b same = grind (arith, is_same-eq f g, is_same-eq f h, is_same-self g, has_prefix-self q.items)
conflict_joined (FilePrefix f p) (FilePrefix g q) (FileKey h k) a b same = grind (arith, is_same-eq f g, is_same-eq f h, is_same-self g, has_prefix-self q.items)
conflict_joined (FilePrefix f p) (FilePrefix g q) (FilePrefix h s) a b same = grind (arith, is_same-eq f g, is_same-eq f h, is_same-self g, has_prefix-self q.items)
conflict_joined (FilePrefix f p) (FileKey g k) _ a b same = absurd (false≢true b)
conflict_joined (FilePrefix f p) (FilePrefix g q) _ a b same = absurd (false≢true b)
conflict_joined (FilePrefix f p) _ _ a b same = absurd (false≢true a)
conflict_joined (FileKey f k) s t a b same = conflicts-joined (FileKey f k) s t refl a b
conflict_joined (TsQueue q) s t a b same = conflicts-joined (TsQueue q) s t refl a b
conflict_joined (ReadingEnd q) s t a b same = conflicts-joined (ReadingEnd q) s t refl a b
conflict_joined (WritingEnd q) s t a b same = conflicts-joined (WritingEnd q) s t refl a b
conflict_joined (User v) s t a b same = conflicts-joined (User v) s t refl a b

-- ---- The blocker of a task

-- the label of a blocker's task, if there is a blocker
abbrev pub told : Machine → Option ℕ → Option Bytes
told m o = option_map (label_of m.tasks) o

-- who holds something is open
holder_live : (m : Machine) → IsSteady m → (p : Resource → Bool) (u : ℕ) → list_any p (held_by m.units u) ≡ true → is_live m.units u ≡ true
holder_live m steady p u holds =
    and_from _ _ (lt-ltb u (length m.units.outcomes) (holder_begun m.units steady.units.sound.known steady.units.sound.begun u p holds)) (held_cases m.units u p holds).0

-- a holder that is another unit than a task's has a partner, which is another and holds the same
record HasHolder (m n : Machine) (u : Task) (x : ℕ) (p : Resource → Bool) : Type 0 where
  unit : ℕ
  label : label_of m.tasks x ≡ label_of n.tasks unit
  holds : list_any p (held_by n.units unit) ≡ true
  other : is_other u.unit unit ≡ true

held_there : (m n : Machine) (t u : Task) → AreActing m n t u → (x : ℕ) (p : Resource → Bool) →
    list_any p (held_by m.units x) ≡ true → is_other t.unit x ≡ true → HasHolder m n u x p
held_there m n t u acting x p holds other =
    let live = holder_live m acting.same.first p x holds in
    let mate = partner m n acting.same x live in
    record {
      unit = mate.unit;
      label = mate.label;
      holds = ap (list_any p) (sym mate.held) ∙ holds;
      other =
          other_by_label n acting.same.second u acting.too mate.unit mate.live
          ∙ ((λ i. not (is_same (sym mate.label i) (sym acting.bare i).label)) ∙ (sym (other_by_label m acting.same.first t acting.there x live) ∙ other));
    }

-- the other way round
acting_turned : {m n : Machine} {t u : Task} → AreActing m n t u → AreActing n m u t
acting_turned acting = record { same = turned acting.same; there = acting.too; too = acting.there; bare = sym acting.bare }

module _ (m n : Machine) (t u : Task) (acting : AreActing m n t u) where
  -- both find the unit of the same task
  same_least : (r : Resource) (e d : Resource × ℕ) → IsLeastHeld m.units t.unit r e → IsLeastHeld n.units u.unit r d → label_of m.tasks e.1 ≡ label_of n.tasks d.1
  same_least r e d first second =
      let there = held_there m n t u acting e.1 (is_one e.0) first.holds first.other in
      let back = held_there n m u t (acting_turned acting) d.1 (is_one d.0) second.holds second.other in
      let bytes : bytes_in e.0 ≡ bytes_in d.0 =
      neither_below (bytes_in e.0) (bytes_in d.0)
      (second.least e.0 there.unit first.meets there.other there.holds) (first.least d.0 back.unit second.meets back.other back.holds) in
      let meets : conflicts e.0 d.0 ≡ true = conflict_joined r e.0 d.0 first.meets second.meets bytes in
      let here : (x : Resource) → is_one e.0 x ≡ true → list_any (conflicts x) (held_by n.units d.1) ≡ true =
      λ x is. any_more (is_one d.0) (conflicts x)
      (λ y one. subst (λ z. conflicts z y ≡ true) (is_one-eq e.0 x is) (subst (λ z. conflicts e.0 z ≡ true) (is_one-eq d.0 y one) meets))
      (held_by n.units d.1) second.holds in
      let one : there.unit ≡ d.1 =
      acting.same.second.units.sound.one there.unit d.1 (any_more (is_one e.0) (λ x. list_any (conflicts x) (held_by n.units d.1)) here (held_by n.units there.unit) there.holds) in
      there.label ∙ ap (label_of n.tasks) one

  pub same_blocker : (r : Resource) → told m (blocker_at (owned m.units) t.unit r) ≡ told n (blocker_at (owned n.units) u.unit r)
  same_blocker r = by (smallest_conflict (owned m.units) t.unit r) (smallest_conflict (owned n.units) u.unit r) refl refl
    where
      entry : Option (Resource × ℕ) → Option ℕ
      entry o = option_map (λ e. e.1) o

      by : (o p : Option (Resource × ℕ)) → smallest_conflict (owned m.units) t.unit r ≡ o → smallest_conflict (owned n.units) u.unit r ≡ p → told m (entry o) ≡ told n (entry p)
      by None None here there = refl
      by (Some e) (Some d) here there =
          ap Some (same_least r e d (least_held m.units t.unit r e acting.same.first.units.sound here) (least_held n.units u.unit r d acting.same.second.units.sound there))
      by None (Some d) here there =
          let found = ap entry there in
          let back = held_there n m u t (acting_turned acting) d.1 (conflicts r) (found_holds n.units u.unit r d.1 found) (found_other (owned n.units) u.unit r d.1 found) in
          absurd (true≢false (sym (holder_some m.units t.unit r back.unit acting.same.first.units.sound back.other back.holds) ∙ ap (λ o. is_some (entry o)) here))
      by (Some e) None here there =
          let found = ap entry here in
          let back = held_there m n t u acting e.1 (conflicts r) (found_holds m.units t.unit r e.1 found) (found_other (owned m.units) t.unit r e.1 found) in
          absurd (true≢false (sym (holder_some n.units u.unit r back.unit acting.same.second.units.sound back.other back.holds) ∙ ap (λ o. is_some (entry o)) there))

  first_of_two : (x y x' y' : Option ℕ) → told m x ≡ told n x' → told m y ≡ told n y' → told m (first_some x y) ≡ told n (first_some x' y')
  first_of_two x y x' y' a b = grind (arith, a, b)

  same_among : (rs : List Resource) → told m (blocker_among (owned m.units) t.unit rs) ≡ told n (blocker_among (owned n.units) u.unit rs)
  same_among [] = refl
  same_among (r ∷ rs) =
      first_of_two (blocker_at (owned m.units) t.unit r) (blocker_among (owned m.units) t.unit rs) (blocker_at (owned n.units) u.unit r) (blocker_among (owned n.units) u.unit rs)
      (same_blocker r) (same_among rs)

-- ---- Endings

-- two endings that back out the same units of the history leave the same store
pub same_endings : (s : UnitsState) (fin more : Outcomes) → AreKnown s → ((u : ℕ) → u < length s.outcomes → is_backed_out (fin u) ≡ is_backed_out (more u)) →
    store_by s.opening fin s.trace ≡ store_by s.opening more s.trace
same_endings s fin more known same =
    ap (replay (initial_store s.opening)) (left s.trace (Each_more (λ e. e.unit < length s.outcomes) (λ e. is_backed_out (fin e.unit) ≡ is_backed_out (more e.unit)) (λ e. same e.unit) s.trace known))
  where
    left : (es : List Entry) → Each (λ e. is_backed_out (fin e.unit) ≡ is_backed_out (more e.unit)) es → left_by s.opening fin es ≡ left_by s.opening more es
    left [] each = refl
    left (e ∷ es) each = grind (arith, each.0, left es each.1)

-- an ending is as another if both treat the open units alike
pub same_if_open : (m : Machine) → IsSteady m → (gone : Bytes → Bool) (more : Outcomes) →
    ((u : ℕ) → u < length m.units.outcomes → is_open (outcome_of m.units.outcomes u) ≡ false → more u ≡ outcome_of m.units.outcomes u) →
    ((u : ℕ) → is_live m.units u ≡ true → is_backed_out (if gone (label_of m.tasks u) then BackedOut else outcome_of m.units.outcomes u) ≡ is_backed_out (more u)) →
    store_if m gone ≡ store_by m.units.opening more m.units.trace
same_if_open m steady gone more shut same =
    same_endings m.units (ending m gone) more steady.units.sound.known
    (λ u below. grind (arith, same u, shut u below, lt-ltb u (length m.units.outcomes) below))

-- what a task may read of a queue is what the queue holds if all others are backed out
others_gone : (m : Machine) (steady : IsSteady m) (t : Task) → task_at m.tasks t.label ≡ Some t →
    store_if m (λ l. not (is_same l t.label))
    ≡ store_by m.units.opening (alone (outcome_of m.units.outcomes) (unit_or_next t.unit m.units.outcomes)) m.units.trace
others_gone m steady t there =
    same_if_open m steady (λ l. not (is_same l t.label)) (alone (outcome_of m.units.outcomes) (unit_or_next t.unit m.units.outcomes))
    (λ u below closed. rw closed refl)
    (λ u live. grind (arith, live_open m.units u live, told_by_label m steady t there u live, own t.unit u (begun m.units u live)))
  where
    own : (o : Option ℕ) (u : ℕ) → u < length m.units.outcomes → is_unit o u ≡ (u == unit_or_next o m.units.outcomes)
    own None u below = grind arith
    own (Some w) u below = grind arith

module _ (m n : Machine) (t u : Task) (acting : AreActing m n t u) where
  -- a task may read the same records
  same_committed : (q : Bytes) → queue_logical m.units.opening q ≡ true → committed_for m.units t.unit q ≡ committed_for n.units u.unit q
  same_committed q logical =
      committed-content m.units acting.same.first.units.sound.known t.unit q logical
      ∙ (ap (λ s. unwrap_or (content s (Td q)) [])
      (sym (others_gone m acting.same.first t acting.there)
      ∙ (acting.same.alike.stores (λ l. not (is_same l t.label))
      ∙ (ap (λ x. store_if n (λ l. not (is_same l x))) (same_label t u acting.bare)
      ∙ others_gone n acting.same.second u acting.too)))
      ∙ sym (committed-content n.units acting.same.second.units.sound.known u.unit q (ap (λ o. queue_logical o q) (sym acting.same.alike.opening) ∙ logical)))

  same_writer : (o : Op) → told m (writer_awaited m.units t.unit o) ≡ told n (writer_awaited n.units u.unit o)
  same_writer (TdRead q) = elim (cases_Bool (queue_logical m.units.opening q)) [
    | inl is ↦
        rw (is, ap (λ o. queue_logical o q) (sym acting.same.alike.opening) ∙ is, same_committed q is)
        (elim (is_nothing (committed_for n.units u.unit q)) as
        (λ b. told m (if b then blocker_at (owned m.units) t.unit (WritingEnd q) else None) ≡ told n (if b then blocker_at (owned n.units) u.unit (WritingEnd q) else None)) [
          | true ↦ same_blocker m n t u acting (WritingEnd q)
          | false ↦ refl
        ])
    | inr off ↦ rw (off, ap (λ o. queue_logical o q) (sym acting.same.alike.opening) ∙ off) refl
  ]
  same_writer _ = refl

  -- ---- Whom a command waits for

  pub same_awaited : (o : Op) → told m (awaited m.units t.unit o) ≡ told n (awaited n.units u.unit o)
  same_awaited o =
      first_of_two m n t u acting (blocker_among (owned m.units) t.unit (uses_of m.units.opening o)) (writer_awaited m.units t.unit o)
      (blocker_among (owned n.units) u.unit (uses_of n.units.opening o)) (writer_awaited n.units u.unit o)
      (same_among m n t u acting (uses_of m.units.opening o) ∙ ap (λ p. told n (blocker_among (owned n.units) u.unit (uses_of p o))) acting.same.alike.opening)
      (same_writer o)

  pub same_awaited_by : (verb : Verb) (o : Option Op) → told m (awaited_by m.units t.unit verb o) ≡ told n (awaited_by n.units u.unit verb o)
  same_awaited_by verb (Some o) = same_awaited o
  same_awaited_by (Enq value k nosuspend) None = same_blocker m n t u acting (own_value (take k value))
  same_awaited_by _ None = refl
