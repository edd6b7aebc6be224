-- ENQ and DEQ: the counts of the values, by the order of the values, are those of the table.
use Rattle.std.proofs.Common.{◌≡◌, ℕ, ◌+◌, ◌-◌, Bool, true, false, cond, ◌&&◌, ◌||◌, not, T, Option, Some, None, List, [], ◌∷◌, refl, ap, sym, subst, ◌∙◌, eqb}
use Rattle.std.specs.Prelude.{if◌then◌else◌, ◌==◌, nat_lt, nat_le}
use Rattle.std.specs.FinMap as map_by
use Rattle.std.specs.declared.cmp.Ordering.TheVariants.{Less, Equal, Greater}
use Rattle.std.specs.Ordering.{is_eq, is_lt}
use Rattle.std.specs.Cmp.{tied_itself}
use Rattle.std.specs.FinMap.Entries.{by_order, below_all}
use Rattle.std.proofs.Math.Bool.{or-false, and-true, and-false}
use Rattle.std.proofs.lemmas.Bool.{false≢true, eq-eqb, eqb-true, and_parts, and_from, and_right}
use Rattle.cics_names.specs.Keyed.{Bytes, bytes_cmp, is_same, is_below}
use Rattle.cics_names.specs.KeyedLaws.{is_same-self}
use Rattle.cics_names.specs.RisingLaws.{is_same-turned}
use Rattle.cics_history.specs.Resources.{is_one, is_user, most_count}
use Rattle.cics_enqueue.specs.Table.{Table, Held, is_in_order, resource_cmp, held_at, holder_of, count_in, IsFreeFor, with_holder, freed, taken, given_back, given_back_of, raised_count}
use Rattle.cics_history.specs.ResourceLaws.{is_one-eq, is_one-self}
use Rattle.cics_enqueue.specs.Order.{free_own, is_one-cmp, same_resources, resource_cmp_total}
use Rattle.cics_enqueue.proofs.TableLaws.{left_of, right_of, unit_in, held_less, held_below, held_before, freed-absent, held_at-with_holder, held_at-given_back, holder_of-taken, is_in_order-taken, is_in_order-given_back}
use Rattle.cics_history.specs.declared.resources.Resource.{Resource}
use Rattle.cics_history.specs.declared.resources.Resource.TheVariants.{FileKey, TsQueue, TdRead as ReadingEnd, TdWrite as WritingEnd, User, FilePrefix}
use Rattle.cics_history.specs.State.{OpeningState, UnitsState, UpdateRead, EnqCount}
use Rattle.cics_history.specs.Headline.{outcome_of, is_open}
use Rattle.cics_history.specs.Holding.{value_holder}
use Rattle.cics_history.specs.Execution.{unit_or_next, outcomes_with, is_count, count_at, counted, uncounted, with_counts, enq_of, enqueue, after_enqueued, after_dequeue}
use Rattle.cics_history.specs.Events.{may_act}
use Rattle.cics_history.specs.Isolation.{IsSound}
use Rattle.cics_units.specs.TableInPlace.{value_of, is_holder, counted_before, counts_in, IsTableOf}
use Rattle.cics_history.specs.declared.ops.Entry.{Entry}
use Rattle.cics_history.specs.declared.ops.UnitState.{UnitState}
use Rattle.cics_history.specs.declared.ops.Enqueued.TheVariants.{Taken, MustWait as EnqMustWait, CountFull}
use Rattle.cics_history.proofs.States.{acting_open}
use Rattle.cics_history.proofs.Outcomes.{outcome_of-with}
use Rattle.cics_units.proofs.HeldReads.{any_if_one}
use Rattle.cics_units.proofs.HeldSums.{in_entries, in_reads, in_counts, held_sum}
use Rattle.cics_units.proofs.HeldOver.{table_holder, table_free}
use Rattle.cics_units.proofs.Unprefixed.{in_entries-apart, in_reads-apart, in_counts-other, not_value}

-- how a value and its holding are counted
abbrev count_of_value : Bytes → Held → EnqCount
count_of_value v h = record { value = v; unit = h.unit; count = h.count }

-- ---- One take more

module _ (v : Bytes) (u n : ℕ) where
  -- the holding that is written
  abbrev written : Held
  written = record { unit = u; count = n }

  taken_first : (r : Resource) (h : Held) (es : Table) → T (below_all resource_cmp r es) →
      ((g : Held) → held_at (value_of v) ((r, h) ∷ es) ≡ Some g → g.unit ≡ u) →
      n ≡ raised_count (value_of v) (held_at (value_of v) ((r, h) ∷ es)) →
      (is_eq (resource_cmp (value_of v) r) ≡ false → counts_in (map_by.put resource_cmp (value_of v) written es) ≡ counted (counts_in es) u v) →
      counts_in (map_by.put resource_cmp (value_of v) written ((r, h) ∷ es)) ≡ counted (counts_in ((r, h) ∷ es)) u v
  taken_first (User w) h es below own count rest =
      let cs = counts_in es in
      let pick : Bool → Bool → List EnqCount = λ a b.
      if a then record { value = w.items; unit = u; count = h.count + 1 } ∷ cs
      else if b then record { value = v; unit = u; count = 1 } ∷ count_of_value w.items h ∷ cs
      else count_of_value w.items h ∷ counted cs u v in
      elim (bytes_cmp v w.items) as (λ o. bytes_cmp v w.items ≡ o →
      counts_in (by_order o ((value_of v, written) ∷ (User w, h) ∷ es) ((User w, written) ∷ es) ((User w, h) ∷ map_by.put resource_cmp (value_of v) written es))
      ≡ pick (is_count u v (count_of_value w.items h)) (is_below v w.items)) [
        | Less ↦ λ less.
            let none : held_at (value_of v) ((User w, h) ∷ es) ≡ None =
            ap (λ o. cond (is_eq o) (Some h) (held_at (value_of v) es)) less ∙ held_before (value_of v) (User w) es less below in
            ap (λ m. record { value = v; unit = u; count = m } ∷ count_of_value w.items h ∷ cs) (count ∙ ap (raised_count (value_of v)) none)
            ∙ sym (λ i. pick (and_right (h.unit == u) (is_same w.items v) (is_same-turned w.items v ∙ ap is_eq less) i) (is_lt (less i)))
        | Equal ↦ λ tied.
            let at : held_at (value_of v) ((User w, h) ∷ es) ≡ Some h =
            ap (λ o. cond (is_eq o) (Some h) (held_at (value_of v) es)) tied in
            ap (λ m. record { value = w.items; unit = u; count = m } ∷ cs) (count ∙ ap (raised_count (value_of v)) at)
            ∙ sym (ap (λ a. pick a (is_below v w.items))
            (and_from (h.unit == u) (is_same w.items v) (eq-eqb h.unit u (own h at)) (is_same-turned w.items v ∙ ap is_eq tied)))
        | Greater ↦ λ more.
            ap (λ l. count_of_value w.items h ∷ l) (rest (ap is_eq more))
            ∙ sym (λ i. pick (and_right (h.unit == u) (is_same w.items v) (is_same-turned w.items v ∙ ap is_eq more) i) (is_lt (more i)))
      ] refl
  taken_first _ h es below own count rest = rest refl

  counts_in-written : (t : Table) → T (is_in_order t) →
      ((g : Held) → held_at (value_of v) t ≡ Some g → g.unit ≡ u) →
      n ≡ raised_count (value_of v) (held_at (value_of v) t) →
      counts_in (map_by.put resource_cmp (value_of v) written t) ≡ counted (counts_in t) u v
  counts_in-written [] rises own count = ap (λ m. record { value = v; unit = u; count = m } ∷ []) count
  counts_in-written (e ∷ es) rises own count =
      taken_first e.0 e.1 es (left_of _ _ rises) own count (λ other.
      let later : held_at (value_of v) (e ∷ es) ≡ held_at (value_of v) es = ap (λ b. cond b (Some e.1) (held_at (value_of v) es)) other in
      counts_in-written es (right_of _ _ rises) (λ g at. own g (later ∙ at)) (count ∙ ap (raised_count (value_of v)) later))

-- ENQ counts the take that the table has
pub counts_in-taken : (t : Table) (v : Bytes) (u : ℕ) → T (is_in_order t) → IsFreeFor t (value_of v) u →
    counts_in (taken t (value_of v) u) ≡ counted (counts_in t) u v
counts_in-taken t v u rises free =
    counts_in-written v u (raised_count (value_of v) (held_at (value_of v) t)) t rises
    (λ g at. free_own t (value_of v) u free g.unit (ap unit_in at)) refl

-- ---- One take less

no_holding : (g : Held) → None ≡ Some g → ⊥
no_holding g e = cc

same_holding : (g h : Held) → Some g ≡ Some h → g ≡ h
same_holding g h e = cc

module _ (v : Bytes) (u : ℕ) where
  -- the count of another value stays
  uncounted_skips : (r : Resource) (g : Held) (cs : List EnqCount) → is_eq (resource_cmp (value_of v) r) ≡ false →
      counted_before r g (uncounted cs u v) ≡ uncounted (counted_before r g cs) u v
  uncounted_skips (User w) g cs other =
      sym (ap (λ a. if a then (if nat_lt 1 g.count then record { value = w.items; unit = u; count = g.count - 1 } ∷ cs else cs) else count_of_value w.items g ∷ uncounted cs u v)
      (and_right (g.unit == u) (is_same w.items v) (is_same-turned w.items v ∙ other)))
  uncounted_skips _ g cs other = refl

  -- the value's own count
  uncounted_hit : (h : Held) (cs : List EnqCount) → uncounted (count_of_value v h ∷ cs) u v
      ≡ (if h.unit == u then (if nat_lt 1 h.count then record { value = v; unit = u; count = h.count - 1 } ∷ cs else cs) else count_of_value v h ∷ uncounted cs u v)
  uncounted_hit h cs =
      ap (λ a. if a then (if nat_lt 1 h.count then record { value = v; unit = u; count = h.count - 1 } ∷ cs else cs) else count_of_value v h ∷ uncounted cs u v)
      (ap (λ b. (h.unit == u) && b) (is_same-self v) ∙ and-true (h.unit == u))

  later_at : (e : Resource × Held) (es : Table) → is_eq (resource_cmp (value_of v) e.0) ≡ false →
      held_at (value_of v) (e ∷ es) ≡ held_at (value_of v) es
  later_at e es other = ap (λ b. cond b (Some e.1) (held_at (value_of v) es)) other

  gone_after : (e : Resource × Held) (es : Table) → T (below_all resource_cmp e.0 es) → value_of v ≡ e.0 → held_at (value_of v) es ≡ None
  gone_after e es below same = ap (λ q. held_at q es) same ∙ held_below e.0 es below

  -- what a unit doesn't own stays as it is
  uncounted_foreign : (t : Table) → T (is_in_order t) →
      ((g : Held) → held_at (value_of v) t ≡ Some g → (g.unit == u) ≡ false) → uncounted (counts_in t) u v ≡ counts_in t
  uncounted_foreign [] rises foreign = refl
  uncounted_foreign (e ∷ es) rises foreign =
      let rest = uncounted_foreign es (right_of _ _ rises) in
      elim (is_eq (resource_cmp (value_of v) e.0)) as (λ b. is_eq (resource_cmp (value_of v) e.0) ≡ b →
      uncounted (counted_before e.0 e.1 (counts_in es)) u v ≡ counted_before e.0 e.1 (counts_in es)) [
        | true ↦ λ tied.
            let same : value_of v ≡ e.0 = is_one-eq (value_of v) e.0 (is_one-cmp (value_of v) e.0 ∙ tied) in
            subst (λ r. uncounted (counted_before r e.1 (counts_in es)) u v ≡ counted_before r e.1 (counts_in es)) same
            (uncounted_hit e.1 (counts_in es)
            ∙ ap (λ b. if b then (if nat_lt 1 e.1.count then record { value = v; unit = u; count = e.1.count - 1 } ∷ counts_in es else counts_in es) else count_of_value v e.1 ∷ uncounted (counts_in es) u v)
            (foreign e.1 (ap (λ b. cond b (Some e.1) (held_at (value_of v) es)) tied))
            ∙ ap (λ l. count_of_value v e.1 ∷ l) (rest (λ g there. absurd (no_holding g (sym (gone_after e es (left_of _ _ rises) same) ∙ there)))))
        | false ↦ λ other.
            sym (uncounted_skips e.0 e.1 (counts_in es) other)
            ∙ ap (counted_before e.0 e.1) (rest (λ g there. foreign g (later_at e es other ∙ there)))
      ] refl

  -- what a unit owns is counted once less if the table has it once less
  module _ (h : Held) (own : (h.unit == u) ≡ true) (less : Table → Table)
      (skips : (e : Resource × Held) (es : Table) → resource_cmp (value_of v) e.0 ≡ Greater → counts_in (less (e ∷ es)) ≡ counted_before e.0 e.1 (counts_in (less es)))
      (hits : (es : Table) → held_at (value_of v) es ≡ None → counts_in (less ((value_of v, h) ∷ es))
      ≡ (if nat_lt 1 h.count then record { value = v; unit = u; count = h.count - 1 } ∷ counts_in es else counts_in es)) where
    uncounted_own : (t : Table) → T (is_in_order t) → held_at (value_of v) t ≡ Some h → counts_in (less t) ≡ uncounted (counts_in t) u v
    uncounted_own [] rises at = absurd (no_holding h at)
    uncounted_own (e ∷ es) rises at =
        let rest = uncounted_own es (right_of _ _ rises) in
        elim (resource_cmp (value_of v) e.0) as (λ o. resource_cmp (value_of v) e.0 ≡ o → counts_in (less (e ∷ es)) ≡ uncounted (counted_before e.0 e.1 (counts_in es)) u v) [
          | Less ↦ λ before. absurd (no_holding h
              (sym (later_at e es (ap is_eq before) ∙ held_before (value_of v) e.0 es before (left_of _ _ rises)) ∙ at))
          | Equal ↦ λ tied.
              let same : value_of v ≡ e.0 = same_resources (value_of v) e.0 tied in
              let found : Some e.1 ≡ Some h = sym (ap (λ o. cond (is_eq o) (Some e.1) (held_at (value_of v) es)) tied) ∙ at in
              let one : e.1 ≡ h = same_holding e.1 h found in
              ap (λ x. counts_in (less (x ∷ es))) (λ i. (sym same i, one i))
              ∙ hits es (gone_after e es (left_of _ _ rises) same)
              ∙ sym (ap (λ b. if b then (if nat_lt 1 h.count then record { value = v; unit = u; count = h.count - 1 } ∷ counts_in es else counts_in es) else count_of_value v h ∷ uncounted (counts_in es) u v) own)
              ∙ sym (uncounted_hit h (counts_in es))
              ∙ (λ i. uncounted (counted_before (same i) (sym one i) (counts_in es)) u v)
          | Greater ↦ λ after.
              skips e es after ∙ ap (counted_before e.0 e.1) (rest (sym (later_at e es (ap is_eq after)) ∙ at))
              ∙ uncounted_skips e.0 e.1 (counts_in es) (ap is_eq after)
        ] refl

-- DEQ takes from the count what the table gives back
pub counts_in-given_back_value : (t : Table) (v : Bytes) (u : ℕ) → T (is_in_order t) →
    counts_in (given_back t (value_of v) u) ≡ uncounted (counts_in t) u v
counts_in-given_back_value t v u rises =
    elim (held_at (value_of v) t) as (λ o. held_at (value_of v) t ≡ o → counts_in (given_back_of o t (value_of v) u) ≡ uncounted (counts_in t) u v) [
      | None ↦ λ free. sym (uncounted_foreign v u t rises (λ g at. absurd (no_holding g (sym free ∙ at))))
      | Some h ↦ λ at. elim (h.unit == u) as (λ b. (h.unit == u) ≡ b →
          counts_in (if b then (if nat_lt 1 h.count then with_holder t (value_of v) u (h.count - 1) else freed t (value_of v)) else t) ≡ uncounted (counts_in t) u v) [
            | false ↦ λ other. sym (uncounted_foreign v u t rises (λ g there.
                let found : Some h ≡ Some g = sym at ∙ there in
                let same : h ≡ g = same_holding h g found in
                ap (λ x. x.unit == u) (sym same) ∙ other))
            | true ↦ λ own. elim (nat_lt 1 h.count) as (λ b. nat_lt 1 h.count ≡ b →
                counts_in (if b then with_holder t (value_of v) u (h.count - 1) else freed t (value_of v)) ≡ uncounted (counts_in t) u v) [
                  | true ↦ λ more. uncounted_own v u h own (λ t. with_holder t (value_of v) u (h.count - 1))
                      (λ e es after. ap (λ o. counts_in (by_order o ((value_of v, fewer h) ∷ e ∷ es) ((e.0, fewer h) ∷ es) (e ∷ with_holder es (value_of v) u (h.count - 1)))) after)
                      (λ es none. ap (λ o. counts_in (by_order o ((value_of v, fewer h) ∷ (value_of v, h) ∷ es) ((value_of v, fewer h) ∷ es) ((value_of v, h) ∷ with_holder es (value_of v) u (h.count - 1)))) (tied_itself resource_cmp_total (value_of v))
                      ∙ sym (ap (λ b. if b then record { value = v; unit = u; count = h.count - 1 } ∷ counts_in es else counts_in es) more))
                      t rises at
                  | false ↦ λ last. uncounted_own v u h own (λ t. freed t (value_of v))
                      (λ e es after. ap (λ b. counts_in (cond (not b) (e ∷ freed es (value_of v)) (freed es (value_of v)))) (is_one-cmp (value_of v) e.0 ∙ ap is_eq after))
                      (λ es none. ap (λ b. counts_in (cond (not b) ((value_of v, h) ∷ freed es (value_of v)) (freed es (value_of v)))) (is_one-self (value_of v))
                      ∙ ap counts_in (freed-absent (value_of v) es none)
                      ∙ sym (ap (λ b. if b then record { value = v; unit = u; count = h.count - 1 } ∷ counts_in es else counts_in es) last))
                      t rises at
                ] refl
          ] refl
    ] refl
  where
    fewer : Held → Held
    fewer h = record { unit = u; count = h.count - 1 }

-- ---- Who owns a value

-- the counts tell who owns a value
pub in_counts-value : (o : OpeningState) (n : ℕ) (v : Bytes) (t : Table) → T (is_in_order t) →
    in_counts o n (is_one (value_of v)) (counts_in t) ≡ is_holder n (holder_of (value_of v) t)
in_counts-value o n v [] rises = refl
in_counts-value o n v (e ∷ es) rises = first e.0 e.1 (left_of _ _ rises) (in_counts-value o n v es (right_of _ _ rises))
  where
    first : (r : Resource) (h : Held) → T (below_all resource_cmp r es) →
        in_counts o n (is_one (value_of v)) (counts_in es) ≡ is_holder n (holder_of (value_of v) es) →
        in_counts o n (is_one (value_of v)) (counts_in ((r, h) ∷ es)) ≡ is_holder n (holder_of (value_of v) ((r, h) ∷ es))
    first (User w) h below rest =
        ap (λ b. b || in_counts o n (is_one (value_of v)) (counts_in es)) (any_if_one (is_one (value_of v)) (h.unit == n) (value_of w.items))
        ∙ elim (is_same v w.items) as (λ b. is_same v w.items ≡ b →
        (((h.unit == n) && b) || in_counts o n (is_one (value_of v)) (counts_in es))
        ≡ is_holder n (unit_in (cond b (Some h) (held_at (value_of v) es)))) [
          | true ↦ λ one.
              (λ i. and-true (h.unit == n) i || (rest ∙ ap (λ x. is_holder n (unit_in x)) (gone_after v n (User w, h) es below (is_one-eq (value_of v) (User w) one))) i)
              ∙ or-false (h.unit == n)
          | false ↦ λ other. ap (λ b. b || in_counts o n (is_one (value_of v)) (counts_in es)) (and-false (h.unit == n)) ∙ rest
        ] refl
    first (FileKey f k) h below rest = rest
    first (TsQueue q) h below rest = rest
    first (ReadingEnd q) h below rest = rest
    first (WritingEnd q) h below rest = rest
    first (FilePrefix f p) h below rest = rest

module _ (o : OpeningState) (n : ℕ) (v : Bytes) where
  -- no command uses a value
  in_entries-value : (es : List Entry) → in_entries o n (is_one (value_of v)) es ≡ false
  in_entries-value = in_entries-apart o n (value_of v) (λ f k. refl) (λ q. refl) (λ q. refl) (λ q. refl) (λ f p. refl)

  -- and no update read holds one
  in_reads-value : (xs : List UpdateRead) → in_reads o n (is_one (value_of v)) xs ≡ false
  in_reads-value = in_reads-apart o n (value_of v) (λ f k. refl) (λ q. refl) (λ q. refl) (λ q. refl) (λ f p. refl)

-- ---- The units after ENQ and DEQ

-- a table that differs in values alone, of units that are open
table_counted : (s : UnitsState) (outcomes : List UnitState) (counts : List EnqCount) (t next : Table) → IsTableOf s t →
    ((n : ℕ) → outcome_of outcomes n ≡ outcome_of s.outcomes n) → counts ≡ counts_in next → T (is_in_order next) →
    ((r : Resource) → is_user r ≡ false → held_at r next ≡ held_at r t) →
    ((v : Bytes) (n : ℕ) → is_holder n (holder_of (value_of v) next) ≡ true → is_open (outcome_of s.outcomes n) ≡ true) →
    IsTableOf (with_counts s outcomes counts) next
table_counted s outcomes counts t next k same counted rises others live = record {
  holders = λ r n. held_sum (with_counts s outcomes counts) n (is_one r)
      ∙ ap (λ u. is_open u && ((in_entries s.opening n (is_one r) s.trace || in_reads s.opening n (is_one r) s.reads) || in_counts s.opening n (is_one r) counts)) (same n)
      ∙ by_kind r n;
  single = λ r other. ap (λ h. nat_le (count_in h) 1) (others r other) ∙ k.single r other;
  in_order = rises;
  counts = counted;
  once = k.once;
  keys = k.keys;
}
  where
    not_value_of : (r : Resource) (n : ℕ) → is_user r ≡ false →
        (is_open (outcome_of s.outcomes n) && ((in_entries s.opening n (is_one r) s.trace || in_reads s.opening n (is_one r) s.reads) || in_counts s.opening n (is_one r) counts))
        ≡ is_holder n (holder_of r next)
    not_value_of r n other =
        ap (λ b. is_open (outcome_of s.outcomes n) && ((in_entries s.opening n (is_one r) s.trace || in_reads s.opening n (is_one r) s.reads) || b))
        (in_counts-other s.opening n r other counts ∙ sym (in_counts-other s.opening n r other s.counts))
        ∙ sym (held_sum s n (is_one r)) ∙ k.holders r n
        ∙ sym (ap (λ h. is_holder n (unit_in h)) (others r other))

    only_open : (a b : Bool) → (b ≡ true → a ≡ true) → (a && ((false || false) || b)) ≡ b
    only_open true b h = refl
    only_open false true h = h refl
    only_open false false h = refl

    by_kind : (r : Resource) (n : ℕ) →
        (is_open (outcome_of s.outcomes n) && ((in_entries s.opening n (is_one r) s.trace || in_reads s.opening n (is_one r) s.reads) || in_counts s.opening n (is_one r) counts))
        ≡ is_holder n (holder_of r next)
    by_kind (User w) n =
        (λ i. is_open (outcome_of s.outcomes n) && ((in_entries-value s.opening n w.items s.trace i || in_reads-value s.opening n w.items s.reads i)
        || (ap (in_counts s.opening n (is_one (User w))) counted ∙ in_counts-value s.opening n w.items next rises) i))
        ∙ only_open (is_open (outcome_of s.outcomes n)) (is_holder n (holder_of (User w) next)) (live w.items n)
    by_kind (FileKey f l) n = not_value_of (FileKey f l) n refl
    by_kind (TsQueue q) n = not_value_of (TsQueue q) n refl
    by_kind (ReadingEnd q) n = not_value_of (ReadingEnd q) n refl
    by_kind (WritingEnd q) n = not_value_of (WritingEnd q) n refl
    by_kind (FilePrefix f p) n = not_value_of (FilePrefix f p) n refl

-- whoever the table has hold something is open
holder_open : (s : UnitsState) (t : Table) → IsTableOf s t → (r : Resource) (n : ℕ) → is_holder n (holder_of r t) ≡ true →
    is_open (outcome_of s.outcomes n) ≡ true
holder_open s t k r n h = (and_parts (is_open (outcome_of s.outcomes n)) _ (sym (held_sum s n (is_one r)) ∙ (k.holders r n ∙ h))).0

-- an ENQ that acquires its value
pub table_enqueued_of : (s : UnitsState) (t : Table) (u : Option ℕ) (v : Bytes) (unit : ℕ) → IsSound s → IsTableOf s t →
    may_act s u ≡ true → enqueue s u v ≡ Taken unit →
    IsTableOf (after_enqueued s u v (Taken unit)) (taken t (value_of v) unit)
table_enqueued_of s t u v unit i k acts takes =
    table_counted s (outcomes_with u s.outcomes) (counted s.counts unit v) t (taken t (value_of v) unit) k
    (outcome_of-with u s.outcomes)
    (ap (λ cs. counted cs unit v) k.counts ∙ sym (counts_in-taken t v unit k.in_order (subst (IsFreeFor t (value_of v)) (sym taker.1) (table_free s t i k u (value_of v) (sym (table_holder s t i k u (value_of v)) ∙ taker.0)))))
    (is_in_order-taken t (value_of v) unit k.in_order)
    (λ r other. held_at-with_holder t (value_of v) unit (raised_count (value_of v) (held_at (value_of v) t)) r
    ∙ ap (λ b. if b then Some (record { unit = unit; count = raised_count (value_of v) (held_at (value_of v) t) }) else held_at r t) (not_value r v other))
    (λ w n h. live w n (sym (ap (is_holder n) (holder_of-taken t (value_of v) unit (value_of w))) ∙ h))
  where
    full : Taken unit ≡ CountFull → ⊥
    full e = cc

    waits : (holder : ℕ) → EnqMustWait holder ≡ Taken unit → ⊥
    waits holder e = cc

    answered : (h : Option ℕ) → enq_of s u v h ≡ Taken unit → (h ≡ None) × (unit ≡ unit_or_next u s.outcomes)
    answered (Some holder) e = absurd (waits holder e)
    answered None e = (refl, taken_by (nat_le most_count (count_at s.counts (unit_or_next u s.outcomes) v)) e)
      where
        taken_by : (b : Bool) → (if b then CountFull else Taken (unit_or_next u s.outcomes)) ≡ Taken unit → unit ≡ unit_or_next u s.outcomes
        taken_by true e = absurd (full (sym e))
        taken_by false e = cc

    taker : (value_holder s u v ≡ None) × (unit ≡ unit_or_next u s.outcomes)
    taker = answered (value_holder s u v) takes

    live : (w : Bytes) (n : ℕ) → is_holder n (if is_one (value_of w) (value_of v) then Some unit else holder_of (value_of w) t) ≡ true → is_open (outcome_of s.outcomes n) ≡ true
    live w n = elim (is_one (value_of w) (value_of v)) as (λ b. is_holder n (if b then Some unit else holder_of (value_of w) t) ≡ true → is_open (outcome_of s.outcomes n) ≡ true) [
      | true ↦ λ h. subst (λ m. is_open (outcome_of s.outcomes m) ≡ true) (sym taker.1 ∙ eqb-true unit n h) (acting_open s u acts)
      | false ↦ λ h. holder_open s t k (value_of w) n h
    ]

-- a DEQ, whether the unit owns the value or not
pub table_dequeued_of : (s : UnitsState) (t : Table) (u : ℕ) (v : Bytes) → IsTableOf s t →
    IsTableOf (after_dequeue s u v) (given_back t (value_of v) u)
table_dequeued_of s t u v k =
    table_counted s s.outcomes (uncounted s.counts u v) t (given_back t (value_of v) u) k
    (λ n. refl)
    (ap (λ cs. uncounted cs u v) k.counts ∙ sym (counts_in-given_back_value t v u k.in_order))
    (is_in_order-given_back t (value_of v) u k.in_order)
    (λ r other. held_at-given_back t (value_of v) u r
    ∙ ap (λ b. if b then held_less u (held_at (value_of v) t) else held_at r t) (not_value r v other))
    (λ w n h. holder_open s t k (value_of w) n (was_holder w n (sym (ap (λ o. is_holder n (unit_in o)) (held_at-given_back t (value_of v) u (value_of w))) ∙ h)))
  where
    less : (n : ℕ) (o : Option Held) → is_holder n (unit_in (held_less u o)) ≡ true → is_holder n (unit_in o) ≡ true
    less n None h = h
    less n (Some g) h = elim (g.unit == u) as (λ b. (g.unit == u) ≡ b →
        is_holder n (unit_in (if b then (if nat_lt 1 g.count then Some (record { unit = u; count = g.count - 1 }) else None) else Some g)) ≡ true → (g.unit == n) ≡ true) [
          | true ↦ λ own. elim (nat_lt 1 g.count) as (λ b. is_holder n (unit_in (if b then Some (record { unit = u; count = g.count - 1 }) else None)) ≡ true → (g.unit == n) ≡ true) [
            | true ↦ λ y. ap (λ m. eqb m n) (eqb-true g.unit u own) ∙ y
            | false ↦ λ y. absurd (false≢true y)
          ]
          | false ↦ λ other y. y
        ] refl h

    was_holder : (w : Bytes) (n : ℕ) → is_holder n (unit_in (if is_one (value_of w) (value_of v) then held_less u (held_at (value_of v) t) else held_at (value_of w) t)) ≡ true →
        is_holder n (holder_of (value_of w) t) ≡ true
    was_holder w n = elim (is_one (value_of w) (value_of v)) as (λ b. is_one (value_of w) (value_of v) ≡ b →
        is_holder n (unit_in (if b then held_less u (held_at (value_of v) t) else held_at (value_of w) t)) ≡ true → is_holder n (holder_of (value_of w) t) ≡ true) [
          | true ↦ λ one h. subst (λ q. is_holder n (holder_of q t) ≡ true) (sym (is_one-eq (value_of w) (value_of v) one)) (less n (held_at (value_of v) t) h)
          | false ↦ λ other h. h
        ] refl
