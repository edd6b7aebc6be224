-- What the table of enqueues becomes if a unit owns a record more, a record less, or nothing any
-- more.
use Rattle.std.proofs.Common.{◌≡◌, ℕ, ◌≤◌, Bool, true, false, cond, ◌&&◌, ◌||◌, not, Option, Some, None, List, [], ◌∷◌, ◌-◌, length, refl, ap, sym, ◌∙◌, eqb, ltb}
use Rattle.std.specs.Prelude.{if◌then◌else◌, ◌==◌, T, nat_le, All, filter}
use Rattle.std.specs.List.{list_any}
use Rattle.std.specs.FinMap as map_by
use Rattle.std.specs.declared.cmp.Ordering.TheVariants.{Less, Equal, Greater}
use Rattle.std.specs.FinMap.Entries.{by_order}
use Rattle.std.proofs.Math.Bool.{or-false, and-true, and-false}
use Rattle.std.proofs.lemmas.Bool.{true≢false, eq-eqb, eqb-true, or_parts}
use Rattle.cics_names.specs.Keyed.{Bytes}
use Rattle.cics_history.specs.Resources.{is_one, is_user}
use Rattle.cics_enqueue.specs.Table.{Table, Held, resource_cmp, held_at, holder_of, count_of, is_in_order, IsFreeFor, with_holder, freed, taken, given_back, given_back_of, raised_count, released}
use Rattle.cics_history.specs.ResourceLaws.{is_one-eq}
use Rattle.cics_enqueue.specs.Order.{free_own, same_resources}
use Rattle.cics_enqueue.proofs.TableLaws.{holder_without, holder_of-taken, holder_of-given_back, holder_of-released, once-taken, once-given_back, once-released, is_in_order-taken, is_in_order-given_back, is_in_order-released}
use Rattle.cics_history.specs.declared.resources.Resource.{Resource}
use Rattle.cics_history.specs.declared.resources.Resource.TheVariants.{FileKey, TsQueue, TdRead as ReadingEnd, TdWrite as WritingEnd, User, FilePrefix}
use Rattle.cics_history.specs.State.{UnitsState, EnqCount}
use Rattle.cics_history.specs.Holding.{held_by}
use Rattle.cics_units.specs.Uses.{taken_all, AreFreeFor}
use Rattle.cics_units.specs.TableInPlace.{record_of, is_holder, counted_before, counts_in, AreOnce, IsTableOf}

-- ---- The counts of values

-- what is no value is not counted
uncounted_is : (q : Resource) → is_user q ≡ false → (h : Held) (cs : List EnqCount) → counted_before q h cs ≡ cs
uncounted_is (User v) plain h cs = absurd (true≢false plain)
uncounted_is _ plain h cs = refl

counts_in-put : (q : Resource) → is_user q ≡ false → (h : Held) (t : Table) → counts_in (map_by.put resource_cmp q h t) ≡ counts_in t
counts_in-put q plain h [] = uncounted_is q plain h []
counts_in-put q plain h (e ∷ es) =
    elim (resource_cmp q e.0) as (λ o. resource_cmp q e.0 ≡ o →
    counts_in (by_order o ((q, h) ∷ e ∷ es) ((e.0, h) ∷ es) (e ∷ map_by.put resource_cmp q h es)) ≡ counted_before e.0 e.1 (counts_in es)) [
      | Less ↦ λ tied. uncounted_is q plain h (counted_before e.0 e.1 (counts_in es))
      | Equal ↦ λ tied.
          let same = same_resources q e.0 tied in
          sym (ap (λ r. counted_before r h (counts_in es)) same) ∙ uncounted_is q plain h (counts_in es)
          ∙ sym (uncounted_is q plain e.1 (counts_in es)) ∙ ap (λ r. counted_before r e.1 (counts_in es)) same
      | Greater ↦ λ tied. ap (counted_before e.0 e.1) (counts_in-put q plain h es)
    ] refl

counts_in-freed : (f k : Bytes) (t : Table) → counts_in (freed t (record_of f k)) ≡ counts_in t
counts_in-freed f k [] = refl
counts_in-freed f k (e ∷ es) =
    elim (is_one (record_of f k) e.0) as (λ b. is_one (record_of f k) e.0 ≡ b →
    counts_in (cond (not b) (e ∷ freed es (record_of f k)) (freed es (record_of f k))) ≡ counted_before e.0 e.1 (counts_in es)) [
      | true ↦ λ one.
          counts_in-freed f k es ∙ ap (λ r. counted_before r e.1 (counts_in es)) (is_one-eq (record_of f k) e.0 one)
      | false ↦ λ other. ap (counted_before e.0 e.1) (counts_in-freed f k es)
    ] refl

counts_in-given_back : (f k : Bytes) (u : ℕ) (t : Table) → counts_in (given_back t (record_of f k) u) ≡ counts_in t
counts_in-given_back f k u t =
    elim (held_at (record_of f k) t) as (λ o. counts_in (given_back_of o t (record_of f k) u) ≡ counts_in t) [
      | None ↦ refl
      | Some h ↦ elim (h.unit == u) as (λ b. counts_in (if b then (if ltb 1 h.count then with_holder t (record_of f k) u (h.count - 1) else freed t (record_of f k)) else t) ≡ counts_in t) [
        | true ↦ elim (ltb 1 h.count) as (λ b. counts_in (if b then with_holder t (record_of f k) u (h.count - 1) else freed t (record_of f k)) ≡ counts_in t) [
          | true ↦ counts_in-put (record_of f k) refl (record { unit = u; count = h.count - 1 }) t
          | false ↦ counts_in-freed f k t
        ]
        | false ↦ refl
      ]
    ]

counts_in-released : (u : ℕ) (t : Table) → filter (λ c. not (c.unit == u)) (counts_in t) ≡ counts_in (released t u)
counts_in-released u [] = refl
counts_in-released u (e ∷ es) = step (counts_in-released u es) e.0
  where
    same : (b : Bool) (r : Resource) → ((cs : List EnqCount) → counted_before r e.1 cs ≡ cs) → counts_in (released es u) ≡ counts_in (cond (not b) ((r, e.1) ∷ released es u) (released es u))
    same true r h = refl
    same false r h = sym (h (counts_in (released es u)))

    step : filter (λ c. not (c.unit == u)) (counts_in es) ≡ counts_in (released es u) → (r : Resource) →
        filter (λ c. not (c.unit == u)) (counted_before r e.1 (counts_in es)) ≡ counts_in (cond (not (e.1.unit == u)) ((r, e.1) ∷ released es u) (released es u))
    step rest (User v) = elim (e.1.unit == u) as (λ b.
        (if not b then record { value = v.items; unit = e.1.unit; count = e.1.count } ∷ filter (λ c. not (c.unit == u)) (counts_in es) else filter (λ c. not (c.unit == u)) (counts_in es))
        ≡ counts_in (cond (not b) ((User v, e.1) ∷ released es u) (released es u))) [
          | true ↦ rest
          | false ↦ ap (λ cs. record { value = v.items; unit = e.1.unit; count = e.1.count } ∷ cs) rest
        ]
    step rest (FileKey f k) = rest ∙ same (e.1.unit == u) (FileKey f k) (λ cs. refl)
    step rest (TsQueue q) = rest ∙ same (e.1.unit == u) (TsQueue q) (λ cs. refl)
    step rest (ReadingEnd q) = rest ∙ same (e.1.unit == u) (ReadingEnd q) (λ cs. refl)
    step rest (WritingEnd q) = rest ∙ same (e.1.unit == u) (WritingEnd q) (λ cs. refl)
    step rest (FilePrefix f p) = rest ∙ same (e.1.unit == u) (FilePrefix f p) (λ cs. refl)

-- ---- A record more in the table, a record less, all of a unit less

-- who owns what another unit doesn't
without_is : (n v : ℕ) (h : Option ℕ) → is_holder n (holder_without v h) ≡ (is_holder n h && not (v == n))
without_is n v None = refl
without_is n v (Some w) =
    elim (eqb w v) as (λ b. eqb w v ≡ b → is_holder n (if b then None else Some w) ≡ ((w == n) && not (v == n))) [
      | true ↦ λ own. sym (ap (λ z. (z == n) && not (v == n)) (eqb-true w v own) ∙ never (v == n))
      | false ↦ λ other. apart (w == n) (v == n) (λ a b. true≢false (sym (eq-eqb w v (eqb-true w n a ∙ sym (eqb-true v n b))) ∙ other))
    ] refl
  where
    never : (b : Bool) → (b && not b) ≡ false
    never true = refl
    never false = refl

    apart : (a b : Bool) → (a ≡ true → b ≡ true → ⊥) → a ≡ (a && not b)
    apart true true h = absurd (h refl refl)
    apart true false h = refl
    apart false b h = refl

-- what a unit acquires, if it is free, is owned by that unit too
is_holder-taken : (t : Table) (q : Resource) (v : ℕ) → IsFreeFor t q v → (r : Resource) (n : ℕ) →
    is_holder n (holder_of r (taken t q v)) ≡ (is_holder n (holder_of r t) || ((v == n) && is_one r q))
is_holder-taken t q v free r n =
    ap (is_holder n) (holder_of-taken t q v r)
    ∙ elim (is_one r q) as (λ b. is_one r q ≡ b →
    is_holder n (if b then Some v else holder_of r t) ≡ (is_holder n (holder_of r t) || ((v == n) && b))) [
      | true ↦ λ one. sym (own (holder_of r t) (λ w at. free_own t q v free w (ap (λ x. holder_of x t) (sym (is_one-eq r q one)) ∙ at)))
      | false ↦ λ other. sym (ap (λ b. is_holder n (holder_of r t) || b) (and-false (v == n)) ∙ or-false (is_holder n (holder_of r t)))
    ] refl
  where
    either : (b : Bool) → (b || (b && true)) ≡ b
    either true = refl
    either false = refl

    own : (h : Option ℕ) → ((w : ℕ) → h ≡ Some w → w ≡ v) → (is_holder n h || ((v == n) && true)) ≡ (v == n)
    own None only = and-true (v == n)
    own (Some w) only = ap (λ z. (z == n) || ((v == n) && true)) (only w refl) ∙ either (v == n)

-- what a unit acquires leaves free for it what was free
pub free-taken : (t : Table) (q x : Resource) (v : ℕ) → IsFreeFor t x v → IsFreeFor (taken t q v) x v
free-taken t q x v free = λ r w meets at.
    elim (is_one r q) as (λ b. (if b then Some v else holder_of r t) ≡ Some w → w ≡ v) [
      | true ↦ λ is. same is
      | false ↦ λ is. free r w meets is
    ] (sym (holder_of-taken t q v r) ∙ at)
  where
    same : {w : ℕ} → Some v ≡ Some w → w ≡ v
    same e = cc

free-taken_all : (t : Table) (q : Resource) (v : ℕ) (qs : List Resource) → AreFreeFor t qs v → AreFreeFor (taken t q v) qs v
free-taken_all t q v [] free = tt
free-taken_all t q v (x ∷ xs) free = (free-taken t q x v free.0, free-taken_all t q v xs free.1)

-- what a unit acquires one after another
is_holder-taken_all : (t : Table) (v : ℕ) (qs : List Resource) → AreFreeFor t qs v → (r : Resource) (n : ℕ) →
    is_holder n (holder_of r (taken_all t v qs)) ≡ (is_holder n (holder_of r t) || ((v == n) && list_any (is_one r) qs))
is_holder-taken_all t v [] free r n =
    sym (ap (λ b. is_holder n (holder_of r t) || b) (and-false (v == n)) ∙ or-false (is_holder n (holder_of r t)))
is_holder-taken_all t v (q ∷ qs) free r n =
    is_holder-taken_all (taken t q v) v qs (free-taken_all t q v qs free.1) r n
    ∙ ap (λ b. b || ((v == n) && list_any (is_one r) qs)) (is_holder-taken t q v free.0 r n)
    ∙ both (is_holder n (holder_of r t)) (v == n) (is_one r q) (list_any (is_one r) qs)
  where
    both : (a b c d : Bool) → ((a || (b && c)) || (b && d)) ≡ (a || (b && (c || d)))
    both true b c d = refl
    both false true c d = refl
    both false false c d = refl

once-taken_all : (t : Table) (v : ℕ) (qs : List Resource) (r : Resource) → is_user r ≡ false →
    nat_le (count_of r t) 1 ≡ true → nat_le (count_of r (taken_all t v qs)) 1 ≡ true
once-taken_all t v [] r other single = single
once-taken_all t v (q ∷ qs) r other single = once-taken_all (taken t q v) v qs r other (once-taken t q v r other single)

is_in_order-taken_all : (t : Table) (v : ℕ) (qs : List Resource) → T (is_in_order t) → T (is_in_order (taken_all t v qs))
is_in_order-taken_all t v [] rises = rises
is_in_order-taken_all t v (q ∷ qs) rises = is_in_order-taken_all (taken t q v) v qs (is_in_order-taken t q v rises)

counts_in-taken_all : (t : Table) (v : ℕ) (qs : List Resource) → list_any is_user qs ≡ false → counts_in (taken_all t v qs) ≡ counts_in t
counts_in-taken_all t v [] plain = refl
counts_in-taken_all t v (q ∷ qs) plain =
    let each = or_parts (is_user q) (list_any is_user qs) plain in
    counts_in-taken_all (taken t q v) v qs each.1
    ∙ counts_in-put q each.0 (record { unit = v; count = raised_count q (held_at q t) }) t

module _ (s next : UnitsState) (t : Table) (k : IsTableOf s t) (once : AreOnce next.reads)
    (keys : All (λ r. length r.key ≤ 255) next.reads) where
  -- if the units own the same, the table stays
  pub table_same : next.counts ≡ s.counts →
      ((r : Resource) (n : ℕ) → list_any (is_one r) (held_by next n) ≡ list_any (is_one r) (held_by s n)) →
      IsTableOf next t
  table_same counts held = record {
    holders = λ r n. held r n ∙ k.holders r n;
    single = k.single;
    in_order = k.in_order;
    counts = counts ∙ k.counts;
    once = once;
    keys = keys;
  }

  -- if a unit owns more what is free and no value, it acquires that
  pub table_taken : next.counts ≡ s.counts → (v : ℕ) (qs : List Resource) → list_any is_user qs ≡ false → AreFreeFor t qs v →
      ((r : Resource) (n : ℕ) → list_any (is_one r) (held_by next n)
      ≡ (list_any (is_one r) (held_by s n) || ((v == n) && list_any (is_one r) qs))) →
      IsTableOf next (taken_all t v qs)
  table_taken counts v qs plain free held = record {
    holders = λ r n. held r n
        ∙ ap (λ b. b || ((v == n) && list_any (is_one r) qs)) (k.holders r n)
        ∙ sym (is_holder-taken_all t v qs free r n);
    single = λ r other. once-taken_all t v qs r other (k.single r other);
    in_order = is_in_order-taken_all t v qs k.in_order;
    counts = counts ∙ k.counts ∙ sym (counts_in-taken_all t v qs plain);
    once = once;
    keys = keys;
  }

  -- if a unit owns a record less, it releases it
  pub table_given : next.counts ≡ s.counts → (v : ℕ) (f l : Bytes) →
      ((r : Resource) (n : ℕ) → list_any (is_one r) (held_by next n)
      ≡ (list_any (is_one r) (held_by s n) && not ((v == n) && is_one r (record_of f l)))) →
      IsTableOf next (given_back t (record_of f l) v)
  table_given counts v f l held = record {
    holders = λ r n. held r n
        ∙ ap (λ b. b && not ((v == n) && is_one r (record_of f l))) (k.holders r n)
        ∙ elim (is_one r (record_of f l)) as (λ b. is_one r (record_of f l) ≡ b →
        (is_holder n (holder_of r t) && not ((v == n) && b)) ≡ is_holder n (if b then holder_without v (holder_of (record_of f l) t) else holder_of r t)) [
          | true ↦ λ one.
              ap (λ b. is_holder n (holder_of r t) && not b) (and-true (v == n))
              ∙ ap (λ q. is_holder n (holder_of q t) && not (v == n)) (is_one-eq r (record_of f l) one)
              ∙ sym (without_is n v (holder_of (record_of f l) t))
          | false ↦ λ other.
              ap (λ b. is_holder n (holder_of r t) && not b) (and-false (v == n))
              ∙ and-true (is_holder n (holder_of r t))
        ] refl
        ∙ sym (ap (is_holder n) (holder_of-given_back t (record_of f l) v r (k.single (record_of f l) refl)));
    single = λ r other. once-given_back t (record_of f l) v r (k.single r other);
    in_order = is_in_order-given_back t (record_of f l) v k.in_order;
    counts = counts ∙ k.counts ∙ sym (counts_in-given_back f l v t);
    once = once;
    keys = keys;
  }

  -- if a unit owns nothing any more, all that it owned is free
  pub table_released : (v : ℕ) → next.counts ≡ filter (λ c. not (c.unit == v)) s.counts →
      ((r : Resource) (n : ℕ) → list_any (is_one r) (held_by next n) ≡ (list_any (is_one r) (held_by s n) && not (v == n))) →
      IsTableOf next (released t v)
  table_released v counts held = record {
    holders = λ r n. held r n
        ∙ ap (λ b. b && not (v == n)) (k.holders r n)
        ∙ sym (without_is n v (holder_of r t))
        ∙ sym (ap (is_holder n) (holder_of-released t v r k.in_order));
    single = λ r other. once-released t v r k.in_order (k.single r other);
    in_order = is_in_order-released t v k.in_order;
    counts = counts ∙ ap (filter (λ c. not (c.unit == v))) k.counts ∙ counts_in-released v t;
    once = once;
    keys = keys;
  }
