-- The table of enqueues and the open update reads tell who owns what, as the history does.
use Rattle.std.proofs.Common.{◌≡◌, ◌≢◌, ℕ, ◌≤◌, Bool, true, false, ◌&&◌, ◌||◌, not, Option, Some, None, is_some, List, [], ◌∷◌, length, refl, ap, sym, subst, ◌∙◌, eqb, ltb, inl, inr, arith}
use Rattle.std.specs.Prelude.{if◌then◌else◌, ◌==◌, All, filter, slice_set}
use Rattle.std.specs.List.{list_any}
use Rattle.std.proofs.Math.Bool.{or-false, and-true, and-false}
use Rattle.std.proofs.lemmas.Bool.{false≢true, cases_Bool, not-true, eqb-true, eqb-false, ltb-true, and_parts, and_right, false_from_ne_true}
use Rattle.std.proofs.lemmas.Option.{unwrap_or-slice_get}
use Rattle.std.proofs.lemmas.List.{get_or-set_same}
use Rattle.std.proofs.lemmas.List.Elements.{All-nil, All-filter}
use Rattle.cics_names.specs.Keyed.{Bytes, is_same}
use Rattle.cics_history.specs.Resources.{bytes_of, is_one, is_user}
use Rattle.cics_enqueue.specs.Table.{Table, given_back, released}
use Rattle.cics_history.specs.declared.resources.Resource.{Resource}
use Rattle.cics_history.specs.declared.resources.Resource.TheVariants.{User}
use Rattle.cics_history.specs.State.{OpeningState, file_recoverable, UnitsState, UpdateRead, EnqCount, initial_units}
use Rattle.cics_history.specs.Store.{is_normal, is_recoverable}
use Rattle.cics_history.specs.Headline.{outcome_of, is_open}
use Rattle.cics_history.specs.Holding.{uses_of, held_by, held_by_count, awaited}
use Rattle.cics_history.specs.Execution.{unit_or_next, is_read_of, read_at, covers, opened, reads_after, entered, after_unlock, after_end, is_ready_op}
use Rattle.cics_history.specs.Events.{is_live, may_act}
use Rattle.cics_history.specs.Isolation.{IsSound}
use Rattle.cics_history.specs.Records.{file_of, key_of}
use Rattle.cics_units.specs.Uses.{uses_if, taken_all, AreFreeFor}
use Rattle.cics_units.specs.TableInPlace.{record_of, is_read, AreOnce, IsTableOf, table_given_back, table_executed, table_unlocked}
use Rattle.cics_history.specs.declared.ops.Op.{Op}
use Rattle.cics_history.specs.declared.ops.Op.TheVariants.{Write, Rewrite, Delete, DeleteGeneric, ReadUpdate, TsWrite, TsRewrite, TsDelete, TdWrite, TdRead, TdDelete}
use Rattle.cics_history.specs.declared.ops.Answer.{Answer}
use Rattle.cics_history.specs.declared.ops.UnitState.{UnitState}
use Rattle.cics_history.specs.declared.ops.UnitState.TheVariants.{Open}
use Rattle.cics_history.proofs.Waiting.{any_more}
use Rattle.cics_history.proofs.States.{acting_open}
use Rattle.cics_history.proofs.Outcomes.{outcome_of-set}
use Rattle.cics_units.proofs.HeldReads.{any_kept, filter_none, none_read, read_keys, by_read, by_read-is, by_read-recoverable, any_ended, covering-recoverable, covered_key, covered_at, covered_is, covered_all, AreOnce-opened, All-opened, AreOnce-dropped, any_opened-recoverable, any_opened-read, any_opened-none}
use Rattle.cics_units.proofs.TableChanges.{table_same, table_taken, table_given, table_released}
use Rattle.cics_units.proofs.UsesInTable.{uses_alike, uses_plain, uses_free}
use Rattle.cics_units.proofs.HeldSums.{in_entries, in_reads, in_counts, held_sum, entries_apart, counts_apart, entered_sum, by_entry-none, by_entry-held}

-- ---- At the beginning

pub table_begins : (o : OpeningState) → IsTableOf (initial_units o) []
table_begins o = record {
  holders = λ r u. held_sum (initial_units o) u (is_one r) ∙ and-false (is_open (outcome_of [] u));
  single = λ r other. refl;
  in_order = tt;
  counts = refl;
  once = tt;
  keys = All-nil (λ r. length r.key ≤ 255);
}

-- ---- A command

-- what a unit owns more, and the sum of what it owned
held_more : (live entries reads counts more : Bool) → (more ≡ true → live ≡ true) →
    (live && (((entries || more) || reads) || counts)) ≡ ((live && ((entries || reads) || counts)) || more)
held_more true entries reads counts true h = held entries reads counts
  where
    held : (a b c : Bool) → (((a || true) || b) || c) ≡ (((a || b) || c) || true)
    held true b c = refl
    held false true c = refl
    held false false true = refl
    held false false false = refl
held_more true entries reads counts false h =
    ap (λ b. (b || reads) || counts) (or-false entries) ∙ sym (or-false ((entries || reads) || counts))
held_more false entries reads counts true h = absurd (false≢true (h refl))
held_more false entries reads counts false h = refl

-- the same by an update read
read_more : (live entries reads counts more : Bool) → (more ≡ true → live ≡ true) →
    (live && (((entries || false) || (more || reads)) || counts)) ≡ ((live && ((entries || reads) || counts)) || more)
read_more live entries reads counts more h = ap (λ b. live && (b || counts)) (turned entries more reads) ∙ held_more live entries reads counts more h
  where
    turned : (a b c : Bool) → ((a || false) || (b || c)) ≡ ((a || b) || c)
    turned true b c = refl
    turned false b c = refl

-- what a unit doesn't own any more was owned by an update read alone
read_less : (live entries reads counts less : Bool) → (less ≡ true → entries ≡ false) → (less ≡ true → counts ≡ false) →
    (live && ((entries || (reads && not less)) || counts)) ≡ ((live && ((entries || reads) || counts)) && not less)
read_less false entries reads counts less e c = refl
read_less true entries reads counts false e c =
    ap (λ b. (entries || b) || counts) (and-true reads) ∙ sym (and-true ((entries || reads) || counts))
read_less true entries reads counts true e c =
    ap (λ b. (entries || b) || counts) (and-false reads)
    ∙ (λ i. (e refl i || false) || c refl i) ∙ sym (and-false ((entries || reads) || counts))

module _ (s : UnitsState) (t : Table) (u : Option ℕ) (op : Op) (a : Answer) (i : IsSound s) (k : IsTableOf s t)
    (acts : may_act s u ≡ true) (free : awaited s u op ≡ None)
    (ready : is_ready_op s u op ≡ true) (short : length (key_of op) ≤ 255) where
  -- the unit that acts, and what its command uses
  abbrev acting : ℕ
  acting = unit_or_next u s.outcomes

  abbrev asked : List Resource
  asked = uses_of s.opening op

  free_for_it : AreFreeFor t asked acting
  free_for_it = uses_free s t i k u op free

  plain : list_any is_user asked ≡ false
  plain = ap (list_any is_user) (sym (uses_alike s.opening op)) ∙ uses_plain (is_recoverable s.opening op) op

  live_if : (n : ℕ) (b : Bool) → ((acting == n) && b) ≡ true → is_open (outcome_of s.outcomes n) ≡ true
  live_if n b own = subst (λ m. is_open (outcome_of s.outcomes m) ≡ true) (eqb-true acting n (and_parts (eqb acting n) b own).0) (acting_open s u acts)

  -- if READ UPDATE is ready none of its file is open
  none_open : is_read op ≡ true → list_any (is_read_of acting (file_of op)) s.reads ≡ false
  none_open reads = none_at u op reads ready
    where
      none_at : (u : Option ℕ) (op : Op) → is_read op ≡ true → is_ready_op s u op ≡ true →
          list_any (is_read_of (unit_or_next u s.outcomes) (file_of op)) s.reads ≡ false
      none_at None op reads ready = false_from_ne_true _ (λ y.
          let begun = i.begun.readers (length s.outcomes)
          (any_more (is_read_of (length s.outcomes) (file_of op)) (λ x. eqb x.unit (length s.outcomes))
          (λ x own. (and_parts (eqb x.unit (length s.outcomes)) (is_same x.file (file_of op)) own).0) s.reads y) in
          omega arith)
      none_at (Some w) (ReadUpdate f l) reads ready = none_read s.reads w f (not-true _ (and_parts _ _ ready).1)
      none_at (Some w) (DeleteGeneric f p) reads ready = absurd (false≢true reads)
      none_at (Some w) (Write f l d) reads ready = absurd (false≢true reads)
      none_at (Some w) (Rewrite f l d) reads ready = absurd (false≢true reads)
      none_at (Some w) (Delete f l) reads ready = absurd (false≢true reads)
      none_at (Some w) (TsWrite q d) reads ready = absurd (false≢true reads)
      none_at (Some w) (TsRewrite q n d) reads ready = absurd (false≢true reads)
      none_at (Some w) (TsDelete q) reads ready = absurd (false≢true reads)
      none_at (Some w) (TdWrite q d) reads ready = absurd (false≢true reads)
      none_at (Some w) (TdRead q) reads ready = absurd (false≢true reads)
      none_at (Some w) (TdDelete q) reads ready = absurd (false≢true reads)

  -- the update reads after the command
  reads_then : (normal : is_normal a.condition ≡ true) →
      reads_after acting op a.condition s.reads ≡ opened acting op (filter (λ x. not (covers acting op x)) s.reads)
  reads_then normal = ap (λ b. if b then opened acting op (filter (λ x. not (covers acting op x)) s.reads) else s.reads) normal

  once_after : AreOnce (reads_after acting op a.condition s.reads)
  once_after =
      elim (is_normal a.condition) as (λ b. AreOnce (if b then opened acting op (filter (λ x. not (covers acting op x)) s.reads) else s.reads)) [
        | true ↦ AreOnce-opened acting op s.reads none_open k.once
        | false ↦ k.once
      ]

  keys_after : All (λ r. length r.key ≤ 255) (reads_after acting op a.condition s.reads)
  keys_after =
      elim (is_normal a.condition) as (λ b. All (λ r. length r.key ≤ 255) (if b then opened acting op (filter (λ x. not (covers acting op x)) s.reads) else s.reads)) [
        | true ↦ All-opened (λ r. length r.key ≤ 255) acting op s.reads short k.keys
        | false ↦ k.keys
      ]

  -- one that is refused
  refused_of : is_normal a.condition ≡ false → IsTableOf (entered s u op a) t
  refused_of refused = table_same s (entered s u op a) t k once_after keys_after refl (λ r n.
      entered_sum s u op a n (is_one r)
      ∙ (λ j. is_open (outcome_of s.outcomes n)
      && (((in_entries s.opening n (is_one r) s.trace || by_entry-none s u op a n (is_one r) (ap (λ b. b && is_recoverable s.opening op) refused) j)
      || in_reads s.opening n (is_one r) (if refused j then opened acting op (filter (λ x. not (covers acting op x)) s.reads) else s.reads))
      || in_counts s.opening n (is_one r) s.counts))
      ∙ ap (λ b. is_open (outcome_of s.outcomes n) && ((b || in_reads s.opening n (is_one r) s.reads) || in_counts s.opening n (is_one r) s.counts))
      (or-false (in_entries s.opening n (is_one r) s.trace))
      ∙ sym (held_sum s n (is_one r)))

  module _ (normal : is_normal a.condition ≡ true) where
    -- one on a recoverable file or queue
    recoverable_of : is_recoverable s.opening op ≡ true → IsTableOf (entered s u op a) (taken_all t acting asked)
    recoverable_of rec = table_taken s (entered s u op a) t k once_after keys_after refl acting asked plain free_for_it (λ r n.
        entered_sum s u op a n (is_one r)
        ∙ (λ j. is_open (outcome_of s.outcomes n)
        && (((in_entries s.opening n (is_one r) s.trace || by_entry-held s u op a n (is_one r) normal rec j)
        || (ap (in_reads s.opening n (is_one r)) (reads_then normal) ∙ any_opened-recoverable s.opening n r acting op rec s.reads) j)
        || in_counts s.opening n (is_one r) s.counts))
        ∙ held_more (is_open (outcome_of s.outcomes n)) (in_entries s.opening n (is_one r) s.trace)
        (in_reads s.opening n (is_one r) s.reads) (in_counts s.opening n (is_one r) s.counts)
        ((acting == n) && list_any (is_one r) asked) (live_if n (list_any (is_one r) asked))
        ∙ ap (λ b. b || ((acting == n) && list_any (is_one r) asked)) (sym (held_sum s n (is_one r))))

    module _ (local : is_recoverable s.opening op ≡ false) where
      unheld : (is_normal a.condition && is_recoverable s.opening op) ≡ false
      unheld = and_right (is_normal a.condition) (is_recoverable s.opening op) local

      -- READ UPDATE in another file
      read_of : is_read op ≡ true → IsTableOf (entered s u op a) (taken_all t acting asked)
      read_of reads = table_taken s (entered s u op a) t k once_after keys_after refl acting asked plain free_for_it (λ r n.
          entered_sum s u op a n (is_one r)
          ∙ (λ j. is_open (outcome_of s.outcomes n)
          && (((in_entries s.opening n (is_one r) s.trace || by_entry-none s u op a n (is_one r) unheld j)
          || (ap (in_reads s.opening n (is_one r)) (reads_then normal) ∙ any_opened-read s.opening n r acting op reads local s.reads) j)
          || in_counts s.opening n (is_one r) s.counts))
          ∙ read_more (is_open (outcome_of s.outcomes n)) (in_entries s.opening n (is_one r) s.trace)
          (in_reads s.opening n (is_one r) s.reads) (in_counts s.opening n (is_one r) s.counts)
          ((acting == n) && list_any (is_one r) asked) (live_if n (list_any (is_one r) asked))
          ∙ ap (λ b. b || ((acting == n) && list_any (is_one r) asked)) (sym (held_sum s n (is_one r))))

      module _ (others : is_read op ≡ false) where
        in_reads_then : (r : Resource) (n : ℕ) → in_reads s.opening n (is_one r) (reads_after acting op a.condition s.reads)
            ≡ in_reads s.opening n (is_one r) (filter (λ x. not (covers acting op x)) s.reads)
        in_reads_then r n =
            ap (in_reads s.opening n (is_one r)) (reads_then normal)
            ∙ any_opened-none s.opening n r acting op others (filter (λ x. not (covers acting op x)) s.reads)

        -- one that covers an update read
        module _ (some : list_any (covers acting op) s.reads ≡ true) where
          local_file : file_recoverable s.opening (file_of op) ≡ false
          local_file = sym (covering-recoverable s.opening acting op s.reads some) ∙ local

          abbrev read_key : Bytes
          read_key = covered_key acting op s.reads k.once some

          abbrev read_record : Resource
          read_record = record_of (file_of op) read_key

          covering_of : IsTableOf (entered s u op a) (given_back t read_record acting)
          covering_of = table_given s (entered s u op a) t k once_after keys_after refl acting (file_of op) read_key (λ r n.
              entered_sum s u op a n (is_one r)
              ∙ (λ j. is_open (outcome_of s.outcomes n)
              && (((ap (λ b. in_entries s.opening n (is_one r) s.trace || b) (by_entry-none s u op a n (is_one r) unheld) ∙ or-false (in_entries s.opening n (is_one r) s.trace)) j
              || (in_reads_then r n ∙ any_ended s.opening n r acting (file_of op) read_key local_file (covers acting op) s.reads
              (covered_is acting op s.reads k.once some) (covered_all acting op s.reads k.once some)) j)
              || in_counts s.opening n (is_one r) s.counts))
              ∙ read_less (is_open (outcome_of s.outcomes n)) (in_entries s.opening n (is_one r) s.trace)
              (in_reads s.opening n (is_one r) s.reads) (in_counts s.opening n (is_one r) s.counts)
              ((acting == n) && is_one r read_record)
              (λ own. entries_apart s.opening n r (file_of op) read_key (and_parts (acting == n) (is_one r read_record) own).1 local_file s.trace)
              (λ own. counts_apart s.opening n r (file_of op) read_key (and_parts (acting == n) (is_one r read_record) own).1 s.counts)
              ∙ ap (λ b. b && not ((acting == n) && is_one r read_record)) (sym (held_sum s n (is_one r))))

          -- the table gives that record back
          given_of_read : table_given_back false acting (file_of op) (read_at s.reads acting (file_of op)) t ≡ given_back t read_record acting
          given_of_read = ap (λ o. table_given_back false acting (file_of op) o t) (covered_at acting op s.reads k.once some)

        -- one that covers none
        plain_of : list_any (covers acting op) s.reads ≡ false → IsTableOf (entered s u op a) t
        plain_of none = table_same s (entered s u op a) t k once_after keys_after refl (λ r n.
            entered_sum s u op a n (is_one r)
            ∙ (λ j. is_open (outcome_of s.outcomes n)
            && (((ap (λ b. in_entries s.opening n (is_one r) s.trace || b) (by_entry-none s u op a n (is_one r) unheld) ∙ or-false (in_entries s.opening n (is_one r) s.trace)) j
            || (in_reads_then r n ∙ ap (in_reads s.opening n (is_one r)) (filter_none (covers acting op) s.reads none)) j)
            || in_counts s.opening n (is_one r) s.counts))
            ∙ sym (held_sum s n (is_one r)))

  -- the table after the command, by what the command is
  abbrev chosen : Bool → Bool → Bool → Bool → Table
  chosen normal rec reads some =
      if not normal then t
      else if rec || reads then taken_all t acting (uses_if rec op)
      else table_given_back false acting (file_of op) (if some then read_at s.reads acting (file_of op) else None) t

  -- what the command acquires is what it uses
  takes_asked : (rec : Bool) → is_recoverable s.opening op ≡ rec → asked ≡ uses_if rec op
  takes_asked rec q = sym (uses_alike s.opening op) ∙ ap (λ b. uses_if b op) q

  at_choice : (normal rec reads some : Bool) → is_normal a.condition ≡ normal → is_recoverable s.opening op ≡ rec →
      is_read op ≡ reads → list_any (covers acting op) s.reads ≡ some → IsTableOf (entered s u op a) (chosen normal rec reads some)
  at_choice false rec reads some p q e f = refused_of p
  at_choice true true reads some p q e f =
      subst (λ rs. IsTableOf (entered s u op a) (taken_all t acting rs)) (takes_asked true q) (recoverable_of p q)
  at_choice true false true some p q e f =
      subst (λ rs. IsTableOf (entered s u op a) (taken_all t acting rs)) (takes_asked false q) (read_of p q e)
  at_choice true false false true p q e f = subst (IsTableOf (entered s u op a)) (sym (given_of_read p q e f)) (covering_of p q e f)
  at_choice true false false false p q e f = plain_of p q e f

  -- a command that is executed
  executed_table : IsTableOf (entered s u op a) (table_executed s.opening acting op a.condition s.reads t)
  executed_table =
      at_choice (is_normal a.condition) (is_recoverable s.opening op) (is_read op)
      (list_any (covers acting op) s.reads) refl refl refl refl

-- a command of a unit that need not wait makes of the table what it acquires and releases
pub table_entered : (s : UnitsState) (t : Table) (u : Option ℕ) (op : Op) (a : Answer) → IsSound s → IsTableOf s t →
    may_act s u ≡ true → awaited s u op ≡ None → is_ready_op s u op ≡ true →
    length (key_of op) ≤ 255 →
    IsTableOf (entered s u op a) (table_executed s.opening (unit_or_next u s.outcomes) op a.condition s.reads t)
table_entered s t u op a i k acts free ready short = executed_table s t u op a i k acts free ready short

-- ---- UNLOCK

pub table_unlocked_of : (s : UnitsState) (t : Table) (u : ℕ) (f : Bytes) → IsSound s → IsTableOf s t → is_live s u ≡ true →
    IsTableOf (after_unlock s u f) (table_unlocked s.opening u f (read_at s.reads u f) t)
table_unlocked_of s t u f i k live =
    elim (read_at s.reads u f) as (λ found. read_at s.reads u f ≡ found → IsTableOf (after_unlock s u f) (table_unlocked s.opening u f found t)) [
      | None ↦ λ none. same_of (λ r n. ap (in_reads s.opening n (is_one r))
          (filter_none (is_read_of u f) s.reads (none_read s.reads u f (ap is_some none))))
      | Some l ↦ λ found. elim (file_recoverable s.opening f) as (λ b. file_recoverable s.opening f ≡ b →
          IsTableOf (after_unlock s u f) (if b then t else given_back t (record_of f l) u)) [
            | true ↦ λ rec. same_of (λ r n. any_kept (by_read s.opening n r) (is_read_of u f) s.reads
                (λ x own. by_read-recoverable s.opening n r f rec x (and_parts (eqb x.unit u) (is_same x.file f) own).1))
            | false ↦ λ local. given_of l found local
          ] refl
    ] refl
  where
    once : AreOnce (after_unlock s u f).reads
    once = AreOnce-dropped (is_read_of u f) s.reads k.once

    keys : All (λ r. length r.key ≤ 255) (after_unlock s u f).reads
    keys = All-filter (λ x. not (is_read_of u f x)) (λ r. length r.key ≤ 255) s.reads k.keys

    -- what the unlocked reads don't hold stays
    same_of : ((r : Resource) (n : ℕ) →
        in_reads s.opening n (is_one r) (filter (λ x. not (is_read_of u f x)) s.reads) ≡ in_reads s.opening n (is_one r) s.reads) →
        IsTableOf (after_unlock s u f) t
    same_of same = table_same s (after_unlock s u f) t k once keys refl (λ r n.
        held_sum (after_unlock s u f) n (is_one r)
        ∙ ap (λ b. is_open (outcome_of s.outcomes n) && ((in_entries s.opening n (is_one r) s.trace || b) || in_counts s.opening n (is_one r) s.counts)) (same r n)
        ∙ sym (held_sum s n (is_one r)))

    given_of : (l : Bytes) → read_at s.reads u f ≡ Some l → file_recoverable s.opening f ≡ false →
        IsTableOf (after_unlock s u f) (given_back t (record_of f l) u)
    given_of l found local = table_given s (after_unlock s u f) t k once keys refl u f l (λ r n.
        held_sum (after_unlock s u f) n (is_one r)
        ∙ ap (λ b. is_open (outcome_of s.outcomes n) && ((in_entries s.opening n (is_one r) s.trace || b) || in_counts s.opening n (is_one r) s.counts))
        (any_ended s.opening n r u f l local (is_read_of u f) s.reads (read_keys s.reads u f l k.once found)
        (λ x own. (and_parts (is_read_of u f x) (is_same x.key l) own).0))
        ∙ read_less (is_open (outcome_of s.outcomes n)) (in_entries s.opening n (is_one r) s.trace)
        (in_reads s.opening n (is_one r) s.reads) (in_counts s.opening n (is_one r) s.counts)
        ((u == n) && is_one r (record_of f l))
        (λ own. entries_apart s.opening n r f l (and_parts (u == n) (is_one r (record_of f l)) own).1 local s.trace)
        (λ own. counts_apart s.opening n r f l (and_parts (u == n) (is_one r (record_of f l)) own).1 s.counts)
        ∙ ap (λ b. b && not ((u == n) && is_one r (record_of f l))) (sym (held_sum s n (is_one r))))

-- ---- The end of a unit

pub table_ended_of : (s : UnitsState) (t : Table) (u : ℕ) (outcome : UnitState) → IsSound s → IsTableOf s t →
    is_live s u ≡ true → is_open outcome ≡ false → IsTableOf (after_end s u outcome) (released t u)
table_ended_of s t u outcome i k live shut =
    table_released s (after_end s u outcome) t k (AreOnce-dropped (λ x. x.unit == u) s.reads k.once)
    (All-filter (λ x. not (x.unit == u)) (λ r. length r.key ≤ 255) s.reads k.keys) u refl (λ r n.
    elim (cases_Bool (eqb u n)) [
      | inl own ↦ held_sum (after_end s u outcome) n (is_one r)
          ∙ ap (λ b. b && ((in_entries s.opening n (is_one r) s.trace || in_reads s.opening n (is_one r) (after_end s u outcome).reads)
          || in_counts s.opening n (is_one r) (after_end s u outcome).counts)) (ended n own)
          ∙ sym (ap (λ b. list_any (is_one r) (held_by s n) && not b) own ∙ and-false (list_any (is_one r) (held_by s n)))
      | inr other ↦ held_sum (after_end s u outcome) n (is_one r)
          ∙ (λ j. is_open (outcome_of-set s.outcomes u n outcome (apart n other) j)
          && ((in_entries s.opening n (is_one r) s.trace
          || any_kept (by_read s.opening n r) (λ x. x.unit == u) s.reads (read_apart r n other) j)
          || any_kept (λ c. list_any (is_one r) (held_by_count n c)) (λ c. c.unit == u) s.counts (count_apart r n other) j))
          ∙ sym (held_sum s n (is_one r))
          ∙ sym (ap (λ b. list_any (is_one r) (held_by s n) && not b) other ∙ and-true (list_any (is_one r) (held_by s n)))
    ])
  where
    apart : (n : ℕ) → eqb u n ≡ false → n ≢ u
    apart n other e = eqb-false u n other (sym e)

    ended : (n : ℕ) → eqb u n ≡ true → is_open (outcome_of (slice_set s.outcomes u outcome) n) ≡ false
    ended n own =
        ap (λ m. is_open (outcome_of (slice_set s.outcomes u outcome) m)) (sym (eqb-true u n own))
        ∙ ap is_open (unwrap_or-slice_get (slice_set s.outcomes u outcome) u Open
        ∙ get_or-set_same s.outcomes u outcome Open (ltb-true u (length s.outcomes) (and_parts (ltb u (length s.outcomes)) (is_open (outcome_of s.outcomes u)) live).0))
        ∙ shut

    not_his : (m n : ℕ) → eqb u n ≡ false → eqb m u ≡ true → eqb m n ≡ false
    not_his m n other his = ap (λ z. eqb z n) (eqb-true m u his) ∙ other

    read_apart : (r : Resource) (n : ℕ) → eqb u n ≡ false → (x : UpdateRead) → (x.unit == u) ≡ true → by_read s.opening n r x ≡ false
    read_apart r n other x his =
        by_read-is s.opening n r x
        ∙ ap (λ b. (b && not (file_recoverable s.opening x.file)) && is_one r (record_of x.file x.key)) (not_his x.unit n other his)

    count_apart : (r : Resource) (n : ℕ) → eqb u n ≡ false → (c : EnqCount) → (c.unit == u) ≡ true → list_any (is_one r) (held_by_count n c) ≡ false
    count_apart r n other c his =
        ap (λ b. list_any (is_one r) (if b then User (bytes_of c.value) ∷ [] else [])) (not_his c.unit n other his)
