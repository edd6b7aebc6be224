-- What a unit owns, as one test: by its entries, its update reads and its counts.
use Rattle.std.proofs.Common.{◌≡◌, ℕ, Bool, true, false, ◌&&◌, ◌||◌, Option, List, [], ◌∷◌, ◌++◌, refl, ap, sym, subst, ◌∙◌, eqb, inl, inr}
use Rattle.std.specs.Prelude.{if◌then◌else◌, ◌==◌, flat_map}
use Rattle.std.specs.List.{list_any}
use Rattle.std.proofs.Math.Bool.{or-false}
use Rattle.std.proofs.lemmas.Bool.{true≢false, false≢true, and_parts, and_right, or_from, or_cases, false_from_ne_true}
use Rattle.std.proofs.lemmas.List.Folds.{list_any-append}
use Rattle.cics_names.specs.Keyed.{Bytes, is_same}
use Rattle.cics_names.specs.KeyedLaws.{is_same-eq}
use Rattle.cics_history.specs.Resources.{bytes_of, is_one}
use Rattle.cics_history.specs.ResourceLaws.{is_one-eq}
use Rattle.cics_history.specs.declared.resources.Resource.{Resource}
use Rattle.cics_history.specs.declared.resources.Resource.TheVariants.{TsQueue, TdRead as ReadingEnd, TdWrite as WritingEnd, User}
use Rattle.cics_history.specs.State.{OpeningState, file_recoverable, queue_logical, has_prefix_in, UnitsState, UpdateRead, EnqCount}
use Rattle.cics_history.specs.Store.{is_normal, is_recoverable}
use Rattle.cics_history.specs.Headline.{outcome_of, is_open}
use Rattle.cics_history.specs.Holding.{uses_of, held_by_entry, held_by_read, held_by_count, held_by}
use Rattle.cics_history.specs.Execution.{unit_or_next, reads_after, entered}
use Rattle.cics_history.specs.Records.{is_file_op, file_of}
use Rattle.cics_units.specs.TableInPlace.{record_of}
use Rattle.cics_history.specs.declared.ops.Op.{Op}
use Rattle.cics_history.specs.declared.ops.Op.TheVariants.{Write, Rewrite, Delete, DeleteGeneric, ReadUpdate, TsWrite, TsRewrite, TsDelete, TdWrite, TdRead, TdDelete}
use Rattle.cics_history.specs.declared.ops.Answer.{Answer}
use Rattle.cics_history.specs.declared.ops.Entry.{Entry}
use Rattle.cics_history.proofs.Waiting.{any_flat_map}
use Rattle.cics_history.proofs.Holders.{any_if, any_only}
use Rattle.cics_history.proofs.Outcomes.{outcome_of-with}
use Rattle.cics_units.proofs.HeldReads.{any_if_one}

module _ (o : OpeningState) (n : ℕ) (p : Resource → Bool) where
  -- what passes a test is owned by an entry, by an update read, by a count
  abbrev pub in_entries : List Entry → Bool
  in_entries es = list_any (λ e. list_any p (held_by_entry o n e)) es

  abbrev pub in_reads : List UpdateRead → Bool
  in_reads xs = list_any (λ x. list_any p (held_by_read o n x)) xs

  abbrev pub in_counts : List EnqCount → Bool
  in_counts cs = list_any (λ c. list_any p (held_by_count n c)) cs

-- the whole
pub held_sum : (s : UnitsState) (n : ℕ) (p : Resource → Bool) →
    list_any p (held_by s n)
    ≡ (is_open (outcome_of s.outcomes n)
    && ((in_entries s.opening n p s.trace || in_reads s.opening n p s.reads) || in_counts s.opening n p s.counts))
held_sum s n p =
    let es = flat_map (held_by_entry s.opening n) s.trace in
    let rs = flat_map (held_by_read s.opening n) s.reads in
    let cs = flat_map (held_by_count n) s.counts in
    elim (is_open (outcome_of s.outcomes n)) as (λ b. list_any p (if b then es ++ rs ++ cs else [])
    ≡ (b && ((in_entries s.opening n p s.trace || in_reads s.opening n p s.reads) || in_counts s.opening n p s.counts))) [
      | true ↦
          list_any-append p (es ++ rs) cs
          ∙ ap (λ b. b || list_any p cs) (list_any-append p es rs)
          ∙ (λ i. (any_flat_map (held_by_entry s.opening n) p s.trace i
          || any_flat_map (held_by_read s.opening n) p s.reads i)
          || any_flat_map (held_by_count n) p s.counts i)
      | false ↦ refl
    ]

-- ---- A record of a file that isn't recoverable is owned by update reads alone

-- what a command uses of recoverable files and queues
uses_apart : (o : OpeningState) (f k : Bytes) → file_recoverable o f ≡ false → (op : Op) →
    is_recoverable o op ≡ true → list_any (is_one (record_of f k)) (uses_of o op) ≡ true → ⊥
uses_apart o f k local = apart
  where
    other : (g l : Bytes) → file_recoverable o g ≡ true →
        list_any (is_one (record_of f k)) (record_of g l ∷ []) ≡ true → ⊥
    other g l rec h =
        let same = and_parts (is_same f g) (is_same k l) (any_only (is_one (record_of f k)) (record_of g l) h) in
        true≢false (sym rec ∙ ap (file_recoverable o) (sym (is_same-eq f g same.0)) ∙ local)

    named : (b : Bool) (q : Resource) → is_one (record_of f k) q ≡ false →
        list_any (is_one (record_of f k)) (if b then q ∷ [] else []) ≡ true → ⊥
    named b q never h =
        true≢false (sym h ∙ any_if_one (is_one (record_of f k)) b q ∙ and_right b (is_one (record_of f k) q) never)

    apart : (op : Op) → is_recoverable o op ≡ true →
        list_any (is_one (record_of f k)) (uses_of o op) ≡ true → ⊥
    apart (Write g l d) rec h = other g l rec h
    apart (Rewrite g l d) rec h = other g l rec h
    apart (Delete g l) rec h = other g l rec h
    apart (DeleteGeneric g p) rec h = false≢true h
    apart (ReadUpdate g l) rec h = other g l rec h
    apart (TsWrite q d) rec h = named (has_prefix_in o.prefixes q) (TsQueue q) refl h
    apart (TsRewrite q m d) rec h = named (has_prefix_in o.prefixes q) (TsQueue q) refl h
    apart (TsDelete q) rec h = named (has_prefix_in o.prefixes q) (TsQueue q) refl h
    apart (TdWrite q d) rec h = named (queue_logical o q) (WritingEnd q) refl h
    apart (TdRead q) rec h = named (queue_logical o q) (ReadingEnd q) refl h
    apart (TdDelete q) rec h = elim (or_cases _ _
        (sym (list_any-append (is_one (record_of f k)) (if queue_logical o q then ReadingEnd q ∷ [] else [])
        (if queue_logical o q then WritingEnd q ∷ [] else [])) ∙ h)) [
          | inl reads ↦ named (queue_logical o q) (ReadingEnd q) refl reads
          | inr writes ↦ named (queue_logical o q) (WritingEnd q) refl writes
        ]

module _ (o : OpeningState) (n : ℕ) (r : Resource) (f k : Bytes) (same : is_one r (record_of f k) ≡ true) where
  pub entries_apart : file_recoverable o f ≡ false → (es : List Entry) → in_entries o n (is_one r) es ≡ false
  entries_apart local [] = refl
  entries_apart local (e ∷ es) =
      or_from _ _ (false_from_ne_true _ (λ y.
      let t = any_if (is_one r) ((e.unit == n) && (is_normal e.answer.condition && is_recoverable o e.op)) (uses_of o e.op) y in
      let rec = and_parts (is_normal e.answer.condition) (is_recoverable o e.op) (and_parts (eqb e.unit n) _ t.0).1 in
      uses_apart o f k local e.op rec.1
      (subst (λ z. list_any (is_one z) (uses_of o e.op) ≡ true) (is_one-eq r (record_of f k) same) t.1)))
      (entries_apart local es)

  pub counts_apart : (cs : List EnqCount) → in_counts o n (is_one r) cs ≡ false
  counts_apart [] = refl
  counts_apart (c ∷ cs) =
      or_from _ _ (any_if_one (is_one r) (c.unit == n) (User (bytes_of c.value))
      ∙ and_right (c.unit == n) (is_one r (User (bytes_of c.value)))
      (ap (λ z. is_one z (User (bytes_of c.value))) (is_one-eq r (record_of f k) same)))
      (counts_apart cs)

-- ---- One entry more

-- a command on a file acts on something recoverable just if its file is
pub recoverable_op : (o : OpeningState) (op : Op) → is_file_op op ≡ true → is_recoverable o op ≡ file_recoverable o (file_of op)
recoverable_op o (Write f k r) file = refl
recoverable_op o (Rewrite f k r) file = refl
recoverable_op o (Delete f k) file = refl
recoverable_op o (DeleteGeneric f p) file = refl
recoverable_op o (ReadUpdate f k) file = refl
recoverable_op o _ file = absurd (false≢true file)

module _ (s : UnitsState) (u : Option ℕ) (op : Op) (a : Answer) (n : ℕ) (p : Resource → Bool) where
  -- the entry of the command
  abbrev pub entry_of : Entry
  entry_of = record { unit = unit_or_next u s.outcomes; op = op; answer = a }

  -- what the entry makes the unit own
  abbrev pub by_entry : Bool
  by_entry = list_any p (held_by_entry s.opening n entry_of)

  -- what a unit owns after a command
  pub entered_sum :
      list_any p (held_by (entered s u op a) n)
      ≡ (is_open (outcome_of s.outcomes n)
      && (((in_entries s.opening n p s.trace || by_entry)
      || in_reads s.opening n p (reads_after (unit_or_next u s.outcomes) op a.condition s.reads))
      || in_counts s.opening n p s.counts))
  entered_sum =
      held_sum (entered s u op a) n p
      ∙ (λ i. is_open (outcome_of-with u s.outcomes n i)
      && (((list_any-append (λ e. list_any p (held_by_entry s.opening n e)) s.trace (entry_of ∷ [])
      ∙ ap (λ b. in_entries s.opening n p s.trace || b) (or-false by_entry)) i
      || in_reads s.opening n p (reads_after (unit_or_next u s.outcomes) op a.condition s.reads))
      || in_counts s.opening n p s.counts))

  -- a command that is refused, or acts on something that isn't recoverable, holds nothing by its
  -- entry
  pub by_entry-none : (is_normal a.condition && is_recoverable s.opening op) ≡ false → by_entry ≡ false
  by_entry-none none = ap (λ b. list_any p (if b then uses_of s.opening op else [])) (and_right (unit_or_next u s.outcomes == n) _ none)

  -- a command on something recoverable holds what it uses of it
  pub by_entry-held : is_normal a.condition ≡ true → is_recoverable s.opening op ≡ true →
      by_entry ≡ ((unit_or_next u s.outcomes == n) && list_any p (uses_of s.opening op))
  by_entry-held normal rec =
      (λ i. list_any p (if (unit_or_next u s.outcomes == n) && (normal i && rec i) then uses_of s.opening op else []))
      ∙ any_if_all (unit_or_next u s.outcomes == n)
    where
      any_if_all : (b : Bool) → list_any p (if b && true then uses_of s.opening op else []) ≡ (b && list_any p (uses_of s.opening op))
      any_if_all true = refl
      any_if_all false = refl
