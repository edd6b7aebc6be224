-- A unit holds an end of a LOGICAL queue exactly where it is open and has used that end.
use Rattle.std.proofs.Common.{◌≡◌, ℕ, Bool, true, false, ◌&&◌, List, [], ◌∷◌, ◌++◌, length, refl, ap, sym, ◌∙◌, eqb, inl, inr}
use Rattle.std.specs.Prelude.{◌==◌, nat_lt}
use Rattle.std.specs.List.{list_any}
use Rattle.std.proofs.lemmas.Bool.{true≢false, false≢true, and_parts, and_from, or_cases}
use Rattle.cics_names.specs.Keyed.{Bytes, is_same}
use Rattle.cics_names.specs.RisingLaws.{is_same-turned}
use Rattle.cics_history.specs.Resources.{bytes_of, is_one}
use Rattle.cics_history.specs.ResourceLaws.{same_test}
use Rattle.cics_history.specs.declared.resources.Resource.{Resource}
use Rattle.cics_history.specs.declared.resources.Resource.TheVariants.{FileKey, TsQueue, TdRead as ReadingEnd, TdWrite as WritingEnd, User, FilePrefix}
use Rattle.cics_history.specs.State.{OpeningState, queue_logical, UnitsState}
use Rattle.cics_history.specs.Store.{is_normal, is_recoverable}
use Rattle.cics_history.specs.Headline.{outcome_of, is_open}
use Rattle.cics_history.specs.Holding.{named_if, uses_of, held_by_entry, held_by_read, held_by_count, held_by, owned}
use Rattle.cics_history.specs.Holders.{end_of}
use Rattle.cics_history.specs.Events.{is_live}
use Rattle.cics_history.specs.declared.ops.Op.{Op}
use Rattle.cics_history.specs.declared.ops.Op.TheVariants.{Write, Rewrite, Delete, DeleteGeneric, ReadUpdate, TsWrite, TsRewrite, TsDelete, TdWrite, TdRead, TdDelete}
use Rattle.cics_history.specs.declared.ops.Entry.{Entry}
use Rattle.cics_history.specs.Cells.{Td, touches, End, Reading, Writing, uses}
use Rattle.cics_history.specs.Isolation.{claims, used}
use Rattle.cics_history.proofs.Joining.{touches-recovers}
use Rattle.cics_history.proofs.Waiting.{any_both, any_more, covers, table_names, used-held}
use Rattle.cics_history.proofs.Holders.{any_if, any_only, held_cases}

-- ---- Tests over lists

-- a test that nothing passes
never : {A : Type 0} (p : A → Bool) → ((x : A) → p x ≡ true → ⊥) → (xs : List A) → list_any p xs ≡ true → ⊥
never p none [] h = false≢true h
never p none (x ∷ xs) h = elim (or_cases (p x) (list_any p xs) h) [ inl y ↦ none x y | inr y ↦ never p none xs y ]

-- ---- An end as a resource

-- the resource that an end is takes hold of that end
covers-end : (q : Bytes) (end : End) (r : Resource) → is_one (end_of q end) r ≡ covers (Td q) end r
covers-end q Reading (ReadingEnd r) = is_same-turned q r
covers-end q Writing (WritingEnd r) = is_same-turned q r
covers-end q Reading _ = refl
covers-end q Writing _ = refl

-- no other resource does
abbrev is_end : Resource → Bool
is_end (ReadingEnd r) = true
is_end (WritingEnd r) = true
is_end _ = false

no_end : (q : Bytes) (end : End) (r : Resource) → is_end r ≡ false → list_any (covers (Td q) end) (r ∷ []) ≡ true → ⊥
no_end q end (ReadingEnd r) n h = true≢false n
no_end q end (WritingEnd r) n h = true≢false n
no_end q Reading _ n h = false≢true h
no_end q Writing _ n h = false≢true h

-- ---- What is held of a queue, and what was used

-- a command that takes hold of an end names its queue and uses the end
uses_of-ends : (o : OpeningState) (op : Op) (q : Bytes) (end : End) → list_any (covers (Td q) end) (uses_of o op) ≡ true →
    (touches op (Td q) ≡ true) × (uses op end ≡ true)
uses_of-ends o (TdWrite r d) q Writing h = (any_only (covers (Td q) Writing) (WritingEnd r) (any_if (covers (Td q) Writing) _ (WritingEnd r ∷ []) h).1, refl)
uses_of-ends o (TdWrite r d) q Reading h = absurd (false≢true (any_if (covers (Td q) Reading) _ (WritingEnd r ∷ []) h).1)
uses_of-ends o (TdRead r) q Reading h = (any_only (covers (Td q) Reading) (ReadingEnd r) (any_if (covers (Td q) Reading) _ (ReadingEnd r ∷ []) h).1, refl)
uses_of-ends o (TdRead r) q Writing h = absurd (false≢true (any_if (covers (Td q) Writing) _ (ReadingEnd r ∷ []) h).1)
uses_of-ends o (TdDelete r) q end h = (both_ends (queue_logical o r) end h, uses_both end)
  where
    both_ends : (b : Bool) (end : End) → list_any (covers (Td q) end) (named_if b (ReadingEnd r) ++ named_if b (WritingEnd r)) ≡ true →
        is_same r q ≡ true
    both_ends true Reading h = any_only (covers (Td q) Reading) (ReadingEnd r) h
    both_ends true Writing h = any_only (covers (Td q) Writing) (WritingEnd r) h
    both_ends false end h = absurd (false≢true h)

    uses_both : (end : End) → uses (TdDelete r) end ≡ true
    uses_both Reading = refl
    uses_both Writing = refl
uses_of-ends o (Write f k r) q end h = absurd (no_end q end (FileKey f (bytes_of k)) refl h)
uses_of-ends o (Rewrite f k r) q end h = absurd (no_end q end (FileKey f (bytes_of k)) refl h)
uses_of-ends o (Delete f k) q end h = absurd (no_end q end (FileKey f (bytes_of k)) refl h)
uses_of-ends o (ReadUpdate f k) q end h = absurd (no_end q end (FileKey f (bytes_of k)) refl h)
uses_of-ends o (DeleteGeneric f p) q end h = absurd (no_end q end (FilePrefix f (bytes_of p)) refl h)
uses_of-ends o (TsWrite r d) q end h = absurd (no_end q end (TsQueue r) refl (any_if (covers (Td q) end) _ (TsQueue r ∷ []) h).1)
uses_of-ends o (TsRewrite r n d) q end h = absurd (no_end q end (TsQueue r) refl (any_if (covers (Td q) end) _ (TsQueue r ∷ []) h).1)
uses_of-ends o (TsDelete r) q end h = absurd (no_end q end (TsQueue r) refl (any_if (covers (Td q) end) _ (TsQueue r ∷ []) h).1)

-- an entry that makes a unit hold an end is a use of it, of a LOGICAL queue
held-claims : (o : OpeningState) (q : Bytes) (end : End) (n : ℕ) (e : Entry) →
    list_any (covers (Td q) end) (held_by_entry o n e) ≡ true →
    ((claims (Td q) end e && eqb e.unit n) && queue_logical o q) ≡ true
held-claims o q end n e h =
    let a = any_if (covers (Td q) end) ((eqb e.unit n) && (is_normal e.answer.condition && is_recoverable o e.op)) (uses_of o e.op) h in
    let b = and_parts (eqb e.unit n) (is_normal e.answer.condition && is_recoverable o e.op) a.0 in
    let c = and_parts (is_normal e.answer.condition) (is_recoverable o e.op) b.1 in
    let d = uses_of-ends o e.op q end a.1 in
    and_from _ _ (and_from _ _ (and_from _ _ d.0 (and_from _ _ c.0 d.1)) b.0)
    (sym (touches-recovers o e.op (Td q) d.0) ∙ c.1)

module _ (s : UnitsState) (n : ℕ) (q : Bytes) (end : End) where
  -- the unit is open, the queue is LOGICAL, and the unit has used the end
  abbrev has_used : Bool
  has_used = queue_logical s.opening q && used s.trace n (Td q) end

  -- an end that is held was used, and of a LOGICAL queue
  covered-used : list_any (covers (Td q) end) (held_by s n) ≡ true → (is_open (outcome_of s.outcomes n) && has_used) ≡ true
  covered-used h =
      let c = held_cases s n (covers (Td q) end) h in
      and_from _ _ c.0 (elim c.1 [
        | inl by_entry ↦
            let both = any_both (λ e. claims (Td q) end e && eqb e.unit n) (queue_logical s.opening q) s.trace
            (any_more (λ e. list_any (covers (Td q) end) (held_by_entry s.opening n e)) _ (held-claims s.opening q end n) s.trace by_entry) in
            let a = and_parts (used s.trace n (Td q) end) (queue_logical s.opening q) both in
            and_from _ _ a.1 a.0
        | inr more ↦ elim more [
          | inl by_read ↦
              absurd (never (λ r. list_any (covers (Td q) end) (held_by_read s.opening n r))
              (λ r y. no_end q end (FileKey r.file (bytes_of r.key)) refl
              (any_if (covers (Td q) end) _ (FileKey r.file (bytes_of r.key) ∷ []) y).1) s.reads by_read)
          | inr by_count ↦
              absurd (never (λ c. list_any (covers (Td q) end) (held_by_count n c))
              (λ c y. no_end q end (User (bytes_of c.value)) refl (any_if (covers (Td q) end) _ (User (bytes_of c.value) ∷ []) y).1) s.counts by_count)
        ]
      ])

  -- what a unit holds names an end where the unit is open and has used it
  pub end_held : list_any (is_one (end_of q end)) (held_by s n) ≡ (is_open (outcome_of s.outcomes n) && has_used)
  end_held = same_test (list_any (is_one (end_of q end)) (held_by s n)) (is_open (outcome_of s.outcomes n) && has_used)
      (λ h. covered-used (any_more (is_one (end_of q end)) (covers (Td q) end) (λ r y. sym (covers-end q end r) ∙ y) (held_by s n) h))
      (λ h.
      let a = and_parts (is_open (outcome_of s.outcomes n)) has_used h in
      let b = and_parts (queue_logical s.opening q) (used s.trace n (Td q) end) a.1 in
      any_more (covers (Td q) end) (is_one (end_of q end)) (λ r y. covers-end q end r ∙ y) (held_by s n)
      (used-held s n (Td q) end b.0 a.0 b.1))

-- ---- The table of what is held

-- the table names the open units that have used an end of a LOGICAL queue, and no other
pub end_in_table : (s : UnitsState) (n : ℕ) (q : Bytes) (end : End) →
    list_any (λ e. is_one (end_of q end) e.0 && (e.1 == n)) (owned s)
    ≡ (is_live s n && (queue_logical s.opening q && used s.trace n (Td q) end))
end_in_table s n q end =
    table_names s (is_one (end_of q end)) n
    ∙ (ap (λ b. nat_lt n (length s.outcomes) && b) (end_held s n q end)
    ∙ and_together (nat_lt n (length s.outcomes)) (is_open (outcome_of s.outcomes n)) (queue_logical s.opening q && used s.trace n (Td q) end))
  where
    and_together : (a b c : Bool) → (a && (b && c)) ≡ ((a && b) && c)
    and_together true b c = refl
    and_together false b c = refl
