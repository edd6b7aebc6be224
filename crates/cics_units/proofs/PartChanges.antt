-- What the table of enqueues and the update reads are after a change of the parts.
use Rattle.std.specs.Prelude.{◌≡◌, ℕ, Bool, true, false, not, ◌&&◌, ◌||◌, if◌then◌else◌, Option, Some, None, filter, List, [], ◌∷◌, refl}
use Rattle.std.proofs.Common.{sym, ap, ◌∙◌, subst, eqb, inl, inr}
use Rattle.std.specs.List.{list_any}
use Rattle.std.proofs.lemmas.Bool.{true≢false, cases_Bool, eqb-true, and_parts, false_from_ne_true}
use Rattle.std.proofs.Math.Bool.{or-false}
use Rattle.cics_names.specs.Keyed.{Bytes, is_same}
use Rattle.cics_names.specs.KeyedLaws.{is_same-eq}
use Rattle.cics_history.specs.State.{UpdateRead}
use Rattle.cics_history.specs.Execution.{is_read_of, read_at, covers}
use Rattle.cics_ksds.specs.Prefixes.{has_prefix}
use Rattle.cics_units.specs.OpenReads.{is_read_key, is_read_under}
use Rattle.cics_history.specs.Records.{file_of}
use Rattle.cics_units.specs.TableInPlace.{AreOnce}
use Rattle.cics_history.specs.declared.ops.Op.{Op}
use Rattle.cics_history.specs.declared.ops.Op.TheVariants.{Rewrite, Delete, DeleteGeneric}
use Rattle.cics_history.proofs.Waiting.{any_more}
use Rattle.cics_units.proofs.HeldReads.{any_never, OnEach, OnEach-map, read_keys, covers-own, covered_key, covered_at, covered_all}

-- a test of the key of an update read, if there is one
abbrev pub is_read_with : (Bytes → Bool) → Option Bytes → Bool
is_read_with test None = false
is_read_with test (Some key) = test key

-- if a unit has one read of a file at most, one that passes a test is the one that is found
pub covered-read_at : (test : Bytes → Bool) (u : ℕ) (f : Bytes) (reads : List UpdateRead) → AreOnce reads →
    list_any (λ r. is_read_of u f r && test r.key) reads ≡ is_read_with test (read_at reads u f)
covered-read_at test u f [] once = refl
covered-read_at test u f (r ∷ rs) once =
    elim (is_read_of u f r) as (λ b. is_read_of u f r ≡ b →
    ((b && test r.key) || list_any (λ x. is_read_of u f x && test x.key) rs) ≡ is_read_with test (if b then Some r.key else read_at rs u f)) [
      | true ↦ λ own. ap (λ b. test r.key || b) (none own) ∙ or-false (test r.key)
      | false ↦ λ other. covered-read_at test u f rs once.1
    ] refl
  where
    none : is_read_of u f r ≡ true → list_any (λ x. is_read_of u f x && test x.key) rs ≡ false
    none own = false_from_ne_true _ (λ some. true≢false (sym (
        any_more (λ x. is_read_of u f x && test x.key) (is_read_of r.unit r.file) (λ x t.
        let parts = and_parts (eqb r.unit u) (is_same r.file f) own in
        subst (λ n. is_read_of n r.file x ≡ true) (sym (eqb-true r.unit u parts.0))
        (subst (λ g. is_read_of u g x ≡ true) (sym (is_same-eq r.file f parts.1)) (and_parts (is_read_of u f x) (test x.key) t).0)) rs some) ∙ once.0))

-- the tests of a key and of a prefix
pub covered-key : (u : ℕ) (f k : Bytes) (reads : List UpdateRead) → AreOnce reads →
    list_any (λ r. is_read_of u f r && is_same r.key k) reads ≡ is_read_key (read_at reads u f) k
covered-key u f k reads once = covered-read_at (λ l. is_same l k) u f reads once ∙ by (read_at reads u f)
  where
    by : (o : Option Bytes) → is_read_with (λ l. is_same l k) o ≡ is_read_key o k
    by None = refl
    by (Some l) = refl

pub covered-under : (u : ℕ) (f p : Bytes) (reads : List UpdateRead) → AreOnce reads →
    list_any (λ r. is_read_of u f r && has_prefix p r.key) reads ≡ is_read_under (read_at reads u f) p
covered-under u f p reads once = covered-read_at (has_prefix p) u f reads once ∙ by (read_at reads u f)
  where
    by : (o : Option Bytes) → is_read_with (has_prefix p) o ≡ is_read_under o p
    by None = refl
    by (Some l) = refl

-- to drop none leaves all
pub ends_none : (reads : List UpdateRead) → filter (λ r. true) reads ≡ reads
ends_none [] = refl
ends_none (r ∷ rs) = ap (λ l. r ∷ l) (ends_none rs)

-- a command that is no REWRITE, no DELETE and no DELETE GENERIC covers no read
module _ (u : ℕ) where
  covers-false : (op : Op) → ((f k r : Bytes) → op ≡ Rewrite f k r → ⊥) → ((f k : Bytes) → op ≡ Delete f k → ⊥) →
      ((f p : Bytes) → op ≡ DeleteGeneric f p → ⊥) → (r : UpdateRead) → covers u op r ≡ false
  covers-false (Rewrite f k x) no_rewrite no_delete no_generic r = absurd (no_rewrite f k x refl)
  covers-false (Delete f k) no_rewrite no_delete no_generic r = absurd (no_delete f k refl)
  covers-false (DeleteGeneric f p) no_rewrite no_delete no_generic r = absurd (no_generic f p refl)
  covers-false _ no_rewrite no_delete no_generic r = refl

  pub uncovered_any : (op : Op) (reads : List UpdateRead) → ((f k r : Bytes) → op ≡ Rewrite f k r → ⊥) → ((f k : Bytes) → op ≡ Delete f k → ⊥) →
      ((f p : Bytes) → op ≡ DeleteGeneric f p → ⊥) → list_any (covers u op) reads ≡ false
  uncovered_any op reads no_rewrite no_delete no_generic =
      ap (λ p. list_any p reads) (λ i r. covers-false op no_rewrite no_delete no_generic r i) ∙ any_never reads

-- if a command covers a read, the reads of its unit in its file are those that it covers
module _ (u : ℕ) (op : Op) where
  same_test : (x : UpdateRead) → (is_read_of u (file_of op) x ≡ true → covers u op x ≡ true) → is_read_of u (file_of op) x ≡ covers u op x
  same_test x all =
      elim (cases_Bool (is_read_of u (file_of op) x)) [
        | inl own ↦ own ∙ sym (all own)
        | inr other ↦ other ∙ sym (false_from_ne_true _ (λ c. true≢false (sym (covers-own u op x c) ∙ other)))
      ]

  same_rest : (xs : List UpdateRead) → OnEach (λ x. is_read_of u (file_of op) x ≡ true → covers u op x ≡ true) xs →
      filter (λ x. not (is_read_of u (file_of op) x)) xs ≡ filter (λ x. not (covers u op x)) xs
  same_rest [] each = refl
  same_rest (x ∷ xs) each = λ i. if not (same_test x each.0 i) then x ∷ same_rest xs each.1 i else same_rest xs each.1 i

  pub covered_rest : (reads : List UpdateRead) → AreOnce reads → list_any (covers u op) reads ≡ true →
      filter (λ x. not (is_read_of u (file_of op) x)) reads ≡ filter (λ x. not (covers u op x)) reads
  covered_rest reads once some =
      let key = covered_key u op reads once some in
      same_rest reads (OnEach-map (λ x. is_read_of u (file_of op) x ≡ true → (is_read_of u (file_of op) x && is_same x.key key) ≡ true)
      (λ x. is_read_of u (file_of op) x ≡ true → covers u op x ≡ true) (λ x h own. covered_all u op reads once some x (h own))
      reads (read_keys reads u (file_of op) key once (covered_at u op reads once some)))
