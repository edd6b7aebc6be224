-- While no unit owns a prefix of keys, only equal resources conflict.
use Rattle.std.proofs.Common.{◌≡◌, ℕ, Bool, true, false, ◌&&◌, not, List, [], ◌∷◌, refl, ◌∙◌}
use Rattle.std.specs.Prelude.{if◌then◌else◌, ◌==◌}
use Rattle.std.specs.List.{list_any}
use Rattle.std.proofs.lemmas.Bool.{true≢false, and_right, or_from}
use Rattle.std.proofs.lemmas.List.Folds.{list_any-append}
use Rattle.arrayvec.specs.ArrayVec.{ArrayVec}
use Rattle.cics_names.specs.Keyed.{Bytes}
use Rattle.cics_history.specs.Resources.{bytes_of, is_one, is_user}
use Rattle.cics_history.specs.declared.resources.Resource.{Resource}
use Rattle.cics_history.specs.declared.resources.Resource.TheVariants.{TsQueue, TdRead as ReadingEnd, TdWrite as WritingEnd, User, FilePrefix}
use Rattle.cics_history.specs.State.{OpeningState, file_recoverable, queue_logical, has_prefix_in, UpdateRead, EnqCount}
use Rattle.cics_history.specs.Store.{is_normal, is_recoverable}
use Rattle.cics_history.specs.Holding.{uses_of}
use Rattle.cics_units.specs.TableInPlace.{record_of, value_of}
use Rattle.cics_history.specs.declared.ops.Op.{Op}
use Rattle.cics_history.specs.declared.ops.Op.TheVariants.{Write, Rewrite, Delete, DeleteGeneric, ReadUpdate, TsWrite, TsRewrite, TsDelete, TdWrite, TdRead, TdDelete}
use Rattle.cics_history.specs.declared.ops.Entry.{Entry}
use Rattle.cics_units.proofs.HeldReads.{any_if_one}
use Rattle.cics_units.proofs.HeldSums.{in_entries, in_reads, in_counts}

-- a resource that is no record, no queue, no end of a queue and no prefix
module _ (o : OpeningState) (n : ℕ) (r : Resource) (key : (f k : Bytes) → is_one r (record_of f k) ≡ false) (queue : (q : Bytes) → is_one r (TsQueue q) ≡ false)
    (reading : (q : Bytes) → is_one r (ReadingEnd q) ≡ false) (writing : (q : Bytes) → is_one r (WritingEnd q) ≡ false)
    (prefix : (f : Bytes) (p : ArrayVec ℕ) → is_one r (FilePrefix f p) ≡ false) where
  -- no command uses it
  pub in_entries-apart : (es : List Entry) → in_entries o n (is_one r) es ≡ false
  in_entries-apart [] = refl
  in_entries-apart (e ∷ es) =
      or_from _ _ (ap_if ((e.unit == n) && (is_normal e.answer.condition && is_recoverable o e.op)) (uses_none e.op)) (in_entries-apart es)
    where
      ap_if : (b : Bool) → list_any (is_one r) (uses_of o e.op) ≡ false →
          list_any (is_one r) (if b then uses_of o e.op else []) ≡ false
      ap_if true none = none
      ap_if false none = refl

      named : (b : Bool) (q : Resource) → is_one r q ≡ false → list_any (is_one r) (if b then q ∷ [] else []) ≡ false
      named b q apart = any_if_one (is_one r) b q ∙ and_right b (is_one r q) apart

      alone : (q : Resource) → is_one r q ≡ false → list_any (is_one r) (q ∷ []) ≡ false
      alone q apart = or_from _ _ apart refl

      uses_none : (op : Op) → list_any (is_one r) (uses_of o op) ≡ false
      uses_none (Write f k d) = alone (record_of f k) (key f k)
      uses_none (Rewrite f k d) = alone (record_of f k) (key f k)
      uses_none (Delete f k) = alone (record_of f k) (key f k)
      uses_none (DeleteGeneric f p) = alone (FilePrefix f (bytes_of p)) (prefix f (bytes_of p))
      uses_none (ReadUpdate f k) = alone (record_of f k) (key f k)
      uses_none (TsWrite q d) = named (has_prefix_in o.prefixes q) (TsQueue q) (queue q)
      uses_none (TsRewrite q m d) = named (has_prefix_in o.prefixes q) (TsQueue q) (queue q)
      uses_none (TsDelete q) = named (has_prefix_in o.prefixes q) (TsQueue q) (queue q)
      uses_none (TdWrite q d) = named (queue_logical o q) (WritingEnd q) (writing q)
      uses_none (TdRead q) = named (queue_logical o q) (ReadingEnd q) (reading q)
      uses_none (TdDelete q) =
          list_any-append (is_one r) (if queue_logical o q then ReadingEnd q ∷ [] else []) (if queue_logical o q then WritingEnd q ∷ [] else [])
          ∙ or_from _ _ (named (queue_logical o q) (ReadingEnd q) (reading q)) (named (queue_logical o q) (WritingEnd q) (writing q))

  -- and no update read holds it
  pub in_reads-apart : (xs : List UpdateRead) → in_reads o n (is_one r) xs ≡ false
  in_reads-apart [] = refl
  in_reads-apart (x ∷ xs) =
      or_from _ _ (any_if_one (is_one r) ((x.unit == n) && not (file_recoverable o x.file)) (record_of x.file x.key)
      ∙ and_right ((x.unit == n) && not (file_recoverable o x.file)) (is_one r (record_of x.file x.key)) (key x.file x.key)) (in_reads-apart xs)

-- what isn't a value isn't one
pub not_value : (r : Resource) (v : Bytes) → is_user r ≡ false → is_one r (value_of v) ≡ false
not_value (User w) v other = absurd (true≢false other)
not_value _ v other = refl

pub in_counts-other : (o : OpeningState) (n : ℕ) (r : Resource) → is_user r ≡ false → (cs : List EnqCount) → in_counts o n (is_one r) cs ≡ false
in_counts-other o n r other [] = refl
in_counts-other o n r other (c ∷ cs) =
    or_from _ _ (any_if_one (is_one r) (c.unit == n) (value_of c.value) ∙ and_right (c.unit == n) (is_one r (value_of c.value)) (not_value r c.value other))
    (in_counts-other o n r other cs)
