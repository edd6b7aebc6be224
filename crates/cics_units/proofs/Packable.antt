-- A command that was executed can be packed with its answer. The key of a record lies in it, and READ UPDATE and READQ TD
-- alone are answered with a record.
use Rattle.std.proofs.Common.{◌≡◌, ◌+◌, Bool, true, false, Option, Some, None, [], ◌∷◌, length, take, drop, refl, ap, sym, subst, arith}
use Rattle.std.specs.Prelude.{IfSome, IsTrue, All, cond, if◌then◌else◌, nat_le}
use Rattle.std.proofs.lemmas.Bool.{and_parts, leb-true}
use Rattle.std.proofs.lemmas.List.{length-take-le, length-drop}
use Rattle.std.proofs.lemmas.List.Elements.{All-head, All-tail}
use Rattle.cics_names.specs.Keyed.{Bytes, Map, is_same, value_at}
use Rattle.cics_names.specs.KeyedLaws.{is_same-eq}
use Rattle.cics_ksds.specs.Files.{FileValue, key_of, fits_file, IsContent}
use Rattle.cics_ksds.specs.declared.definition.FileDef.{FileDef}
use Rattle.cics_history.specs.Packed.{LiesIn, IsPackable}
use Rattle.cics_history.specs.Store.{apply, apply_write, apply_rewrite, has_item, ts_queue}
use Rattle.cics_history.specs.declared.ops.Op.{Op}
use Rattle.cics_history.specs.declared.ops.Op.TheVariants.{Write, Rewrite, Delete, DeleteGeneric, ReadUpdate, TsWrite, TsRewrite, TsDelete, TdWrite, TdRead, TdDelete}
use Rattle.cics_units.specs.Applied.{IsBound}
use Rattle.cics_units.specs.Parts.{IsFitOp, IsRecordOf, given_record}
use Rattle.cics_units.specs.Opening.StoreMatching.{StoreValue, shown_store}
use Rattle.cics_units.proofs.FileChanges.{read_answer}

-- the key of a record that fits lies in it
key_lies : (d : FileDef) (r : Bytes) → IsTrue (fits_file d r) → LiesIn (key_of d r) r
key_lies d r fits =
    let reach = leb-true (d.key_offset + d.key_length) (length r) (and_parts (nat_le (d.key_offset + d.key_length) (length r)) _ fits).0 in
    let long : length (key_of d r) ≡ d.key_length = length-take-le d.key_length (drop d.key_offset r) (omega (arith, reach, length-drop d.key_offset r)) in
    record {
      at = d.key_offset;
      within = omega (arith, long, reach);
      same = ap (λ n. take n (drop d.key_offset r)) long;
    }

-- so does the key of a record that is written
written_lies : (f : Option FileValue) (k r : Bytes) → IsRecordOf f k r → LiesIn k r
written_lies None k r is = absurd is
written_lies (Some f) k r is = subst (λ x. LiesIn x r) is.1 (key_lies f.definition r is.0)

-- what holds of each entry of a map holds of the one that is found under a key
found_all : {X : Type 0} (P : Bytes → X → Type 0) (k : Bytes) (m : Map X) → All (λ e. P e.0 e.1) m → IfSome (value_at k m) (P k)
found_all P k [] all = tt
found_all P k (e ∷ m) all =
    elim (is_same k e.0) as (λ b. is_same k e.0 ≡ b → IfSome (cond b (Some e.1) (value_at k m)) (P k)) [
      | true ↦ λ is. subst (λ x. P x e.1) (sym (is_same-eq k e.0 is)) (All-head (λ e. P e.0 e.1) e m all)
      | false ↦ λ is. found_all P k m (All-tail (λ e. P e.0 e.1) e m all)
    ] refl

-- and that of a record that is found
found_lies : (f : FileValue) (k : Bytes) → IsContent f.definition f.records → IfSome (value_at k f.records) (LiesIn k)
found_lies f k content = by (value_at k f.records) (found_all (λ l r. (l ≡ key_of f.definition r) × IsTrue (fits_file f.definition r)) k f.records content.keyed)
  where
    by : (o : Option Bytes) → IfSome o (λ r. (k ≡ key_of f.definition r) × IsTrue (fits_file f.definition r)) → IfSome o (LiesIn k)
    by None is = tt
    by (Some r) is = subst (λ x. LiesIn x r) (sym is.0) (key_lies f.definition r is.1)

-- a command, the record that it is given, and the number of the answer that it has in the store
pub packable : (s : StoreValue) (own : Bool) (op : Op) (recovers : Bool) → IsFitOp s op → IsBound s op recovers →
    IsPackable op (given_record s own op) (apply (shown_store s) op).answer.number
packable s own (Write f k r) recovers fit bound = (
  written_lies (value_at f s.files) k r fit,
  refl,
  elim (value_at f (shown_store s).files) as (λ o. (apply_write (shown_store s) f k r o).answer.number ≡ None) [ None ↦ refl | Some records ↦ refl ],
)
packable s own (Rewrite f k r) recovers fit bound = (
  written_lies (value_at f s.files) k r fit,
  refl,
  elim (value_at f (shown_store s).files) as (λ o. (apply_rewrite (shown_store s) f k r o).answer.number ≡ None) [ None ↦ refl | Some records ↦ refl ],
)
packable s own (Delete f k) recovers fit bound = refl
packable s own (DeleteGeneric f p) recovers fit bound = refl
packable s own (ReadUpdate f k) recovers fit bound =
    let read = read_answer s f bound.file bound.there k in (
      subst (λ a. IfSome a.content (LiesIn k)) (sym read) (found_lies bound.file k bound.content),
      ap (λ a. a.number) read,
    )
packable s own (TsWrite q d) recovers fit bound = refl
packable s own (TsRewrite q n d) recovers fit bound = (
  refl,
  elim (has_item (ts_queue (shown_store s) q) n) as (λ b. IfSome (if b then Some n else None) (λ x. n ≡ x)) [ true ↦ refl | false ↦ tt ],
)
packable s own (TsDelete q) recovers fit bound = refl
packable s own (TdWrite q d) recovers fit bound = refl
packable s own (TdRead q) recovers fit bound = tt
packable s own (TdDelete q) recovers fit bound = refl
