-- How an entry of the history lies in memory: packed, or apart as it was given. A packed one has
-- its kind with the name, one text, and one number.
use Rattle.std.specs.Prelude.{◌≡◌, ℕ, ◌+◌, ◌≤◌, Option, None, Some, IfSome, length, take, drop}
use Rattle.std.specs.Bool.{then_some}
use Rattle.cics_names.specs.Keyed.{Bytes}
use Rattle.cics_history.specs.declared.packing.EntryForm.{EntryForm}
use Rattle.cics_history.specs.declared.packing.EntryForm.TheVariants.{Packed, Apart}
use Rattle.cics_history.specs.declared.packing.OpKind.{OpKind}
use Rattle.cics_history.specs.declared.packing.OpKind.TheVariants as kind
use Rattle.cics_history.specs.declared.ops.Answer.{Answer}
use Rattle.cics_history.specs.declared.ops.Op.{Op}
use Rattle.cics_history.specs.declared.ops.Op.TheVariants.{Write, Rewrite, Delete, DeleteGeneric, ReadUpdate, TsWrite, TsRewrite, TsDelete, TdWrite, TdRead, TdDelete}

-- the command of a kind, with this key in its record, this text, and this number
abbrev pub op_of : OpKind → (key text : Bytes) → ℕ → Op
op_of (kind.Write f) key text n = Write f key text
op_of (kind.Rewrite f) key text n = Rewrite f key text
op_of (kind.Delete f) key text n = Delete f text
op_of (kind.DeleteGeneric f) key text n = DeleteGeneric f text
op_of (kind.ReadUpdate f) key text n = ReadUpdate f key
op_of (kind.TsWrite q) key text n = TsWrite q text
op_of (kind.TsRewrite q) key text n = TsRewrite q n text
op_of (kind.TsDelete q) key text n = TsDelete q
op_of (kind.TdWrite q) key text n = TdWrite q text
op_of (kind.TdRead q) key text n = TdRead q
op_of (kind.TdDelete q) key text n = TdDelete q

-- the command of an entry
abbrev pub op_in : EntryForm → Op
op_in (Packed kind condition is_given is_numbered key_length number text) =
    op_of kind (take key_length (drop number text)) text number
op_in (Apart apart) = apart.value.op

-- the answer of an entry
abbrev pub answer_in : EntryForm → Answer
answer_in (Packed kind condition is_given is_numbered key_length number text) = record {
  condition = condition;
  content = then_some is_given text;
  number = then_some is_numbered number;
}
answer_in (Apart apart) = apart.value.answer

-- a key lies in a record: it is as many bytes of it, from some place on
pub record LiesIn (key record_bytes : Bytes) : Type 0 where
  pub at : ℕ
  pub within : at + length key ≤ length record_bytes
  pub same : take (length key) (drop at record_bytes) ≡ key

-- a command and its answer that one text and one number can tell: a key lies in the record beside
-- it, and of the answer there is no other record and no other number
abbrev pub IsPackable : Op → Option Bytes → Option ℕ → Type 0
IsPackable (Write f k r) content n = LiesIn k r × (content ≡ None) × (n ≡ None)
IsPackable (Rewrite f k r) content n = LiesIn k r × (content ≡ None) × (n ≡ None)
IsPackable (ReadUpdate f k) content n = IfSome content (LiesIn k) × (n ≡ None)
IsPackable (TsRewrite q m d) content n = (content ≡ None) × IfSome n (λ x. m ≡ x)
IsPackable (TdRead q) content n = Unit {0}
IsPackable op content n = content ≡ None

-- behind so many bytes of a record its key begins, which has at most 255
abbrev pub IsAt : ℕ → (key record_bytes : Bytes) → Type 0
IsAt n key record_bytes = (take (length key) (drop n record_bytes) ≡ key) × (length key ≤ 255)

-- This number tells the place of the key or the item of a command. No record of an answer stands
-- beside the command's own text.
abbrev pub IsTold : Op → Option Bytes → ℕ → Type 0
IsTold (Write f k r) content n = IsAt n k r × (content ≡ None)
IsTold (Rewrite f k r) content n = IsAt n k r × (content ≡ None)
IsTold (ReadUpdate f k) None n = IsAt n k k
IsTold (ReadUpdate f k) (Some r) n = IsAt n k r
IsTold (TsRewrite q m d) content n = (n ≡ m) × (content ≡ None)
IsTold (TsDelete q) content n = Unit {0}
IsTold (TdRead q) content n = Unit {0}
IsTold (TdDelete q) content n = Unit {0}
IsTold op content n = content ≡ None
