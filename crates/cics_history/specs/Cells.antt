-- Recovery: a store as cells, the smallest parts that a command can change, and what a command does
-- to one of them.
use Rattle.std.specs.Prelude.{◌≡◌, Bool, true, false, if◌then◌else◌, ◌&&◌, Option, Some, None, List, [], ◌∷◌, ◌++◌}
use Rattle.cics_names.specs.Keyed.{Bytes, Map, value_at, is_same, is_rising}
use Rattle.cics_names.specs.declared.conditions.Condition.TheVariants.{Normal, Dsiderr, Notfnd, Duprec, Qzero, Qiderr}
use Rattle.cics_ksds.specs.Prefixes.{has_prefix}
use Rattle.cics_tempstor.specs.Queues.{item_condition, items_after_rewrite, has_item, number_if, delete_condition, items_after_write}
use Rattle.cics_tempstor.specs.Queues as ts
use Rattle.cics_history.specs.State.{OpeningState, file_recoverable, queue_logical, has_prefix_in, Store}
use Rattle.cics_history.specs.Openings.{is_in_order}
use Rattle.cics_history.specs.Store.{only, numbered, with_content, counted_answer, is_normal, ts_queue}
use Rattle.cics_history.specs.declared.ops.Op.{Op}
use Rattle.cics_history.specs.declared.ops.Op.TheVariants.{Write, Rewrite, Delete, DeleteGeneric, ReadUpdate, TsWrite, TsRewrite, TsDelete, TdWrite, TdRead, TdDelete}
use Rattle.cics_history.specs.declared.ops.Answer.{Answer}

-- a cell is a key of a file, a temporary storage queue or a transient data queue
pub data Cell : Type 0 where
  Key : (file key : Bytes) → Cell
  Ts : (queue : Bytes) → Cell
  Td : (queue : Bytes) → Cell

-- what a cell holds: `None` if its file or queue isn't defined; else a list, of a key's record or
-- of none, or of a queue's records
abbrev pub Content : Type 0
Content = Option (List Bytes)

-- a record or none, as a list
abbrev pub listed : Option Bytes → List Bytes
listed None = []
listed (Some r) = r ∷ []

-- what a key of a file holds
abbrev pub record_in : Bytes → Option (Map Bytes) → Content
record_in k None = None
record_in k (Some records) = Some (listed (value_at k records))

-- what a cell holds in a store
abbrev pub content : Store → Cell → Content
content s (Key f k) = record_in k (value_at f s.files)
content s (Ts q) = Some (ts_queue s q)
content s (Td q) = value_at q s.td

-- DELETE GENERIC acts on every key that begins with a prefix, another command on one cell
abbrev pub is_generic : Op → Bool
is_generic (DeleteGeneric f p) = true
is_generic _ = false

-- the cell that a command names; for DELETE GENERIC the prefix itself as a key
abbrev pub cell_of : Op → Cell
cell_of (Write f k r) = Key f k
cell_of (Rewrite f k r) = Key f k
cell_of (Delete f k) = Key f k
cell_of (DeleteGeneric f p) = Key f p
cell_of (ReadUpdate f k) = Key f k
cell_of (TsWrite q d) = Ts q
cell_of (TsRewrite q n d) = Ts q
cell_of (TsDelete q) = Ts q
cell_of (TdWrite q d) = Td q
cell_of (TdRead q) = Td q
cell_of (TdDelete q) = Td q

-- two are the same cell if they are of one kind and have the same names and keys
abbrev pub same_cell : Cell → Cell → Bool
same_cell (Key f k) (Key g l) = is_same f g && is_same k l
same_cell (Ts q) (Ts r) = is_same q r
same_cell (Td q) (Td r) = is_same q r
same_cell _ _ = false

-- a key of a file that begins with a prefix
abbrev pub is_under : Bytes → Bytes → Cell → Bool
is_under f p (Key g l) = is_same f g && has_prefix p l
is_under f p _ = false

-- a command acts on the cell that it names. DELETE GENERIC acts on every key of the file that
-- begins with the prefix
abbrev pub touches : Op → Cell → Bool
touches (DeleteGeneric f p) x = is_under f p x
touches op x = same_cell (cell_of op) x

-- a command's answer, and what a cell that it acts on holds from then on
pub record Effect : Type 0 where
  pub answer : Answer
  pub cell : Content

-- this answer, and this content of the cell
abbrev pub gives : Answer → Content → Effect
gives a c = record { answer = a; cell = c }

-- a command that isn't answered NORMAL leaves the cell as it was
abbrev pub effected : Answer → List Bytes → List Bytes → Effect
effected a c changed = gives a (Some (if is_normal a.condition then changed else c))

-- the answer of each command and what it leaves, by what its cell holds; for DELETE GENERIC, by
-- what one of its cells holds
abbrev pub effect : Op → Content → Effect
effect (Write f k r) None = gives (only Dsiderr) None
effect (Write f k r) (Some []) = gives (only Normal) (Some (r ∷ []))
effect (Write f k r) (Some (x ∷ xs)) = gives (only Duprec) (Some (x ∷ xs))
effect (Rewrite f k r) None = gives (only Dsiderr) None
effect (Rewrite f k r) (Some []) = gives (only Notfnd) (Some [])
effect (Rewrite f k r) (Some (x ∷ xs)) = gives (only Normal) (Some (r ∷ []))
effect (Delete f k) None = gives (only Dsiderr) None
effect (Delete f k) (Some []) = gives (only Notfnd) (Some [])
effect (Delete f k) (Some (x ∷ xs)) = gives (only Normal) (Some [])
effect (DeleteGeneric f p) None = gives (only Dsiderr) None
effect (DeleteGeneric f p) (Some c) = gives (counted_answer c) (Some [])
effect (ReadUpdate f k) None = gives (only Dsiderr) None
effect (ReadUpdate f k) (Some []) = gives (only Notfnd) (Some [])
effect (ReadUpdate f k) (Some (x ∷ xs)) = gives (with_content Normal (Some x)) (Some (x ∷ xs))
effect (TsWrite q d) None = gives (only Qiderr) None
effect (TsWrite q d) (Some c) =
    effected (numbered (ts.write_condition c) (ts.write_number c)) c (items_after_write c d)
effect (TsRewrite q n d) None = gives (only Qiderr) None
effect (TsRewrite q n d) (Some c) =
    effected (numbered (item_condition c n) (number_if (has_item c n) n)) c (items_after_rewrite c n d)
effect (TsDelete q) None = gives (only Qiderr) None
effect (TsDelete q) (Some c) = effected (only (delete_condition c)) c []
effect (TdWrite q d) None = gives (only Qiderr) None
effect (TdWrite q d) (Some c) = gives (only Normal) (Some (c ++ d ∷ []))
effect (TdRead q) None = gives (only Qiderr) None
effect (TdRead q) (Some []) = gives (only Qzero) (Some [])
effect (TdRead q) (Some (x ∷ xs)) = gives (with_content Normal (Some x)) (Some xs)
effect (TdDelete q) None = gives (only Qiderr) None
effect (TdDelete q) (Some c) = gives (only Normal) (Some [])

-- the two ends of a cell: a transient data queue is read at one and written at the other. A key and
-- a temporary storage queue are used whole, which is both ends
pub data End : Type 0 where
  Reading Writing : End

-- a write of a transient data queue doesn't use the reading end, a read doesn't use the writing end
abbrev pub uses : Op → End → Bool
uses (TdWrite q d) Reading = false
uses (TdRead q) Writing = false
uses _ _ = true

-- a cell is recoverable if its file or queue is
abbrev pub recovers : OpeningState → Cell → Bool
recovers o (Key f k) = file_recoverable o f
recovers o (Ts q) = has_prefix_in o.prefixes q
recovers o (Td q) = queue_logical o q

-- the keys of each file rise
abbrev pub IsOrdered : Store → Type 0
IsOrdered s = (f : Bytes) → is_in_order (value_at f s.files) ≡ true

-- a store is in order if names and keys rise, and no temporary storage queue is without an item
pub record IsCanonical (s : Store) : Type 0 where
  pub files : is_rising s.files ≡ true
  pub records : IsOrdered s
  pub ts : is_rising s.ts ≡ true
  pub there : (q : Bytes) → value_at q s.ts ≡ Some [] → ⊥
  pub td : is_rising s.td ≡ true
