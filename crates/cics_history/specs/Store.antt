-- Recovery (chapters on file control, temporary storage control, transient data control): each
-- updating command's answer, and the store of files and queues that it leaves.
use Rattle.std.specs.Prelude.{Bool, true, false, not, ◌&&◌, if◌then◌else◌, ℕ, ◌+◌, ◌-◌, nat_lt, nat_le, nat_eq, Option, Some, None, unwrap_or, List, [], ◌∷◌, ◌++◌, length, slice_set}
use Rattle.std.specs.List.{filter, starts_with}
use Rattle.cics_names.specs.Keyed.{Bytes, Map, value_at, has_key, with_value, without}
use Rattle.cics_names.specs.declared.conditions.Condition.{Condition}
use Rattle.cics_names.specs.declared.conditions.Condition.TheVariants.{Normal, Dsiderr, Notfnd, Duprec, Qzero, Itemerr, Qiderr}
use Rattle.cics_history.specs.State.{OpeningState, file_recoverable, queue_logical, has_prefix_in, Store}
use Rattle.cics_history.specs.declared.ops.Op.{Op}
use Rattle.cics_history.specs.declared.ops.Op.TheVariants.{Write, Rewrite, Delete, DeleteGeneric, ReadUpdate, TsWrite, TsRewrite, TsDelete, TdWrite, TdRead, TdDelete}
use Rattle.cics_history.specs.declared.ops.Answer.{Answer}

-- a command's answer, and the store that it leaves
pub record Applied : Type 0 where
  pub answer : Answer
  pub store : Store

-- an answer with a condition alone
abbrev pub only : Condition → Answer
only c = record { condition = c; content = None; number = None }

-- an answer with a number: of an item, or of records
abbrev pub numbered : Condition → Option ℕ → Answer
numbered c n = record { condition = c; content = None; number = n }

-- an answer with a record
abbrev pub with_content : Condition → Option Bytes → Answer
with_content c content = record { condition = c; content = content; number = None }

-- NORMAL is the condition of a command that did what it asks for
abbrev pub is_normal : Condition → Bool
is_normal Normal = true
is_normal _ = false

-- a command that isn't answered NORMAL leaves the store as it was
abbrev pub answered : Store → Answer → Store → Applied
answered s a changed = record { answer = a; store = if is_normal a.condition then changed else s }

-- the store with these records in a file
abbrev pub with_file : Store → Bytes → Map Bytes → Store
with_file s f records = record { files = with_value f records s.files; ts = s.ts; td = s.td }

-- the items of a temporary storage queue, none if it is absent
abbrev pub ts_queue : Store → Bytes → List Bytes
ts_queue s q = unwrap_or (value_at q s.ts) []

-- the store with these items in a temporary storage queue; a queue without an item is absent
abbrev pub with_ts : Store → Bytes → List Bytes → Store
with_ts s q [] = record { files = s.files; ts = without q s.ts; td = s.td }
with_ts s q (d ∷ ds) = record { files = s.files; ts = with_value q (d ∷ ds) s.ts; td = s.td }

-- the store with these records in a transient data queue
abbrev pub with_td : Store → Bytes → List Bytes → Store
with_td s q records = record { files = s.files; ts = s.ts; td = with_value q records s.td }

-- ---- Files

-- a record that isn't found is answered NOTFND
abbrev pub found_condition : Option Bytes → Condition
found_condition None = Notfnd
found_condition (Some r) = Normal

-- WRITE adds a record. It is answered DUPREC if the key is there, and DSIDERR if the file isn't
-- defined
abbrev pub apply_write : Store → Bytes → Bytes → Bytes → Option (Map Bytes) → Applied
apply_write s f k r None = answered s (only Dsiderr) s
apply_write s f k r (Some records) = answered s (only (if has_key k records then Duprec else Normal)) (with_file s f (if has_key k records then records else with_value k r records))

-- a key that has no record is answered NOTFND
abbrev pub change_condition : Map Bytes → Bytes → Condition
change_condition records k = if has_key k records then Normal else Notfnd

-- REWRITE replaces the record of its key
abbrev pub apply_rewrite : Store → Bytes → Bytes → Bytes → Option (Map Bytes) → Applied
apply_rewrite s f k r None = answered s (only Dsiderr) s
apply_rewrite s f k r (Some records) = answered s (only (change_condition records k)) (with_file s f (if has_key k records then with_value k r records else records))

-- DELETE removes the record of its key; an absent key is answered NOTFND
abbrev pub apply_delete : Store → Bytes → Bytes → Option (Map Bytes) → Applied
apply_delete s f k None = answered s (only Dsiderr) s
apply_delete s f k (Some records) = answered s (only (change_condition records k)) (with_file s f (without k records))

-- whether a key begins with a prefix
abbrev pub has_prefix : Bytes → Bytes → Bool
has_prefix p k = starts_with nat_eq k p

-- the number of records under a prefix, or NOTFND if there is none
abbrev pub counted_answer : {X : Type 0} → List X → Answer
counted_answer [] = only Notfnd
counted_answer (x ∷ xs) = numbered Normal (Some (length (x ∷ xs)))

-- DELETE GENERIC removes each record whose key begins with the prefix. It is answered their number,
-- or NOTFND if there is none
abbrev pub apply_delete_generic : Store → Bytes → Bytes → Option (Map Bytes) → Applied
apply_delete_generic s f p None = answered s (only Dsiderr) s
apply_delete_generic s f p (Some records) = answered s (counted_answer (filter (λ e. has_prefix p e.0) records)) (with_file s f (filter (λ e. not (has_prefix p e.0)) records))

-- READ UPDATE is answered the record of its key and changes nothing; an absent key is answered
-- NOTFND
abbrev pub apply_read : Store → Bytes → Option (Map Bytes) → Applied
apply_read s k None = answered s (only Dsiderr) s
apply_read s k (Some records) = answered s (with_content (found_condition (value_at k records)) (value_at k records)) s

-- ---- Temporary storage

-- a queue has room for one more item if it has fewer than 32,767
abbrev pub has_room : List Bytes → Bool
has_room items = nat_lt (length items) 32767

-- a queue is there if it has an item
abbrev pub is_there : List Bytes → Bool
is_there [] = false
is_there (x ∷ xs) = true

-- a queue has the items 1 to its length
abbrev pub has_item : List Bytes → ℕ → Bool
has_item items n = nat_lt 0 n && nat_le n (length items)

-- WRITEQ TS adds an item and is answered its number; a full queue is answered ITEMERR
abbrev pub apply_ts_write : Store → Bytes → Bytes → List Bytes → Applied
apply_ts_write s q d items =
    answered s (numbered (if has_room items then Normal else Itemerr) (if has_room items then Some (length items + 1) else None))
    (with_ts s q (if has_room items then items ++ d ∷ [] else items))

-- an absent queue is answered QIDERR, an absent item ITEMERR
abbrev pub item_condition : List Bytes → ℕ → Condition
item_condition items n = if has_item items n then Normal else if is_there items then Itemerr else Qiderr

-- WRITEQ TS REWRITE replaces an item and is answered its number. An absent queue is answered
-- QIDERR, an absent item ITEMERR
abbrev pub apply_ts_rewrite : Store → Bytes → ℕ → Bytes → List Bytes → Applied
apply_ts_rewrite s q n d items =
    answered s (numbered (item_condition items n) (if has_item items n then Some n else None))
    (with_ts s q (if has_item items n then slice_set items (n - 1) d else items))

-- DELETEQ TS removes the whole queue; an absent queue is answered QIDERR
abbrev pub apply_ts_delete : Store → Bytes → List Bytes → Applied
apply_ts_delete s q items = answered s (only (if is_there items then Normal else Qiderr)) (with_ts s q [])

-- ---- Transient data

-- WRITEQ TD adds a record last; a queue that isn't defined is answered QIDERR
abbrev pub apply_td_write : Store → Bytes → Bytes → Option (List Bytes) → Applied
apply_td_write s q d None = answered s (only Qiderr) s
apply_td_write s q d (Some records) = answered s (only Normal) (with_td s q (records ++ d ∷ []))

-- READQ TD is answered the first record and removes it; an empty queue is answered QZERO
abbrev pub apply_td_read : Store → Bytes → Option (List Bytes) → Applied
apply_td_read s q None = answered s (only Qiderr) s
apply_td_read s q (Some []) = answered s (only Qzero) s
apply_td_read s q (Some (d ∷ ds)) = answered s (with_content Normal (Some d)) (with_td s q ds)

-- DELETEQ TD removes all records
abbrev pub apply_td_delete : Store → Bytes → Option (List Bytes) → Applied
apply_td_delete s q None = answered s (only Qiderr) s
apply_td_delete s q (Some records) = answered s (only Normal) (with_td s q [])

-- ---- Every command

-- each updating command's answer, and the store that it leaves
abbrev pub apply : Store → Op → Applied
apply s (Write f k r) = apply_write s f k r (value_at f s.files)
apply s (Rewrite f k r) = apply_rewrite s f k r (value_at f s.files)
apply s (Delete f k) = apply_delete s f k (value_at f s.files)
apply s (DeleteGeneric f p) = apply_delete_generic s f p (value_at f s.files)
apply s (ReadUpdate f k) = apply_read s k (value_at f s.files)
apply s (TsWrite q d) = apply_ts_write s q d (ts_queue s q)
apply s (TsRewrite q n d) = apply_ts_rewrite s q n d (ts_queue s q)
apply s (TsDelete q) = apply_ts_delete s q (ts_queue s q)
apply s (TdWrite q d) = apply_td_write s q d (value_at q s.td)
apply s (TdRead q) = apply_td_read s q (value_at q s.td)
apply s (TdDelete q) = apply_td_delete s q (value_at q s.td)

-- whether the file or queue that a command acts on is recoverable
abbrev pub is_recoverable : OpeningState → Op → Bool
is_recoverable o (Write f k r) = file_recoverable o f
is_recoverable o (Rewrite f k r) = file_recoverable o f
is_recoverable o (Delete f k) = file_recoverable o f
is_recoverable o (DeleteGeneric f p) = file_recoverable o f
is_recoverable o (ReadUpdate f k) = file_recoverable o f
is_recoverable o (TsWrite q d) = has_prefix_in o.prefixes q
is_recoverable o (TsRewrite q n d) = has_prefix_in o.prefixes q
is_recoverable o (TsDelete q) = has_prefix_in o.prefixes q
is_recoverable o (TdWrite q d) = queue_logical o q
is_recoverable o (TdRead q) = queue_logical o q
is_recoverable o (TdDelete q) = queue_logical o q
