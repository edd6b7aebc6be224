-- Temporary storage (chapter on temporary storage control). A queue is a list of items, numbered
-- from 1, and a queue without an item isn't there. Each queue has a NEXT cursor, the number of the
-- item that was read last. A row is what a name has: the items of its queue and its NEXT cursor. A
-- row without an item is empty.
use Rattle.std.specs.Prelude.{ℕ, ◌+◌, ◌-◌, Bool, true, false, ◌&&◌, if◌then◌else◌, Option, Some, None, unwrap_or, nat_lt, nat_le, List, [], ◌∷◌, ◌++◌, length, slice_get, slice_set}
use Rattle.cics_names.specs.Keyed.{Bytes, Map, value_at, with_value, without}
use Rattle.cics_names.specs.declared.conditions.Condition.{Condition}
use Rattle.cics_names.specs.declared.conditions.Condition.TheVariants.{Normal, Itemerr, Qiderr}
use Rattle.cics_tempstor.specs.declared.answers.TsRead.{TsRead}
use Rattle.cics_tempstor.specs.declared.queue_rows.Row.{Row}

-- the most items that a queue can have
abbrev pub most_items : ℕ
most_items = 32767

-- a queue is its items, the oldest first
abbrev pub Queue : Type 0
Queue = List Bytes

-- a queue is there if it has an item
abbrev pub is_there : Queue → Bool
is_there [] = false
is_there (x ∷ xs) = true

-- a row without an item, its NEXT cursor 0
abbrev pub empty_row : Row
empty_row = record { items = []; next = 0 }

-- the row of a name, an empty one if it has none
abbrev pub row_at : Bytes → Map Row → Row
row_at q rows = unwrap_or (value_at q rows) empty_row

-- the queue of a name, without an item if it is absent
abbrev pub queue_at : Bytes → Map Row → Queue
queue_at q rows = (row_at q rows).items

-- the queues that are there, by name
abbrev pub queues_of : Map Row → Map Queue
queues_of [] = []
queues_of (e ∷ es) = if is_there e.1.items then (e.0, e.1.items) ∷ queues_of es else queues_of es

-- the NEXT cursor of a row reads as 0 if its queue is absent
abbrev pub place_of : Row → ℕ
place_of row = if is_there row.items then row.next else 0

-- the NEXT cursor of a name
abbrev pub next_place : Bytes → Map Row → ℕ
next_place q rows = place_of (row_at q rows)

-- the NEXT cursors that aren't 0, by name
abbrev pub places_of : Map Row → Map ℕ
places_of [] = []
places_of (e ∷ es) = if nat_lt 0 (place_of e.1) then (e.0, place_of e.1) ∷ places_of es else places_of es

-- WRITEQ TS is answered ITEMERR if the queue is full
abbrev pub write_condition : Queue → Condition
write_condition items = if nat_lt (length items) most_items then Normal else Itemerr

-- WRITEQ TS is answered the number of the new item
abbrev pub write_number : Queue → Option ℕ
write_number items = if nat_lt (length items) most_items then Some (length items + 1) else None

-- WRITEQ TS adds its item last, and so makes a queue that was absent
abbrev pub items_after_write : Queue → Bytes → Queue
items_after_write items d = if nat_lt (length items) most_items then items ++ d ∷ [] else items

-- a queue has the items 1 to its length
abbrev pub has_item : Queue → ℕ → Bool
has_item items n = nat_lt 0 n && nat_le n (length items)

-- READQ TS and WRITEQ TS REWRITE of an item: an absent queue is QIDERR, an item that the queue
-- doesn't have is ITEMERR
abbrev pub item_condition : Queue → ℕ → Condition
item_condition items n = if has_item items n then Normal else if is_there items then Itemerr else Qiderr

-- WRITEQ TS REWRITE replaces the item by its record
abbrev pub items_after_rewrite : Queue → ℕ → Bytes → Queue
items_after_rewrite items n d = if has_item items n then slice_set items (n - 1) d else items

-- the answer has the number of an item only if the item is there
abbrev pub number_if : Bool → ℕ → Option ℕ
number_if there n = if there then Some n else None

-- DELETEQ TS of an absent queue is QIDERR
abbrev pub delete_condition : Queue → Condition
delete_condition items = if is_there items then Normal else Qiderr

-- a row after WRITEQ TS: the write that makes a queue sets its NEXT cursor to 0, another leaves it
abbrev pub row_written : Row → Bytes → Row
row_written row d =
    if nat_lt (length row.items) most_items then record { items = row.items ++ d ∷ []; next = place_of row } else row

-- the rows after WRITEQ TS
abbrev pub ts_written : Map Row → Bytes → Bytes → Map Row
ts_written rows q d =
    if nat_lt (length (queue_at q rows)) most_items then with_value q (row_written (row_at q rows) d) rows else rows

-- a row after WRITEQ TS REWRITE: the NEXT cursor stays
abbrev pub row_rewritten : Row → ℕ → Bytes → Row
row_rewritten row n d =
    if has_item row.items n then record { items = slice_set row.items (n - 1) d; next = row.next } else row

-- the rows after WRITEQ TS REWRITE
abbrev pub ts_rewritten : Map Row → Bytes → ℕ → Bytes → Map Row
ts_rewritten rows q n d =
    if has_item (queue_at q rows) n then with_value q (row_rewritten (row_at q rows) n d) rows else rows

-- the rows after DELETEQ TS: all items are removed, and the NEXT cursor is 0. An empty row stays if
-- the delete may be undone
abbrev pub ts_deleted : Bool → Map Row → Bytes → Map Row
ts_deleted keep rows q =
    if is_there (queue_at q rows) then (if keep then with_value q empty_row rows else without q rows) else rows

-- the item of a number, if it is there
abbrev pub item_of : Queue → ℕ → Option Bytes
item_of items n = if has_item items n then slice_get items (n - 1) else None

-- WRITEQ TS REWRITE is answered the number of its item
abbrev pub rewrite_number : Queue → ℕ → Option ℕ
rewrite_number items n = number_if (has_item items n) n

-- READQ TS ITEM(n) is answered the item n
abbrev pub row_answer : Queue → ℕ → TsRead
row_answer items n =
    record {
      condition = item_condition items n;
      number = number_if (has_item items n) n;
      content = item_of items n;
    }

-- READQ TS ITEM(n)
abbrev pub read_item : Map Row → Bytes → ℕ → TsRead
read_item rows q n = row_answer (queue_at q rows) n

-- READQ TS NEXT reads the item after the NEXT cursor
abbrev pub read_next : Map Row → Bytes → TsRead
read_next rows q = read_item rows q (next_place q rows + 1)

-- a row after a READQ TS, which sets the NEXT cursor to the number of the item that was read
abbrev pub row_read : Row → ℕ → Row
row_read row n = if has_item row.items n then record { items = row.items; next = n } else row

-- the rows after a READQ TS
abbrev pub after_read_item : Map Row → Bytes → ℕ → Map Row
after_read_item rows q n =
    if has_item (queue_at q rows) n then with_value q (row_read (row_at q rows) n) rows else rows

-- the rows after READQ TS NEXT
abbrev pub after_read_next : Map Row → Bytes → Map Row
after_read_next rows q = after_read_item rows q (next_place q rows + 1)

-- the row of an absent queue goes
abbrev pub ts_swept : Map Row → Bytes → Map Row
ts_swept rows q = if is_there (queue_at q rows) then rows else without q rows
