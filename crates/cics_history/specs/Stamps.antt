-- The stamps of what files, queues and units of work hold. The stamp of a unit doesn't tell its
-- number, so that two units that did and own the same have the same stamp.
use Rattle.std.specs.Prelude.{ℕ, ◌==◌, filter, map, List, [], ◌++◌}
use Rattle.cics_names.specs.Keyed.{Bytes, Map}
use Rattle.cics_names.specs.Stamps.{number_stamp, text_stamp, list_stamp}
use Rattle.cics_history.specs.State.{Store, UpdateRead, EnqCount, UnitsState}
use Rattle.cics_history.specs.Serial.{done_by, store_without_others}
use Rattle.cics_history.specs.declared.ops.Op.{Op}
use Rattle.cics_history.specs.declared.ops.Op.TheVariants.{Write, Rewrite, Delete, DeleteGeneric, ReadUpdate, TsWrite, TsRewrite, TsDelete, TdWrite, TdRead, TdDelete}

-- the stamp of a command is the number of its kind, and then all that it names
unfoldable pub op_stamp : Op → List ℕ
op_stamp (Write file key from) = number_stamp 1 ++ (text_stamp file ++ (text_stamp key ++ text_stamp from))
op_stamp (Rewrite file key from) = number_stamp 2 ++ (text_stamp file ++ (text_stamp key ++ text_stamp from))
op_stamp (Delete file key) = number_stamp 3 ++ (text_stamp file ++ text_stamp key)
op_stamp (DeleteGeneric file prefix) = number_stamp 4 ++ (text_stamp file ++ text_stamp prefix)
op_stamp (ReadUpdate file key) = number_stamp 5 ++ (text_stamp file ++ text_stamp key)
op_stamp (TsWrite queue from) = number_stamp 6 ++ (text_stamp queue ++ text_stamp from)
op_stamp (TsRewrite queue item from) = number_stamp 7 ++ (text_stamp queue ++ (number_stamp item ++ text_stamp from))
op_stamp (TsDelete queue) = number_stamp 8 ++ text_stamp queue
op_stamp (TdWrite queue from) = number_stamp 9 ++ (text_stamp queue ++ text_stamp from)
op_stamp (TdRead queue) = number_stamp 10 ++ text_stamp queue
op_stamp (TdDelete queue) = number_stamp 11 ++ text_stamp queue

-- the stamp of an update read is that of its file and of its key, and not of its unit
abbrev pub read_stamp : UpdateRead → List ℕ
read_stamp r = text_stamp r.file ++ text_stamp r.key

-- the stamp of a count of ENQ is that of its value and of the count, and not of its unit
abbrev pub count_stamp : EnqCount → List ℕ
count_stamp c = text_stamp c.value ++ number_stamp c.count

-- the stamp of a NEXT cursor is that of its queue's name and of the cursor
abbrev pub place_stamp : Bytes × ℕ → List ℕ
place_stamp p = text_stamp p.0 ++ number_stamp p.1

-- the stamp of a record is that of its key and of its bytes
abbrev pub record_stamp : Bytes × Bytes → List ℕ
record_stamp r = text_stamp r.0 ++ text_stamp r.1

-- the stamp of a file is that of its name and of its records
abbrev pub file_stamp : Bytes × Map Bytes → List ℕ
file_stamp f = text_stamp f.0 ++ list_stamp record_stamp f.1

-- the stamp of a queue is that of its name and of its items
abbrev pub queue_stamp : Bytes × List Bytes → List ℕ
queue_stamp q = text_stamp q.0 ++ list_stamp text_stamp q.1

-- the stamp of a store is that of its files and of its queues of both kinds
abbrev pub store_stamp : Store → List ℕ
store_stamp s = list_stamp file_stamp s.files ++ (list_stamp queue_stamp s.ts ++ list_stamp queue_stamp s.td)

-- the stamp of a unit: what it did to recoverable files and queues, its update reads, and the
-- values that it enqueued on
unfoldable pub unit_stamp : UnitsState → ℕ → List ℕ
unit_stamp s u =
    list_stamp op_stamp (map (λ e. e.op) (done_by s.opening s.trace u))
    ++ (list_stamp read_stamp (filter (λ r. r.unit == u) s.reads)
    ++ list_stamp count_stamp (filter (λ c. c.unit == u) s.counts))

-- the stamp of what units share: the store without the open units' changes to recoverable files and
-- queues, and the NEXT cursors
unfoldable pub shared_stamp : UnitsState → List ℕ
shared_stamp s = store_stamp (store_without_others s []) ++ list_stamp place_stamp s.next
