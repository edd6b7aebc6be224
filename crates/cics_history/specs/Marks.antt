-- Recovery, transient data: a LOGICAL queue in place. What an open unit wrote or read stays in the
-- queue, marked, until the unit ends.
use Rattle.std.specs.Prelude.{ℕ, ◌+◌, ◌-◌, Bool, true, false, if◌then◌else◌, unwrap_or, List, [], ◌∷◌, ◌++◌, length, take, drop}
use Rattle.cics_names.specs.Keyed.{Bytes, value_at}
use Rattle.cics_transdata.specs.Trans.{TransState}
use Rattle.cics_history.specs.State.{OpeningState, initial_store, UnitsState}
use Rattle.cics_history.specs.Holding.{is_nothing}
use Rattle.cics_history.specs.declared.ops.Op.{Op}
use Rattle.cics_history.specs.declared.ops.Op.TheVariants.{TdWrite, TdRead, TdDelete}
use Rattle.cics_history.specs.Cells.{Td, touches, Reading, Writing}
use Rattle.cics_history.specs.Isolation.{used}

-- a queue in place: the records that no open unit wrote, and behind them those that one wrote. Also
-- how many at the front an open unit has read
pub record MarkedQueue : Type 0 where
  pub settled : List Bytes
  pub fresh : List Bytes
  pub taken : ℕ

-- the queue's records, if its reader and its writer are backed out or not
abbrev pub seen : (reader_gone writer_gone : Bool) → MarkedQueue → List Bytes
seen reader_gone writer_gone m =
    drop (if reader_gone then 0 else m.taken) (m.settled ++ (if writer_gone then [] else m.fresh))

-- the queue's records as they are now: all that are in place but those marked as read
abbrev pub shown : MarkedQueue → List Bytes
shown m = seen false false m

-- a write marks its record as written. A read marks the first record as read, a delete marks all
-- records as read
abbrev pub marked : Op → MarkedQueue → MarkedQueue
marked (TdWrite q d) m = record m { fresh = m.fresh ++ d ∷ [] }
marked (TdRead q) m = if is_nothing (shown m) then m else record m { taken = m.taken + 1 }
marked (TdDelete q) m = record m { taken = length (m.settled ++ m.fresh) }
marked _ m = m

-- the unit at the writing end commits: no record is marked as written
abbrev pub writer_settled : Bool → MarkedQueue → MarkedQueue
writer_settled false m = m
writer_settled true m = record { settled = m.settled ++ m.fresh; fresh = []; taken = m.taken }

-- the unit at the reading end commits: the records marked as read are removed
abbrev pub reader_settled : Bool → MarkedQueue → MarkedQueue
reader_settled false m = m
reader_settled true m = record { settled = drop m.taken m.settled; fresh = m.fresh; taken = 0 }

-- the unit at the reading end is backed out: the records marked as read are back
abbrev pub reader_undone : Bool → MarkedQueue → MarkedQueue
reader_undone false m = m
reader_undone true m = record m { taken = 0 }

-- the unit at the writing end is backed out: the records marked as written are removed
abbrev pub writer_undone : Bool → MarkedQueue → MarkedQueue
writer_undone false m = m
writer_undone true m = record m { fresh = [] }

-- the commit of a unit that owns the reading end or not, and the writing end or not
abbrev pub queue_committed : (reads writes : Bool) → MarkedQueue → MarkedQueue
queue_committed reads writes m = reader_settled reads (writer_settled writes m)

-- the backout of such a unit
abbrev pub queue_backed_out : (reads writes : Bool) → MarkedQueue → MarkedQueue
queue_backed_out reads writes m = writer_undone writes (reader_undone reads m)

-- every queue in place, by its name
abbrev pub Queues : Type 0
Queues = Bytes → MarkedQueue

-- the queues as the opening has them, without a mark
abbrev pub queues_opened : OpeningState → Queues
queues_opened o q = record { settled = unwrap_or (value_at q (initial_store o).td) []; fresh = []; taken = 0 }

-- a command marks the queue that it names
abbrev pub queues_executed : Queues → Op → Queues
queues_executed queues op = λ q. if touches op (Td q) then marked op (queues q) else queues q

-- a unit's commit settles the ends that it owns
abbrev pub queues_committed : UnitsState → Queues → ℕ → Queues
queues_committed s queues u =
    λ q. queue_committed (used s.trace u (Td q) Reading) (used s.trace u (Td q) Writing) (queues q)

-- how many records in place, from the front on, no open unit wrote
abbrev pub unwritten : TransState → ℕ
unwritten s = length s.placed - s.written

-- a queue's records in place and its two counts, as a marked queue
abbrev pub marks_of : TransState → MarkedQueue
marks_of s = record { settled = take (unwritten s) s.placed; fresh = drop (unwritten s) s.placed; taken = s.read }
