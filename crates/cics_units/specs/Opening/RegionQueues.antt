-- The transient data queues of a region, by name, and those of an opening.
use Rattle.std.specs.Prelude.{◌≡◌, T, All, ◌∷◌, [], ◌++◌, map}
use Rattle.cics_names.specs.Keyed.{Bytes, Map, is_rising}
use Rattle.cics_transdata.specs.Trans.{TransState, holding}
use Rattle.cics_history.specs.State.{QueueOpening}

-- a queue in which no unit of work has written a record, with one more record
abbrev pub loaded_with : TransState → Bytes → TransState
loaded_with q d = record { kind = q.kind; placed = q.placed ++ d ∷ []; read = q.read; written = 0 }

-- what a queue was defined with and has loaded
abbrev pub queue_opening : TransState → QueueOpening
queue_opening q = record { recovery = q.kind; records = q.placed }

-- the queues of an opening, as definitions and records
abbrev pub queue_openings : Map TransState → Map QueueOpening
queue_openings queues = map (λ e. (e.0, queue_opening e.1)) queues

-- the queue that an opening gives: it has the loaded records, and no mark
abbrev pub opened_queue : QueueOpening → TransState
opened_queue q = holding q.recovery q.records

-- the initial queues of a region
abbrev pub opened_queues : Map QueueOpening → Map TransState
opened_queues queues = map (λ e. (e.0, opened_queue e.1)) queues

-- a queue has loaded records alone: none is marked
pub record IsLoadedQueue (q : TransState) : Type 0 where
  pub read : q.read ≡ 0
  pub written : q.written ≡ 0

-- the names of an opening's queues rise, and each queue has loaded records alone
pub record AreLoadedQueues (queues : Map TransState) : Type 0 where
  pub rising : T (is_rising queues)
  pub loaded : All (λ e. IsLoadedQueue e.1) queues
