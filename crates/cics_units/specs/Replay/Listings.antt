-- Listings: the content of the files and queues, each in the order of the names.
use Rattle.std.specs.Prelude.{Bool, List, [], map}
use Rattle.cics_names.specs.Keyed.{Bytes, Map, value_at}
use Rattle.cics_ksds.specs.Files.{records_of}
use Rattle.cics_transdata.specs.declared.queues.Recovery.{Recovery}
use Rattle.cics_history.specs.State.{OpeningState, file_recoverable, has_prefix_in, Store, initial_store}
use Rattle.cics_history.specs.Headline.{kept, replay}
use Rattle.cics_history.specs.declared.ops.Entry.{Entry}
use Rattle.cics_history.specs.declared.ops.UnitState.{UnitState}
use Rattle.cics_units.specs.Opening.Definitions.{recovery_in}
use Rattle.cics_units.specs.declared.replay.listings.Listing.{Listing}

-- the listing of files: each with its name, whether it is recoverable, and its records in key order
abbrev pub listed_files : OpeningState → Map (Map Bytes) → List (Bytes × Bool × List Bytes)
listed_files o files = map (λ e. (e.0, file_recoverable o e.0, records_of e.1)) files

-- the listing of temporary storage queues: each with its name, whether it is recoverable, and its
-- items
abbrev pub listed_ts : OpeningState → Map (List Bytes) → List (Bytes × Bool × List Bytes)
listed_ts o ts = map (λ e. (e.0, has_prefix_in o.prefixes e.0, e.1)) ts

-- the listing of transient data queues: each with its name, its recovery, and its records
abbrev pub listed_td : OpeningState → Map (List Bytes) → List (Bytes × Recovery × List Bytes)
listed_td o td = map (λ e. (e.0, recovery_in (value_at e.0 o.queues), e.1)) td

-- the listing of a store, without a task. It has each defined file with its records in key order,
-- and each temporary storage queue with its items. It has each defined transient data queue with
-- its records
abbrev pub listing_of : OpeningState → Store → Listing
listing_of o s = record { files = listed_files o s.files; ts = listed_ts o s.ts; td = listed_td o s.td; tasks = [] }

-- the listing that a history gives: what was loaded, changed by each surviving entry, in order of
-- execution
abbrev pub replayed_listing : OpeningState → List Entry → List UnitState → Listing
replayed_listing o trace outcomes = listing_of o (replay (initial_store o) (kept o trace outcomes))
