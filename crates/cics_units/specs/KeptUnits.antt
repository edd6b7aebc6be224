-- Recovery: the invariant that ties the state of the units to all that they have changed in place.
use Rattle.std.specs.Prelude.{◌≡◌, ℕ, ◌≤◌, option_map, length, List, []}
use Rattle.cics_names.specs.Keyed.{Bytes, value_at}
use Rattle.cics_enqueue.specs.Table.{Table}
use Rattle.cics_tempstor.specs.Queues.{places_of}
use Rattle.cics_tempstor.specs.Places.{AreInOrder}
use Rattle.cics_history.specs.State.{OpeningState, UnitsState}
use Rattle.cics_history.specs.Openings.{IsOpeningInOrder, HasLawfulKeys}
use Rattle.cics_history.specs.Cells.{IsCanonical}
use Rattle.cics_history.specs.Isolation.{IsSound}
use Rattle.cics_history.specs.Serial.{IsInOrder}
use Rattle.cics_units.specs.Opening.RegionFiles.{opened_files}
use Rattle.cics_units.specs.Opening.RegionQueues.{opened_queues}
use Rattle.cics_units.specs.Opening.FilesImages.{definitions_of}
use Rattle.cics_units.specs.ImageRows.{AreHeldForImages}
use Rattle.cics_units.specs.StoreInPlace.{AreInPlace}
use Rattle.cics_units.specs.Opening.StoreMatching.{StoreValue, StoreWithImages, shown_store, any_holds, cell_of_any}
use Rattle.cics_units.specs.TableInPlace.{counts_in, IsTableOf}
use Rattle.cics_units.specs.Parts.{CoreValue}
use Rattle.cics_history.specs.declared.ops.Entry.{Entry}
use Rattle.cics_history.specs.declared.ops.UnitState.{UnitState}

-- the state of the units, as their parts show it; only a queue that is there has a NEXT cursor
-- other than 0
abbrev pub state_shown : OpeningState → List Entry → List UnitState → List ℕ → CoreValue → UnitsState
state_shown opening trace outcomes commits parts = record {
  opening = opening;
  trace = trace;
  outcomes = outcomes;
  commits = commits;
  reads = parts.reads;
  counts = counts_in parts.table;
  next = places_of parts.stores.store.temp_storage;
}

-- the initial store of a region: its files and queues as they were loaded, and no temporary storage
-- queue
abbrev pub opened_store : OpeningState → StoreValue
opened_store o = record { files = opened_files o.files; temp_storage = []; trans_data = opened_queues o.queues }

-- what was defined is there as it was defined: each file with its definition, each transient data
-- queue with its recovery
pub record AreAsDefined (o : OpeningState) (store : StoreValue) : Type 0 where
  pub files : (f : Bytes) → definitions_of store.files f ≡ option_map (λ file. file.definition) (value_at f o.files)
  pub queues : (q : Bytes) → option_map (λ t. t.kind) (value_at q store.trans_data) ≡ option_map (λ queue. queue.recovery) (value_at q o.queues)

-- the invariant of `Units`: it ties files and queues in place, images and the table of enqueues to
-- the history. Waiting rests on `table` and a backout on `place`. The headline rests on `sound`,
-- `order`, `canonical` and `place`
pub record AreValid (s : UnitsState) (stores : StoreWithImages) (t : Table) : Type 0 where
  pub in_order : IsOpeningInOrder s.opening
  pub lawful_keys : HasLawfulKeys s.opening
  -- open units are isolated, and each resource has one owner; committed units are in commit order
  pub sound : IsSound s
  pub order : IsInOrder s
  pub canonical : IsCanonical (shown_store stores.store)
  -- files and queues hold what the history gives; an open unit's images lead back to what it gives
  -- without that unit
  pub place : AreInPlace s stores.store stores.images
  pub defined : AreAsDefined s.opening stores.store
  -- the rows of temporary storage are in order, and have the NEXT cursors
  pub rows : AreInOrder stores.store.temp_storage
  pub places : s.next ≡ places_of stores.store.temp_storage
  -- the table has what the history says that the units own, and nothing else
  pub table : IsTableOf s t
  -- an empty slot, and an empty row, belong to an image of an open unit
  pub held : AreHeldForImages any_holds cell_of_any stores.store stores.images
  -- each unit has a list of images
  pub begun : length s.outcomes ≤ length stores.images
