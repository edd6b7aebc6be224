-- What a call returns: the outcome of its step, or, if it may take memory, NoMemory, which changes
-- nothing. And what a region lists.
use Rattle.std.specs.Prelude.{◌≡◌, Bool, true, false, not, ◌&&◌, if◌then◌else◌, IsTrue, Option, Some, None, is_some, is_none, Result, Ok, Err, map, filter, List, []}
use Rattle.cics_names.specs.Keyed.{Bytes}
use Rattle.cics_history.specs.Headline.{IsHeadline}
use Rattle.cics_history.specs.Serial.{IsSerializable}
use Rattle.cics_units.specs.Replay.Listings.{listing_of}
use Rattle.cics_history.specs.Holding.{store_of}
use Rattle.cics_units.specs.declared.replay.listings.Listing.{Listing}
use Rattle.cics_units.specs.declared.replay.listings.TaskState.{TaskState}
use Rattle.cics_units.specs.declared.replay.listings.TaskState.TheVariants.{Idle, HasUnit, IsWaiting}
use Rattle.cics_dispatch.specs.Machine.Machine.{Machine, Task, RegionValue, task_at, is_waiting}
use Rattle.cics_dispatch.specs.Machine.Checks.{fault_of}
use Rattle.cics_dispatch.specs.Machine.Steps.{Stepped, attach_refusal, issue_refusal}
use Rattle.cics_names.specs.declared.commands.Command.{Command}
use Rattle.cics_names.specs.declared.commands.Verb.{Verb}
use Rattle.cics_names.specs.declared.commands.Verb.TheVariants.{Unlock, ResetBr, EndBr, Deq, Syncpoint, Rollback, Return, Abend}
use Rattle.cics_dispatch.specs.declared.machine.outcomes.Refused.{Refused}
use Rattle.cics_dispatch.specs.declared.machine.outcomes.Refused.TheVariants.{NoMemory}

-- whether a verb may take memory; those that only release something take none, and neither does
-- RESETBR, which moves an open browse
abbrev pub is_growing : Verb → Bool
is_growing (Unlock f) = false
is_growing (ResetBr f key given generic equal) = false
is_growing (EndBr f) = false
is_growing (Deq value n) = false
is_growing Syncpoint = false
is_growing Rollback = false
is_growing Return = false
is_growing (Abend code) = false
is_growing _ = true

-- an attach may take memory if it isn't refused
abbrev pub attach_may_want : Machine → Bytes → Bool
attach_may_want m label = is_none (attach_refusal m label)

-- a task's command has passed its checks
abbrev pub passes_checks : Machine → Verb → Option Task → Bool
passes_checks m verb None = false
passes_checks m verb (Some t) = is_none (fault_of m t verb)

-- a command may take memory if it isn't refused, its verb does, and its checks have passed
abbrev pub may_want : Machine → Bytes → Command → Bool
may_want m label c = is_none (issue_refusal m (task_at m.tasks label)) && is_growing c.verb && passes_checks m c.verb (task_at m.tasks label)

-- a call returns its step's outcome and leaves its step's state, or NoMemory if it may take memory;
-- an error leaves the region as it was
abbrev pub IsStep : {X : Type 0} → Bool → RegionValue → Stepped (Result X Refused) → Result X Refused → RegionValue → Type 0
IsStep wants old s (Ok x) new = (s.outcome ≡ Ok x) × (new.machine ≡ s.machine)
IsStep wants old s (Err NoMemory) new = IsTrue wants × (new ≡ old)
IsStep wants old s (Err e) new = (s.outcome ≡ Err e) × (new ≡ old)

-- an event that is never refused
abbrev pub always : {X : Type 0} → Stepped X → Stepped (Result X Refused)
always s = record { outcome = Ok s.outcome; machine = s.machine }

-- the headline holds of a region: its store is the replay of the surviving entries, which gives
-- each of them its answer again; a backed-out unit that ran alone at the end left no trace
pub record IsHeadlineRegion (r : RegionValue) : Type 0 where
  pub headline : IsHeadline (record { state = r.machine.units; store = r.store })

-- the committed units of a region are serializable in commit order
pub record IsSerializableRegion (r : RegionValue) : Type 0 where
  pub serializable : IsSerializable (record { state = r.machine.units; store = r.store })

-- ---- Listings

-- a task that hasn't ended waits, or has an open unit, or is idle
abbrev pub task_state : Machine → Task → TaskState
task_state m t = if is_waiting m.waiting t.label then IsWaiting else if is_some t.unit then HasUnit else Idle

-- the tasks that haven't ended, in the order of attach
abbrev pub tasks_listed : Machine → List (Bytes × TaskState)
tasks_listed m = map (λ t. (t.label, task_state m t)) (filter (λ t. not t.has_ended) m.tasks)

-- the listing of a region: the files and queues as they stand, and the tasks
abbrev pub region_listing : RegionValue → Listing
region_listing r = record (listing_of r.machine.units.opening r.store) { tasks = tasks_listed r.machine }

-- the files and queues of a listing
abbrev pub without_tasks : Listing → Listing
without_tasks listing = record listing { tasks = [] }

-- the listing that a replay of the surviving entries gives, without tasks
abbrev pub replayed_listing : RegionValue → Listing
replayed_listing r = listing_of r.machine.units.opening (store_of r.machine.units)
