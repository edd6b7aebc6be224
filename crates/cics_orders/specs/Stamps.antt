-- The stamp of a state: bytes that tell how it goes on, and what its ending tells. It has neither
-- the history of the region, nor the numbers of units, nor what the plan alone tells.
use Rattle.std.specs.Prelude.{ℕ, ◌-◌, Bool, if◌then◌else◌, List, [], ◌∷◌, ◌++◌, map, length, Option, Some, None, slice_get}
use Rattle.cics_names.specs.Keyed.{Bytes}
use Rattle.cics_names.specs.Conditions.{number_of}
use Rattle.cics_names.specs.Stamps.{number_stamp, text_stamp, option_stamp, list_stamp}
use Rattle.cics_dispatch.specs.Machine.Stamps.{region_stamp}
use Rattle.cics_dispatch.specs.declared.machine.outcomes.Number.{Number}
use Rattle.cics_dispatch.specs.declared.machine.outcomes.Number.TheVariants.{Item, Numrec}
use Rattle.cics_dispatch.specs.declared.machine.outcomes.Reply.{Reply}
use Rattle.cics_dispatch.specs.declared.machine.outcomes.Outcome.{Outcome}
use Rattle.cics_dispatch.specs.declared.machine.outcomes.Outcome.TheVariants.{Replied, Waiting, Abended, Ended}
use Rattle.cics_orders.specs.Giving.{State, is_last}
use Rattle.cics_orders.specs.declared.lanes.Lane.{Lane}

-- ---- Outcomes

-- the number of an item, or of deleted records
abbrev pub count_stamp : Number → List ℕ
count_stamp (Item n) = number_stamp 0 ++ number_stamp n
count_stamp (Numrec n) = number_stamp 1 ++ number_stamp n

-- a reply
abbrev pub reply_stamp : Reply → List ℕ
reply_stamp r =
    number_stamp (number_of r.condition)
    ++ (option_stamp text_stamp r.key ++ (option_stamp text_stamp r.content ++ option_stamp count_stamp r.number))

-- whether an outcome is a reply, a wait, an abend or an end
abbrev pub told_kind : Outcome → ℕ
told_kind (Replied reply) = 0
told_kind (Waiting label) = 1
told_kind (Abended code reply) = 2
told_kind Ended = 3

-- the label or the code that an outcome names
abbrev pub told_name : Outcome → Bytes
told_name (Waiting label) = label
told_name (Abended code reply) = code.0
told_name _ = []

-- the reply of an outcome
abbrev pub told_reply : Outcome → Option Reply
told_reply (Replied reply) = Some reply
told_reply (Abended code reply) = reply
told_reply _ = None

-- an outcome
abbrev pub outcome_stamp : Outcome → List ℕ
outcome_stamp o = number_stamp (told_kind o) ++ (text_stamp (told_name o) ++ option_stamp reply_stamp (told_reply o))

-- ---- Lanes

-- an outcome, if it ends its task
abbrev pub end_told : Option Outcome → List Outcome
end_told None = []
end_told (Some outcome) = if is_last outcome then outcome ∷ [] else []

-- what an ending tells of what a task was told: all, or how the task has ended
abbrev pub told_of : Bool → List Outcome → List Outcome
told_of all told = if all then told else end_told (slice_get told (length told - 1))

-- what is seen of a lane: with `told` all that its task was told
abbrev pub seen : Bool → Lane → Lane
seen told lane = record lane { told = told_of told lane.told }

-- a lane, but for its label and its lines
abbrev pub lane_stamp : Lane → List ℕ
lane_stamp lane = number_stamp lane.given ++ list_stamp outcome_stamp lane.told

-- ---- States

-- a state: what is seen of its lanes, and its region
unfoldable pub state_stamp : Bool → State → List ℕ
state_stamp told s = list_stamp lane_stamp (map (seen told) s.lanes) ++ region_stamp s.machine
