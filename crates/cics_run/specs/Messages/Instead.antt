-- What is suggested for a name that isn't there.
use Rattle.std.specs.Prelude.{ℕ, Option, Some, None, List, [], ◌++◌, codes}
use Rattle.cics_names.specs.Commands.{file_named}
use Rattle.cics_names.specs.Keyed.{Bytes}
use Rattle.cics_names.specs.declared.commands.Verb.{Verb}
use Rattle.cics_names.specs.declared.commands.Verb.TheVariants.{WriteqTs, ReadqTs, DeleteqTs, WriteqTd, ReadqTd, DeleteqTd}
use Rattle.cics_names.specs.declared.conditions.Condition.{Condition}
use Rattle.cics_names.specs.declared.conditions.Condition.TheVariants.{Dsiderr, Qiderr}
use Rattle.cics_history.specs.State.{OpeningState}
use Rattle.cics_units.specs.Opening.RegionFiles.{opened_files}
use Rattle.cics_units.specs.Opening.RegionQueues.{opened_queues}
use Rattle.cics_script.specs.Texts.{bare}
use Rattle.cics_run.specs.Messages.Nearest.{first_near, nearest_key}
use Rattle.cics_run.specs.declared.stage.stage.Stage.{Stage}
use Rattle.cics_run.specs.declared.stage.stage.Stage.TheVariants.{Opening, Running}

-- a name, if there is one, and what is told of it
abbrev pub instead_text : Option Bytes → List ℕ → List ℕ
instead_text None behind = []
instead_text (Some name) behind = codes "; " ++ (bare name ++ behind)

-- the defined file of the nearest name
abbrev pub nearest_file : OpeningState → Bytes → Option Bytes
nearest_file o name = nearest_key name (opened_files o.files)

-- the defined queue of transient data of the nearest name
abbrev pub nearest_queue : OpeningState → Bytes → Option Bytes
nearest_queue o name = nearest_key name (opened_queues o.queues)

-- that of the same name, capitals or not
abbrev pub same_queue : OpeningState → Bytes → Option Bytes
same_queue o name = first_near 1 name (opened_queues o.queues)

-- the queue of transient data with the name that a command of temporary storage has, capitals or
-- not
abbrev pub meant_queue : OpeningState → Verb → Option Bytes
meant_queue o (WriteqTs queue from n item) = same_queue o queue
meant_queue o (ReadqTs queue n item) = same_queue o queue
meant_queue o (DeleteqTs queue) = same_queue o queue
meant_queue o verb = None

-- what is told of it
abbrev pub meant_words : List ℕ
meant_words = codes " is a TD queue: without TD, TS is meant"

-- what is suggested for a queue that isn't there
abbrev pub instead_of_queue : OpeningState → Verb → List ℕ
instead_of_queue o (WriteqTd queue from n) = instead_text (nearest_queue o queue) (codes " is")
instead_of_queue o (ReadqTd queue n nosuspend) = instead_text (nearest_queue o queue) (codes " is")
instead_of_queue o (DeleteqTd queue) = instead_text (nearest_queue o queue) (codes " is")
instead_of_queue o verb = instead_text (meant_queue o verb) meant_words

-- for a file that isn't there
abbrev pub instead_of_file : OpeningState → Option Bytes → List ℕ
instead_of_file o None = []
instead_of_file o (Some file) = instead_text (nearest_file o file) (codes " is")

-- for what a command names, by its condition
abbrev pub instead_of_name : OpeningState → Verb → Condition → List ℕ
instead_of_name o verb Dsiderr = instead_of_file o (file_named verb)
instead_of_name o verb Qiderr = instead_of_queue o verb
instead_of_name o verb condition = []

-- the same in a region; definitions alone answer no command
abbrev pub instead_in : Stage → Verb → Condition → List ℕ
instead_in (Opening o) verb condition = []
instead_in (Running r) verb condition = instead_of_name r.machine.units.opening verb condition
