-- What an opening defines: its files and its transient data queues.
use Rattle.std.specs.Prelude.{Option, Some, None, List, map}
use Rattle.cics_names.specs.Keyed.{Bytes}
use Rattle.cics_ksds.specs.Files.{records_of}
use Rattle.cics_ksds.specs.declared.definition.FileDef.{FileDef}
use Rattle.cics_transdata.specs.declared.queues.Recovery.{Recovery}
use Rattle.cics_transdata.specs.declared.queues.Recovery.TheVariants.{Unrecovered}
use Rattle.cics_history.specs.State.{OpeningState, QueueOpening}

-- the recovery of a queue; one that isn't defined has none
abbrev pub recovery_in : Option QueueOpening → Recovery
recovery_in None = Unrecovered
recovery_in (Some queue) = queue.recovery

-- the files that an opening defines, each with its name, its definition, and its loaded records in
-- key order
abbrev pub defined_files : OpeningState → List (Bytes × FileDef × List Bytes)
defined_files o = map (λ e. (e.0, e.1.definition, records_of e.1.records)) o.files

-- the transient data queues that an opening defines, each with its name, its recovery, and its
-- loaded records
abbrev pub defined_queues : OpeningState → List (Bytes × Recovery × List Bytes)
defined_queues o = map (λ e. (e.0, e.1.recovery, e.1.records)) o.queues
