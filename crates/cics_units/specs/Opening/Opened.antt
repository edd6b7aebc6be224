-- What a region opens with, as its parts have it.
use Rattle.std.specs.Prelude.{List}
use Rattle.cics_names.specs.Keyed.{Bytes, Map}
use Rattle.cics_ksds.specs.Files.{FileValue}
use Rattle.cics_transdata.specs.Trans.{TransState}
use Rattle.cics_history.specs.State.{OpeningState}
use Rattle.cics_units.specs.Opening.RegionFiles.{openings_of}
use Rattle.cics_units.specs.Opening.RegionQueues.{queue_openings}

-- an opening that defines these files with what was loaded into them, these prefixes and these
-- transient data queues
abbrev pub opened_with : Map FileValue → List Bytes → Map TransState → OpeningState
opened_with files prefixes queues = record { files = openings_of files; prefixes = prefixes; queues = queue_openings queues }
