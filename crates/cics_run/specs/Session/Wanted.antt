-- What the program prints, by its options.
use Rattle.std.specs.Prelude.{ℕ, if◌then◌else◌, Option, List, ◌++◌}
use Rattle.cics_run.specs.Listing.Serial.{serial_text}
use Rattle.cics_run.specs.Stage.Stages.{region_of}
use Rattle.cics_run.specs.Reads.Watched.{Watched}
use Rattle.cics_run.specs.Session.Running.{Form, listed, with_reads}
use Rattle.cics_run.specs.declared.session.running.Wanted.{Wanted}
use Rattle.cics_run.specs.declared.stage.notices.Scope.{Scope}
use Rattle.cics_run.specs.declared.stage.stage.Stage.{Stage}

-- what is printed of the serial run
abbrev pub serial_at : Stage → List ℕ
serial_at stage = serial_text (region_of stage).machine.units

-- behind the listing and the replay stands what reads saw and missed, and behind that the serial
-- run, each if it is asked for
abbrev pub at_end : Wanted → Stage → Option Watched → List ℕ
at_end wanted stage watched =
    let text = with_reads (listed wanted.options stage) watched in if wanted.serial then text ++ serial_at stage else text

-- which events are told
abbrev pub scope_of : Wanted → Scope
scope_of wanted = record { strict = wanted.strict; why = wanted.why }

-- each line of the script is printed if that is asked for
abbrev pub form_of : Wanted → Form
form_of wanted = record { with_script = wanted.with_script; reads = wanted.reads; at_end = at_end wanted; scope = scope_of wanted }
