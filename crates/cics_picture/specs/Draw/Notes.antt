-- What stands behind the line of an event: the characters of a record in hexadecimal.
use Rattle.std.specs.Prelude.{ℕ, if◌then◌else◌, unwrap_or, Option, Some, None, map, List, [], ◌++◌, codes}
use Rattle.std.specs.List.{list_all}
use Rattle.cics_names.specs.Ebcdic.{character_of}
use Rattle.cics_names.specs.Keyed.{Bytes}
use Rattle.cics_dispatch.specs.declared.machine.events.Event.{Event}
use Rattle.cics_dispatch.specs.declared.machine.events.Event.TheVariants as event
use Rattle.cics_dispatch.specs.declared.machine.outcomes.Outcome.{Outcome}
use Rattle.cics_dispatch.specs.declared.machine.outcomes.Outcome.TheVariants.{Replied}
use Rattle.cics_script.specs.Texts.{has_character}
use Rattle.cics_picture.specs.Elements.{cut}

-- the character of a byte, and a dot for none
abbrev pub character : ℕ → ℕ
character code = unwrap_or (character_of code) 46

-- the first characters of a record between bars, if it is printed in hexadecimal
abbrev pub record_note : Option Bytes → List ℕ
record_note None = []
record_note (Some bytes) =
    if list_all has_character bytes then [] else codes " |" ++ (cut 32 (map character bytes) ++ codes "|")

-- the same of what a command was given
abbrev pub outcome_note : Outcome → List ℕ
outcome_note (Replied reply) = record_note reply.content
outcome_note outcome = []

-- what stands behind the line of an event
abbrev pub note_of : Event → List ℕ
note_of (event.Issued label outcome reason) = outcome_note outcome
note_of (event.Woken w) = outcome_note w.outcome
note_of other = []
