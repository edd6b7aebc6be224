-- Worked rows: scripts taken apart.
use Rattle.std.proofs.Common.{◌≡◌, [], ◌∷◌, refl, None, Some, Ok, Err}
use lib.Chars.{codes}
use Rattle.cics_names.specs.Ebcdic.{code_of}
use Rattle.cics_names.specs.Keyed.{Bytes}
use Rattle.cics_units.specs.declared.opening.opening.DefineFault.TheVariants.{NotThere}
use Rattle.cics_dispatch.specs.declared.machine.outcomes.Refused.TheVariants.{NoTask, DuplicateLabel}
use Rattle.cics_script.specs.declared.faults.LineFault.TheVariants.{DefineTooLate, MissingOption}
use Rattle.cics_orders.specs.Plans.Defining.{defined_by}
use Rattle.cics_orders.specs.Plans.Taking.{initial_taken, taken_apart, planned}
use Rattle.cics_orders.specs.declared.plans.plans.ScriptFault.TheVariants as fault

-- the label A
abbrev a : Bytes
a = 0xC1 ∷ 0x40 ∷ 0x40 ∷ 0x40 ∷ 0x40 ∷ 0x40 ∷ 0x40 ∷ 0x40 ∷ []

-- the transaction T
abbrev t : Bytes
t = 0xE3 ∷ 0x40 ∷ 0x40 ∷ 0x40 ∷ []

-- A command before its ATTACH is refused, and so is the second ATTACH of a label. The clock has the lines that set it or shut
-- the region down.
apart : planned (taken_apart initial_taken 1
    (codes "* a comment"
    ∷ codes "DEFINE TDQUEUE('Q') LOGICAL"
    ∷ codes "A EXEC CICS SYNCPOINT"
    ∷ codes "ATTACH A TRANSID('T') DTIMOUT(5)"
    ∷ codes "CLOCK 5"
    ∷ codes "a exec cics return"
    ∷ codes "ATTACH A TRANSID('U')"
    ∷ codes "SHUTDOWN IMMEDIATE"
    ∷ []))
    ≡ Ok (record {
      plan = record {
        definitions = (2, codes "DEFINE TDQUEUE('Q') LOGICAL") ∷ [];
        tasks =
            record { label = a; transaction = t; dtimout = 5; attach = (4, codes "ATTACH A TRANSID('T') DTIMOUT(5)"); lines = (6, codes "a exec cics return") ∷ [] } ∷ [];
        clock = (5, codes "CLOCK 5") ∷ (8, codes "SHUTDOWN IMMEDIATE") ∷ [];
        written = (None, 5) ∷ (Some 0, 6) ∷ (None, 8) ∷ [];
      };
      refused = record { number = 3; label = a; refusal = NoTask } ∷ record { number = 7; label = a; refusal = DuplicateLabel } ∷ [];
    })
unfolding taken_apart defined_by code_of
apart = refl

-- a load of a queue that isn't defined
no_queue : planned (taken_apart initial_taken 1 (codes "" ∷ codes "LOAD TDQUEUE('Q') FROM('x')" ∷ codes "ATTACH A" ∷ [])) ≡ Err (2, fault.Definition NotThere)
unfolding taken_apart defined_by code_of
no_queue = refl

-- a definition behind a line that is refused
too_late : planned (taken_apart initial_taken 1 (codes "A EXEC CICS RETURN" ∷ codes "DEFINE TDQUEUE('Q') LOGICAL" ∷ [])) ≡ Err (2, fault.Line DefineTooLate)
unfolding taken_apart defined_by code_of
too_late = refl

-- a line that lacks an option
unread : planned (taken_apart initial_taken 1 (codes "ATTACH A" ∷ codes "DEFINE TDQUEUE('Q') LOGICAL" ∷ [])) ≡ Err (1, fault.Line MissingOption)
unfolding taken_apart defined_by code_of
unread = refl
