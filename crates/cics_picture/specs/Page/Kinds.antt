-- The classes of steps.
use Rattle.std.specs.Prelude.{Bool, true, false, Option, Some, None, ℕ, List}
use Rattle.cics_dispatch.specs.declared.machine.events.Event.{Event}
use Rattle.cics_dispatch.specs.declared.machine.events.Event.TheVariants.{Woken as WokenEvent}
use Rattle.cics_picture.specs.declared.events.RowKind.{RowKind}
use Rattle.cics_picture.specs.declared.events.RowKind.TheVariants as kind
use lib.Chars.{codes}

-- whether a waiting command is answered
abbrev pub is_woken : Event → Bool
is_woken (WokenEvent woken) = true
is_woken other = false

-- the class of an event of a kind; of no kind is a fault
abbrev pub kind_class : Option RowKind → List ℕ
kind_class (Some kind.Attached) = codes "att"
kind_class (Some kind.Normal) = codes "ans"
kind_class (Some kind.Woken) = codes "ans"
kind_class (Some kind.Committed) = codes "ans"
kind_class (Some kind.BackedOut) = codes "ans"
kind_class (Some kind.Condition) = codes "con"
kind_class (Some kind.Waiting) = codes "wai"
kind_class (Some kind.Ended) = codes "end"
kind_class (Some kind.Abended) = codes "abe"
kind_class (Some kind.Refused) = codes "ref"
kind_class (Some kind.Clock) = codes "clk"
kind_class (Some kind.Down) = codes "dwn"
kind_class None = codes "flt"

-- the start of a class
abbrev pub woken_class : Bool → List ℕ
woken_class false = codes ""
woken_class true = codes "wok "
