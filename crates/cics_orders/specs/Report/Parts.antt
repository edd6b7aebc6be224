-- The parts of endings: those that each ending has, and those that tell one ending from the others.
use Rattle.std.specs.Prelude.{ℕ, Bool, ◌==◌, nat_lt, if◌then◌else◌, List, [], ◌∷◌, filter, length, codes}
use Rattle.std.specs.List.{list_all, list_any}
use Rattle.std.specs.Cmp.Lexicographic.{pointwise}
use Rattle.cics_names.specs.Keyed.{Bytes}
use Rattle.cics_orders.specs.Space.Endings.{Parts, Reported}

-- The first part of an ending is its mark, which its state tells: so endings that are counted as
-- one have the same mark. It sets no endings apart, if the lines of waiting tasks tell the same
-- waits. That isn't proved.
abbrev pub mark : Bool → Bytes
mark is_deadlock = if is_deadlock then codes " DEADLOCK" else []

-- the mark of an ending
abbrev pub mark_in : Parts → Bytes
mark_in [] = []
mark_in (m ∷ parts) = m

-- its other parts
abbrev pub told_in : Parts → Parts
told_in [] = []
told_in (m ∷ parts) = parts

-- the mark of the ending that the order as written leads to
abbrev pub written_mark : Bool → Bytes
written_mark is_written = if is_written then codes " AS WRITTEN" else []

-- whether a part is among these
abbrev pub is_in : Parts → Bytes → Bool
is_in parts part = list_any (λ p. pointwise (λ x y. x == y) p part) parts

-- whether each ending has a part
abbrev pub is_in_each : List Reported → Bytes → Bool
is_in_each es part = list_all (λ e. is_in (told_in e.ending) part) es

-- the parts of the first ending
abbrev pub first_told : List Reported → Parts
first_told [] = []
first_told (e ∷ es) = told_in e.ending

-- the parts that each of two endings or more has
abbrev pub shared : List Reported → Parts
shared es = if nat_lt 1 (length es) then filter (is_in_each es) (first_told es) else []

-- a part of an ending, unless each has it
abbrev pub own_text : Parts → Bytes → List ℕ
own_text all part = if is_in all part then [] else part
