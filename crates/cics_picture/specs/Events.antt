-- The kinds of rows, and how each is drawn.
use Rattle.std.specs.Prelude.{ℕ, List}
use Rattle.cics_picture.specs.declared.events.RowKind.{RowKind}
use Rattle.cics_picture.specs.declared.events.RowKind.TheVariants as kind
use lib.Chars.{codes}

-- the class that gives a kind its colour
abbrev pub class_of : RowKind → List ℕ
class_of kind.Attached = codes "mr"
class_of kind.Normal = codes "mk"
class_of kind.Waiting = codes "mw"
class_of kind.Woken = codes "mg"
class_of kind.Committed = codes "mf"
class_of kind.BackedOut = codes "mc"
class_of kind.Ended = codes "mf"
class_of kind.Abended = codes "ma"
class_of kind.Refused = codes "mc"
class_of kind.Condition = codes "mc"
class_of kind.Clock = codes "clk"
class_of kind.Down = codes "dwn"

-- The shape of a kind, as a path round its place. In the order of the cases: a ring, a dot, an
-- hourglass, an arrowhead, a tick in a ring, an arrow back in a ring, a foot, a cross in a ring, a
-- barred ring, a triangle. The lines across the lanes have a stroke each.
abbrev pub shape_of : RowKind → List ℕ
shape_of kind.Attached = codes "M-6 0a6 6 0 1 0 12 0a6 6 0 1 0 -12 0z"
shape_of kind.Normal = codes "M-5 0a5 5 0 1 0 10 0a5 5 0 1 0 -10 0z"
shape_of kind.Waiting = codes "M-5 -6h10l-10 12h10z"
shape_of kind.Woken = codes "M-4 -6l10 6l-10 6z"
shape_of kind.Committed = codes "M-8 0a8 8 0 1 0 16 0a8 8 0 1 0 -16 0zM-4 0l3 3l5 -6"
shape_of kind.BackedOut = codes "M-8 0a8 8 0 1 0 16 0a8 8 0 1 0 -16 0zM4 4v-4h-8l3 -3m-3 3l3 3"
shape_of kind.Ended = codes "M-9 0h18"
shape_of kind.Abended = codes "M-8 0a8 8 0 1 0 16 0a8 8 0 1 0 -16 0zM-3 -3l6 6m0 -6l-6 6"
shape_of kind.Refused = codes "M-5 0a5 5 0 1 0 10 0a5 5 0 1 0 -10 0zM-3 3l6 -6"
shape_of kind.Condition = codes "M0 -6l6 10h-12z"
shape_of kind.Clock = codes "M-9 0h18"
shape_of kind.Down = codes "M-9 0h18"
