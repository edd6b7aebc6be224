-- The elements of a picture.
use Rattle.std.specs.Prelude.{ℕ, ◌+◌, ◌-◌, nat_lt, nat_le, if◌then◌else◌, List, [], ◌∷◌, ◌++◌, map, length, take}
use Rattle.cics_picture.specs.declared.xml.names.Tag.{Tag}
use Rattle.cics_picture.specs.declared.xml.names.Tag.TheVariants as tag
use Rattle.cics_picture.specs.declared.xml.names.Key.TheVariants as key
use Rattle.cics_picture.specs.Xml.Characters.{shown}
use Rattle.cics_picture.specs.Xml.Documents.{Attribute, attribute, number_of, moved_to, Empty, element, said, document_text, start_text}
use Rattle.cics_picture.specs.declared.events.RowKind.{RowKind}
use Rattle.cics_picture.specs.Events.{class_of, shape_of}
use Rattle.cics_picture.specs.Lanes.{lane_x}
use Rattle.cics_picture.specs.declared.style.TheConstants.{NAMESPACE}
use lib.Chars.{codes}

-- the attribute that gives an element its look
abbrev pub class : List ℕ → Attribute
class name = attribute key.Class (map shown name)

-- words at a place
unfoldable pub words : List ℕ → ℕ → ℕ → List ℕ → List ℕ
words name x y bytes = document_text (element tag.Text (class name ∷ number_of key.X x ∷ number_of key.Y y ∷ []) (said bytes))

-- a shape round a place
unfoldable pub shape : List ℕ → List ℕ → ℕ → ℕ → List ℕ
shape name path x y = document_text (element tag.Path (class name ∷ attribute key.D (map shown path) ∷ moved_to x y ∷ []) Empty)

-- a line from a place to another
unfoldable pub stroke : List ℕ → ℕ → ℕ → ℕ → ℕ → List ℕ
stroke name x1 y1 x2 y2 =
    document_text (element tag.Line (class name ∷ number_of key.X1 x1 ∷ number_of key.Y1 y1 ∷ number_of key.X2 x2 ∷ number_of key.Y2 y2 ∷ []) Empty)

-- a rectangle at a place
unfoldable pub field : List ℕ → ℕ → ℕ → ℕ → ℕ → List ℕ
field name x y width height =
    document_text (element tag.Rect (class name ∷ number_of key.X x ∷ number_of key.Y y ∷ number_of key.Width width ∷ number_of key.Height height ∷ []) Empty)

-- an element that has a text alone
unfoldable pub spoken : Tag → List ℕ → List ℕ
spoken name bytes = document_text (element name [] (said bytes))

-- the namespace of the elements
unfoldable pub namespace : Attribute
namespace = attribute key.Xmlns (map shown NAMESPACE.now)

-- the start of a picture of a size
unfoldable pub picture_start : ℕ → ℕ → List ℕ
picture_start width height =
    start_text tag.Svg (namespace ∷ number_of key.Width width ∷ number_of key.Height height ∷ [])

-- the start of elements that are moved to the right
unfoldable pub moved_start : ℕ → List ℕ
moved_start x = start_text tag.G (moved_to x 0 ∷ [])

-- the mark of an event
abbrev pub mark : RowKind → ℕ → ℕ → List ℕ
mark kind x y = shape (class_of kind) (shape_of kind) x y

-- where the arrow or the line to a lane ends: at the side of the lane that it comes from
abbrev pub tip : ℕ → ℕ → ℕ
tip from to = if nat_lt from to then lane_x to - 10 else lane_x to + 10

-- the head of an arrow to the right, or to the left
abbrev pub head : ℕ → ℕ → List ℕ
head from to = if nat_lt from to then codes "M0 0l-8 -4v8z" else codes "M0 0l8 -4v8z"

-- the mark of a unit's bar in the legend
abbrev pub bar_shape : List ℕ
bar_shape = codes "M-7 -7h14v14h-14z"

-- the ring of a deadlock
abbrev pub ring_shape : List ℕ
ring_shape = codes "M-10 0a10 10 0 1 0 20 0a10 10 0 1 0 -20 0z"

-- the arrow of a wait, from a lane to another
abbrev pub arrow : ℕ → ℕ → ℕ → List ℕ
arrow from to y = stroke (codes "aw") (lane_x from) y (tip from to) y ++ shape (codes "fw") (head from to) (tip from to) y

-- the line from a lane to another
abbrev pub link : ℕ → ℕ → ℕ → List ℕ
link from to y = stroke (codes "un") (tip to from) y (tip from to) y

-- the dot where an arrow begins
abbrev pub dot_shape : List ℕ
dot_shape = codes "M-3 0a3 3 0 1 0 6 0a3 3 0 1 0 -6 0z"

-- the dashed ring round a read that shows what isn't committed
abbrev pub shows_shape : List ℕ
shows_shape = codes "M-9 0a9 9 0 1 0 18 0a9 9 0 1 0 -18 0z"

-- the diamond round a change that stays
abbrev pub stays_shape : List ℕ
stays_shape = codes "M0 -10l10 10l-10 10l-10 -10z"

-- words cut to a number of bytes, of which two dots are the last
abbrev pub cut : ℕ → List ℕ → List ℕ
cut most bytes = if nat_le (length bytes) most then bytes else take (most - 2) bytes ++ codes ".."
