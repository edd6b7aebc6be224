-- The names of elements and attributes, and how they are found again.
use Rattle.std.specs.Prelude.{ℕ, List, [], ◌∷◌, Option, Some, None, if◌then◌else◌}
use Rattle.std.specs.Str.{bytes_eq}
use Rattle.cics_picture.specs.declared.xml.names.Tag.{Tag}
use Rattle.cics_picture.specs.declared.xml.names.Tag.TheVariants as tag
use Rattle.cics_picture.specs.declared.xml.names.Key.{Key}
use Rattle.cics_picture.specs.declared.xml.names.Key.TheVariants as key
use lib.Chars.{codes}

-- the name of an element
abbrev pub tag_name : Tag → List ℕ
tag_name tag.Svg = codes "svg"
tag_name tag.Title = codes "title"
tag_name tag.Style = codes "style"
tag_name tag.G = codes "g"
tag_name tag.Rect = codes "rect"
tag_name tag.Line = codes "line"
tag_name tag.Path = codes "path"
tag_name tag.Text = codes "text"
tag_name tag.B = codes "b"
tag_name tag.Code = codes "code"
tag_name tag.Del = codes "del"
tag_name tag.Div = codes "div"
tag_name tag.H1 = codes "h1"
tag_name tag.I = codes "i"
tag_name tag.Ins = codes "ins"
tag_name tag.Li = codes "li"
tag_name tag.Ol = codes "ol"
tag_name tag.P = codes "p"
tag_name tag.Pre = codes "pre"
tag_name tag.Samp = codes "samp"

-- the name of an attribute
abbrev pub key_name : Key → List ℕ
key_name key.Class = codes "class"
key_name key.D = codes "d"
key_name key.Height = codes "height"
key_name key.Id = codes "id"
key_name key.Transform = codes "transform"
key_name key.Width = codes "width"
key_name key.X = codes "x"
key_name key.X1 = codes "x1"
key_name key.X2 = codes "x2"
key_name key.Xmlns = codes "xmlns"
key_name key.Y = codes "y"
key_name key.Y1 = codes "y1"
key_name key.Y2 = codes "y2"

-- all elements
abbrev pub tags : List Tag
tags =
    tag.Svg ∷ tag.Title ∷ tag.Style ∷ tag.G ∷ tag.Rect ∷ tag.Line ∷ tag.Path ∷ tag.Text
    ∷ tag.B ∷ tag.Code ∷ tag.Del ∷ tag.Div ∷ tag.H1 ∷ tag.I ∷ tag.Ins ∷ tag.Li ∷ tag.Ol ∷ tag.P ∷ tag.Pre ∷ tag.Samp ∷ []

-- all attributes
abbrev pub keys : List Key
keys =
    key.Class ∷ key.D ∷ key.Height ∷ key.Id ∷ key.Transform ∷ key.Width ∷ key.X ∷ key.X1 ∷ key.X2 ∷ key.Xmlns ∷ key.Y ∷ key.Y1 ∷ key.Y2 ∷ []

-- the first of these that has a name
abbrev pub called : {X : Type 0} → (X → List ℕ) → List ℕ → List X → Option X
called name_of name [] = None
called name_of name (x ∷ xs) = if bytes_eq (name_of x) name then Some x else called name_of name xs
