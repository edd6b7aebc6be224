-- A document, and its text.
use Rattle.std.specs.Prelude.{ℕ, List, [], ◌∷◌, ◌++◌, map}
use Rattle.std.specs.List.{flat_map}
use Rattle.cics_picture.specs.declared.xml.names.Tag.{Tag}
use Rattle.cics_picture.specs.declared.xml.names.Key.{Key}
use Rattle.cics_picture.specs.declared.xml.names.Key.TheVariants.{Transform}
use Rattle.cics_picture.specs.Xml.Names.{tag_name, key_name}
use Rattle.cics_picture.specs.Xml.Characters.{character_text, text_of, shown}
use Rattle.std.specs.Fmt.{decimal}
use lib.Chars.{codes}

-- an attribute: its name, and the characters of its value
pub record Attribute : Type 0 where
  pub key : Key
  pub value : List ℕ

-- Characters and elements, in order. An element has a name, attributes, what is inside, and what
-- follows it.
pub data Document : Type 0 where
  Empty : Document
  Character : ℕ → Document → Document
  Element : Tag → List Attribute → Document → Document → Document

-- an attribute with a value
abbrev pub attribute : Key → List ℕ → Attribute
attribute key value = record { key = key; value = value }

-- a blank, the name, and the value between quotes
abbrev pub attribute_text : Attribute → List ℕ
attribute_text a = codes " " ++ (key_name a.key ++ (codes "=\"" ++ (text_of a.value ++ codes "\"")))

-- a start tag with its attributes
abbrev pub start_text : Tag → List Attribute → List ℕ
start_text tag attributes = codes "<" ++ (tag_name tag ++ (flat_map attribute_text attributes ++ codes ">"))

-- an end tag
abbrev pub end_text : Tag → List ℕ
end_text tag = codes "</" ++ (tag_name tag ++ codes ">")

-- a character's text, or an element between its tags, and then the text of what follows
abbrev pub document_text : Document → List ℕ
document_text Empty = []
document_text (Character c d) = character_text c ++ document_text d
document_text (Element tag attributes inside d) = start_text tag attributes ++ (document_text inside ++ (end_text tag ++ document_text d))

-- characters, and what follows them
abbrev pub characters_before : List ℕ → Document → Document
characters_before [] d = d
characters_before (c ∷ cs) d = Character c (characters_before cs d)

-- the characters that are shown for bytes
abbrev pub said : List ℕ → Document
said bytes = characters_before (map shown bytes) Empty

-- an element alone
abbrev pub element : Tag → List Attribute → Document → Document
element tag attributes inside = Element tag attributes inside Empty

-- one document behind another
abbrev pub joined : Document → Document → Document
joined Empty next = next
joined (Character c d) next = Character c (joined d next)
joined (Element tag attributes inside d) next = Element tag attributes inside (joined d next)

-- an attribute that is a number
abbrev pub number_of : Key → ℕ → Attribute
number_of key n = attribute key (decimal n)

-- the attribute that moves an element to a point
abbrev pub moved_to : ℕ → ℕ → Attribute
moved_to x y = attribute Transform (codes "translate(" ++ (decimal x ++ (codes " " ++ (decimal y ++ codes ")"))))
