-- The attributes that a call is given.
use Rattle.std.specs.Prelude.{map}
use Rattle.cics_picture.specs.declared.xml.writing.Attribute.{Attribute as Given}
use Rattle.cics_picture.specs.declared.xml.writing.Attribute.TheVariants as given
use Rattle.cics_picture.specs.Xml.Characters.{shown}
use Rattle.cics_picture.specs.Xml.Documents.{Attribute, attribute, number_of, moved_to}

-- an attribute that a call is given, as one of a document
abbrev pub attribute_of : Given → Attribute
attribute_of (given.Bytes key value) = attribute key (map shown value.now)
attribute_of (given.Number key value) = number_of key value
attribute_of (given.Move x y) = moved_to x y
