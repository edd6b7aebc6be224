use Rattle.std.proofs.Common.{◌≡◌, ◌++◌, map, take}
use Rattle.std.specs.List.{flat_map}
use Rattle.cics_picture.specs.Xml.Documents.{attribute_text}
use Rattle.cics_picture.specs.Xml.Attributes.{attribute_of}
use Rattle.cics_picture.proofs.xml.writing.push_attributes.Given as goal

abbrev pub invariant-loop-attribute : goal.invariant-loop-attribute
invariant-loop-attribute l = l.out.items ≡ l.fn.out.items ++ flat_map attribute_text (map attribute_of (take l.attribute-index l.attributes))
