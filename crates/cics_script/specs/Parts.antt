-- The parts of a text.
use Rattle.std.specs.Prelude.{ℕ, List}
use Rattle.std.specs.Fmt.{decimal}
use Rattle.cics_script.specs.Texts.{text_of, name_text, bare}
use Rattle.cics_script.specs.declared.spelling.parts.Part.{Part}
use Rattle.cics_script.specs.declared.spelling.parts.Part.TheVariants as part

-- how a part is printed
abbrev pub part_text : Part → List ℕ
part_text (part.Str text) = text.now
part_text (part.Bytes bytes) = bytes.now
part_text (part.Number number) = decimal number
part_text (part.Text bytes) = text_of bytes.now
part_text (part.Name name) = name_text name.now
part_text (part.Bare name) = bare name.now
