use Rattle.std.proofs.Common.{◌≡◌, ◌++◌, take}
use Rattle.cics_picture.specs.Xml.Characters.{shown_text}
use Rattle.cics_picture.proofs.xml.writing.push_shown.Given as goal

abbrev pub invariant-loop-byte : goal.invariant-loop-byte
invariant-loop-byte l = l.out.items ≡ l.fn.out.items ++ shown_text (take l.byte-index l.bytes)
