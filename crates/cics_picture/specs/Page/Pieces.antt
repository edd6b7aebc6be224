-- The pieces of a page.
use Rattle.std.specs.Prelude.{ℕ, List}
use Rattle.cics_script.specs.Parts.{part_text}
use Rattle.cics_picture.specs.declared.page.pieces.Piece.{Piece}
use Rattle.cics_picture.specs.declared.page.pieces.Piece.TheVariants as piece
use Rattle.cics_picture.specs.Xml.Documents.{said, document_text}
use Rattle.cics_picture.specs.Elements.{spoken}

-- how a piece is written
abbrev pub piece_text : Piece → List ℕ
piece_text (piece.Markup text) = text.now
piece_text (piece.Text part) = document_text (said (part_text part))
piece_text (piece.Element tag part) = spoken tag (part_text part)
