-- Worked examples.
use Rattle.std.proofs.Common.{◌≡◌, [], ◌∷◌, refl, None}
use Rattle.cics_picture.specs.declared.xml.names.Tag.TheVariants as tag
use Rattle.cics_picture.specs.declared.xml.names.Key.TheVariants as key
use Rattle.cics_picture.specs.Xml.Characters.{digits, shown_text}
use Rattle.cics_picture.specs.Xml.Documents.{attribute, Empty, Character, Element, document_text}
use Rattle.cics_picture.specs.Xml.Reading.{pieces_from, pairs_of, document_of}
use lib.Chars.{codes}

a_text : document_text (Element tag.Text (attribute key.X (codes "16") ∷ attribute key.Class (codes "\"") ∷ []) (Character 65 (Character 60 Empty)) Empty)
    ≡ codes "<text x=\"16\" class=\"&#34;\">A&#60;</text>"
unfolding digits
a_text = refl

bytes : shown_text (38 ∷ 9 ∷ 0 ∷ 200 ∷ 126 ∷ []) ≡ codes "&#38; &#65533;&#65533;~"
unfolding digits
bytes = refl

crossed : document_of (codes "<g><text></g></text>") ≡ None
unfolding pieces_from pairs_of
crossed = refl

left_open : document_of (codes "<g>") ≡ None
unfolding pieces_from pairs_of
left_open = refl

bare_sign : document_of (codes "<g>></g>") ≡ None
unfolding pieces_from pairs_of
bare_sign = refl
