-- What a picture puts together is the text of a document.
use Rattle.std.proofs.Common.{◌≡◌, ℕ, List, [], ◌++◌, refl, ap, sym, ◌∙◌}
use Rattle.std.proofs.lemmas.List.{append-nil}
use Rattle.cics_picture.specs.declared.xml.names.Tag.{Tag}
use Rattle.cics_picture.specs.Xml.Documents.{Attribute, Document, Empty, element, joined, document_text, start_text, end_text}
use Rattle.cics_picture.proofs.OfXml.Joined.{text_joined}

-- the text of a document
abbrev pub IsMarkup : List ℕ → Type 0
IsMarkup text = (d : Document) × (text ≡ document_text d)

pub nothing : IsMarkup []
nothing = (Empty, refl)

pub itself : (d : Document) → IsMarkup (document_text d)
itself d = (d, refl)

pub behind : (a b : List ℕ) → IsMarkup a → IsMarkup b → IsMarkup (a ++ b)
behind a b p q = (joined p.0 q.0, (λ i. p.1 i ++ q.1 i) ∙ sym (text_joined p.0 q.0))

pub within : (tag : Tag) (attributes : List Attribute) (inside : List ℕ) → IsMarkup inside → IsMarkup (start_text tag attributes ++ (inside ++ end_text tag))
within tag attributes inside p = (
  element tag attributes p.0,
  ap (λ text. start_text tag attributes ++ (text ++ end_text tag)) p.1
      ∙ ap (λ end. start_text tag attributes ++ (document_text p.0 ++ end)) (sym (append-nil (end_text tag))),
)
