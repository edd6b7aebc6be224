-- The text of documents one behind another.
use Rattle.std.proofs.Common.{◌≡◌, ℕ, List, [], ◌∷◌, ◌++◌, refl, ap, sym, ◌∙◌, append_assoc, map}
use Rattle.cics_picture.specs.Xml.Characters.{character_text, text_of, shown, shown_text}
use Rattle.cics_picture.specs.Xml.Documents.{Document, Empty, Character, Element, start_text, end_text, document_text, characters_before, said, joined}

pub text_joined : (a b : Document) → document_text (joined a b) ≡ document_text a ++ document_text b
text_joined Empty b = refl
text_joined (Character c a) b = ap (λ t. character_text c ++ t) (text_joined a b) ∙ sym (append_assoc (character_text c) (document_text a) (document_text b))
text_joined (Element tag attributes inside a) b =
    let start = start_text tag attributes in
    let end = end_text tag in
    ap (λ t. start ++ (document_text inside ++ (end ++ t))) (text_joined a b)
    ∙ ap (λ t. start ++ (document_text inside ++ t)) (sym (append_assoc end (document_text a) (document_text b)))
    ∙ ap (λ t. start ++ t) (sym (append_assoc (document_text inside) (end ++ document_text a) (document_text b)))
    ∙ sym (append_assoc start (document_text inside ++ (end ++ document_text a)) (document_text b))

pub characters_text : (cs : List ℕ) → document_text (characters_before cs Empty) ≡ text_of cs
characters_text [] = refl
characters_text (c ∷ cs) = ap (λ t. character_text c ++ t) (characters_text cs)

pub text_said : (bytes : List ℕ) → document_text (said bytes) ≡ shown_text bytes
text_said bytes = characters_text (map shown bytes)
