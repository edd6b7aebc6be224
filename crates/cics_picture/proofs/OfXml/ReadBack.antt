-- Every document is read back from its text.
use Rattle.std.proofs.Common.{◌≡◌, ℕ, true, List, [], ◌∷◌, ◌++◌, refl, ap, sym, ◌∙◌, Some, append_assoc}
use Rattle.std.proofs.lemmas.List.{append-nil}
use Rattle.std.proofs.lemmas.Slice.Eq.{bytes_eq-Decides}
use Rattle.std.specs.List.{flat_map}
use Rattle.std.specs.Str.{bytes_eq}
use Rattle.cics_picture.specs.declared.xml.names.Tag.{Tag}
use Rattle.cics_picture.specs.Xml.Names.{tag_name, key_name}
use Rattle.cics_picture.specs.Xml.Characters.{character_text, text_of}
use Rattle.cics_picture.specs.Xml.Documents.{Attribute, Document, Empty, Character, Element, attribute_text, start_text, end_text, document_text}
use Rattle.cics_picture.specs.Xml.Reading.{Piece, Start, End, Sign, Between, Name, Behind, KeyName, Value, pieces_from, pairs_of, paired, document_of}
use Rattle.cics_picture.proofs.OfXml.NamesRead.{tag-within, tag-start, tag-end, key-within, key-found}
use Rattle.cics_picture.proofs.OfXml.TextsRead.{gathers, sign-read, value-read}

-- the pieces of a document, and more behind them
pieces_before : Document → List Piece → List Piece
pieces_before Empty more = more
pieces_before (Character c d) more = Sign c ∷ pieces_before d more
pieces_before (Element tag attributes inside d) more = Start tag attributes ∷ pieces_before inside (End tag ∷ pieces_before d more)

-- the name of an attribute, up to its value
key-read : (a : Attribute) (rest : List ℕ) (pieces : List Piece) (tag : Tag) (before : List Attribute)
    → pieces_from rest (Value tag before a.key []) [] ≡ Some pieces → pieces_from (key_name a.key ++ (61 ∷ 34 ∷ rest)) (KeyName tag before) [] ≡ Some pieces
unfolding pieces_from
key-read a rest pieces tag before h =
    ap (λ bs. pieces_from bs (KeyName tag before) []) (sym (append_assoc (key_name a.key) (61 ∷ []) (34 ∷ rest)))
    ∙ gathers (key_name a.key ++ (61 ∷ [])) (34 ∷ rest) (KeyName tag before) [] (key-within a.key)
    ∙ rw (key-found a.key, h) refl

-- a value, and the quote behind it
quoted-read : (a : Attribute) (rest : List ℕ) (pieces : List Piece) (tag : Tag) (before : List Attribute)
    → pieces_from rest (Behind tag (before ++ (a ∷ []))) [] ≡ Some pieces → pieces_from (text_of a.value ++ (34 ∷ rest)) (Value tag before a.key []) [] ≡ Some pieces
unfolding pieces_from
quoted-read a rest pieces tag before h = value-read a.value (34 ∷ rest) pieces tag before a.key [] (rw h refl)

-- the attributes of a start tag, and its end
attributes-read : (attributes : List Attribute) (rest : List ℕ) (pieces : List Piece) (tag : Tag) (before : List Attribute) → pieces_from rest Between [] ≡ Some pieces
    → pieces_from (flat_map attribute_text attributes ++ (62 ∷ rest)) (Behind tag before) [] ≡ Some (Start tag (before ++ attributes) ∷ pieces)
unfolding pieces_from
attributes-read [] rest pieces tag before h = rw (h, append-nil before) refl
attributes-read (a ∷ attributes) rest pieces tag before h =
    let tail = flat_map attribute_text attributes ++ (62 ∷ rest) in
    let text : (attribute_text a ++ flat_map attribute_text attributes) ++ (62 ∷ rest) ≡ 32 ∷ (key_name a.key ++ (61 ∷ 34 ∷ (text_of a.value ++ (34 ∷ tail)))) = simp (append_assoc) refl in
    let more = attributes-read attributes rest pieces tag (before ++ (a ∷ [])) h ∙ ap (λ all. Some (Start tag all ∷ pieces)) (append_assoc before (a ∷ []) attributes) in
    ap (λ bs. pieces_from bs (Behind tag before) []) text
    ∙ rw (key-read a (text_of a.value ++ (34 ∷ tail)) _ tag before (quoted-read a tail _ tag before more)) refl

-- the name of a start tag
name-read : (attributes : List Attribute) (rest : List ℕ) (tag : Tag)
    → pieces_from (flat_map attribute_text attributes ++ (62 ∷ rest)) Name (tag_name tag) ≡ pieces_from (flat_map attribute_text attributes ++ (62 ∷ rest)) (Behind tag []) []
unfolding pieces_from
name-read [] rest tag = rw (tag-start tag 62) refl
name-read (a ∷ attributes) rest tag = rw (tag-start tag 32) refl

start-read : (tag : Tag) (attributes : List Attribute) (rest : List ℕ) (pieces : List Piece) → pieces_from rest Between [] ≡ Some pieces
    → pieces_from (start_text tag attributes ++ rest) Between [] ≡ Some (Start tag attributes ∷ pieces)
unfolding pieces_from
start-read tag attributes rest pieces h =
    let tail = flat_map attribute_text attributes ++ (62 ∷ rest) in
    let text : (tag_name tag ++ (flat_map attribute_text attributes ++ (62 ∷ []))) ++ rest ≡ tag_name tag ++ tail =
    append_assoc (tag_name tag) (flat_map attribute_text attributes ++ (62 ∷ [])) rest ∙ ap (λ bs. tag_name tag ++ bs) (append_assoc (flat_map attribute_text attributes) (62 ∷ []) rest) in
    let name = ap (λ bs. pieces_from bs Name []) text ∙ gathers (tag_name tag) tail Name [] (tag-within tag) ∙ name-read attributes rest tag ∙ attributes-read attributes rest pieces tag [] h in
    rw name refl

end-read : (tag : Tag) (rest : List ℕ) (pieces : List Piece) → pieces_from rest Between [] ≡ Some pieces → pieces_from (end_text tag ++ rest) Between [] ≡ Some (End tag ∷ pieces)
unfolding pieces_from
end-read tag rest pieces h =
    let name = ap (λ bs. pieces_from (47 ∷ bs) Name []) (append_assoc (tag_name tag) (62 ∷ []) rest) ∙ gathers (47 ∷ tag_name tag) (62 ∷ rest) Name [] (tag-within tag) in
    rw (name, tag-end tag, h) refl

-- a text is cut into the pieces of its document
cut : (d : Document) (rest : List ℕ) (pieces : List Piece) → pieces_from rest Between [] ≡ Some pieces → pieces_from (document_text d ++ rest) Between [] ≡ Some (pieces_before d pieces)
unfolding pieces_before
cut Empty rest pieces h = h
cut (Character c d) rest pieces h =
    ap (λ bs. pieces_from bs Between []) (append_assoc (character_text c) (document_text d) rest) ∙ sign-read c (document_text d ++ rest) _ (cut d rest pieces h)
cut (Element tag attributes inside d) rest pieces h =
    let behind = document_text d ++ rest in
    let text : document_text (Element tag attributes inside d) ++ rest ≡ start_text tag attributes ++ (document_text inside ++ (end_text tag ++ behind)) =
    append_assoc (start_text tag attributes) (document_text inside ++ (end_text tag ++ document_text d)) rest
    ∙ ap (λ bs. start_text tag attributes ++ bs) (append_assoc (document_text inside) (end_text tag ++ document_text d) rest
    ∙ ap (λ bs. document_text inside ++ bs) (append_assoc (end_text tag) (document_text d) rest)) in
    ap (λ bs. pieces_from bs Between []) text
    ∙ start-read tag attributes _ _ (cut inside _ _ (end-read tag behind _ (cut d rest pieces h)))

same-name : (tag : Tag) → bytes_eq (tag_name tag) (tag_name tag) ≡ true
same-name tag = (bytes_eq-Decides (tag_name tag) (tag_name tag)).1 refl

-- the pieces of a document are paired as its elements
pair : (d : Document) (more : List Piece) (open_ends : List (Tag × Document)) → pairs_of more ≡ Some (paired Empty open_ends) → pairs_of (pieces_before d more) ≡ Some (paired d open_ends)
unfolding pieces_before pairs_of
pair Empty more open_ends h = h
pair (Character c d) more open_ends h = rw (pair d more open_ends h) refl
pair (Element tag attributes inside d) more open_ends h =
    let behind : pairs_of (End tag ∷ pieces_before d more) ≡ Some (paired Empty ((tag, d) ∷ open_ends)) = rw (pair d more open_ends h) refl in
    rw (pair inside (End tag ∷ pieces_before d more) ((tag, d) ∷ open_ends) behind, same-name tag) refl

pub read_back : (d : Document) → document_of (document_text d) ≡ Some d
unfolding pieces_from pairs_of
read_back d =
    let text : pieces_from (document_text d) Between [] ≡ Some (pieces_before d []) = ap (λ bs. pieces_from bs Between []) (sym (append-nil (document_text d))) ∙ cut d [] [] refl in
    rw (text, pair d [] [] refl) refl
