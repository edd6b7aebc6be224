-- A reader of documents: it cuts a text into tags and characters, and pairs the tags.
use Rattle.std.specs.Prelude.{ℕ, Bool, true, false, not, ◌&&◌, ◌==◌, if◌then◌else◌, Option, Some, None, option_map, option_and_then, List, [], ◌∷◌, ◌++◌}
use Rattle.std.specs.Str.{bytes_eq}
use Rattle.cics_picture.specs.declared.xml.names.Tag.{Tag}
use Rattle.cics_picture.specs.declared.xml.names.Key.{Key}
use Rattle.cics_picture.specs.Xml.Names.{tag_name, key_name, tags, keys, called}
use Rattle.cics_picture.specs.Xml.Characters.{is_plain, number}
use Rattle.cics_picture.specs.Xml.Documents.{Attribute, attribute, Document, Empty, Character, Element}
use lib.Chars.{codes}

-- a start tag, an end tag, or a character
pub data Piece : Type 0 where
  Start : Tag → List Attribute → Piece
  End : Tag → Piece
  Sign : ℕ → Piece

-- Where the reader is: among the pieces, or in a reference there. Or in the name of a tag, or in a
-- start tag, behind its name or a value. Or in an attribute's name, in a value, or in a reference
-- in one. It has read the parts that are named.
pub data Place : Type 0 where
  Between : Place
  Reference : Place
  Name : Place
  Behind : Tag → List Attribute → Place
  KeyName : Tag → List Attribute → Place
  Value : Tag → List Attribute → Key → List ℕ → Place
  ValueReference : Tag → List Attribute → Key → List ℕ → Place

-- whether a byte is only gathered where the reader is
abbrev pub is_gathered : Place → ℕ → Bool
is_gathered Reference c = not (c == 59)
is_gathered Name c = not (c == 32) && not (c == 62)
is_gathered (KeyName tag before) c = not (c == 34)
is_gathered (ValueReference tag before key value) c = not (c == 59)
is_gathered place c = false

-- the character of a reference, which is # and digits
abbrev pub referred : List ℕ → Option ℕ
referred [] = None
referred (c ∷ digits) = if c == 35 then Some (number digits) else None

-- pieces that are whole, and where the reader is behind them
abbrev pub Turn : Type 0
Turn = Option (List Piece × Place)

-- behind the name of a tag or behind a value: another attribute, or the end of the tag
abbrev pub behind : Tag → List Attribute → ℕ → Turn
behind tag before c = if c == 32 then Some ([], KeyName tag before) else if c == 62 then Some (Start tag before ∷ [], Between) else None

-- the name of a tag has ended: of an end tag if it begins with /
abbrev pub named : List ℕ → ℕ → Turn
named [] c = None
named (first ∷ name) c =
    if first == 47 && c == 62
    then option_map (λ tag. (End tag ∷ [], Between)) (called tag_name name tags)
    else option_and_then (λ tag. behind tag [] c) (called tag_name (first ∷ name) tags)

-- what a byte makes that isn't gathered, with what was gathered before it
abbrev pub turn : Place → List ℕ → ℕ → Turn
turn Between gathered c =
    if c == 60 then Some ([], Name)
    else if c == 38 then Some ([], Reference)
    else if is_plain c then Some (Sign c ∷ [], Between) else None
turn Reference gathered c = option_map (λ n. (Sign n ∷ [], Between)) (referred gathered)
turn Name gathered c = named gathered c
turn (Behind tag before) gathered c = behind tag before c
turn (KeyName tag before) gathered c = option_map (λ key. ([], Value tag before key [])) (called (λ k. key_name k ++ codes "=") gathered keys)
turn (Value tag before key value) gathered c =
    if c == 34 then Some ([], Behind tag (before ++ (attribute key value ∷ [])))
    else if c == 38 then Some ([], ValueReference tag before key value)
    else if is_plain c then Some ([], Value tag before key (value ++ (c ∷ []))) else None
turn (ValueReference tag before key value) gathered c = option_map (λ n. ([], Value tag before key (value ++ (n ∷ [])))) (referred gathered)

-- the pieces of a turn, and those that the reader finds from there on
abbrev pub from_turn : Turn → (Place → Option (List Piece)) → Option (List Piece)
from_turn None more = None
from_turn (Some t) more = option_map (λ pieces. t.0 ++ pieces) (more t.1)

-- a text ends among its pieces
abbrev pub at_end : Place → Option (List Piece)
at_end Between = Some []
at_end place = None

-- the pieces that a text is read as from here on, with what was gathered before
unfoldable pub pieces_from : List ℕ → Place → List ℕ → Option (List Piece)
pieces_from [] place gathered = at_end place
pieces_from (c ∷ bytes) place gathered = elim (is_gathered place c) as (λ _. Option (List Piece)) [
  | true ↦ pieces_from bytes place (gathered ++ (c ∷ []))
  | false ↦ from_turn (turn place gathered c) (λ next. pieces_from bytes next [])
]

-- the document that pieces begin with, and what follows each element whose end tag comes behind
-- that document
pub record Paired : Type 0 where
  pub document : Document
  pub open_ends : List (Tag × Document)

-- pieces that were paired to these
abbrev pub paired : Document → List (Tag × Document) → Paired
paired document open_ends = record { document = document; open_ends = open_ends }

-- a start tag takes the first of these end tags, if that has its name
abbrev pub closed : Tag → List Attribute → Document → List (Tag × Document) → Option Paired
closed tag attributes inside [] = None
closed tag attributes inside (end ∷ open_ends) =
    if bytes_eq (tag_name tag) (tag_name end.0) then Some (paired (Element tag attributes inside end.1) open_ends) else None

-- pieces paired, the last one first
unfoldable pub pairs_of : List Piece → Option Paired
pairs_of [] = Some (paired Empty [])
pairs_of (Sign c ∷ pieces) = option_map (λ p. paired (Character c p.document) p.open_ends) (pairs_of pieces)
pairs_of (End tag ∷ pieces) = option_map (λ p. paired Empty ((tag, p.document) ∷ p.open_ends)) (pairs_of pieces)
pairs_of (Start tag attributes ∷ pieces) = option_and_then (λ p. closed tag attributes p.document p.open_ends) (pairs_of pieces)

-- each end tag has its start tag
abbrev pub whole : Paired → List (Tag × Document) → Option Document
whole p [] = Some p.document
whole p (end ∷ open_ends) = None

-- the document that a text is read as
abbrev pub document_of : List ℕ → Option Document
document_of text = option_and_then (λ p. whole p p.open_ends) (option_and_then pairs_of (pieces_from text Between []))
