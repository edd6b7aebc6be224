-- The options of a line, read from left to right by a machine. Its state is a place and the options
-- that were read. It moves by one token, or stops at a fault.
use Rattle.std.specs.Prelude.{ℕ, if◌then◌else◌, List, [], ◌∷◌, ◌++◌, Option, None, Some, Result, Ok, Err}
use Rattle.std.specs.List.{list_any}
use Rattle.cics_names.specs.Names.{name_of}
use Rattle.cics_names.specs.declared.names.NameFault.{NameFault}
use Rattle.cics_script.specs.declared.faults.LineFault.{LineFault}
use Rattle.cics_script.specs.declared.faults.LineFault.TheVariants.{UnknownWord, BadLiteral, BadNumber, DoubledOption, OptionNotHere}
use Rattle.cics_script.specs.declared.literals.Notation.TheVariants.{Quoted}
use Rattle.cics_script.specs.declared.words.LineForm.{LineForm}
use Rattle.cics_script.specs.declared.words.OptionWord.{OptionWord}
use Rattle.cics_script.specs.declared.words.ValueKind.{ValueKind}
use Rattle.cics_script.specs.declared.words.ValueKind.TheVariants.{Flag, Text, Name8, Name4, Number, Area, Last}
use Rattle.cics_script.specs.Faults.{◌>>=◌}
use Rattle.cics_script.specs.Tokens.{Token, word, number, literal, opening, closing, broken}
use Rattle.cics_script.specs.Literals.{recorded}
use Rattle.cics_script.specs.Words.{lookup, option_words, same, kind_in, excludes}

-- what stood in an option's parentheses: a record, the padded bytes of a name, a number, or what
-- has no effect
pub data Content : Type 0 where
  text : List ℕ → Content
  name8 : List ℕ → Content
  name4 : List ℕ → Content
  amount : ℕ → Content
  nothing : Content

-- an option that was read
abbrev pub Entry : Type 0
Entry = OptionWord × Content

-- what must stand next: an option (after one of this kind, or none), a part of an option's value,
-- or nothing more
pub data Place : Type 0 where
  at_option : Option ValueKind → Place
  at_opening : OptionWord → ValueKind → Place
  at_value : OptionWord → ValueKind → Place
  at_closing : OptionWord → ValueKind → Content → Place
  at_end : Place

-- the fault of a wrong or missing value or parenthesis
abbrev pub fault_of : ValueKind → LineFault
fault_of Number = BadNumber
fault_of kind = BadLiteral

-- what a quoted literal says; any other token is no name
abbrev pub quoted : Token → Result (List ℕ) LineFault
quoted (broken fault) = Err fault
quoted (literal Quoted t) = Ok t
quoted token = Err BadLiteral

-- a name, or BadLiteral if the text is none
abbrev pub lawful : Result (List ℕ) NameFault → Result (List ℕ) LineFault
lawful (Ok bytes) = Ok bytes
lawful (Err fault) = Err BadLiteral

-- a token as a value of this kind; an area keeps only a number
abbrev pub content_in : ValueKind → Token → Result Content LineFault
content_in kind (broken fault) = Err fault
content_in Text (literal notation t) = Ok (text (recorded notation t))
content_in Name8 token = quoted token >>= λ t. lawful (name_of 8 t) >>= λ bytes. Ok (name8 bytes)
content_in Name4 token = quoted token >>= λ t. lawful (name_of 4 t) >>= λ bytes. Ok (name4 bytes)
content_in Number (number n) = Ok (amount n)
content_in Area (literal notation t) = Ok nothing
content_in Area (number n) = Ok (amount n)
content_in Area (word w) = Ok nothing
content_in kind token = Err (fault_of kind)

-- the fault of a parenthesis where an option should stand: one too many after a whole option, or
-- else no word
abbrev pub surplus : Option ValueKind → LineFault
surplus None = UnknownWord
surplus (Some kind) = fault_of kind

-- what an option takes, if the line has it, it wasn't read yet, and none was read that excludes it
abbrev pub allowed : List Entry → OptionWord → Option ValueKind → Result ValueKind LineFault
allowed found option None = Err OptionNotHere
allowed found option (Some kind) =
    if list_any (λ entry. same entry.0 option) found then Err DoubledOption
    else if list_any (λ entry. excludes entry.0 option) found then Err OptionNotHere
    else Ok kind

-- after an option's word: a flag is whole, the last option ends the line, and a value must follow
-- any other
abbrev pub entered : OptionWord → List Entry → ValueKind → Place × List Entry
entered option found Flag = (at_option (Some Flag), found ++ (option, nothing) ∷ [])
entered option found Last = (at_end, found ++ (option, nothing) ∷ [])
entered option found kind = (at_opening option kind, found)

-- after a word where an option should stand
abbrev pub named : LineForm → List Entry → Option OptionWord → Result (Place × List Entry) LineFault
named form found None = Err UnknownWord
named form found (Some option) = allowed found option (kind_in form option) >>= λ kind. Ok (entered option found kind)

-- one token further
abbrev pub moves : LineForm → Place → List Entry → Token → Result (Place × List Entry) LineFault
moves form place found (broken fault) = Err fault
moves form (at_option last) found (word w) = named form found (lookup w option_words)
moves form (at_option last) found opening = Err (surplus last)
moves form (at_option last) found closing = Err (surplus last)
moves form (at_option last) found token = Err UnknownWord
moves form (at_opening option kind) found opening = Ok (at_value option kind, found)
moves form (at_opening option kind) found token = Err (fault_of kind)
moves form (at_value option kind) found token = content_in kind token >>= λ content. Ok (at_closing option kind content, found)
moves form (at_closing option kind content) found closing = Ok (at_option (Some kind), found ++ (option, content) ∷ [])
moves form (at_closing option kind content) found token = Err (fault_of kind)
moves form at_end found token = Err UnknownWord

-- the line's end: a missing token has the fault of a wrong one
abbrev pub ends : Place → List Entry → Result (List Entry) LineFault
ends (at_option last) found = Ok found
ends (at_opening option kind) found = Err (fault_of kind)
ends (at_value option kind) found = Err (fault_of kind)
ends (at_closing option kind content) found = Err (fault_of kind)
ends at_end found = Ok found

-- the options from here to the line's end
abbrev pub reads : LineForm → Place → List Entry → List Token → Result (List Entry) LineFault
reads form place found [] = ends place found
reads form place found (token ∷ tokens) = moves form place found token >>= λ next. reads form next.0 next.1 tokens

-- the place after a whole option
abbrev pub behind_option : ValueKind → Place
behind_option Last = at_end
behind_option kind = at_option (Some kind)

-- the options of a line, from after its fixed part
abbrev pub options : LineForm → List Token → Result (List Entry) LineFault
options form tokens = reads form (at_option None) [] tokens
