-- What a call of the code returned, in the words of the grammar: the code reads bytes, the grammar
-- reads their tokens. Ok is what the grammar reads. Err is its fault, unless memory was refused.
use Rattle.std.specs.Prelude.{◌≡◌, ◌<◌, ◌≤◌, ℕ, List, [], ◌∷◌, ◌++◌, map, length, Option, None, Some, Result, Ok, Err}
use Rattle.std.specs.Borrow.{Bor}
use Rattle.std.specs.Cow.{cow_slice_items}
use Rattle.std.specs.declared.alloc.Global.{Global}
use Rattle.std.specs.declared.borrow.CowSlice.{CowSlice}
use Rattle.arrayvec.specs.ArrayVec.{ArrayVec}
use Rattle.cics_script.specs.declared.faults.LineFault.{LineFault}
use Rattle.cics_script.specs.declared.tokens.Token as made
use Rattle.cics_script.specs.declared.tokens.Token.TheVariants as token
use Rattle.cics_script.specs.declared.options.Value.{Value}
use Rattle.cics_script.specs.declared.options.Value.TheVariants as value
use Rattle.cics_script.specs.declared.options.Found.{Found}
use Rattle.cics_script.specs.declared.words.CommandWord.{CommandWord}
use Rattle.cics_script.specs.declared.words.LineForm.{LineForm}
use Rattle.cics_script.specs.declared.words.OptionWord.{OptionWord}
use Rattle.cics_script.specs.declared.words.ValueKind.{ValueKind}
use Rattle.cics_script.specs.Faults.{Refuses}
use Rattle.cics_script.specs.Literals.{said, recorded}
use Rattle.cics_script.specs.Tokens.{Token, word, number, literal, opening, closing, broken, capital, text_in, token_at, tokens}
use Rattle.cics_script.specs.Words.{lookup}
use Rattle.cics_script.specs.Options.{Content, text, name8, name4, amount, nothing, Entry, Place, at_option, at_opening, at_value, at_closing, at_end, behind_option, entered, reads}

-- a token of the code, which is borrowed from its line
abbrev pub view : made.Token → Token
view (token.Word w) = word (map capital w.now)
view (token.Number n) = number n
view (token.Literal l) = literal l.notation (said (text_in l.notation l.behind_quote.now))
view token.Opening = opening
view token.Closing = closing

-- the first token was read, or is broken; and the bytes after it
abbrev pub GivesToken : Result (made.Token × Bor (List ℕ)) LineFault → Token × List ℕ → Type 0
GivesToken (Ok found) front = front ≡ (view found.0, found.1.now)
GivesToken (Err fault) front = front ≡ (broken fault, [])

-- the next token was read and bytes were taken, or there is none, or it is broken
abbrev pub Takes : List ℕ → Result (Option (made.Token × Bor (List ℕ))) LineFault → Type 0
Takes bytes (Ok None) = tokens bytes ≡ []
Takes bytes (Ok (Some found)) = (tokens bytes ≡ view found.0 ∷ tokens found.1.now) × (length found.1.now < length bytes)
Takes bytes (Err fault) = tokens bytes ≡ broken fault ∷ []

-- the bytes begin with this word, and these are the bytes after it
abbrev pub StartsWith : List ℕ → List ℕ → List ℕ → Type 0
StartsWith w bytes rest = (tokens bytes ≡ word w ∷ tokens rest) × (length rest < length bytes)

-- the bytes begin with a word for which a table has this, and these are the bytes after it
abbrev pub IsNamed : {X : Type 0} → List (List ℕ × X) → X → List ℕ → List ℕ → Type 0
IsNamed rows x bytes rest = (w : List ℕ) × (lookup w rows ≡ Some x) × StartsWith w bytes rest

-- a word was read, with the bytes after it
abbrev pub GivesWord : Result (List ℕ × List Token) LineFault → Result (Bor (List ℕ) × Bor (List ℕ)) LineFault → Type 0
GivesWord read (Ok found) = read ≡ Ok (map capital found.0.now, tokens found.1.now)
GivesWord read (Err fault) = read ≡ Err fault

-- a verb was read, with the bytes after it
abbrev pub GivesVerb : Result (CommandWord × List Token) LineFault → Result (CommandWord × Bor (List ℕ)) LineFault → Type 0
GivesVerb read (Ok found) = read ≡ Ok (found.0, tokens found.1.now)
GivesVerb read (Err fault) = read ≡ Err fault

-- a number was read, with the bytes after it
abbrev pub GivesNumber : Result (ℕ × List Token) LineFault → Result (ℕ × Bor (List ℕ)) LineFault → Type 0
GivesNumber read (Ok found) = read ≡ Ok (found.0, tokens found.1.now)
GivesNumber read (Err fault) = read ≡ Err fault

-- a word that must stand there was read: the bytes after it
abbrev pub GivesRest : Result (List Token) LineFault → Result (Bor (List ℕ)) LineFault → Type 0
GivesRest read (Ok rest) = read ≡ Ok (tokens rest.now)
GivesRest read (Err fault) = read ≡ Err fault

-- the content of an option's value
abbrev pub content : Value → Content
content (value.Text l) = text (recorded l.notation (said (text_in l.notation l.behind_quote.now)))
content (value.Name8 n) = name8 n
content (value.Name4 n) = name4 n
content (value.Number n) = amount n
content value.Nothing = nothing

-- the options that were read, with their contents
abbrev pub entries : List Found → List Entry
entries found = map (λ one. (one.option, content one.value)) found

-- a text was read
abbrev pub GivesText : Result (List ℕ) LineFault → Result (CowSlice ℕ Global) LineFault → Type 0
GivesText read (Ok made) = read ≡ Ok (cow_slice_items made)
GivesText read (Err fault) = Refuses read fault

-- a name was read
abbrev pub GivesName : (List ℕ → Content) → Result Content LineFault → Result (List ℕ) LineFault → Type 0
GivesName made read (Ok name) = read ≡ Ok (made name)
GivesName made read (Err fault) = Refuses read fault

-- a value was read
abbrev pub GivesContent : Result Content LineFault → Result Value LineFault → Type 0
GivesContent read (Ok value) = read ≡ Ok (content value)
GivesContent read (Err fault) = Refuses read fault

-- a step was made, to a place, options and bytes from which the grammar reads the same as before
-- the step; or its fault was returned
abbrev pub Steps : {X : Type 0} → LineForm → List Entry → Place → List ℕ → (X → Place × List Entry × List ℕ) → Result X LineFault → Type 0
Steps form found place bytes after (Ok x) =
    (reads form place found (tokens bytes) ≡ reads form (after x).0 (after x).1 (tokens (after x).2)) × (length (after x).2 < length bytes)
Steps form found place bytes after (Err fault) = Refuses (reads form place found (tokens bytes)) fault

-- an opening parenthesis was read, whichever option it belongs to
abbrev pub Opens : ValueKind → List ℕ → Result (Bor (List ℕ)) LineFault → Type 0
Opens kind bytes result = (f : LineForm) (found : List Entry) (w : OptionWord)
    → Steps f found (at_opening w kind) bytes (λ rest. (at_value w kind, found, rest.now)) result

-- the token that stands as a value was read, whichever option it belongs to
abbrev pub GivesValue : ValueKind → List ℕ → Result (made.Token × Bor (List ℕ)) LineFault → Type 0
GivesValue kind bytes (Ok found) = (tokens bytes ≡ view found.0 ∷ tokens found.1.now) × (length found.1.now < length bytes)
GivesValue kind bytes (Err fault) = (f : LineForm) (found : List Entry) (w : OptionWord) → reads f (at_value w kind) found (tokens bytes) ≡ Err fault

-- the content of parentheses was read, and the option added after the others
abbrev pub Fills : ValueKind → OptionWord → List Entry → List Entry → List ℕ → Result (Bor (List ℕ)) LineFault → Type 0
Fills kind option before after bytes (Ok rest) =
    (c : Content) × (after ≡ before ++ (option, c) ∷ [])
    × ((f : LineForm) → reads f (at_value option kind) before (tokens bytes) ≡ reads f (at_closing option kind c) before (tokens rest.now))
    × (length rest.now < length bytes)
Fills kind option before after bytes (Err fault) = (f : LineForm) → Refuses (reads f (at_value option kind) before (tokens bytes)) fault

-- a closing parenthesis was read, after whatever content
abbrev pub Shuts : ValueKind → List ℕ → Result (Bor (List ℕ)) LineFault → Type 0
Shuts kind bytes result = (f : LineForm) (found : List Entry) (w : OptionWord) (c : Content)
    → Steps f found (at_closing w kind c) bytes (λ rest. (at_option (Some kind), found ++ (w, c) ∷ [], rest.now)) result

-- a value in parentheses was read, and the option added after the others
abbrev pub HasValue : ValueKind → OptionWord → List Entry → List Entry → List ℕ → Result (Bor (List ℕ)) LineFault → Type 0
HasValue kind option before after bytes result = (f : LineForm)
    → Steps f before (at_opening option kind) bytes (λ rest. (at_option (Some kind), after, rest.now)) result

-- what reading an option behind its word gave, with the option put behind others
abbrev pub Enters : ValueKind → OptionWord → List Entry → List Entry → List ℕ → Result (Bor (List ℕ)) LineFault → Type 0
Enters kind option before after bytes (Ok rest) = (form : LineForm)
    → (reads form (entered option before kind).0 (entered option before kind).1 (tokens bytes) ≡ reads form (behind_option kind) after (tokens rest.now))
    × (length rest.now ≤ length bytes)
Enters kind option before after bytes (Err fault) = (form : LineForm)
    → Refuses (reads form (entered option before kind).0 (entered option before kind).1 (tokens bytes)) fault

-- the line ends here, or a fault was returned
abbrev pub Ends : List ℕ → Result Unit LineFault → Type 0
Ends bytes (Ok end) = (form : LineForm) (found : List Entry) → reads form at_end found (tokens bytes) ≡ Ok found
Ends bytes (Err fault) = (form : LineForm) (found : List Entry) → Refuses (reads form at_end found (tokens bytes)) fault

-- all options were read
abbrev pub GivesEntries : Result (List Entry) LineFault → Result (ArrayVec Found) LineFault → Type 0
GivesEntries read (Ok found) = read ≡ Ok (entries found.items)
GivesEntries read (Err fault) = Refuses read fault

-- the first token was cut off: its bytes, which are the same token if a space follows them, and the
-- bytes after it; or it is broken
abbrev pub CutsOff : List ℕ → Option (Bor (List ℕ) × Bor (List ℕ)) → Type 0
CutsOff bytes None = (fault : LineFault) × (token_at bytes ≡ (broken fault, []))
CutsOff bytes (Some found) =
    (token : Token) × (token_at bytes ≡ (token, found.1.now)) × (bytes ≡ found.0.now ++ found.1.now)
    × ((more : List ℕ) → token_at (found.0.now ++ 32 ∷ more) ≡ (token, 32 ∷ more))
