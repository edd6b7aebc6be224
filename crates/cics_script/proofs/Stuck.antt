-- A line is read on behind some tokens, or has the same fault whatever follows them.
use Rattle.std.proofs.Common.{◌≡◌, ◌⊎◌, ℕ, Bool, true, false, List, [], ◌∷◌, ◌++◌, refl, ap, sym, ◌∙◌, append_assoc, Option, Some, None, inl, inr}
use Rattle.std.specs.Prelude.{Result, Ok, Err, if◌then◌else◌}
use Rattle.std.specs.Str.{bytes_eq}
use Rattle.cics_script.specs.declared.lines.Line.{Line}
use Rattle.cics_script.specs.declared.lines.Line.TheVariants as line_of
use Rattle.cics_script.specs.declared.faults.LineFault.{LineFault}
use Rattle.cics_script.specs.declared.faults.LineFault.TheVariants.{TooLong, NotAscii, UnknownWord, BadLiteral, BadNumber, MissingOption, DoubledOption, OptionNotHere, DefineTooLate, NoMemory}
use Rattle.cics_script.specs.declared.words.FirstWord.{FirstWord}
use Rattle.cics_script.specs.declared.words.FirstWord.TheVariants as start
use Rattle.cics_script.specs.declared.words.DefineObject.{DefineObject}
use Rattle.cics_script.specs.declared.words.LoadObject.{LoadObject}
use Rattle.cics_script.specs.declared.words.CommandWord.{CommandWord}
use Rattle.cics_script.specs.declared.words.LineForm.{LineForm}
use Rattle.cics_script.specs.declared.words.LineForm.TheVariants as form
use Rattle.cics_script.specs.Faults.{◌>>=◌}
use Rattle.cics_script.specs.Tokens.{Token, word, number, literal, opening, closing, broken}
use Rattle.cics_script.specs.Words.{lookup, starts, define_objects, load_objects, commands, queue_words}
use Rattle.cics_script.specs.Options.{Entry, Place, at_option, moves, reads, options}
use Rattle.cics_script.specs.Commands.{verb_in, is_handled}
use Rattle.cics_script.specs.Lines.{word_first, known, behind, label_in, definition_in, load_in, attach_in, define, load, clock, shutdown}
use Rattle.cics_script.specs.Lines.{taken, command_at, issued, command_line, issue, begun, statement}
use Rattle.cics_script.specs.Columns.{IsStuck, other_fault}
use lib.Chars.{codes}

-- what is read behind these tokens: the fault of a broken token there, or the same whatever follows
abbrev Goes : {A : Type 0} → (List Token → Result A LineFault) → List Token → Type 0
Goes read front =
    ((fault : LineFault) (rest : List Token) → read (front ++ broken fault ∷ rest) ≡ Err fault)
    ⊎ ((rest others : List Token) → read (front ++ rest) ≡ read (front ++ others))

goes-then : {A B : Type 0} (read : List Token → Result A LineFault) (more : A → Result B LineFault) (front : List Token) → Goes read front → Goes (λ ts. read ts >>= more) front
goes-then read more front (inl e) = inl (λ fault rest. ap (λ r. r >>= more) (e fault rest))
goes-then read more front (inr e) = inr (λ rest others. ap (λ r. r >>= more) (e rest others))

goes-moved : (f : LineForm) (moved : Result (Place × List Entry) LineFault) (front : List Token)
    → ((place : Place) (found : List Entry) → Goes (reads f place found) front) → Goes (λ ts. moved >>= λ next. reads f next.0 next.1 ts) front
goes-moved f (Ok next) front h = h next.0 next.1
goes-moved f (Err fault) front h = inr (λ rest others. refl)

goes-reads : (f : LineForm) (place : Place) (found : List Entry) (front : List Token) → Goes (reads f place found) front
goes-reads f place found [] = inl (λ fault rest. refl)
goes-reads f place found (token ∷ front) = goes-moved f (moves f place found token) front (λ place found. goes-reads f place found front)

goes-options : {B : Type 0} (f : LineForm) (more : List Entry → Result B LineFault) (front : List Token) → Goes (λ ts. options f ts >>= more) front
goes-options f more front = goes-then (options f) more front (goes-reads f (at_option None) [] front)

goes-word : {B : Type 0} (more : List ℕ × List Token → Result B LineFault) (front : List Token)
    → ((w : List ℕ) (front : List Token) → Goes (λ ts. more (w, ts)) front) → Goes (λ ts. word_first ts >>= more) front
goes-word more [] h = inl (λ fault rest. refl)
goes-word more (word w ∷ front) h = h w front
goes-word more (number n ∷ front) h = inr (λ rest others. refl)
goes-word more (literal notation t ∷ front) h = inr (λ rest others. refl)
goes-word more (opening ∷ front) h = inr (λ rest others. refl)
goes-word more (closing ∷ front) h = inr (λ rest others. refl)
goes-word more (broken fault ∷ front) h = inr (λ rest others. refl)

goes-same : {B : Type 0} (same : Bool) (more : List Token → Result B LineFault) (front : List Token)
    → Goes more front → Goes (λ ts. (if same then Ok ts else Err UnknownWord) >>= more) front
goes-same true more front h = h
goes-same false more front h = inr (λ rest others. refl)

goes-behind : {B : Type 0} (wanted : List ℕ) (more : List Token → Result B LineFault) (front : List Token)
    → ((front : List Token) → Goes more front) → Goes (λ ts. behind wanted ts >>= more) front
goes-behind wanted more [] h = inl (λ fault rest. refl)
goes-behind wanted more (word w ∷ front) h = goes-same (bytes_eq w wanted) more front (h front)
goes-behind wanted more (number n ∷ front) h = inr (λ rest others. refl)
goes-behind wanted more (literal notation t ∷ front) h = inr (λ rest others. refl)
goes-behind wanted more (opening ∷ front) h = inr (λ rest others. refl)
goes-behind wanted more (closing ∷ front) h = inr (λ rest others. refl)
goes-behind wanted more (broken fault ∷ front) h = inr (λ rest others. refl)

goes-defined : (found : Option DefineObject) (front : List Token)
    → Goes (λ ts. known found >>= λ object. options (form.Define object) ts >>= λ entries. definition_in object entries) front
goes-defined None front = inr (λ rest others. refl)
goes-defined (Some object) front = goes-options (form.Define object) (definition_in object) front

goes-define : (front : List Token) → Goes define front
goes-define [] = inl (λ fault rest. refl)
goes-define (word w ∷ front) = goes-defined (lookup w define_objects) (word w ∷ front)
goes-define (number n ∷ front) = inr (λ rest others. refl)
goes-define (literal notation t ∷ front) = inr (λ rest others. refl)
goes-define (opening ∷ front) = inr (λ rest others. refl)
goes-define (closing ∷ front) = inr (λ rest others. refl)
goes-define (broken fault ∷ front) = inr (λ rest others. refl)

goes-loaded : (found : Option LoadObject) (front : List Token)
    → Goes (λ ts. known found >>= λ object. options (form.Load object) ts >>= λ entries. load_in object entries) front
goes-loaded None front = inr (λ rest others. refl)
goes-loaded (Some object) front = goes-options (form.Load object) (load_in object) front

goes-load : (front : List Token) → Goes load front
goes-load [] = inl (λ fault rest. refl)
goes-load (word w ∷ front) = goes-loaded (lookup w load_objects) (word w ∷ front)
goes-load (number n ∷ front) = inr (λ rest others. refl)
goes-load (literal notation t ∷ front) = inr (λ rest others. refl)
goes-load (opening ∷ front) = inr (λ rest others. refl)
goes-load (closing ∷ front) = inr (λ rest others. refl)
goes-load (broken fault ∷ front) = inr (λ rest others. refl)

goes-attached : (label : Result (List ℕ) LineFault) (front : List Token)
    → Goes (λ ts. label >>= λ label. options form.Attach ts >>= λ entries. attach_in label entries) front
goes-attached (Err fault) front = inr (λ rest others. refl)
goes-attached (Ok label) front = goes-options form.Attach (attach_in label) front

goes-clock : (front : List Token) → Goes clock front
goes-clock [] = inl (λ fault rest. refl)
goes-clock (word w ∷ front) = inr (λ rest others. refl)
goes-clock (number n ∷ front) = goes-options form.Clock (λ entries. Ok (line_of.Clock n)) front
goes-clock (literal notation t ∷ front) = inr (λ rest others. refl)
goes-clock (opening ∷ front) = inr (λ rest others. refl)
goes-clock (closing ∷ front) = inr (λ rest others. refl)
goes-clock (broken fault ∷ front) = inr (λ rest others. refl)

goes-shutdown : (front : List Token) → Goes shutdown front
goes-shutdown front =
    goes-behind (codes "IMMEDIATE") (λ ts. options form.Shutdown ts >>= λ entries. Ok line_of.Shutdown) front
    (goes-options form.Shutdown (λ entries. Ok line_of.Shutdown))

goes-issued : (label : List ℕ) (verb : CommandWord) (front : List Token) → Goes (λ ts. issued label (verb, ts)) front
goes-issued label verb front =
    goes-options (form.Command verb) (λ entries. verb_in verb entries >>= λ made. Ok (line_of.Issue label (record { verb = made; resp = is_handled entries }))) front

goes-taken : (label : List ℕ) (found : Option CommandWord) (verb : CommandWord) (w : List ℕ) (front : List Token)
    → Goes (λ ts. issued label (taken found verb w ts)) front
goes-taken label (Some command) verb w front = goes-issued label command front
goes-taken label None verb w front = goes-issued label verb (word w ∷ front)

goes-placed : (label : List ℕ) (verb : CommandWord) (front : List Token) → Goes (λ ts. issued label (command_at verb ts)) front
goes-placed label verb [] = inl (λ fault rest. refl)
goes-placed label verb (word w ∷ front) = goes-taken label (lookup w (queue_words verb)) verb w front
goes-placed label verb (number n ∷ front) = goes-issued label verb (number n ∷ front)
goes-placed label verb (literal notation t ∷ front) = goes-issued label verb (literal notation t ∷ front)
goes-placed label verb (opening ∷ front) = goes-issued label verb (opening ∷ front)
goes-placed label verb (closing ∷ front) = goes-issued label verb (closing ∷ front)
goes-placed label verb (broken fault ∷ front) = goes-issued label verb (broken fault ∷ front)

abbrev found_with : CommandWord → List Token → Result (CommandWord × List Token) LineFault
found_with verb ts = Ok (verb, ts)

goes-verb : (label : List ℕ) (found : Option CommandWord) (front : List Token)
    → Goes (λ ts. (known found >>= λ verb. found_with verb ts) >>= λ found. issued label (command_at found.0 found.1)) front
goes-verb label None front = inr (λ rest others. refl)
goes-verb label (Some verb) front = goes-placed label verb front

goes-command : (label : List ℕ) (front : List Token) → Goes (command_line label) front
goes-command label [] = inl (λ fault rest. refl)
goes-command label (word w ∷ front) = goes-verb label (lookup w commands) front
goes-command label (number n ∷ front) = inr (λ rest others. refl)
goes-command label (literal notation t ∷ front) = inr (λ rest others. refl)
goes-command label (opening ∷ front) = inr (λ rest others. refl)
goes-command label (closing ∷ front) = inr (λ rest others. refl)
goes-command label (broken fault ∷ front) = inr (λ rest others. refl)

goes-issue : (label : List ℕ) (front : List Token) → Goes (issue label) front
goes-issue label front =
    goes-behind (codes "EXEC") (λ ts. behind (codes "CICS") ts >>= λ ts. command_line label ts) front
    (λ front. goes-behind (codes "CICS") (command_line label) front (goes-command label))

goes-labelled : (label : Result (List ℕ) LineFault) (front : List Token) → Goes (λ ts. label >>= λ label. issue label ts) front
goes-labelled (Err fault) front = inr (λ rest others. refl)
goes-labelled (Ok label) front = goes-issue label front

goes-begun : (found : Option FirstWord) (w : List ℕ) (front : List Token) → Goes (begun found w) front
goes-begun (Some start.Define) w front = goes-define front
goes-begun (Some start.Load) w front = goes-load front
goes-begun (Some start.Attach) w front =
    goes-word (λ first. label_in first.0 >>= λ label. options form.Attach first.1 >>= λ entries. attach_in label entries) front
    (λ w front. goes-attached (label_in w) front)
goes-begun (Some start.Clock) w front = goes-clock front
goes-begun (Some start.Shutdown) w front = goes-shutdown front
goes-begun None w front = goes-labelled (label_in w) front

goes-statement : (front : List Token) → Goes statement front
goes-statement front = goes-word (λ first. begun (lookup first.0 starts) first.0 first.1) front (λ w front. goes-begun (lookup w starts) w front)

-- ---- stuck or not

differs : (fault : LineFault) (read : Result Line LineFault) → read ≡ Err (other_fault fault) → read ≡ Err fault → ⊥
differs TooLong read e f = cc
differs NotAscii read e f = cc
differs UnknownWord read e f = cc
differs BadLiteral read e f = cc
differs BadNumber read e f = cc
differs MissingOption read e f = cc
differs DoubledOption read e f = cc
differs OptionNotHere read e f = cc
differs DefineTooLate read e f = cc
differs NoMemory read e f = cc

-- a broken token that has another fault shows that a line can be read on
pub open-probed : (fault : LineFault) (front : List Token) → statement (front ++ broken (other_fault fault) ∷ []) ≡ Err (other_fault fault) → IsStuck fault front → ⊥
open-probed fault front probed stuck = differs fault (statement (front ++ broken (other_fault fault) ∷ [])) probed (stuck (broken (other_fault fault) ∷ []))

pub open-first : (fault : LineFault) → IsStuck fault [] → ⊥
open-first fault = open-probed fault [] refl

-- a broken token that doesn't have its fault shows that it can't
pub stuck-probed : (fault other : LineFault) (front rest : List Token) → statement (front ++ rest) ≡ Err fault
    → (statement (front ++ broken other ∷ []) ≡ Err other → ⊥) → IsStuck fault front
stuck-probed fault other front rest is refused = elim (goes-statement front) [ inl e ↦ absurd (refused (e other [])) | inr e ↦ λ others. e others rest ∙ is ]

-- with a broken token a line can't be read on
pub stuck-broken : (fault own : LineFault) (front : List Token) → statement (front ++ broken own ∷ []) ≡ Err fault → IsStuck fault (front ++ broken own ∷ [])
stuck-broken fault own front is = λ rest.
    ap statement (append_assoc front (broken own ∷ []) rest)
    ∙ elim (goes-statement front) [ inl e ↦ e own rest ∙ sym (e own []) | inr e ↦ e (broken own ∷ rest) (broken own ∷ []) ] ∙ is
