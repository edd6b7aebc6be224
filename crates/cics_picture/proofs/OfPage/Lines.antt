-- The title and the content of a page are each the text of a document.
use Rattle.std.proofs.Common.{◌≡◌, ℕ, Bool, true, false, ◌+◌, Option, None, Some, List, [], ◌∷◌, ◌++◌, length, refl, ap, ◌∙◌, subst, append_assoc}
use Rattle.std.specs.Fmt.{decimal}
use Rattle.cics_history.specs.declared.ops.UnitState.{UnitState}
use Rattle.cics_picture.specs.declared.events.RowKind.{RowKind}
use Rattle.cics_picture.specs.declared.events.RowKind.TheVariants as kind
use Rattle.cics_picture.specs.declared.xml.names.Tag.TheVariants as tag
use Rattle.cics_picture.specs.declared.xml.names.Key.TheVariants as key
use Rattle.cics_picture.specs.declared.page.notes.Note.{Note}
use Rattle.cics_picture.specs.declared.page.recording.PageStep.{PageStep}
use Rattle.cics_picture.specs.Xml.Characters.{text_of}
use Rattle.cics_picture.specs.Xml.Documents.{Attribute, attribute, start_text}
use Rattle.cics_picture.specs.Elements.{spoken, cut}
use Rattle.cics_picture.specs.Page.Kinds.{kind_class, woken_class}
use Rattle.cics_picture.specs.Page.Lines.{PageLine, div, rest, step_text, steps_text, defined_text, inside_text, line_text, lines_text, listing_text, content_text}
use Rattle.cics_picture.proofs.Markup.{IsMarkup, nothing, behind}
use Rattle.cics_picture.proofs.OfXml.Numbers.{text-append}
use Rattle.cics_picture.proofs.OfPage.Filled.{ended, closed, more, element-of}
use Rattle.cics_picture.proofs.OfPage.Notes.{spoken-read, note-read, notes-read, line-end}
use lib.Chars.{codes}

-- the class of a step has no character that is written otherwise
kind-plain : (k : Option RowKind) → text_of (kind_class k) ≡ kind_class k
kind-plain (Some kind.Attached) = refl
kind-plain (Some kind.Normal) = refl
kind-plain (Some kind.Woken) = refl
kind-plain (Some kind.Committed) = refl
kind-plain (Some kind.BackedOut) = refl
kind-plain (Some kind.Condition) = refl
kind-plain (Some kind.Waiting) = refl
kind-plain (Some kind.Ended) = refl
kind-plain (Some kind.Abended) = refl
kind-plain (Some kind.Refused) = refl
kind-plain (Some kind.Clock) = refl
kind-plain (Some kind.Down) = refl
kind-plain None = refl

woken-plain : (is_woken : Bool) → text_of (woken_class is_woken) ≡ woken_class is_woken
woken-plain false = refl
woken-plain true = refl

-- the attributes of a step
abbrev attributes : ℕ → PageStep → List Attribute
attributes number s = attribute key.Id (codes "s" ++ decimal number) ∷ attribute key.Class (woken_class s.is_woken ++ kind_class s.kind) ∷ []

-- two values in a start tag
shape : (t c : List ℕ)
    → ((t ++ codes "\"") ++ ((codes " class=\"" ++ (c ++ codes "\"")) ++ [])) ++ codes ">" ≡ t ++ (codes "\" class=\"" ++ (c ++ codes "\">"))
shape t c = simp (append_assoc) refl

div-starts : (number : ℕ) (s : PageStep) → start_text tag.Div (attributes number s) ≡ div number s
div-starts number s =
    let t = text_of (decimal number) in
    let w = woken_class s.is_woken in
    let k = kind_class s.kind in
    let plain : text_of (w ++ k) ≡ w ++ k = text-append w k ∙ (λ i. woken-plain s.is_woken i ++ kind-plain s.kind i) in
    ap (λ rest. codes "<div id=\"s" ++ rest) (shape t (text_of (w ++ k)) ∙ ap (λ c. t ++ (codes "\" class=\"" ++ (c ++ codes "\">"))) plain
    ∙ ap (λ rest. t ++ (codes "\" class=\"" ++ rest)) (append_assoc w k (codes "\">")))

step-read : (outcomes : List UnitState) (number : ℕ) (code : List ℕ) (s : PageStep) → IsMarkup code → IsMarkup (step_text outcomes number code s)
step-read outcomes number code s p =
    subst (λ start. IsMarkup (start ++ (code ++ (codes "\n" ++ rest outcomes s)))) (div-starts number s)
    (element-of tag.Div (attributes number s) _ (more tag.Div _ _ p (more tag.Div _ _ line-end (more tag.Div _ _ (spoken-read tag.Samp s.text)
    (more tag.Div _ _ line-end (more tag.Div _ _ (notes-read outcomes s.notes) (closed tag.Div)))))))

steps-read : (outcomes : List UnitState) (number : ℕ) (code : List ℕ) (steps : List PageStep) → IsMarkup code → IsMarkup (steps_text outcomes number code steps)
steps-read outcomes number code [] p = nothing
steps-read outcomes number code (s ∷ steps) p = behind _ _ (step-read outcomes number code s p) (steps-read outcomes (number + 1) [] steps nothing)

defined-read : (outcomes : List UnitState) (defined : Option Note) → IsMarkup (defined_text outcomes defined)
defined-read outcomes None = nothing
defined-read outcomes (Some n) = note-read outcomes n

inside-read : (outcomes : List UnitState) (number : ℕ) (line : List ℕ) (defined : Option Note) (steps : List PageStep) → IsMarkup (inside_text outcomes number line defined steps)
inside-read outcomes number line defined [] = behind _ _ (spoken-read tag.Code line) (behind _ _ line-end (defined-read outcomes defined))
inside-read outcomes number line defined (s ∷ steps) = steps-read outcomes number (spoken tag.Code line) (s ∷ steps) (spoken-read tag.Code line)

line-read : (outcomes : List UnitState) (number : ℕ) (l : PageLine) → IsMarkup (line_text outcomes number l)
line-read outcomes number l =
    element-of tag.Li [] _ (more tag.Li _ _ (inside-read outcomes number l.line l.defined l.steps) (ended tag.Li (codes "\n") line-end))

lines-read : (outcomes : List UnitState) (number : ℕ) (lines : List PageLine) → IsMarkup (lines_text outcomes number lines)
lines-read outcomes number [] = nothing
lines-read outcomes number (l ∷ lines) = behind _ _ (line-read outcomes number l) (lines-read outcomes (number + length l.steps) lines)

listing-read : (listing : Option (List ℕ)) → IsMarkup (listing_text listing)
listing-read None = nothing
listing-read (Some listing) = behind _ _ (spoken-read tag.Pre listing) line-end

-- the list of lines, and the listing
list-read : (outcomes : List UnitState) (lines : List PageLine) (listing : Option (List ℕ))
    → IsMarkup (codes "<ol>\n" ++ (lines_text outcomes 1 lines ++ (codes "</ol>\n" ++ listing_text listing)))
list-read outcomes lines listing =
    element-of tag.Ol [] _ (more tag.Ol _ _ line-end (more tag.Ol _ _ (lines-read outcomes 1 lines)
    (ended tag.Ol _ (behind _ _ line-end (listing-read listing)))))

pub content-read : (outcomes : List UnitState) (title : List ℕ) (lines : List PageLine) (listing : Option (List ℕ)) → IsMarkup (content_text outcomes title lines listing)
content-read outcomes title lines listing =
    let rest = lines_text outcomes 1 lines ++ (codes "</ol>\n" ++ listing_text listing) in
    let p = behind _ _ (spoken-read tag.H1 (cut 96 title)) (behind _ _ line-end (list-read outcomes lines listing)) in
    (p.0, append_assoc (spoken tag.H1 (cut 96 title)) (codes "\n<ol>\n") rest ∙ p.1)
