-- Each note is the text of a document.
use Rattle.std.proofs.Common.{◌≡◌, ℕ, Bool, true, false, ◌==◌, cond, List, [], ◌∷◌, ◌++◌, refl, subst, sym, append_assoc}
use Rattle.cics_names.specs.Keyed.{Bytes}
use Rattle.cics_script.specs.Texts as texts
use Rattle.std.specs.Fmt.{decimal}
use Rattle.cics_history.specs.Headline.{outcome_of}
use Rattle.cics_history.specs.declared.ops.UnitState.{UnitState}
use Rattle.cics_history.specs.declared.ops.UnitState.TheVariants as ends
use Rattle.cics_run.specs.Listing.Listings.{recoverable_title, recovery_title}
use Rattle.cics_picture.specs.declared.xml.names.Tag.{Tag}
use Rattle.cics_picture.specs.declared.xml.names.Tag.TheVariants as tag
use Rattle.cics_picture.specs.declared.page.notes.Cell.{Cell}
use Rattle.cics_picture.specs.declared.page.notes.Cell.TheVariants as cell
use Rattle.cics_picture.specs.declared.page.notes.Change.{Change}
use Rattle.cics_picture.specs.declared.page.notes.Change.TheVariants.{Added, Removed, Becomes}
use Rattle.cics_picture.specs.declared.page.notes.Held.{Held}
use Rattle.cics_picture.specs.declared.page.notes.Held.TheVariants as held
use Rattle.cics_picture.specs.declared.page.notes.Wanted.{Wanted}
use Rattle.cics_picture.specs.declared.page.notes.Wanted.TheVariants as wanted
use Rattle.cics_picture.specs.declared.page.notes.Note.{Note}
use Rattle.cics_picture.specs.declared.page.notes.Note.TheVariants as note
use Rattle.cics_picture.specs.Xml.Characters.{digits}
use Rattle.cics_picture.specs.Xml.Documents.{Empty, characters_before, element, said, start_text}
use Rattle.cics_picture.specs.Elements.{class, spoken}
use Rattle.cics_picture.specs.Page.Texts.{name_element, bytes_element, key_text, numbered_text, held_class, held_words, held_text, resource_text, count_text, asked_text, wanted_text, limit_text, begins_text, set_start, set_end, cell_text, change_text, circle_text, told_text, note_text, notes_text}
use Rattle.cics_picture.proofs.Markup.{IsMarkup, nothing, itself, behind}
use Rattle.cics_picture.proofs.OfPage.Filled.{IsFilled, closed, more, element-of}
use lib.Chars.{codes}

pub spoken-read : (name : Tag) (bytes : List ℕ) → IsMarkup (spoken name bytes)
unfolding spoken
spoken-read name bytes = itself (element name [] (said bytes))

name-read : (name : Bytes) → IsMarkup (name_element name)
name-read name = spoken-read tag.I (texts.name_text name)

bytes-read : (name : Tag) (bytes : List ℕ) → IsMarkup (bytes_element name bytes)
bytes-read name bytes = spoken-read name (texts.text_of bytes)

of-read : IsMarkup (codes " of ")
of-read = (said (codes " of "), refl)

key-read : (key file : Bytes) → IsMarkup (key_text key file)
key-read key file = behind _ _ (bytes-read tag.B key) (behind _ _ of-read (name-read file))

numbered-read : (number : ℕ) (queue : Bytes) → IsMarkup (numbered_text number queue)
numbered-read number queue = behind _ _ (spoken-read tag.B (decimal number)) (behind _ _ of-read (name-read queue))

-- a note of a class
noted : (name text : List ℕ) → IsFilled tag.P text → IsMarkup (start_text tag.P (class name ∷ []) ++ text)
noted name text f = element-of tag.P (class name ∷ []) text f

end : IsFilled tag.P (codes "</p>")
end = closed tag.P

-- markup in a note, and what follows it
then : (a text : List ℕ) → IsMarkup a → IsFilled tag.P text → IsFilled tag.P (a ++ text)
then a text p f = more tag.P a text p f

held-read : (h : Held) → IsMarkup (held_text h)
held-read (held.Keys file bytes is_prefix) = key-read bytes file
held-read (held.Queue queue) = name-read queue
held-read (held.End queue is_writing) = name-read queue
held-read (held.Value value) = bytes-read tag.B value

words-read : (h : Held) → IsMarkup (held_words h)
words-read (held.Keys file bytes false) = (said (codes "record "), refl)
words-read (held.Keys file bytes true) = (said (codes "prefix "), refl)
words-read (held.Queue queue) = (said (codes "queue "), refl)
words-read (held.End queue false) = (said (codes "the reading end of "), refl)
words-read (held.End queue true) = (said (codes "the writing end of "), refl)
words-read (held.Value value) = (said (codes "value "), refl)

times : IsMarkup (codes " &#215;")
unfolding digits
times = (characters_before (32 ∷ 215 ∷ []) Empty, refl)

count-read : (h : Held) (count : ℕ) → IsMarkup (count_text h count)
count-read (held.Keys file bytes is_prefix) count = nothing
count-read (held.Queue queue) count = nothing
count-read (held.End queue is_writing) count = nothing
count-read (held.Value value) count = behind _ _ times (spoken-read tag.I (decimal count))

-- A note on what is held: its class has a front, and a verb follows it.
resource-read :
    (front verb text : List ℕ) (h : Held) →
    ((rest : List ℕ) → IsFilled tag.P rest → IsMarkup (front ++ (held_class h ++ (verb ++ rest)))) → IsFilled tag.P text → IsMarkup (resource_text front verb h ++ text)
unfolding resource_text
resource-read front verb text h start f =
    let same : resource_text front verb h ++ text ≡ front ++ (held_class h ++ (verb ++ (held_words h ++ (held_text h ++ text)))) = simp (append_assoc) refl in
    subst IsMarkup (sym same) (start (held_words h ++ (held_text h ++ text)) (then _ _ (words-read h) (then _ _ (held-read h) f)))

owns-start : (h : Held) (rest : List ℕ) → IsFilled tag.P rest → IsMarkup (codes "<p class=\"own " ++ (held_class h ++ (codes "\">holds " ++ rest)))
owns-start (held.Keys file bytes false) rest f = noted (codes "own file") _ (then _ _ (said (codes "holds "), refl) f)
owns-start (held.Keys file bytes true) rest f = noted (codes "own pre") _ (then _ _ (said (codes "holds "), refl) f)
owns-start (held.Queue queue) rest f = noted (codes "own ts") _ (then _ _ (said (codes "holds "), refl) f)
owns-start (held.End queue false) rest f = noted (codes "own rd") _ (then _ _ (said (codes "holds "), refl) f)
owns-start (held.End queue true) rest f = noted (codes "own wr") _ (then _ _ (said (codes "holds "), refl) f)
owns-start (held.Value value) rest f = noted (codes "own enq") _ (then _ _ (said (codes "holds "), refl) f)

off-start : (h : Held) (rest : List ℕ) → IsFilled tag.P rest → IsMarkup (codes "<p class=\"off " ++ (held_class h ++ (codes "\">releases " ++ rest)))
off-start (held.Keys file bytes false) rest f = noted (codes "off file") _ (then _ _ (said (codes "releases "), refl) f)
off-start (held.Keys file bytes true) rest f = noted (codes "off pre") _ (then _ _ (said (codes "releases "), refl) f)
off-start (held.Queue queue) rest f = noted (codes "off ts") _ (then _ _ (said (codes "releases "), refl) f)
off-start (held.End queue false) rest f = noted (codes "off rd") _ (then _ _ (said (codes "releases "), refl) f)
off-start (held.End queue true) rest f = noted (codes "off wr") _ (then _ _ (said (codes "releases "), refl) f)
off-start (held.Value value) rest f = noted (codes "off enq") _ (then _ _ (said (codes "releases "), refl) f)

ask-start : (h : Held) (rest : List ℕ) → IsFilled tag.P rest → IsMarkup (codes "<p class=\"ask " ++ (held_class h ++ (codes "\">wants " ++ rest)))
ask-start (held.Keys file bytes false) rest f = noted (codes "ask file") _ (then _ _ (said (codes "wants "), refl) f)
ask-start (held.Keys file bytes true) rest f = noted (codes "ask pre") _ (then _ _ (said (codes "wants "), refl) f)
ask-start (held.Queue queue) rest f = noted (codes "ask ts") _ (then _ _ (said (codes "wants "), refl) f)
ask-start (held.End queue false) rest f = noted (codes "ask rd") _ (then _ _ (said (codes "wants "), refl) f)
ask-start (held.End queue true) rest f = noted (codes "ask wr") _ (then _ _ (said (codes "wants "), refl) f)
ask-start (held.Value value) rest f = noted (codes "ask enq") _ (then _ _ (said (codes "wants "), refl) f)

either : (b : Bool) (x y : List ℕ) → IsMarkup x → IsMarkup y → IsMarkup (cond b x y)
either true x y p q = p
either false x y p q = q

limit-read : (seconds : ℕ) → IsMarkup (limit_text seconds)
limit-read seconds =
    either (seconds == 0) _ _ nothing (behind _ _ (said (codes ", for "), refl) (behind _ _ (itself (said (decimal seconds))) (said (codes " seconds at most"), refl)))

asked-read : (h : Held) (rest : List ℕ) → IsFilled tag.P rest → IsMarkup (asked_text h ++ rest)
asked-read (held.End queue false) rest f = noted (codes "ask rd") _ (then _ _ (said (codes "wants a record of "), refl) (then _ _ (name-read queue) f))
asked-read (held.End queue true) rest f = resource-read _ _ _ (held.End queue true) (ask-start (held.End queue true)) f
asked-read (held.Keys file bytes is_prefix) rest f = resource-read _ _ _ (held.Keys file bytes is_prefix) (ask-start (held.Keys file bytes is_prefix)) f
asked-read (held.Queue queue) rest f = resource-read _ _ _ (held.Queue queue) (ask-start (held.Queue queue)) f
asked-read (held.Value value) rest f = resource-read _ _ _ (held.Value value) (ask-start (held.Value value)) f

wants-read : (w : Wanted) (rest : List ℕ) → IsFilled tag.P rest → IsMarkup (wanted_text w ++ rest)
wants-read (wanted.One held) rest f = asked-read held rest f
wants-read (wanted.BothEnds queue) rest f = noted (codes "ask td") _ (then _ _ (said (codes "wants both ends of "), refl) (then _ _ (name-read queue) f))

begins-read : (outcome : UnitState) → IsMarkup (begins_text outcome)
begins-read ends.Committed = noted (codes "beg com") _ (then _ _ (said (codes "begins a unit that is committed"), refl) end)
begins-read ends.BackedOut = noted (codes "beg bak") _ (then _ _ (said (codes "begins a unit that is backed out"), refl) end)
begins-read ends.Open = noted (codes "beg opn") _ (then _ _ (said (codes "begins a unit that stays open"), refl) end)

-- the place of a cell, and what follows it
change-read : (c : Change) → IsMarkup (change_text c)
change-read (Added after) = behind _ _ (said (codes "added "), refl) (bytes-read tag.Ins after)
change-read (Removed before) = behind _ _ (said (codes "removed "), refl) (bytes-read tag.Del before)
change-read (Becomes before after) = behind _ _ (bytes-read tag.Del before) (behind _ _ (said (codes " becomes "), refl) (bytes-read tag.Ins after))

stays-read : (stays : Bool) → IsFilled tag.P (set_end stays)
stays-read false = end
stays-read true = then _ _ (said (codes ", which stays"), refl) end

cell-read : (c : Cell) → IsMarkup (cell_text c)
cell-read (cell.Record file key) = key-read key file
cell-read (cell.Item queue number) = numbered-read number queue
cell-read (cell.TdRecord queue number) = numbered-read number queue

set-read : (c : Cell) (stays : Bool) (rest : List ℕ) → IsFilled tag.P rest → IsMarkup (set_start c stays ++ rest)
set-read (cell.Record file key) false rest f = noted (codes "set file") _ (then _ _ (said (codes "record "), refl) f)
set-read (cell.Record file key) true rest f = noted (codes "set file stays") _ (then _ _ (said (codes "record "), refl) f)
set-read (cell.Item queue number) false rest f = noted (codes "set ts") _ (then _ _ (said (codes "item "), refl) f)
set-read (cell.Item queue number) true rest f = noted (codes "set ts stays") _ (then _ _ (said (codes "item "), refl) f)
set-read (cell.TdRecord queue number) false rest f = noted (codes "set td") _ (then _ _ (said (codes "record "), refl) f)
set-read (cell.TdRecord queue number) true rest f = noted (codes "set td stays") _ (then _ _ (said (codes "record "), refl) f)

-- a name and a title in bold behind words
defined-read : (name title : List ℕ) → IsFilled tag.P (name_element name ++ (codes " " ++ (spoken tag.B title ++ codes "</p>")))
defined-read name title = then _ _ (name-read name) (then _ _ (said (codes " "), refl) (then _ _ (spoken-read tag.B title) end))

ends-read : (label : Bytes) → IsFilled tag.P (spoken tag.B (texts.bare label) ++ codes "</p>")
ends-read label = then _ _ (spoken-read tag.B (texts.bare label)) end

told-read : (outcomes : List UnitState) (n : Note) → IsMarkup (told_text outcomes n)
told-read outcomes (note.File name is_recoverable) = noted (codes "def file") _ (then _ _ (said (codes "file "), refl) (defined-read name (recoverable_title is_recoverable)))
told-read outcomes (note.TdQueue name recovery) = noted (codes "def td") _ (then _ _ (said (codes "queue "), refl) (defined-read name (recovery_title recovery)))
told-read outcomes (note.Wants wanted seconds) = wants-read wanted _ (then _ _ (limit-read seconds) end)
told-read outcomes (note.Begins unit) = begins-read (outcome_of outcomes unit)
told-read outcomes (note.Holds held count) = resource-read _ _ _ held (owns-start held) (then _ _ (count-read held count) end)
told-read outcomes (note.Releases held) = resource-read _ _ _ held (off-start held) end
told-read outcomes (note.Commits label) = noted (codes "com") _ (then _ _ (said (codes "commits the unit of "), refl) (ends-read label))
told-read outcomes (note.BacksOut label) = noted (codes "bak") _ (then _ _ (said (codes "backs out the unit of "), refl) (ends-read label))
told-read outcomes (note.Set cell change stays) =
    set-read cell stays _ (then _ _ (cell-read cell) (then _ _ (said (codes ": "), refl) (then _ _ (change-read change) (stays-read stays))))
told-read outcomes (note.Cursor queue before after) =
    noted (codes "cur") _ (then _ _ (said (codes "cursor of "), refl) (then _ _ (name-read queue) (then _ _ (said (codes ": "), refl)
    (then _ _ (spoken-read tag.Del (decimal before)) (then _ _ (said (codes " becomes "), refl) (then _ _ (spoken-read tag.Ins (decimal after)) end))))))
told-read outcomes (note.Ring labels) = noted (codes "ring") _ (then _ _ (said (codes "deadlock: "), refl) (then _ _ (itself (said (circle_text labels))) end))

pub line-end : IsMarkup (codes "\n")
line-end = (said (codes "\n"), refl)

pub note-read : (outcomes : List UnitState) (n : Note) → IsMarkup (note_text outcomes n)
note-read outcomes n = behind _ _ (told-read outcomes n) line-end

pub notes-read : (outcomes : List UnitState) (notes : List Note) → IsMarkup (notes_text outcomes notes)
notes-read outcomes [] = nothing
notes-read outcomes (n ∷ notes) = behind _ _ (note-read outcomes n) (notes-read outcomes notes)
