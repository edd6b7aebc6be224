-- The page of lines: the title, each line of a script with its steps, and the listing.
use Rattle.std.specs.Prelude.{ℕ, ◌+◌, Option, Some, None, List, [], ◌∷◌, ◌++◌, length}
use Rattle.std.specs.Fmt.{decimal}
use Rattle.cics_history.specs.declared.ops.UnitState.{UnitState}
use Rattle.cics_picture.specs.declared.xml.names.Tag.TheVariants as tag
use Rattle.cics_picture.specs.declared.page.head.TheConstants.{HEAD}
use Rattle.cics_picture.specs.declared.page.body.TheConstants.{BODY}
use Rattle.cics_picture.specs.declared.page.player.TheConstants.{PLAYER}
use Rattle.cics_picture.specs.declared.page.notes.Note.{Note}
use Rattle.cics_picture.specs.declared.page.recording.PageStep.{PageStep}
use Rattle.cics_picture.specs.Xml.Characters.{text_of}
use Rattle.cics_picture.specs.Elements.{spoken, cut}
use Rattle.cics_picture.specs.Page.Kinds.{kind_class, woken_class}
use Rattle.cics_picture.specs.Page.Texts.{note_text, notes_text}
use lib.Chars.{codes}

-- A line that was run: its bytes, its steps, and if it has none what it defines.
pub record PageLine : Type 0 where
  pub line : List ℕ
  pub steps : List PageStep
  pub defined : Option Note

-- a line of these
abbrev pub page_line : List ℕ → List PageStep → Option Note → PageLine
page_line line steps defined = record { line = line; steps = steps; defined = defined }

-- the start of the step with this number
abbrev pub div : ℕ → PageStep → List ℕ
div number s = codes "<div id=\"s" ++ (text_of (decimal number) ++ (codes "\" class=\"" ++ (woken_class s.is_woken ++ (kind_class s.kind ++ codes "\">"))))

-- the line of the journal, and the notes
abbrev pub rest : List UnitState → PageStep → List ℕ
rest outcomes s = spoken tag.Samp s.text ++ (codes "\n" ++ (notes_text outcomes s.notes ++ codes "</div>"))

-- a step, with the text of the line that it is the first of, or nothing
abbrev pub step_text : List UnitState → ℕ → List ℕ → PageStep → List ℕ
step_text outcomes number code s = div number s ++ (code ++ (codes "\n" ++ rest outcomes s))

-- steps from this number on, the first of them with the line
abbrev pub steps_text : List UnitState → ℕ → List ℕ → List PageStep → List ℕ
steps_text outcomes number code [] = []
steps_text outcomes number code (s ∷ steps) = step_text outcomes number code s ++ steps_text outcomes (number + 1) [] steps

-- what a line without steps defines, if it does
abbrev pub defined_text : List UnitState → Option Note → List ℕ
defined_text outcomes None = []
defined_text outcomes (Some n) = note_text outcomes n

-- a line without steps
abbrev pub quiet_text : List UnitState → List ℕ → Option Note → List ℕ
quiet_text outcomes code defined = code ++ (codes "\n" ++ defined_text outcomes defined)

-- what a line has, with steps from this number on
abbrev pub inside_text : List UnitState → ℕ → List ℕ → Option Note → List PageStep → List ℕ
inside_text outcomes number line defined [] = quiet_text outcomes (spoken tag.Code line) defined
inside_text outcomes number line defined (s ∷ steps) = steps_text outcomes number (spoken tag.Code line) (s ∷ steps)

-- a line whose first step has this number
abbrev pub line_text : List UnitState → ℕ → PageLine → List ℕ
line_text outcomes number l = codes "<li>" ++ (inside_text outcomes number l.line l.defined l.steps ++ codes "</li>\n")

-- lines, of which the first step has this number
abbrev pub lines_text : List UnitState → ℕ → List PageLine → List ℕ
lines_text outcomes number [] = []
lines_text outcomes number (l ∷ lines) = line_text outcomes number l ++ lines_text outcomes (number + length l.steps) lines

-- the title, which is cut if it is too long
abbrev pub title_text : List ℕ → List ℕ
title_text title = spoken tag.Title (cut 96 title)

-- the title again, and the start of the lines
abbrev pub heading : List ℕ → List ℕ
heading title = spoken tag.H1 (cut 96 title) ++ codes "\n<ol>\n"

-- the listing; none after a fault
abbrev pub listing_text : Option (List ℕ) → List ℕ
listing_text None = []
listing_text (Some listing) = spoken tag.Pre listing ++ codes "\n"

-- what stands between the two titles
abbrev pub between : List ℕ
between = codes "\n</head>\n<body>\n"

-- what each page begins with, and what it ends with
unfoldable pub head : List ℕ
head = HEAD.now

-- what stands behind the data in each page
unfoldable pub tail : List ℕ
tail = BODY.now ++ PLAYER.now

-- what stands before the lines of a page, and behind them
abbrev pub front_text : List ℕ → List ℕ
front_text title = head ++ (title_text title ++ (between ++ heading title))

-- what stands behind the lines: the listing, if there is one, and the tail
abbrev pub back_text : Option (List ℕ) → List ℕ
back_text listing = codes "</ol>\n" ++ (listing_text listing ++ tail)

-- a whole page
abbrev pub page_text : List UnitState → List ℕ → List PageLine → Option (List ℕ) → List ℕ
page_text outcomes title lines listing = front_text title ++ (lines_text outcomes 1 lines ++ back_text listing)

-- what the body of the page has in front of the player
abbrev pub content_text : List UnitState → List ℕ → List PageLine → Option (List ℕ) → List ℕ
content_text outcomes title lines listing = heading title ++ (lines_text outcomes 1 lines ++ (codes "</ol>\n" ++ listing_text listing))
