-- The whole picture of what was drawn.
use Rattle.std.specs.Prelude.{ℕ, zero, suc, ◌+◌, ◌*◌, ◌/◌, List, [], ◌++◌, length}
use Rattle.std.specs.List.{flat_map}
use Rattle.cics_picture.specs.declared.bars.Fill.{Fill}
use Rattle.cics_picture.specs.declared.xml.names.Tag.TheVariants as tag
use Rattle.cics_picture.specs.Xml.Documents.{end_text}
use Rattle.cics_picture.specs.declared.events.RowKind.{RowKind}
use Rattle.cics_picture.specs.declared.events.RowKind.TheVariants as kind
use Rattle.cics_picture.specs.Lanes.{lane_x, row_y}
use Rattle.cics_picture.specs.Elements.{words, cut, mark, shape, bar_shape, ring_shape, stays_shape, shows_shape, stroke, field, spoken, picture_start, moved_start}
use Rattle.cics_picture.specs.Bars.{bar_text}
use Rattle.cics_picture.specs.Drawings.{Drawn, finished}
use Rattle.cics_picture.specs.declared.sheet.Meaning.{Meaning}
use Rattle.cics_picture.specs.declared.sheet.Meaning.TheVariants as meaning
use Rattle.cics_picture.specs.declared.style.TheConstants.{STYLE}
use lib.Chars.{codes}

-- how wide a picture is
abbrev pub width_of : Drawn → ℕ
width_of d = 1280 + 60 * length d.tasks

-- how high it is
abbrev pub height_of : Drawn → ℕ
height_of d = row_y d.rows

-- the element that has the style
unfoldable pub style_text : List ℕ
style_text = spoken tag.Style STYLE.now

-- so many rows are shaded, every other one
unfoldable pub bands : ℕ → ℕ → List ℕ
bands width zero = []
bands width (suc n) = bands width n ++ field (codes "band") 0 (109 + 44 * n) width 22

-- the lines of so many lanes
unfoldable pub lane_lines : ℕ → ℕ → List ℕ
lane_lines height zero = []
lane_lines height (suc lanes) = lane_lines height lanes ++ stroke (codes "life") (lane_x lanes) 106 (lane_x lanes) height

-- the headings of the columns of texts
unfoldable pub headings : List ℕ
headings = words (codes "d s") 78 98 (codes "script") ++ words (codes "d s") 744 98 (codes "journal")

-- what a mark means
unfoldable pub legend_item : ℕ → RowKind → List ℕ → List ℕ
legend_item x kind text = mark kind x 52 ++ words (codes "d s") (x + 14) 56 text

-- what the marks of answers mean
unfoldable pub answers_legend : List ℕ
answers_legend =
    legend_item 24 kind.Attached (codes "attached")
    ++ (legend_item 114 kind.Normal (codes "answered")
    ++ (legend_item 204 kind.Condition (codes "another condition")
    ++ legend_item 354 kind.Refused (codes "refused")))

-- what the marks of waits mean
unfoldable pub ways_legend : List ℕ
ways_legend = legend_item 444 kind.Waiting (codes "waits") ++ legend_item 514 kind.Woken (codes "goes on")

-- what the marks of ends mean
unfoldable pub ends_legend : List ℕ
ends_legend =
    legend_item 604 kind.Committed (codes "syncpoint")
    ++ (legend_item 704 kind.BackedOut (codes "rollback")
    ++ (legend_item 804 kind.Ended (codes "ended")
    ++ legend_item 884 kind.Abended (codes "abended")))

-- what the lines across the lanes mean
unfoldable pub region_legend : List ℕ
region_legend = legend_item 974 kind.Clock (codes "clock") ++ legend_item 1054 kind.Down (codes "shutdown or fault")

-- what a bar, a ring or a diamond means, of a class and a path
unfoldable pub sign_item : ℕ → List ℕ → List ℕ → List ℕ → List ℕ
sign_item x name path text = shape name path x 74 ++ words (codes "d s") (x + 16) 78 text

-- what a mark or a sign means, as text
abbrev pub meaning_text : Meaning → List ℕ
meaning_text (meaning.Mark x kind text) = legend_item x kind text.now
meaning_text (meaning.Sign x name path text) = sign_item x name.now path.now text.now

-- what bars, rings and diamonds mean
unfoldable pub units_legend : List ℕ
units_legend =
    sign_item 24 (codes "uf") bar_shape (codes "unit of work that commits")
    ++ (sign_item 224 (codes "uh") bar_shape (codes "backed out")
    ++ (sign_item 344 (codes "uo") bar_shape (codes "open at the end")
    ++ (sign_item 484 (codes "dl") ring_shape (codes "caught in a deadlock")
    ++ (sign_item 664 (codes "st") stays_shape (codes "changes what no backout undoes")
    ++ sign_item 912 (codes "un") shows_shape (codes "reads what isn't committed")))))

-- the title, and the legend below it
unfoldable pub heading : List ℕ → List ℕ
heading title = words (codes "h1") 16 30 (cut 96 title) ++ (answers_legend ++ (ways_legend ++ (ends_legend ++ (region_legend ++ units_legend))))

-- what stands under the rows: title, style, paper, shades, heading, and the lines of the lanes
abbrev pub ground : Drawn → List ℕ → List ℕ
ground d title =
    spoken tag.Title title
    ++ (style_text
    ++ (field (codes "paper") 0 0 (width_of d) (height_of d)
    ++ (bands (width_of d) ((d.rows + 1) / 2)
    ++ (heading title
    ++ lane_lines (height_of d) (length d.tasks)))))

-- the texts of the rows stand to the right of the lanes
abbrev pub moved_texts : Drawn → List ℕ
moved_texts d = moved_start (60 * length d.tasks) ++ (headings ++ (d.texts ++ end_text tag.G))

-- the bars of units
abbrev pub bars_text : List Fill → Drawn → List ℕ
bars_text fills d = flat_map (bar_text fills) d.bars

-- the picture of what is finished
abbrev pub whole_sheet : Drawn → List Fill → List ℕ → List ℕ
whole_sheet d fills title =
    picture_start (width_of d) (height_of d) ++ (ground d title ++ (bars_text fills d ++ (d.marks ++ (moved_texts d ++ end_text tag.Svg))))

-- the picture of a run whose units' bars are filled so
abbrev pub sheet : Drawn → List Fill → List ℕ → List ℕ
sheet d fills title = whole_sheet (finished d) fills title
