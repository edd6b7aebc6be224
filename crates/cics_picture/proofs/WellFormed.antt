-- Every picture is the text of a document.
use Rattle.std.proofs.Common.{◌≡◌, ℕ, zero, suc, Bool, true, false, cond, ◌==◌, ◌+◌, ◌-◌, ◌*◌, ◌/◌, nat_lt, List, [], ◌∷◌, ◌++◌, ap, sym, ◌∙◌, append_assoc, length, map, Option, Some, None}
use Rattle.std.specs.List.{fold, flat_map}
use Rattle.std.specs.Fmt.{decimal}
use Rattle.cics_picture.specs.declared.bars.Fill.{Fill}
use Rattle.cics_picture.specs.declared.xml.names.Tag.{Tag}
use Rattle.cics_picture.specs.declared.xml.names.Tag.TheVariants as tag
use Rattle.cics_picture.specs.declared.xml.names.Key.TheVariants as key
use Rattle.cics_picture.specs.Xml.Characters.{shown}
use Rattle.cics_picture.specs.Xml.Documents.{Document, Empty, attribute, number_of, moved_to, element, said, end_text}
use Rattle.cics_picture.specs.Xml.Reading.{document_of}
use Rattle.cics_picture.proofs.OfXml.ReadBack.{read_back}
use Rattle.cics_picture.specs.declared.events.RowKind.{RowKind}
use Rattle.cics_picture.specs.declared.events.RowKind.TheVariants as kind
use Rattle.cics_picture.specs.declared.events.Told.{Told}
use Rattle.cics_picture.specs.Events.{class_of, shape_of}
use Rattle.cics_names.specs.Keyed.{Bytes}
use Rattle.cics_picture.specs.Lanes.{most_lanes, lane_of, tasks_behind, row_lane, lane_x, row_y}
use Rattle.cics_picture.specs.declared.bars.Standing.{Standing}
use Rattle.cics_picture.specs.declared.bars.Bar.{Bar}
use Rattle.cics_picture.specs.Bars.{nobodies, lane_at, new_blocker, is_caught, fill_of, fill_class, bar_text}
use Rattle.cics_picture.specs.Elements.{dot_shape, ring_shape, stays_shape, shows_shape, class, words, shape, stroke, field, spoken, namespace, picture_start, moved_start, tip, head, cut}
use Rattle.cics_picture.specs.Drawings.{Drawn, nothing_drawn, label_text, arrow_to, beside, side_mark, lane_marks, marks_of, row_number, waited, line_text, told_text, Row, with_row, rows_of, Printed, drawn, moved_if, ring_if, stays_if, link_if, shows_if, turned, turned_from, any_caught, word_if, with_text, with_end, with_line, finished}
use Rattle.cics_picture.specs.Sheets.{style_text, bands, lane_lines, headings, legend_item, answers_legend, ways_legend, ends_legend, region_legend, sign_item, units_legend, heading, ground, bars_text, moved_texts, whole_sheet, sheet, width_of, height_of}
use Rattle.cics_picture.specs.declared.style.TheConstants.{STYLE}
use Rattle.cics_picture.proofs.Markup.{IsMarkup, nothing, itself, behind, within}
use lib.Chars.{codes}

at-place : (name : List ℕ) (x y : ℕ) (bytes : List ℕ) → IsMarkup (words name x y bytes)
unfolding words
at-place name x y bytes = itself (element tag.Text (class name ∷ number_of key.X x ∷ number_of key.Y y ∷ []) (said bytes))

shape-there : (name path : List ℕ) (x y : ℕ) → IsMarkup (shape name path x y)
unfolding shape
shape-there name path x y = itself (element tag.Path (class name ∷ attribute key.D (map shown path) ∷ moved_to x y ∷ []) Empty)

stroke-there : (name : List ℕ) (x1 y1 x2 y2 : ℕ) → IsMarkup (stroke name x1 y1 x2 y2)
unfolding stroke
stroke-there name x1 y1 x2 y2 = itself (element tag.Line (class name ∷ number_of key.X1 x1 ∷ number_of key.Y1 y1 ∷ number_of key.X2 x2 ∷ number_of key.Y2 y2 ∷ []) Empty)

field-there : (name : List ℕ) (x y width height : ℕ) → IsMarkup (field name x y width height)
unfolding field
field-there name x y width height = itself (element tag.Rect (class name ∷ number_of key.X x ∷ number_of key.Y y ∷ number_of key.Width width ∷ number_of key.Height height ∷ []) Empty)

alone : (name : Tag) (bytes : List ℕ) → IsMarkup (spoken name bytes)
unfolding spoken
alone name bytes = itself (element name [] (said bytes))

-- of what was drawn, the marks and the rows are each the text of a document
abbrev IsDrawn : Drawn → Type 0
IsDrawn d = IsMarkup d.marks × IsMarkup d.texts

arrow-to : (lane y : ℕ) (holder : Option ℕ) → IsMarkup (arrow_to lane holder y)
arrow-to lane y None = nothing
arrow-to lane y (Some holder) =
    behind _ _ (stroke-there (codes "aw") (lane_x lane) y (tip lane holder) y) (shape-there (codes "fw") (head lane holder) (tip lane holder) y)

either : (b : Bool) (x y : List ℕ) → IsMarkup x → IsMarkup y → IsMarkup (cond b x y)
either true x y p q = p
either false x y p q = q

moved-arrow : (lane y : ℕ) (holder : Option ℕ) → IsMarkup (moved_if holder lane y)
moved-arrow lane y None = nothing
moved-arrow lane y (Some holder) =
    either (nat_lt holder most_lanes) _ _ (behind _ _ (arrow-to lane y (Some holder)) (shape-there (codes "fw") dot_shape (lane_x lane) y)) nothing

at-side : (tasks : List Bytes) (lane y : ℕ) (t : Told) (k : RowKind) → IsMarkup (beside tasks lane y t k)
at-side tasks lane y t kind.Attached = at-place (codes "b m") (lane_x lane) 98 (label_text t.task)
at-side tasks lane y t kind.Waiting = arrow-to lane y (lane_of tasks t.blocker)
at-side tasks lane y t kind.Normal = nothing
at-side tasks lane y t kind.Woken = nothing
at-side tasks lane y t kind.Committed = nothing
at-side tasks lane y t kind.BackedOut = nothing
at-side tasks lane y t kind.Ended = nothing
at-side tasks lane y t kind.Abended = nothing
at-side tasks lane y t kind.Refused = nothing
at-side tasks lane y t kind.Condition = nothing
at-side tasks lane y t kind.Clock = nothing
at-side tasks lane y t kind.Down = nothing

at-left : (y : ℕ) (k : RowKind) (task : Option Bytes) → IsMarkup (side_mark y k task)
at-left y k None = shape-there (class_of k) (shape_of k) 66 y
at-left y k (Some label) = nothing

in-lane : (tasks : List Bytes) (y : ℕ) (t : Told) (lane : Option ℕ) → IsMarkup (lane_marks tasks y t lane)
in-lane tasks y t None = at-left y t.kind t.task
in-lane tasks y t (Some lane) = behind _ _ (at-side tasks lane y t t.kind) (shape-there (class_of t.kind) (shape_of t.kind) (lane_x lane) y)

all-marks : (tasks : List Bytes) (y : ℕ) (t : Told) (k : RowKind) → IsMarkup (marks_of tasks y t k)
all-marks tasks y t kind.Clock = stroke-there (codes "clk") 66 y (66 + 60 * length tasks) y
all-marks tasks y t kind.Down = stroke-there (codes "dwn") 66 y (66 + 60 * length tasks) y
all-marks tasks y t kind.Attached = in-lane tasks y t (lane_of tasks t.task)
all-marks tasks y t kind.Normal = in-lane tasks y t (lane_of tasks t.task)
all-marks tasks y t kind.Waiting = in-lane tasks y t (lane_of tasks t.task)
all-marks tasks y t kind.Woken = in-lane tasks y t (lane_of tasks t.task)
all-marks tasks y t kind.Committed = in-lane tasks y t (lane_of tasks t.task)
all-marks tasks y t kind.BackedOut = in-lane tasks y t (lane_of tasks t.task)
all-marks tasks y t kind.Ended = in-lane tasks y t (lane_of tasks t.task)
all-marks tasks y t kind.Abended = in-lane tasks y t (lane_of tasks t.task)
all-marks tasks y t kind.Refused = in-lane tasks y t (lane_of tasks t.task)
all-marks tasks y t kind.Condition = in-lane tasks y t (lane_of tasks t.task)

number-drawn : (y number : ℕ) → IsMarkup (row_number y number)
number-drawn y number = either (number == 0) _ _ nothing (at-place (codes "d e") 52 y (decimal number))

row : (y number : ℕ) (line asked : List ℕ) (t : Told) → IsMarkup (line_text y number line asked ++ told_text y t)
row y number line asked t =
    behind _ _ (either (number == 0) _ _ (at-place (codes "d") 78 y _) (at-place (codes "line") 78 y _)) (at-place (class_of t.kind) 744 y _)

row-drawn : (d : Drawn) (r : Row) → IsDrawn d → IsDrawn (with_row d r)
row-drawn d r p = (
  behind _ _ p.0 (behind _ _ (number-drawn (row_y d.rows + 4) r.number) (all-marks (tasks_behind d.tasks r.told) (row_y d.rows) r.told r.told.kind)),
  behind _ _ p.1 (row (row_y d.rows + 4) r.number r.line (waited d.lines d.lanes (row_lane d.tasks r.told)) r.told),
)

rows-drawn : (rows : List Row) (d : Drawn) → IsDrawn d → IsDrawn (fold with_row d rows)
rows-drawn [] d p = p
rows-drawn (r ∷ rows) d p = rows-drawn rows (with_row d r) (row-drawn d r p)

ring : (caught : Bool) (lane y : ℕ) → IsMarkup (ring_if caught lane y)
ring caught lane y = either caught _ _ (shape-there (codes "dl") ring_shape (lane_x lane) y) nothing

diamond : (stays : Bool) (lane y : ℕ) → IsMarkup (stays_if stays lane y)
diamond stays lane y = either stays _ _ (shape-there (codes "st") stays_shape (lane_x lane) y) nothing

link : (lane changer y : ℕ) → IsMarkup (link_if lane changer y)
link lane changer y = either (nat_lt changer most_lanes) _ _ (stroke-there (codes "un") (tip changer lane) y (tip lane changer) y) nothing

dashed : (shows : Option ℕ) (lane y : ℕ) → IsMarkup (shows_if shows lane y)
dashed None lane y = nothing
dashed (Some changer) lane y = behind _ _ (link lane changer y) (shape-there (codes "un") shows_shape (lane_x lane) y)

turns-drawn : (standings : List Standing) (first lane : ℕ) (d : Drawn) → IsDrawn d → IsDrawn (turned_from first lane standings d)
turns-drawn [] first lane d p = p
turns-drawn (s ∷ standings) first lane d p =
    let l = lane_at d.lanes lane in
    let y = row_y (d.rows - 1) in
    let signs = behind _ _ (moved-arrow lane y (new_blocker l.standing.blocker s.blocker)) (ring (is_caught l s) lane y) in
    turns-drawn standings first (lane + 1) (turned first lane s d)
    (behind _ _ p.0 (behind _ _ signs (behind _ _ (diamond s.stays lane l.last) (dashed s.shows lane l.last))), p.1)

end-drawn : (first : ℕ) (standings : List Standing) (d : Drawn) → IsDrawn d → IsDrawn (with_end first standings d)
end-drawn first standings d p =
    let caught = any_caught d.lanes 0 standings in
    let y = row_y (d.rows - 1) + 4 in
    turns-drawn standings first 0 (with_text d (word_if caught y)) (p.0, behind _ _ p.1 (either caught _ _ (at-place (codes "ma e") 1264 y _) nothing))

lines-drawn : (lines : List Printed) (d : Drawn) → IsDrawn d → IsDrawn (fold with_line d lines)
lines-drawn [] d p = p
lines-drawn (l ∷ lines) d p = lines-drawn lines (with_line d l) (end-drawn (row_y d.rows) l.standings (fold with_row d (rows_of l)) (rows-drawn (rows_of l) d p))

lanes : (height n : ℕ) → IsMarkup (lane_lines height n)
unfolding lane_lines
lanes height zero = nothing
lanes height (suc n) = behind _ _ (lanes height n) (stroke-there (codes "life") (lane_x n) 106 (lane_x n) height)

shades : (width n : ℕ) → IsMarkup (bands width n)
unfolding bands
shades width zero = nothing
shades width (suc n) = behind _ _ (shades width n) (field-there (codes "band") 0 (109 + 44 * n) width 22)

style : IsMarkup style_text
unfolding style_text
style = alone tag.Style STYLE.now

columns : IsMarkup headings
unfolding headings
columns = behind _ _ (at-place (codes "d s") 78 98 _) (at-place (codes "d s") 744 98 _)

meaning : (x : ℕ) (k : RowKind) (text : List ℕ) → IsMarkup (legend_item x k text)
unfolding legend_item
meaning x k text = behind _ _ (shape-there (class_of k) (shape_of k) x 52) (at-place (codes "d s") (x + 14) 56 text)

answers : IsMarkup answers_legend
unfolding answers_legend
answers = behind _ _ (meaning 24 kind.Attached _) (behind _ _ (meaning 114 kind.Normal _) (behind _ _ (meaning 204 kind.Condition _) (meaning 354 kind.Refused _)))

ways : IsMarkup ways_legend
unfolding ways_legend
ways = behind _ _ (meaning 444 kind.Waiting _) (meaning 514 kind.Woken _)

ends : IsMarkup ends_legend
unfolding ends_legend
ends = behind _ _ (meaning 604 kind.Committed _) (behind _ _ (meaning 704 kind.BackedOut _) (behind _ _ (meaning 804 kind.Ended _) (meaning 884 kind.Abended _)))

region : IsMarkup region_legend
unfolding region_legend
region = behind _ _ (meaning 974 kind.Clock _) (meaning 1054 kind.Down _)

sign-meaning : (x : ℕ) (name path text : List ℕ) → IsMarkup (sign_item x name path text)
unfolding sign_item
sign-meaning x name path text = behind _ _ (shape-there name path x 74) (at-place (codes "d s") (x + 16) 78 text)

units : IsMarkup units_legend
unfolding units_legend
units =
    behind _ _ (sign-meaning 24 _ _ _) (behind _ _ (sign-meaning 224 _ _ _) (behind _ _ (sign-meaning 344 _ _ _)
    (behind _ _ (sign-meaning 484 _ _ _) (behind _ _ (sign-meaning 664 _ _ _) (sign-meaning 912 _ _ _)))))

head-there : (title : List ℕ) → IsMarkup (heading title)
unfolding heading
head-there title = behind _ _ (at-place (codes "h1") 16 30 (cut 96 title)) (behind _ _ answers (behind _ _ ways (behind _ _ ends (behind _ _ region units))))

under : (d : Drawn) (title : List ℕ) → IsMarkup (ground d title)
under d title =
    behind _ _ (alone tag.Title title) (behind _ _ style (behind _ _ (field-there (codes "paper") 0 0 (width_of d) (height_of d))
    (behind _ _ (shades (width_of d) ((d.rows + 1) / 2)) (behind _ _ (head-there title) (lanes (height_of d) (length d.tasks))))))

moved : (d : Drawn) → IsMarkup d.texts → IsMarkup (moved_texts d)
unfolding moved_start
moved d p =
    let q = within tag.G (moved_to (60 * length d.tasks) 0 ∷ []) (headings ++ d.texts) (behind _ _ columns p) in
    (q.0, ap (λ t. moved_start (60 * length d.tasks) ++ t) (sym (append_assoc headings d.texts (end_text tag.G))) ∙ q.1)

all-bars : (fills : List Fill) (bars : List Bar) → IsMarkup (flat_map (bar_text fills) bars)
all-bars fills [] = nothing
all-bars fills (b ∷ bars) = behind _ _ (field-there (fill_class (fill_of fills b.unit)) b.x b.y 14 b.height) (all-bars fills bars)

whole : (d : Drawn) (fills : List Fill) (title : List ℕ) → IsDrawn d → IsMarkup (whole_sheet d fills title)
unfolding picture_start
whole d fills title p =
    let bars = bars_text fills d in
    let inside = behind _ _ (under d title) (behind _ _ (all-bars fills d.bars) (behind _ _ p.0 (moved d p.1))) in
    let q = within tag.Svg (namespace ∷ number_of key.Width (width_of d) ∷ number_of key.Height (height_of d) ∷ [])
    (ground d title ++ (bars ++ (d.marks ++ moved_texts d))) inside in
    let tail = append_assoc (ground d title) (bars ++ (d.marks ++ moved_texts d)) (end_text tag.Svg)
    ∙ ap (λ t. ground d title ++ t) (append_assoc bars (d.marks ++ moved_texts d) (end_text tag.Svg) ∙ ap (λ t. bars ++ t) (append_assoc d.marks (moved_texts d) (end_text tag.Svg))) in
    (q.0, ap (λ t. picture_start (width_of d) (height_of d) ++ t) (sym tail) ∙ q.1)

pub sheet_read : (lines : List Printed) (fills : List Fill) (title : List ℕ) → (d : Document) × (document_of (sheet (drawn lines) fills title) ≡ Some d)
sheet_read lines fills title =
    let d = drawn lines in
    let p = whole (finished d) fills title (end-drawn (row_y d.rows) nobodies d (lines-drawn lines nothing_drawn (nothing, nothing))) in
    (p.0, ap document_of p.1 ∙ read_back p.0)
