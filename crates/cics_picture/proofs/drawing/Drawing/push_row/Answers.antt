use Rattle.std.proofs.Common.{◌≡◌, ◌∙◌, ap, ℕ, List, [], ◌∷◌, ◌++◌, ◌+◌, append_assoc, Option}
use Rattle.cics_names.specs.Keyed.{Bytes}
use Rattle.cics_picture.specs.declared.bars.Lane.{Lane}
use Rattle.cics_picture.specs.Lanes.{lane_of, tasks_behind, row_lane, row_y}
use Rattle.cics_picture.specs.Bars.{lanes_behind}
use Rattle.cics_picture.specs.Drawings.{Drawn, drawn_of, Row, row, with_row, row_number, row_marks, line_text, told_text, waited}
use Rattle.cics_picture.proofs.drawing.Drawing.push_row.Goals as goal

-- what is put part by part is a row
made :
    (d : Drawn) (r : Row) (lines : List (List ℕ)) (tasks ts us : List Bytes) (marks n texts l asked line : List ℕ) (lanes : List Lane) (y : ℕ) (lane : Option ℕ) →
    y ≡ row_y d.rows → tasks ≡ tasks_behind d.tasks r.told → n ≡ d.marks ++ row_number (y + 4) r.number → ts ≡ tasks → marks ≡ n ++ row_marks ts y r.told →
    us ≡ tasks → lane ≡ lane_of us r.told.task → asked ≡ waited d.lines d.lanes lane → l ≡ d.texts ++ line_text (y + 4) r.number r.line asked →
    texts ≡ l ++ told_text (y + 4) r.told → line ≡ r.line → lines ≡ d.lines ++ (line ∷ []) → lanes ≡ lanes_behind d.lanes d.rows r.told.kind lane →
    record { rows = d.rows + 1; lines = lines; tasks = tasks; marks = marks; texts = texts; lanes = lanes; bars = d.bars } ≡ with_row d r
made d r lines tasks ts us marks n texts l asked line lanes y lane e0 e1 e2 e3 e4 e5 e6 e7 e8 e9 e10 e11 e12 =
    let m = append_assoc d.marks (row_number (row_y d.rows + 4) r.number) (row_marks (tasks_behind d.tasks r.told) (row_y d.rows) r.told) in
    let t = append_assoc d.texts (line_text (row_y d.rows + 4) r.number r.line (waited d.lines d.lanes (row_lane d.tasks r.told))) (told_text (row_y d.rows + 4) r.told) in
    cc

pub returns : goal.returns
returns c =
    made (drawn_of c.args.self.now) (row c.args.number c.args.line.now c.args.told.now) _ _ _ _ _ _ _ _ _ _ _ _ _ c.row_y-y.ensures.value c.in_ok-give_lane.ensures.ok c.in_ok-push_row_number.ensures c.as_slice.ensures c.in_ok-push_marks.ensures
    c.as_slice-2.ensures c.lane_of-lane.ensures.value
    (c.waited-asked.ensures ∙ ap (λ t. waited t c.args.self.now.lanes c.lane_of-lane.result) c.as_slice-3.ensures) c.in_ok-push_line_text.ensures
    c.in_ok-push_told_text.ensures c.in_ok-from_slice.ensures c.in_ok-push.ensures.ok c.note_row.ensures
