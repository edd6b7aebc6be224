-- A wait has its arrow.
use Rattle.std.proofs.Common.{◌≡◌, ℕ, true, ◌+◌, ◌≤◌, List, [], ◌∷◌, ◌++◌, length, refl, ap, sym, ◌∙◌, append_assoc, append-nil, arith, length-append, Option, Some, None}
use Rattle.std.proofs.lemmas.List.Sums.{fold-append}
use Rattle.std.proofs.lemmas.Bool.{false≢true}
use Rattle.std.proofs.lemmas.Bool.Decides.{nat_tests}
use Rattle.std.specs.Prelude.{is_some, nat_lt}
use Rattle.std.specs.List.{fold}
use Rattle.cics_names.specs.Keyed.{Bytes}
use Rattle.cics_picture.specs.declared.events.RowKind.{RowKind}
use Rattle.cics_picture.specs.declared.events.RowKind.TheVariants as kind
use Rattle.cics_picture.specs.declared.events.Told.{Told}
use Rattle.cics_picture.specs.Lanes.{lane_of, lane_x, row_y, with_task, tasks_behind}
use Rattle.cics_picture.specs.Elements.{mark, arrow}
use Rattle.cics_picture.specs.Drawings.{Drawn, nothing_drawn, Row, with_row, row_number, row_marks, marks_of, lane_marks, beside, arrow_to}
use Rattle.cics_picture.specs.Arrows.{attached, rows_drawn, TellsWait, DrawsArrow}
use Rattle.cics_picture.proofs.Counted.{rows-counted}

-- a task is attached where there is room
one-task : (tasks : List Bytes) (task : Option Bytes) (k : RowKind) → length tasks + length (with_task [] task k) ≤ 16 → with_task tasks task k ≡ tasks ++ with_task [] task k
one-task tasks None kind.Attached few = sym (append-nil tasks)
one-task tasks (Some label) kind.Attached few =
    let room : nat_lt (length tasks) 16 ≡ true = grind (arith, few, nat_tests) in
    rw room refl
one-task tasks task kind.Normal few = sym (append-nil tasks)
one-task tasks task kind.Waiting few = sym (append-nil tasks)
one-task tasks task kind.Woken few = sym (append-nil tasks)
one-task tasks task kind.Committed few = sym (append-nil tasks)
one-task tasks task kind.BackedOut few = sym (append-nil tasks)
one-task tasks task kind.Ended few = sym (append-nil tasks)
one-task tasks task kind.Abended few = sym (append-nil tasks)
one-task tasks task kind.Refused few = sym (append-nil tasks)
one-task tasks task kind.Condition few = sym (append-nil tasks)
one-task tasks task kind.Clock few = sym (append-nil tasks)
one-task tasks task kind.Down few = sym (append-nil tasks)

-- where they are few, all tasks that rows attach have lanes
tasks-drawn : (rows : List Row) (d : Drawn) → length d.tasks + length (attached rows) ≤ 16 → (fold with_row d rows).tasks ≡ d.tasks ++ attached rows
tasks-drawn [] d few = sym (append-nil d.tasks)
tasks-drawn (r ∷ rows) d few =
    let one = tasks_behind [] r.told in
    let both : length (one ++ attached rows) ≡ length one + length (attached rows) = length-append one (attached rows) in
    let first : tasks_behind d.tasks r.told ≡ d.tasks ++ one = one-task d.tasks r.told.task r.told.kind (omega (arith, few, both)) in
    let count : length (d.tasks ++ one) ≡ length d.tasks + length one = length-append d.tasks one in
    let more : length (tasks_behind d.tasks r.told) + length (attached rows) ≤ 16 = omega (arith, few, both, count, ap length first) in
    tasks-drawn rows (with_row d r) more ∙ ap (λ t. t ++ attached rows) first ∙ append_assoc d.tasks one (attached rows)

-- the marks of a wait between two lanes
wait-marks : (tasks : List Bytes) (y : ℕ) (told : Told) (from to : ℕ) → told.kind ≡ kind.Waiting
    → lane_of tasks told.task ≡ Some from → lane_of tasks told.blocker ≡ Some to
    → row_marks (tasks_behind tasks told) y told ≡ arrow from to y ++ mark kind.Waiting (lane_x from) y
wait-marks tasks y told from to waits f t =
    ap (λ tasks. row_marks tasks y told) (ap (with_task tasks told.task) waits)
    ∙ ap (marks_of tasks y told) waits
    ∙ ap (lane_marks tasks y told) f
    ∙ ap (λ k. beside tasks from y told k ++ mark k (lane_x from) y) waits
    ∙ ap (λ h. arrow_to from h y ++ mark kind.Waiting (lane_x from) y) t

some-lane : (lane : Option ℕ) → is_some lane ≡ true → (at : ℕ) × (lane ≡ Some at)
some-lane None none = absurd (false≢true none)
some-lane (Some at) some = (at, refl)

pub wait-drawn : (before : List Row) (r : Row) → TellsWait before r → DrawsArrow before r
wait-drawn before r tells =
    let d = rows_drawn before in
    let lanes : d.tasks ≡ attached before = tasks-drawn before nothing_drawn (omega (arith, tells.few)) in
    let count : d.rows ≡ length before = omega (arith, rows-counted before nothing_drawn) in
    let (from, f) = some-lane (lane_of (attached before) r.told.task) tells.waiter_attached in
    let (to, t) = some-lane (lane_of (attached before) r.told.blocker) tells.awaited_attached in
    let is-from : lane_of d.tasks r.told.task ≡ Some from = ap (λ tasks. lane_of tasks r.told.task) lanes ∙ f in
    let is-to : lane_of d.tasks r.told.blocker ≡ Some to = ap (λ tasks. lane_of tasks r.told.blocker) lanes ∙ t in
    record {
      from = from;
      to = to;
      from_waiter = f;
      to_awaited = t;
      marks = ap (λ e. e.marks) (fold-append with_row nothing_drawn before (r ∷ []))
          ∙ ap (λ m. d.marks ++ (row_number (row_y d.rows + 4) r.number ++ m)) (wait-marks d.tasks (row_y d.rows) r.told from to tells.waits is-from is-to)
          ∙ ap (λ n. d.marks ++ (row_number (row_y n + 4) r.number ++ (arrow from to (row_y n) ++ mark kind.Waiting (lane_x from) (row_y n)))) count;
    }
