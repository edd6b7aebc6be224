-- What is reported of the orders of a state.
use Rattle.std.specs.Prelude.{◌≡◌, ◌≤◌, ℕ, Bool, true, ◌&&◌, List, [], ◌∷◌, map, filter, length, All}
use Rattle.std.specs.List.{count_by}
use Rattle.cics_orders.specs.Space.Orders.{Order, Lanes, orders, is_serial_order, AreAmong}
use Rattle.cics_orders.specs.Space.Endings.{Parts, Run, Reported, are_same, run_of, report, report_of_both}
use Rattle.cics_orders.specs.declared.search.exploring.Report.{Report}

-- the runs of these orders from a state
abbrev pub runs : {S : Type 0} → Lanes S → (S → Parts) → (S → ℕ → Bool) → S → List Order → List Run
runs lanes ending breaks s os = map (run_of lanes ending breaks s) os

-- those of these orders that are serial
abbrev pub serial_of : {S : Type 0} → Lanes S → (S → ℕ → Bool) → S → List Order → List Order
serial_of lanes breaks s os = filter (is_serial_order lanes breaks s) os

-- one of these runs has the order and the ending that are reported
abbrev pub IsShown : List Run → Reported → Type 0
IsShown rs e = (b : Bool) × AreAmong (record { order = e.order; ending = e.ending; is_serial = b } ∷ []) rs

-- at least as many of these runs, and as many serial ones, lead to an ending as are reported
pub record IsBounded (rs : List Run) (e : Reported) : Type 0 where
  pub orders : e.orders ≤ count_by (λ r. are_same r.ending e.ending) rs
  pub serial : e.serial ≤ count_by (λ r. are_same r.ending e.ending && r.is_serial) rs

-- A report. Some orders are followed, and some serial ones, which are counted by themselves. The
-- endings are those of all these, one at least: each order that is shown leads to its ending, and
-- numbers are lower bounds. If all were followed, it is the report of all orders.
pub record IsReport {S : Type 0} (lanes : Lanes S) (ending : S → Parts) (breaks : S → ℕ → Bool) (most : ℕ) (s : S) (r : Report) : Type 0 where
  pub followed : List Order
  pub serially : List Order
  pub among : AreAmong followed (orders lanes most s)
  pub serially_among : AreAmong serially (serial_of lanes breaks s (orders lanes most s))
  pub endings : r.endings ≡ report_of_both (runs lanes ending breaks s followed) (runs lanes ending breaks s serially)
  pub some : 1 ≤ length r.endings
  pub shown : All (IsShown (runs lanes ending breaks s (orders lanes most s))) r.endings
  pub bounds : All (IsBounded (runs lanes ending breaks s (orders lanes most s))) r.endings
  pub is_whole : r.is_whole ≡ true → followed ≡ orders lanes most s
  pub has_all_serial : r.has_all_serial ≡ true → serially ≡ serial_of lanes breaks s (orders lanes most s)
  pub whole : r.is_whole ≡ true → r.has_all_serial ≡ true → r.endings ≡ report (runs lanes ending breaks s (orders lanes most s))
