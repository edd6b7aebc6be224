-- The endings that runs lead to: each once, with the first run that leads to it and how many do.
use Rattle.std.specs.Prelude.{ℕ, Bool, not, ◌&&◌, min, max, List, [], ◌∷◌, ◌++◌, map, filter}
use Rattle.std.specs.List.{count_by}
use Rattle.std.specs.Str.{bytes_eq}
use Rattle.std.specs.Cmp.Lexicographic.{pointwise}
use Rattle.cics_names.specs.Keyed.{Bytes}
use Rattle.cics_orders.specs.Space.Orders.{Order, Lanes, after, is_serial_order}

-- an ending is told in parts, each a text
abbrev pub Parts : Type 0
Parts = List Bytes

-- a run: an order, the parts of the ending that it leads to, and whether it is serial
pub record Run : Type 0 where
  pub order : Order
  pub ending : Parts
  pub is_serial : Bool

-- an ending that is reported: its first order, its parts, how many orders lead to it, and how many
-- of these are serial
pub record Reported : Type 0 where
  pub order : Order
  pub ending : Parts
  pub orders : ℕ
  pub serial : ℕ

-- whether two endings have the same parts
abbrev pub are_same : Parts → Parts → Bool
are_same = pointwise bytes_eq

-- the runs that lead to an ending to which no run before leads
abbrev pub firsts : List Run → List Run
firsts [] = []
firsts (r ∷ rs) = r ∷ filter (λ s. not (are_same s.ending r.ending)) (firsts rs)

-- the greatest number that is kept: 2^128 - 1
abbrev pub greatest : ℕ
greatest = 340282366920938463463374607431768211455

-- a number as it is kept
abbrev pub kept_number : ℕ → ℕ
kept_number n = min n greatest

-- the ending of a run as it is reported, counted over all runs
abbrev pub reported : List Run → Run → Reported
reported rs r = record {
  order = r.order;
  ending = r.ending;
  orders = kept_number (count_by (λ s. are_same s.ending r.ending) rs);
  serial = kept_number (count_by (λ s. are_same s.ending r.ending && s.is_serial) rs);
}

-- the endings of these runs: each once, in the order of the first runs that lead to them
abbrev pub report : List Run → List Reported
report rs = map (reported rs) (firsts rs)

-- the run of an order from a state
abbrev pub run_of : {S : Type 0} → Lanes S → (S → Parts) → (S → ℕ → Bool) → S → Order → Run
run_of lanes ending breaks s o = record { order = o; ending = ending (after lanes s o); is_serial = is_serial_order lanes breaks s o }

-- The ending of a run as it is reported, if serial runs are counted by themselves. A serial run may
-- be among the others too. So the number of runs is the greater of the two counts.
abbrev pub reported_of_both : List Run → List Run → Run → Reported
reported_of_both rs ss r = record {
  order = r.order;
  ending = r.ending;
  orders = max (kept_number (count_by (λ s. are_same s.ending r.ending) rs)) (kept_number (count_by (λ s. are_same s.ending r.ending) ss));
  serial = kept_number (count_by (λ s. are_same s.ending r.ending) ss);
}

-- The endings of runs and of serial runs, each once. They stand in the order of the first runs that
-- lead to them, of which the serial ones come last.
abbrev pub report_of_both : List Run → List Run → List Reported
report_of_both rs ss = map (reported_of_both rs ss) (firsts (rs ++ ss))
