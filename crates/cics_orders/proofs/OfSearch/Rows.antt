-- Worked example: two lanes add one to a number, each by a line that reads it and a line that writes it.
use Rattle.std.specs.Prelude.{◌≡◌, ℕ, suc, Bool, not, ◌&&◌, ◌==◌, if◌then◌else◌, [], ◌∷◌, ◌++◌, Option, Some, None, refl}
use Rattle.std.specs.List.{count_by, list_any}
use Rattle.cics_orders.specs.Space.Orders.{Order, Lanes, numbered_from, orders, serial_orders}
use Rattle.cics_orders.specs.Space.Endings.{Parts, report}
use Rattle.cics_orders.specs.Search.Reports.{runs}

-- a state is the order so far: a lane may give until it has given two lines
abbrev two : Lanes Order
two = record {
  givers = λ o from. numbered_from (λ l. not (count_by (λ k. k == l) o == 2)) (0 ∷ 1 ∷ []) from;
  given = λ o l. o ++ l ∷ [];
}

-- a lane that has read a number writes the one after it
abbrev written : Option ℕ → ℕ → ℕ
written None n = n
written (Some read) n = suc read

-- the number after an order, from what lanes have read and the number before
abbrev number : (ℕ → Option ℕ) → ℕ → Order → ℕ
number read n [] = n
number read n (l ∷ o) = number (λ k. if k == l then Some n else read k) (written (read l) n) o

-- the number ends an order
abbrev ending : Order → Parts
ending o = (number (λ l. None) 0 o ∷ []) ∷ []

-- a lane breaks a turn if another one has given a line, and has one left
abbrev breaks : Order → ℕ → Bool
breaks o l = list_any (λ k. not (k == l) && count_by (λ j. j == k) o == 1) (0 ∷ 1 ∷ [])

-- the six orders, by their lanes
all_orders : orders two 4 [] ≡
    (0 ∷ 0 ∷ 1 ∷ 1 ∷ []) ∷ (0 ∷ 1 ∷ 0 ∷ 1 ∷ []) ∷ (0 ∷ 1 ∷ 1 ∷ 0 ∷ [])
    ∷ (1 ∷ 0 ∷ 0 ∷ 1 ∷ []) ∷ (1 ∷ 0 ∷ 1 ∷ 0 ∷ []) ∷ (1 ∷ 1 ∷ 0 ∷ 0 ∷ []) ∷ []
all_orders = refl

-- two of them are serial
serial_ones : serial_orders two breaks 4 [] ≡ (0 ∷ 0 ∷ 1 ∷ 1 ∷ []) ∷ (1 ∷ 1 ∷ 0 ∷ 0 ∷ []) ∷ []
serial_ones = refl

-- the serial orders end with two; in the others both lanes read the number before either writes, and it ends with one
all_endings : report (runs two ending breaks [] (orders two 4 [])) ≡
    record { order = 0 ∷ 0 ∷ 1 ∷ 1 ∷ []; ending = (2 ∷ []) ∷ []; orders = 2; serial = 2 }
    ∷ record { order = 0 ∷ 1 ∷ 0 ∷ 1 ∷ []; ending = (1 ∷ []) ∷ []; orders = 4; serial = 0 } ∷ []
all_endings = refl

-- no more lines than one: each order is cut there
cut_orders : orders two 1 [] ≡ (0 ∷ []) ∷ (1 ∷ []) ∷ []
cut_orders = refl
