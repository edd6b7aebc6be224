-- The levels of a search: the states after orders of at most so many lines, those of one stamp
-- once.
use Rattle.std.specs.Prelude.{◌≡◌, ◌≤◌, ℕ, zero, suc, ◌+◌, Bool, true, false, not, if◌then◌else◌, List, [], ◌∷◌, ◌++◌, map, length}
use Rattle.std.specs.List.{count_by, flat_map}
use Rattle.cics_names.specs.Keyed.{Bytes}
use Rattle.cics_orders.specs.Space.Orders.{is_none_left, Order, Lanes, IsWay, after, led_by, AreAmong}
use Rattle.cics_orders.specs.Space.Endings.{Parts}
use Rattle.cics_orders.specs.Space.Groups.{added_all}
use Rattle.cics_orders.specs.Space.States.{led_joined, lanes_of}
use Rattle.std.specs.Str.{bytes_eq}
use Rattle.cics_orders.specs.declared.space.states.Led.{Led}
use Rattle.cics_orders.specs.declared.space.endings.Tally.{Tally}

-- the orders that are followed, of at most so many lines
abbrev pub followed : {S : Type 0} → Lanes S → (S → ℕ → Bool) → Bool → ℕ → S → List Order
followed lanes breaks b zero s = [] ∷ []
followed lanes breaks b (suc n) s =
    if is_none_left (lanes.givers s 0) then [] ∷ [] else led_by (λ l. followed lanes breaks b n (lanes.given s l)) (lanes_of lanes breaks b s)

-- an entry of a level: the stamp of a state, and so many orders that lead to it, with the first
abbrev pub entry : {S : Type 0} → Lanes S → (S → ℕ → Bool) → (S → Bytes) → Bool → Order → ℕ → S → Bytes × Led
entry lanes breaks stamp b o n x =
    (stamp x, record { first = o; lanes = lanes_of lanes breaks b x; has_ended = is_none_left (lanes.givers x 0); count = n })

-- an entry is that of its first order
pub record IsEntry {S : Type 0} (lanes : Lanes S) (breaks : S → ℕ → Bool) (stamp : S → Bytes) (b : Bool) (s : S) (e : Bytes × Led) : Type 0 where
  pub way : IsWay lanes s e.1.first
  pub stamped : e.0 ≡ stamp (after lanes s e.1.first)
  pub lanes_there : e.1.lanes ≡ lanes_of lanes breaks b (after lanes s e.1.first)
  pub ended : e.1.has_ended ≡ is_none_left (lanes.givers (after lanes s e.1.first) 0)

-- the entries of the next level that the lanes of a state lead to, from the initial state `s`
abbrev pub led_on : {S : Type 0} → Lanes S → (S → ℕ → Bool) → (S → Bytes) → Bool → S → Led → List (Bytes × Led)
led_on lanes breaks stamp b s led =
    map (λ l. entry lanes breaks stamp b (led.first ++ l ∷ []) led.count (lanes.given (after lanes s led.first) l)) led.lanes

-- those that an entry leads to: itself if no lane may give
abbrev pub spread : {S : Type 0} → Lanes S → (S → ℕ → Bool) → (S → Bytes) → Bool → S → Bytes × Led → List (Bytes × Led)
spread lanes breaks stamp b s e = if e.1.has_ended then e ∷ [] else led_on lanes breaks stamp b s e.1

-- a level: the entries of orders from the initial state `s`, each counted once
abbrev pub level : {S : Type 0} → Lanes S → (S → ℕ → Bool) → (S → Bytes) → Bool → S → List Order → List (Bytes × Led)
level lanes breaks stamp b s os =
    added_all bytes_eq led_joined [] (map (λ o. entry lanes breaks stamp b o 1 (after lanes s o)) os)

-- A level that is searched: some of the orders to be followed lead to its states, and all if the
-- search is whole. One does at least, unless only serial orders are followed.
pub record IsLevel {S : Type 0} (lanes : Lanes S) (breaks : S → ℕ → Bool) (stamp : S → Bytes) (b : Bool) (s : S) (n : ℕ) (is_whole : Bool) (es : List (Bytes × Led)) : Type 0 where
  pub orders : List Order
  pub among : AreAmong orders (followed lanes breaks b n s)
  pub groups : es ≡ level lanes breaks stamp b s orders
  pub whole : is_whole ≡ true → orders ≡ followed lanes breaks b n s
  pub some : b ≡ false → 1 ≤ length orders

-- how many states of a level have a lane that may give
abbrev pub live : List (Bytes × Led) → ℕ
live es = count_by (λ e. not e.1.has_ended) es

-- how many states of the first `n` levels have a lane that may give, if all orders are followed
abbrev pub state_count : {S : Type 0} → Lanes S → (S → ℕ → Bool) → (S → Bytes) → Bool → S → ℕ → ℕ
state_count lanes breaks stamp b s zero = 0
state_count lanes breaks stamp b s (suc n) = state_count lanes breaks stamp b s n + live (level lanes breaks stamp b s (followed lanes breaks b n s))

-- Some entries of a level are followed, one at least if it has one. If the search is whole after
-- the level, it was before, and all are followed.
pub record IsNext {S : Type 0} (lanes : Lanes S) (breaks : S → ℕ → Bool) (stamp : S → Bytes) (b : Bool) (s : S) (was_whole is_whole : Bool) (es next : List (Bytes × Led)) : Type 0 where
  pub some : List (Bytes × Led)
  pub among : AreAmong some es
  pub whole : is_whole ≡ true → (was_whole ≡ true) × (some ≡ es)
  pub kept : 1 ≤ length es → 1 ≤ length some
  pub leads : next ≡ added_all bytes_eq led_joined [] (flat_map (spread lanes breaks stamp b s) some)

-- what an entry tells: the parts of its ending, and how many orders or serial orders lead there
abbrev pub tallied : {S : Type 0} → Lanes S → (S → Parts) → Bool → S → Bytes × Led → Parts × Tally
tallied lanes ending b s e = (
  ending (after lanes s e.1.first),
  record { order = e.1.first; orders = if b then 0 else e.1.count; serial = if b then e.1.count else 0 },
)
