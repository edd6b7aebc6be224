-- What is noted of a state, and the orders that lead to states of one stamp.
use Rattle.std.specs.Prelude.{ℕ, ◌+◌, Bool, not, if◌then◌else◌, List, filter}
use Rattle.cics_names.specs.Keyed.{Bytes}
use Rattle.cics_orders.specs.Space.Orders.{Lanes, is_none_left}
use Rattle.cics_orders.specs.Space.Endings.{kept_number}
use Rattle.cics_orders.specs.declared.space.states.Led.{Led}
use Rattle.cics_orders.specs.declared.space.states.Reached.{Reached}

-- orders that lead to one stamp, and more of them
abbrev pub led_joined : Led → Led → Led
led_joined l m = record l { count = kept_number (l.count + m.count) }

-- the lanes that are followed from a state: those that may give, or of them only those that break
-- no turn
abbrev pub lanes_of : {S : Type 0} → Lanes S → (S → ℕ → Bool) → Bool → S → List ℕ
lanes_of lanes breaks b x = if b then filter (λ l. not (breaks x l)) (lanes.givers x 0) else lanes.givers x 0

-- what is noted of a state
abbrev pub reached : {S : Type 0} → Lanes S → (S → ℕ → Bool) → (S → Bytes) → Bool → S → Reached
reached lanes breaks stamp b x = record { stamp = stamp x; lanes = lanes_of lanes breaks b x; has_ended = is_none_left (lanes.givers x 0) }
