-- How the orders that lead to an ending are counted.
use Rattle.std.specs.Prelude.{◌+◌, max}
use Rattle.cics_orders.specs.Space.Endings.{Parts, Reported, kept_number}
use Rattle.cics_orders.specs.declared.space.endings.Tally.{Tally}

-- a tally, and another one of the same ending
abbrev pub tally_joined : Tally → Tally → Tally
tally_joined t u = record t { orders = kept_number (t.orders + u.orders); serial = kept_number (t.serial + u.serial) }

-- the ending that has these parts and this tally
abbrev pub ending_of : Parts × Tally → Reported
ending_of e = record { order = e.1.order; ending = e.0; orders = max e.1.orders e.1.serial; serial = e.1.serial }
