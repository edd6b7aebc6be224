-- What contracts cite of the lines that tasks give, and of their orders, from one place.
pub use Rattle.cics_orders.specs.AsWritten.{as_written, lane_of, line_ready, written, written_to}
pub use Rattle.cics_orders.specs.Endings.Telling.{parts_at}
pub use Rattle.cics_orders.specs.Giving.{State, initial_of, initial_state, is_ready, lanes, left_by, line_count}
pub use Rattle.cics_orders.specs.Giving.{IsGivable, counted, given, givers, happening, may_give, next_said}
pub use Rattle.cics_orders.specs.Plans.Proper.{is_proper}
pub use Rattle.cics_orders.specs.Plans.Taking.{WrittenLine}
pub use Rattle.cics_orders.specs.Space.Orders.{IsFirst, IsWay, Order, after, is_serial_order, numbered_from, orders, serial_orders}
pub use Rattle.cics_orders.specs.Stamps.{state_stamp}
pub use Rattle.cics_orders.specs.Turns.{breaks}
