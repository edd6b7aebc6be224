-- One turn of draining, as a call takes it.
use Rattle.std.specs.Prelude.{◌≡◌, Bool, true, false, List, None, Some}
use Rattle.cics_dispatch.specs.Machine.Machine.{Machine}
use Rattle.cics_dispatch.specs.Machine.Events.{Happened, turn}
use Rattle.cics_orders.specs.Giving.{told_by}
use Rattle.cics_orders.specs.declared.lanes.Lane.{Lane}

-- a turn was taken, which told the lanes, or there was none
abbrev pub Takes : Machine → Machine → List Lane → List Lane → Bool → Type 0
Takes m new lanes told true = (t : Happened) × (turn m ≡ Some t) × (new ≡ t.machine) × (told ≡ told_by lanes t.event)
Takes m new lanes told false = (turn m ≡ None) × (new ≡ m) × (told ≡ lanes)
