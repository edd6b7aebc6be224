use Rattle.cics_units.proofs.NothingHeld.{held_for_open, nothing_held}
use Rattle.cics_units.proofs.laws.only_open_units_hold_back.Goals as goal

pub returns : goal.returns
returns c = record {
  owned = λ s stores table x is holds. held_for_open s stores table is x holds;
  none = λ s stores table is shut. nothing_held s stores table is shut;
}
