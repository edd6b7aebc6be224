use Rattle.std.proofs.Common.{◌≡◌, drop}
use Rattle.std.specs.List.{list_any}
use Rattle.cics_picture.specs.Draw.Reads.{changed}
use Rattle.cics_picture.proofs.draw.reads.is_changed.Given as goal

abbrev pub invariant-loop-entry : goal.invariant-loop-entry
invariant-loop-entry l =
    list_any (changed l.units.state l.unit l.shown) l.units.state.trace
    ≡ list_any (changed l.units.state l.unit l.shown) (drop l.entry-index l.units.state.trace)
