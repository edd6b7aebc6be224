use Rattle.std.proofs.Common.{◌≡◌, ◌++◌, take}
use Rattle.std.specs.List.{flat_map}
use Rattle.cics_run.specs.Listing.Serial.{load_line}
use Rattle.cics_run.proofs.listing.serial.push_loads.Given as goal

abbrev pub invariant-loop-loaded : goal.invariant-loop-loaded
invariant-loop-loaded l = l.out.items ≡ l.fn.out.items ++ flat_map (load_line l.kind l.name) (take l.loaded-index l.records)
