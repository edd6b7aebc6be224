use Rattle.std.proofs.Common.{◌≡◌, map}
use Rattle.cics_units.specs.StoreEnds.{writers_settled, readers_settled}
use Rattle.cics_units.proofs.units_core.settle_ends.Given as goal

-- the writing ends are settled of the images so far
abbrev pub invariant-loop-image : goal.invariant-loop-image
invariant-loop-image l = l.store ≡ writers_settled l.fn.store (map (λ y. y.now) l.yielded)

-- and the reading ends
abbrev pub invariant-loop-image-2 : goal.invariant-loop-image-2
invariant-loop-image-2 l = l.store ≡ readers_settled l.initial.store (map (λ y. y.now) l.yielded)
