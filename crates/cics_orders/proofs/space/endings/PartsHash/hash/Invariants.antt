use Rattle.std.proofs.Common.{◌≡◌, fold, take}
use Rattle.cics_orders.proofs.space.endings.PartsHash.hash.Given as goal

-- the parts so far are fed
abbrev pub invariant-loop-part : goal.invariant-loop-part
invariant-loop-part g l = l.state ≡ fold g.H.Hasher.write l.fn.state (take l.part-index l.part-items)
