use Rattle.std.proofs.Common.{sym, subst, [], ◌∷◌}
use Rattle.cics_enqueue.specs.Table.{IsFreeFor}
use Rattle.cics_units.specs.Uses.{listed, AreFreeFor}
use Rattle.cics_units.proofs.TableChanges.{free-taken}
use Rattle.cics_units.proofs.uses.hold_all.Goals as goal

-- what is taken first stands in no way of the other
pub hold-requires-in-Two-2-clause-free : goal.hold-requires-in-Two-2-clause-free
hold-requires-in-Two-2-clause-free c =
    let t = c.args.enqueues.now in
    let one = c.in-Two.one in
    let other = c.in-Two.other in
    let free : AreFreeFor t (one ∷ other ∷ []) c.args.unit = subst (λ u. AreFreeFor t (listed u) c.args.unit) c.in-Two.is c.requires.free in
    subst (λ x. IsFreeFor x other c.args.unit) (sym c.in_ok-first-in-Two.ensures.taken) (free-taken t one other c.args.unit free.1.0)
