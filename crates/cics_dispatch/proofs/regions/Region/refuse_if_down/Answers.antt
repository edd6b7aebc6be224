use Rattle.std.proofs.Common.{◌∙◌, sym, ap, refl}
use Rattle.cics_dispatch.proofs.regions.Region.refuse_if_down.Goals as goal

pub returns-then-is_down-clause-down : goal.returns-then-is_down-clause-down
returns-then-is_down-clause-down c = (refl, ap (λ v. v.machine.is_down) (sym c.self.view_is) ∙ sym c.if-is_down.ensures)

pub returns-clause-up : goal.returns-clause-up
returns-clause-up c = ap (λ v. v.machine.is_down) (sym c.self.view_is) ∙ sym c.if-is_down.ensures
