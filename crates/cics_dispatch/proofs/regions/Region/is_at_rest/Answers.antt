use Rattle.std.proofs.Common.{◌≡◌, Bool, true, false, ap, subst, refl}
use Rattle.std.specs.Bool.{OnTrue}
use Rattle.cics_dispatch.specs.Machine.Waking.{IsAtRest}
use Rattle.cics_dispatch.proofs.OfMachine.RegionRemembers.{woken_settled, expired_in_time}
use Rattle.cics_dispatch.proofs.regions.Region.is_at_rest.Goals as goal

if_true : (b : Bool) (P : Type 0) → (b ≡ true → P) → OnTrue b P
if_true true P follows = follows refl
if_true false P follows = tt

pub returns-then-self : goal.returns-then-self
returns-then-self c =
    let u = c.self.inside in
    let m = u.dispatcher.machine in
    record {
      rest = if_true u.is_in_time (IsAtRest c.args.self.now.machine) (λ in_time. subst (λ v. IsAtRest v.machine) c.self.view_is (
        ap (λ s. s.outcome) (woken_settled m u.notes u.is_settled u.is_in_time c.self.invariant.0.tasks c.self.invariant.1 c.if-self.true),
        ap (λ s. s.outcome) (expired_in_time m u.notes u.is_settled u.is_in_time c.self.invariant.1 in_time),
      ));
    }
