use Rattle.std.proofs.Common.{◌≡◌, Bool, true, false, not, inr, refl}
use Rattle.cics_dispatch.proofs.dispatcher.Dispatcher.may_close.Goals as goal

pub returns-in-None : goal.returns-in-None
returns-in-None c = λ free. inr (c.owner_waits_in.ensures (opposite c.owner_waits_in.result free))
  where
    opposite : (b : Bool) → not b ≡ true → b ≡ false
    opposite true is = cc
    opposite false is = refl
