use Rattle.cics_history.proofs.Holders.{none_found}
use Rattle.cics_history.proofs.States.{one_holder_after, one_at_each_end_of, holder_found, holder_holds}
use Rattle.cics_history.proofs.LeastHeld.{least_held, holder_some}
use Rattle.cics_history.proofs.laws.each_resource_has_one_holder.Goals as goal

pub returns : goal.returns
returns c = record { one = one_holder_after; ends = one_at_each_end_of; found = holder_found; holds = holder_holds; least = least_held; somebody = holder_some; none = none_found }
