-- States that go on alike: the same lanes may give, the same lines lead to states that go on alike,
-- and their endings are told the same.
use Rattle.std.specs.Prelude.{◌≡◌, Bool, map}
use Rattle.cics_dispatch.specs.Future.Futures.{HaveSameFuture}
use Rattle.cics_orders.specs.Giving.{State}
use Rattle.cics_orders.specs.Stamps.{seen}

-- two states of one plan are the same in what is seen of their lanes, and their regions have the
-- same future
pub record SameState (told : Bool) (s t : State) : Type 0 where
  pub plan : s.plan ≡ t.plan
  pub machine : HaveSameFuture s.machine t.machine
  pub lanes : map (seen told) s.lanes ≡ map (seen told) t.lanes
