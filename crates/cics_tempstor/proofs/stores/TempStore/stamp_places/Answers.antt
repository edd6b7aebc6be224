use Rattle.std.proofs.Common.{◌∙◌, ◌++◌, ap}
use Rattle.cics_tempstor.specs.Stamps.{places_stamp}
use Rattle.cics_tempstor.specs.Tables.{those_set}
use Rattle.cics_tempstor.proofs.stores.TempStore.stamp_places.Goals as goal

pub loop-name-init : goal.loop-name-init
loop-name-init c = record {
  can = tt;
  finite = tt;
  rest = ap (λ places. c.args.out.now.items ++ places_stamp places)
      (ap those_set c.into_iter-name-iterator.ensures.into_iter_gives.0 ∙ c.in_ok-cursors.ensures);
}
