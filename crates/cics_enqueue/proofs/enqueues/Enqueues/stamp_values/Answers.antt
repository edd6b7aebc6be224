use Rattle.std.proofs.Common.{◌∙◌, ◌++◌, ap, subst, sym}
use Rattle.cics_names.specs.Stamps.{list_stamp}
use Rattle.cics_enqueue.specs.Kept.{AreKeys, table_of}
use Rattle.cics_enqueue.specs.Values.{values_of, value_stamp}
use Rattle.cics_enqueue.proofs.enqueues.Enqueues.stamp_values.Goals as goal

pub loop-key-init : goal.loop-key-init
loop-key-init c =
    let all = c.into_iter-key-iterator.ensures.into_iter_gives.0 in
    record {
      can = tt;
      finite = tt;
      keys = subst AreKeys (sym all) c.self.invariant.keys;
      rest = ap (λ table. c.args.out.now.items ++ list_stamp value_stamp (values_of c.args.unit table)) (ap table_of all ∙ c.self.view_is);
    }
