use Rattle.std.proofs.Common.{◌∙◌, ◌++◌, ap}
use Rattle.cics_names.specs.Stamps.{list_stamp}
use Rattle.cics_dispatch.specs.Machine.Stamps.{browse_stamp}
use Rattle.cics_dispatch.proofs.machine.browses.Browses.stamp.Goals as goal

pub loop-file-init : goal.loop-file-init
loop-file-init c = record {
  can = tt;
  finite = tt;
  rest = ap (λ rows. c.args.out.now.items ++ list_stamp browse_stamp rows) (c.into_iter-file-iterator.ensures.into_iter_gives.0 ∙ c.self.view_is);
}
