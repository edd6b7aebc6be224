use Rattle.std.proofs.Common.{◌≡◌, ◌++◌, subst}
use Rattle.std.specs.Prelude.{OnOk}
use Rattle.cics_dispatch.specs.Machine.Stamps.{region_stamp}
use Rattle.cics_dispatch.proofs.regions.Region.stamp.Goals as goal

pub returns : goal.returns
returns c = record { stamp = subst (λ v. OnOk c.stamp.result (c.stamp.new.out.items ≡ c.args.out.now.items ++ region_stamp v.machine)) c.self.view_is c.stamp.ensures }
