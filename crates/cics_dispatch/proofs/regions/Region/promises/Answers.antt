use Rattle.std.proofs.Common.{subst}
use Rattle.cics_dispatch.specs.Machine.Answers.{IsHeadlineRegion, IsSerializableRegion}
use Rattle.cics_dispatch.proofs.regions.Region.promises.Goals as goal

pub returns-clause-headline : goal.returns-clause-headline
returns-clause-headline c = subst IsHeadlineRegion c.self.view_is c.self.invariant.0.headline

pub returns-clause-serializable : goal.returns-clause-serializable
returns-clause-serializable c = subst IsSerializableRegion c.self.view_is c.self.invariant.0.serializable
