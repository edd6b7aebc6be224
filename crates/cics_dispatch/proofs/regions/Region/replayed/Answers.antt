use Rattle.std.proofs.Common.{◌≡◌, subst}
use Rattle.std.specs.Prelude.{IfOk}
use Rattle.cics_dispatch.specs.Machine.Answers.{replayed_listing}
use Rattle.cics_dispatch.proofs.regions.Region.replayed.Goals as goal

pub returns : goal.returns
returns c = record { replayed = subst (λ v. IfOk c.replayed.result (λ l. l ≡ replayed_listing v)) c.self.view_is c.replayed.ensures }
