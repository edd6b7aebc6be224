use Rattle.std.proofs.Common.{◌∙◌, map}
use Rattle.cics_orders.specs.Space.Endings.{are_same}
use Rattle.cics_orders.specs.Space.Groups.{added_all}
use Rattle.cics_orders.specs.Space.Tallies.{tally_joined}
use Rattle.cics_orders.specs.Search.Levels.{tallied}
use Rattle.cics_orders.specs.Giving.{lanes}
use Rattle.cics_orders.specs.Endings.Telling.{parts_at}
use Rattle.cics_orders.proofs.search.exploring.Search.count_orders.Goals as goal

-- the last level is told
pub returns-clause-told : goal.returns-clause-told
returns-clause-told g c =
    let es = c.in_ok-level.level.entries in
    let step = c.in_ok-level.ensures in
    (es, step.level, c.in_ok-tally.ensures.met ∙ (λ i. added_all are_same tally_joined c.args.met.now.entries (map (tallied lanes (parts_at (step.scope i).told) (step.scope i).is_serial (step.initial i)) es)))
