use Rattle.std.proofs.Common.{◌∙◌, sym}
use Rattle.cics_orders.proofs.OfPlans.ProperLaws.{planned_proper}
use Rattle.cics_orders.proofs.command.surveys.survey_script.Goals as goal

-- a script is taken apart into a proper plan
pub explore_script-requires : goal.explore_script-requires
explore_script-requires g c =
    planned_proper c.args.lines.now c.in-Ok-2.own (sym c.in_ok-own.ensures ∙ c.in-Ok-2.is)
