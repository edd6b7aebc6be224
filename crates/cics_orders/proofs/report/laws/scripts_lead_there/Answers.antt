use Rattle.cics_orders.proofs.OfReport.LedAlong.{scripts_lead}
use Rattle.cics_orders.proofs.report.laws.scripts_lead_there.Goals as goal

pub returns : goal.returns
returns c = scripts_lead
