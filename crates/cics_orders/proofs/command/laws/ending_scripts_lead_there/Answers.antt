use Rattle.cics_orders.proofs.OfCommand.Leads.{endings_lead}
use Rattle.cics_orders.proofs.command.laws.ending_scripts_lead_there.Goals as goal

pub returns : goal.returns
returns c = endings_lead
