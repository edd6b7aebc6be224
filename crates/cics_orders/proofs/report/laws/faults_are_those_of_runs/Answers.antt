use Rattle.cics_orders.proofs.OfReport.PlainFaults.{faults_are_those}
use Rattle.cics_orders.proofs.report.laws.faults_are_those_of_runs.Goals as goal

pub returns : goal.returns
returns c = faults_are_those
