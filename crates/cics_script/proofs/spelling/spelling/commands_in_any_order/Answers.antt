use Rattle.cics_script.proofs.OfSpelling.Orders.{command-written}
use Rattle.cics_script.proofs.OfSpelling.Written.{line-written}
use Rattle.cics_script.proofs.OfSpelling.Spelled.{spelling}
use Rattle.cics_script.proofs.OfSpelling.ReadBack.{written-back}
use Rattle.cics_script.proofs.spelling.spelling.commands_in_any_order.Goals as goal

pub returns-clause-read : goal.returns-clause-read
returns-clause-read c = command-written

pub returns-clause-bytes : goal.returns-clause-bytes
returns-clause-bytes c = line-written

pub returns-clause-each : goal.returns-clause-each
returns-clause-each c = spelling

pub returns-clause-back : goal.returns-clause-back
returns-clause-back c = written-back
