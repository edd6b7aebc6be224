use Rattle.std.proofs.Common.{rules}
use Rattle.cics_enqueue.proofs.acquiring.or_put.Goals as goal

pub returns-clause-each : goal.returns-clause-each
returns-clause-each c = λ k. let e = c.in_ok-table.ensures.update.0 c.or_insert.result.now in let f = e.0 k in search rules
