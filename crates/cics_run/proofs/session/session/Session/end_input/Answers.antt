use Rattle.std.proofs.Common.{arith, ◌<◌, length}
use Rattle.cics_run.proofs.OfSession.AtEnd.{closes-at}
use Rattle.cics_run.proofs.session.session.Session.end_input.Goals as goal

pub returns-clause-closes : goal.returns-clause-closes
returns-clause-closes g c form bytes before at =
    let some : 0 < length c.args.self.now.line.items = grind arith in
    closes-at form bytes before _ c.args.self.now at some _ _ c.run_kept.result c.run_kept.ensures.ran c.run_kept.ensures.line c.run_kept.ensures.fault c.run_kept.ensures.printed c.run_kept.ensures.err
