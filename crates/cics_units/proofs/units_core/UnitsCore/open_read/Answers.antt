use Rattle.std.proofs.Common.{◌≡◌, ◌∙◌}
use Rattle.cics_units.proofs.units_core.UnitsCore.open_read.Goals as goal

pub returns-in-Err-clause-err : goal.returns-in-Err-clause-err
returns-in-Err-clause-err c =
    let locks : c.let_go_all.new.enqueues ≡ c.args.self.now.locks = c.let_go_all.ensures ∙ c.in_ok-were_free.ensures.undone in
    λ i. record c.args.self.now { locks = locks i; reads = c.in-Err.ensures.err i }
