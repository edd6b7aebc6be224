use Rattle.std.specs.Fmt.{digits}
use Rattle.std.proofs.Common.{◌≡◌, ◌++◌, OnOk, sym, subst}
use Rattle.cics_run.specs.Stage.Journal.{condition_text}
use Rattle.cics_run.proofs.stage.journal.push_condition.Goals as goal

pub returns-in-Normal : goal.returns-in-Normal
unfolding digits
returns-in-Normal c =
    subst (λ k. OnOk c.push_str.result (c.push_str.new.out.items ≡ c.args.out.now.items ++ condition_text k))
    (sym c.in-Normal.is) c.push_str.ensures
