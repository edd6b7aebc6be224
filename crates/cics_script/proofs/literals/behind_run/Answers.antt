use Rattle.std.proofs.Common.{sym, ◌∙◌}
use Rattle.cics_script.proofs.Copies.{rest-run, run-quoted}
use Rattle.cics_script.proofs.Taken.{run-left}
use Rattle.cics_script.proofs.literals.behind_run.Goals as goal

pub returns-in-Quoted-clause-rest : goal.returns-in-Quoted-clause-rest
returns-in-Quoted-clause-rest c =
    rest-run c.args.notation c.split_at.result.0.now c.args.bytes.now c.split_at.result.1.now
    (run-quoted c.args.notation c.args.bytes.now c.split_at.result.0.now c.split_at.result.1.now c.short_plain_len.result c.in-Quoted.is c.short_plain_len.ensures.value c.split_at.ensures.front c.split_at.ensures.back)

pub returns-in-Some-clause-rest : goal.returns-in-Some-clause-rest
returns-in-Some-clause-rest c =
    let here = c.in-Some.ensures.cases in
    run-left c.args.notation c.args.bytes.now c.in-Some.digits.now c.in-Some.rest.now c.in-Hexadecimal.is here.0 here.1 here.2 (sym c.are_digits.ensures ∙ c.if-are_digits.true)
