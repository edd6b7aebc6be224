use Rattle.std.proofs.Common.{◌∷◌, ◌∙◌, ◌<◌, ap, sym, arith, length}
use Rattle.cics_run.specs.Session.Lines.{all_lines}
use Rattle.cics_run.proofs.OfReading.Cutting.{line-first, line-last}
use Rattle.cics_run.proofs.reading.lines.next_line.Goals as goal

pub returns-in-Some-clause-some : goal.returns-in-Some-clause-some
returns-in-Some-clause-some c =
    line-first c.args.script.now c.split_at.result.0.now c.split_at.result.1.now c.in-Some.after.now c.in-Some.field-0-0.now _
    c.line_len.ensures.value c.split_at.ensures.front c.split_at.ensures.back c.in-Some.ensures.cases.0
    ∙ ap (λ l. l ∷ all_lines c.in-Some.after.now) (sym c.without_cr.ensures)

pub returns-in-None-2-clause-some : goal.returns-in-None-2-clause-some
returns-in-None-2-clause-some c =
    let some : 0 < length c.split_at.result.0.now = grind arith in
    line-last c.args.script.now c.split_at.result.0.now c.split_at.result.1.now _ c.line_len.ensures.value c.split_at.ensures.front c.split_at.ensures.back
    c.in-None-2.ensures.cases some
