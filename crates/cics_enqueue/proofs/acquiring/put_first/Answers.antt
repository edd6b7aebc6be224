use Rattle.std.proofs.Common.{◌∙◌, arith}
use Rattle.cics_enqueue.proofs.Tables.{insert_kept}
use Rattle.cics_enqueue.proofs.acquiring.put_first.Goals as goal

pub returns-else-len-before-clause-kept : goal.returns-else-len-before-clause-kept
returns-else-len-before-clause-kept c =
    let e = c.in_ok-held.ensures.len in
    let f = c.if-len-before.false in
    let l = c.len.ensures.len in
    let b = c.len-before.ensures.len in
    c.in_ok-held.ensures.entries ∙ insert_kept c.args.table.now.entries c.args.key c.in_ok-held.held c.args.holding c.len-before.ensures.ordered c.in_ok-held.ensures.value (omega (arith, e, f, l, b))
