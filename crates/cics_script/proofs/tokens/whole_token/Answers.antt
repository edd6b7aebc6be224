use Rattle.cics_script.specs.Views.{view}
use Rattle.cics_script.proofs.Cuts.{cut-within, cut-off, unbroken}
use Rattle.cics_script.proofs.tokens.whole_token.Goals as goal

pub overflow_sub-bytes : goal.overflow_sub-bytes
overflow_sub-bytes c = cut-within c.args.bytes.now c.in-Ok.behind.now (view c.in-Ok.field-0-0) c.requires c.in-Ok.ensures (unbroken c.in-Ok.field-0-0)

pub returns-in-Ok : goal.returns-in-Ok
returns-in-Ok c =
    cut-off c.args.bytes.now c.in-Ok.behind.now c.split_at.result.0.now c.split_at.result.1.now (view c.in-Ok.field-0-0) c.requires c.in-Ok.ensures (unbroken c.in-Ok.field-0-0)
    c.split_at.ensures.front c.split_at.ensures.back
