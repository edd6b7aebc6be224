use Rattle.std.proofs.Common.{ap, ◌∙◌}
use Rattle.std.specs.Ordering.{is_eq}
use Rattle.cics_run.proofs.OfReads.Keeping.{cells_ordered, same-tie}
use Rattle.cics_run.proofs.reads.steps.Cell.is_same.Goals as goal

-- they are if they tie
pub returns : goal.returns
returns c =
    let x = c.args.self.now in
    let y = c.args.other.now in
    c.is_eq.ensures ∙ ap is_eq (c.cmp.ensures ∙ (λ i. cells_ordered i x y)) ∙ same-tie x y
