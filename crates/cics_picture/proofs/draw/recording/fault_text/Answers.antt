use Rattle.std.proofs.Common.{◌++◌, ap, ◌∙◌}
use Rattle.cics_run.specs.Stage.Journal.{fault_line}
use Rattle.cics_picture.specs.Draw.Recording.{told_fault}
use Rattle.cics_picture.proofs.draw.recording.fault_text.Goals as goal

-- the text is the line of the fault without its LF
pub returns : goal.returns
returns c =
    c.without_lf.ensures (told_fault c.args.number c.args.fault) (c.in_ok-push_fault.ensures ∙ ap (λ out. out ++ fault_line c.args.number c.args.fault) c.new-line.ensures.items)
