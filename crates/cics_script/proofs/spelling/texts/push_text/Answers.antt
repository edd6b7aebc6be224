use Rattle.std.proofs.Common.{ap, sym, ◌∙◌, ◌++◌}
use Rattle.cics_script.proofs.OfSpelling.PlainTexts.{text_of-plain}
use Rattle.cics_script.proofs.spelling.texts.push_text.Goals as goal

pub returns-then-branch : goal.returns-then-branch
returns-then-branch c =
    c.in_ok-push_plain.ensures.text
    ∙ ap (λ text. c.args.out.now.items ++ text) (sym (text_of-plain c.args.bytes.now (sym c.in_ok-push_plain.ensures.plain ∙ c.if-branch.true)))
