use Rattle.std.proofs.Common.{◌∷◌, ap, sym, ◌∙◌}
use Rattle.cics_script.specs.Tokens.{tokens}
use Rattle.cics_script.proofs.Layouts.{tokens-blank}
use Rattle.cics_script.proofs.options.skip_one_blank.Goals as goal

pub returns-in-Some-eq32-default-clause-tokens : goal.returns-in-Some-eq32-default-clause-tokens
returns-in-Some-eq32-default-clause-tokens c =
    let rest = c.in-Some-eq32-default.rest.now in
    sym (ap tokens (c.in-Some-eq32-default.ensures.cases.0 ∙ ap (λ blank. blank ∷ rest) c.in-Some-eq32-default.field-0-0-test) ∙ tokens-blank rest)
