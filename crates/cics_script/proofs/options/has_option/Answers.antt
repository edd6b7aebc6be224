use Rattle.std.proofs.Common.{rules, tests, ◌∙◌}
use Rattle.std.proofs.lemmas.Iterator.{YieldsList-from_slice}
use Rattle.std.proofs.lemmas.Iterator.Search.{any_from_yields_List}
use Rattle.cics_script.specs.Words.{same}
use Rattle.cics_script.proofs.OptionSteps.{any-entries}
use Rattle.cics_script.proofs.options.has_option.Goals as goal

pub returns : goal.returns
returns c =
    any_from_yields_List (λ one. same one.option c.args.option) _ _ _ c.any.ensures.ran (YieldsList-from_slice c.args.found.now cc) (λ x b q k. search (rules, tests))
    ∙ any-entries (λ option. same option c.args.option) c.args.found.now
