use Rattle.std.proofs.Common.{ap, ◌∙◌}
use Rattle.cics_script.specs.Views.{view, content, entries}
use Rattle.cics_script.proofs.OptionSteps.{entries-more, value-step, value-refused}
use Rattle.cics_script.proofs.options.read_content.Goals as goal

pub returns : goal.returns
returns c =
    let read = c.in-Ok.found in
    let value = c.in-Ok-value_of in (
      content value.value,
      ap entries c.push.ensures.items ∙ entries-more _ _,
      λ f. value-step f c.args.one.now.option c.args.one.now.kind (entries c.args.found.now.items) (view read.0) c.args.bytes.now read.1.now (content value.value) c.in-Ok.ensures.0 value.ensures,
      c.in-Ok.ensures.1,
    )

pub returns-in-Err-value_of : goal.returns-in-Err-value_of
returns-in-Err-value_of c f =
    let read = c.in-Ok.found in
    value-refused f c.args.one.now.option c.args.one.now.kind (entries c.args.found.now.items) (view read.0) c.args.bytes.now read.1.now c.in-Err-value_of.fault c.in-Ok.ensures.0 c.in-Err-value_of.ensures
