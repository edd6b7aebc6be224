use Rattle.std.proofs.Common.{◌∙◌}
use Rattle.cics_units.proofs.OfReplay.PlainOpening.{fits_item, all_put}
use Rattle.cics_units.proofs.replay.replay.records.PlainRecords.loaded.Goals as goal

pub key_in-requires : goal.key_in-requires
key_in-requires c = fits_item c.args.file.now.definition c.args.file.now.records c.definition-definition.ensures.content c.definition-definition.result c.definition-definition.ensures.definition
    c.as_slice-content-items.result.now (c.as_slice-content-items.ensures ∙ c.in_ok-contents.ensures) c.loop-content.content-index c.content-item.result c.loop-content-test.true c.content-item.is
    c.bytes.result.now c.bytes.ensures

pub returns : goal.returns
returns c = c.loop-content.invariant ∙ all_put c.args.file.now.definition c.args.file.now.records c.definition-definition.ensures.content c.definition-definition.result c.definition-definition.ensures.definition
    c.as_slice-content-items.result.now (c.as_slice-content-items.ensures ∙ c.in_ok-contents.ensures) c.loop-content.content-index c.loop-content-test.false
