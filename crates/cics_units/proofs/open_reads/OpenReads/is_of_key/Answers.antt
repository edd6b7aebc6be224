use Rattle.std.proofs.Common.{◌∙◌, ap}
use Rattle.cics_names.specs.Keyed.{is_same}
use Rattle.cics_names.specs.KeyedLaws.{pointwise-is_same}
use Rattle.cics_units.specs.OpenReads.{is_read_key}
use Rattle.cics_units.proofs.open_reads.OpenReads.is_of_key.Goals as goal

pub returns-in-Some : goal.returns-in-Some
returns-in-Some c =
    c.eq.ensures ∙ pointwise-is_same c.bytes.result.now c.args.key.now ∙ ap (λ bytes. is_same bytes c.args.key.now) c.bytes.ensures
    ∙ ap (λ read. is_read_key read c.args.key.now) c.in-Some.ensures
