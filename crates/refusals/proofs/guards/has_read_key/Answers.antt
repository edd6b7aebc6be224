use Rattle.std.proofs.Common.{◌∙◌, ap}
use Rattle.cics_names.specs.Keyed.{is_same}
use Rattle.cics_names.specs.KeyedLaws.{pointwise-is_same}
use Rattle.cics_units.specs.OpenReads.{is_read_key}
use Rattle.refusals.proofs.guards.has_read_key.Goals as goal

pub returns-in-Some : goal.returns-in-Some
returns-in-Some c =
    c.eq.ensures ∙ pointwise-is_same c.in-Some.read.now c.bytes.result.now
    ∙ ap (λ bytes. is_same c.in-Some.read.now bytes) c.bytes.ensures
    ∙ ap (λ read. is_read_key read c.args.key.now) c.in-Some.ensures
