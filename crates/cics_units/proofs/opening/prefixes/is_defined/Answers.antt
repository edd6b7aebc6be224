use Rattle.std.proofs.Common.{◌∙◌}
use Rattle.cics_names.specs.KeyedLaws.{pointwise-is_same}
use Rattle.cics_units.proofs.OfOpening.Unpadded.{any-is_key_in, same_turned}
use Rattle.cics_units.proofs.opening.prefixes.is_defined.Goals as goal

pub returns : goal.returns
returns c = c.contains.ensures.value ∙ any-is_key_in _ (λ a b. pointwise-is_same a b ∙ same_turned a b) c.args.prefix.now c.args.prefixes.now
