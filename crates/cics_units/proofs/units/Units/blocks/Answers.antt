use Rattle.std.proofs.Common.{◌∙◌, ◌&&◌, sym, ap}
use Rattle.cics_history.specs.Resources.{bytes_of}
use Rattle.cics_history.specs.declared.resources.Resource.TheVariants.{FilePrefix}
use Rattle.cics_units.specs.Blocking.{owns_over, blocks}
use Rattle.cics_units.specs.Cores.{core_value}
use Rattle.cics_units.specs.KeptUnits.{state_shown}
use Rattle.cics_units.proofs.Blocking.{owns_over_by}
use Rattle.cics_units.proofs.units.Units.blocks.Goals as goal

pub returns-in-DeleteGeneric : goal.returns-in-DeleteGeneric
returns-in-DeleteGeneric c =
    let u = c.self.inside in
    let s = state_shown u.opening u.trace.items u.outcomes.items u.commits.items (core_value u.core) in
    let now = c.args.self.now.state in
    let f = c.in-DeleteGeneric.file in
    owns_over_by s u.core.locks c.self.invariant.0.table c.args.unit (FilePrefix f (bytes_of c.bytes.result.now)) c.owns_under.result c.owns_under.ensures
    ∙ ap (λ p. owns_over s c.args.unit (FilePrefix f (bytes_of p))) c.bytes.ensures
    ∙ ap (λ v. owns_over v.state c.args.unit (FilePrefix f (bytes_of c.in-DeleteGeneric.prefix))) c.self.view_is
    ∙ sym (ap (λ o. blocks now c.args.asking o c.args.unit) c.in-DeleteGeneric.is
    ∙ ap (λ t. t && owns_over now c.args.unit (FilePrefix f (bytes_of c.in-DeleteGeneric.prefix))) (sym c.is_another.ensures ∙ c.if-not-is_another.false))
