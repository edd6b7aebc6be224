use Rattle.std.proofs.Common.{◌∙◌, sym, ap}
use Rattle.cics_history.specs.declared.resources.Resource.TheVariants.{TdWrite}
use Rattle.cics_enqueue.specs.Table.{holder_of}
use Rattle.cics_units.specs.Blocking.{owns_over}
use Rattle.cics_units.specs.Cores.{core_value}
use Rattle.cics_units.specs.KeptUnits.{state_shown}
use Rattle.cics_units.specs.TableInPlace.{is_holder}
use Rattle.cics_units.proofs.Blocking.{owns_writing_by}
use Rattle.cics_units.proofs.units.Units.owns_writing.Goals as goal

pub returns : goal.returns
returns c =
    let u = c.self.inside in
    let s = state_shown u.opening u.trace.items u.outcomes.items u.commits.items (core_value u.core) in
    c.is_holder.ensures
    ∙ ap (is_holder c.args.unit) (c.holder_of-holder.ensures ∙ ap (λ r. holder_of r u.core.locks) c.writing_end.ensures)
    ∙ sym (owns_writing_by s u.core.locks c.self.invariant.0.table c.args.unit c.args.queue)
    ∙ ap (λ v. owns_over v.state c.args.unit (TdWrite c.args.queue)) c.self.view_is
