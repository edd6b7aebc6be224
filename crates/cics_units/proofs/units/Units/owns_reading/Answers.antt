use Rattle.std.proofs.Common.{◌∙◌, sym, ap}
use Rattle.cics_history.specs.declared.resources.Resource.TheVariants.{TdRead}
use Rattle.cics_enqueue.specs.Table.{holder_of}
use Rattle.cics_units.specs.Blocking.{owns_over}
use Rattle.cics_units.specs.Cores.{core_value}
use Rattle.cics_units.specs.KeptUnits.{state_shown}
use Rattle.cics_units.specs.TableInPlace.{is_holder}
use Rattle.cics_units.proofs.Blocking.{owns_reading_by}
use Rattle.cics_units.proofs.units.Units.owns_reading.Goals as goal

pub returns : goal.returns
returns c =
    let u = c.self.inside in
    let s = state_shown u.opening u.trace.items u.outcomes.items u.commits.items (core_value u.core) in
    c.is_holder.ensures
    ∙ ap (is_holder c.args.unit) (c.holder_of-holder.ensures ∙ ap (λ r. holder_of r u.core.locks) c.reading_end.ensures)
    ∙ sym (owns_reading_by s u.core.locks c.self.invariant.0.table c.args.unit c.args.queue)
    ∙ ap (λ v. owns_over v.state c.args.unit (TdRead c.args.queue)) c.self.view_is
