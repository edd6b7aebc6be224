use Rattle.std.proofs.Common.{sym, subst}
use Rattle.std.specs.Prelude.{T}
use Rattle.cics_names.specs.Keyed.{is_rising}
use Rattle.cics_history.proofs.Entries.{value_at-looked_up}
use Rattle.cics_units.proofs.opening.named.Named.get.Goals as goal

pub returns-clause-value : goal.returns-clause-value
returns-clause-value g c = sym (value_at-looked_up c.args.name.now c.self.inside.rows.entries c.args.self.now _ c.get.ensures.value c.self.view_is)

pub returns-clause-in_order : goal.returns-clause-in_order
returns-clause-in_order g c = subst (λ m. T (is_rising m)) c.self.view_is c.self.invariant
