use Rattle.std.proofs.Common.{◌∙◌, sym, ap, refl}
use Rattle.std.specs.Option.{option_map}
use Rattle.cics_enqueue.specs.Kept.{seen}
use Rattle.cics_enqueue.specs.Table.{resource_key}
use Rattle.cics_enqueue.proofs.Tables.{held_at-table_of}
use Rattle.cics_enqueue.proofs.enqueues.Enqueues.holding.Goals as goal

pub returns : goal.returns
returns c =
    let r = c.args.resource.now in
    rw (← c.self.view_is) (ap (option_map seen) (c.copied-holding.ensures ∙ c.held.ensures) ∙ sym (held_at-table_of r (resource_key r) refl c.self.inside.table.entries c.self.invariant.keys))
