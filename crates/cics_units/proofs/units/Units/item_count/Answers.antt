use Rattle.std.proofs.Common.{◌∙◌, sym, ap, length}
use Rattle.cics_history.specs.Store.{ts_queue}
use Rattle.cics_tempstor.specs.Shown.{queue_at-queues_of}
use Rattle.cics_units.proofs.units.Units.item_count.Goals as goal

pub returns : goal.returns
returns c =
    let u = c.self.inside in
    let q = c.args.queue.now in
    c.item_count.ensures.count
    ∙ sym (ap length (queue_at-queues_of q u.core.store.temp_storage c.item_count.ensures.rising))
    ∙ ap (λ v. length (ts_queue v.store q)) c.self.view_is
