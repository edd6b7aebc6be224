use Rattle.std.proofs.Common.{◌≡◌, map, [], rules, ◌∙◌, ap}
use Rattle.std.specs.Map.Iter.{deref_pair}
use Rattle.std.proofs.lemmas.Map.Iter.{iter_end}
use Rattle.cics_transdata.specs.Trans.{queue_of}
use Rattle.cics_units.specs.Opening.RegionFiles.{file_of}
use Rattle.cics_units.specs.Opening.RegionQueues.{opened_queue}
use Rattle.cics_units.proofs.OfReplay.PlainOpening.{begins_with}
use Rattle.cics_units.proofs.replay.replay.store.PlainStore.loaded.Goals as goal

pub loop-name-2-init : goal.loop-name-2-init
loop-name-2-init c =
    let all : map deref_pair c.loop-name.yielded ≡ c.files.result.now = search (rules, iter_end) in
    c.loop-name.invariant
    ∙ ap (λ files. record { files = files; ts = []; td = [] })
    (begins_with file_of (λ f. f.records) c.args.opening.now.files c.files.ensures.in_order.files (map deref_pair c.loop-name.yielded) (all ∙ c.files.ensures.files))

pub returns : goal.returns
returns c =
    let all : map deref_pair c.loop-name-2.yielded ≡ c.queues.result.now = search (rules, iter_end) in
    c.loop-name-2.invariant
    ∙ ap (λ queues. record { files = map (λ e. (e.0, e.1.records)) c.args.opening.now.files; ts = []; td = queues })
    (begins_with opened_queue queue_of c.args.opening.now.queues c.files.ensures.in_order.queues (map deref_pair c.loop-name-2.yielded) (all ∙ c.queues.ensures))
