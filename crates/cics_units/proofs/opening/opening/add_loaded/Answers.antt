use Rattle.std.proofs.Common.{◌∙◌, ap, sym}
use Rattle.std.proofs.lemmas.Result.{err_from_is_err_and}
use Rattle.cics_names.specs.Keyed.{with_value}
use Rattle.cics_images.specs.NamedValues.{changed_where}
use Rattle.cics_transdata.specs.Trans.{writer_committed}
use Rattle.cics_units.specs.Opening.RegionQueues.{loaded_with}
use Rattle.cics_units.proofs.OfOpening.Changing.{all_stay}
use Rattle.cics_units.proofs.OfOpening.Opened.{loaded_with-committed}
use Rattle.cics_units.proofs.opening.opening.add_loaded.Goals as goal

pub returns-in_err-write-clause-err : goal.returns-in_err-write-clause-err
returns-in_err-write-clause-err c =
    let p = err_from_is_err_and c.from_residual.result c.from_residual.ensures.1 in
    rw p.1 (all_stay c.args.name.now c.at_mut-queue.result.now c.write.new.self c.args.queues.now c.at_mut-queue.ensures.in_order c.at_mut-queue.ensures.value c.in_err-write.ensures.err)

pub returns-clause-queues : goal.returns-clause-queues
returns-clause-queues c =
    ap (λ q. with_value c.args.name.now q c.args.queues.now)
    (c.commit_writer.ensures.value ∙ ap writer_committed c.in_ok-write.ensures.value ∙ loaded_with-committed c.args.content c.at_mut-queue.result.now)
    ∙ ap (λ o. changed_where (λ q. loaded_with q c.args.content) c.args.name.now o c.args.queues.now) (sym c.at_mut-queue.ensures.value)
