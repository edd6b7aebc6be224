use Rattle.std.proofs.lemmas.Result.{on_ok_weaker}
use Rattle.cics_run.proofs.OfStage.Draining.{played_region, played_seen}
use Rattle.cics_run.proofs.stage.draining.play_seen.Goals as goal

pub returns-clause-region : goal.returns-clause-region
returns-clause-region g c =
    let (told, left) = c.in_ok-event.ensures.played in
    on_ok_weaker c.drain.result (played_region c.args.region.now.machine _ c.args.request c.drain.new.region left) c.drain.ensures.region

pub returns-clause-seen : goal.returns-clause-seen
returns-clause-seen g c =
    let (told, left) = c.in_ok-event.ensures.played in
    on_ok_weaker c.drain.result (played_seen g.O.Observer.sight c.args.number c.args.region.now.machine _ _ c.args.request _ _ _ _ c.in_ok-see_request.ensures told left c.in_ok-show.ensures) c.drain.ensures.seen
