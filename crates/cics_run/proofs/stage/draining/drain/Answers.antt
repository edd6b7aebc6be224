use Rattle.std.proofs.Common.{sym}
use Rattle.cics_run.proofs.OfStage.Draining.{region_is, rests, none_seen}
use Rattle.cics_run.proofs.stage.draining.drain.Goals as goal

pub returns-then-is_at_rest-clause-region : goal.returns-then-is_at_rest-clause-region
returns-then-is_at_rest-clause-region g c =
    let r = c.args.region.now in
    let none = rests r.machine _ c.is_at_rest.ensures.rest c.if-is_at_rest.true in
    region_is r _ c.promises.ensures.headline (sym (none_seen g.O.Observer.sight c.args.number r.machine (g.O.Observer.seen c.args.observer.now) none).0)

pub returns-then-is_at_rest-clause-seen : goal.returns-then-is_at_rest-clause-seen
returns-then-is_at_rest-clause-seen g c =
    let r = c.args.region.now in
    let none = rests r.machine _ c.is_at_rest.ensures.rest c.if-is_at_rest.true in
    sym (none_seen g.O.Observer.sight c.args.number r.machine (g.O.Observer.seen c.args.observer.now) none).1
