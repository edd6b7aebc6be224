use Rattle.std.proofs.Common.{◌≡◌, refl, ap, sym, subst}
use Rattle.cics_dispatch.specs.Machine.Events.{all_played}
use Rattle.cics_dispatch.specs.Machine.Machine.{RegionValue}
use Rattle.cics_run.specs.Stage.Seen.{after_events}
use Rattle.cics_run.specs.Stage.Stages.{region_at, region_of}
use Rattle.cics_run.specs.declared.stage.stage.Stage.TheVariants.{Running}
use Rattle.cics_run.proofs.OfStage.Draining.{played_region, played_seen}
use Rattle.cics_run.proofs.stage.stage.Stage.play.Goals as goal

pub returns-clause-played : goal.returns-clause-played
returns-clause-played g c =
    let (told, left) = c.in-Ok.ensures.played in
    let here : c.in-Running.region ≡ region_of c.args.self.now = cc (c.in-Running.is, c.in_ok-open.ensures.ok) in
    let now = played_region c.in-Running.region.machine _ c.args.request c.drain.new.region left c.in_ok-drain.ensures.region in
    (subst (λ (r : RegionValue). Running c.drain.new.region ≡ Running (region_at (all_played r.machine c.args.request).machine)) here (ap Running now), refl)

pub returns-clause-seen : goal.returns-clause-seen
returns-clause-seen g c =
    let (told, left) = c.in-Ok.ensures.played in
    let r = c.in-Running.region in
    let here : r ≡ region_of c.args.self.now = cc (c.in-Running.is, c.in_ok-open.ensures.ok) in
    let sight = g.O.Observer.sight in
    let before = g.O.Observer.seen c.args.observer.now in
    let asks = sym (c.sees_requests.ensures c.if-sees_requests.false c.args.number c.args.request r) in
    let now = played_seen sight c.args.number r.machine _ _ c.args.request _ _ _ _ asks told left c.in_ok-show-in-Ok.ensures c.in_ok-drain.ensures.seen in
    subst (λ (q : RegionValue). g.O.Observer.seen c.drain.new.observer ≡ after_events sight c.args.number (sight.with_request before c.args.number c.args.request q) (all_played q.machine c.args.request).turns) here now
