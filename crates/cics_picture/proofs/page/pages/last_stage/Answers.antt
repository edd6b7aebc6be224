use Rattle.std.proofs.Common.{ap}
use Rattle.std.specs.Prelude.{is_some}
use Rattle.cics_picture.proofs.OfPage.Playing.{goes-first, stage-stopped}
use Rattle.cics_picture.proofs.page.pages.last_stage.Goals as goal

pub lines-init : goal.lines-init
lines-init c = goes-first c.new-stage.result c.args.script.now c.new-stage.ensures

pub returns-in-Some-2 : goal.returns-in-Some-2
returns-in-Some-2 c =
    let (at, fault) = c.in_ok-run_line.ensures.played in
    stage-stopped c.lines.stage c.lines.rest.now c.in-Some.line.now c.in-Some.after.now c.args.script.now c.lines.invariant c.in-Some.ensures.some c.run_line.new.self c.in_ok-run_line.field-0 at fault (ap is_some c.in-Some-2.is)
