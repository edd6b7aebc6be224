use Rattle.std.proofs.Common.{[], ◌∙◌, ap, sym}
use Rattle.std.specs.Prelude.{if◌then◌else◌}
use Rattle.cics_history.specs.Headline.{outcome_of}
use Rattle.cics_history.specs.Isolation.{stays}
use Rattle.cics_history.specs.Serial.{are_backed_out_but}
use Rattle.cics_history.specs.State.{initial_store}
use Rattle.cics_history.specs.Store.{apply}
use Rattle.cics_units.proofs.OfReplay.PlainTrace.{replayed_more}
use Rattle.cics_units.proofs.replay.replay.replayed_committed.Goals as goal

pub loop-entry-preserved : goal.loop-entry-preserved
loop-entry-preserved c =
    let p = stays c.args.opening.now (are_backed_out_but [] (outcome_of c.args.outcomes.now)) in
    c.in_ok-replay_committed_entry.ensures
    ∙ ap (λ s. if p c.entry-item.result then (apply s c.entry-item.result.op).store else s) c.loop-entry.invariant
    ∙ sym (replayed_more p (initial_store c.args.opening.now) c.args.trace.now c.loop-entry.entry-index c.entry-item.result c.loop-entry-test.true c.entry-item.is)
