use Rattle.std.proofs.Common.{◌∙◌, ◌++◌, [], ap}
use Rattle.std.proofs.lemmas.Result.{on_ok_weaker}
use Rattle.cics_names.proofs.Stamps.{appended_two}
use Rattle.cics_history.specs.Headline.{outcome_of}
use Rattle.cics_history.specs.Isolation.{store_by}
use Rattle.cics_history.specs.Serial.{are_backed_out_but}
use Rattle.cics_history.specs.Stamps.{store_stamp, shared_stamp}
use Rattle.cics_units.proofs.units.Units.stamp_shared.Goals as goal

pub returns : goal.returns
unfolding shared_stamp
returns c =
    let u = c.self.inside in
    let out = c.args.out.now.items in
    let store = c.in_ok-stamp_committed.ensures
    ∙ (λ i. out ++ store_stamp (store_by u.opening (are_backed_out_but [] (outcome_of (c.as_slice-outcomes.ensures.value i))) (c.as_slice-trace.ensures.value i))) in
    on_ok_weaker c.stamp_places.result (λ last.
    appended_two out _ _ store last
    ∙ ap (λ v. out ++ shared_stamp v.state) c.self.view_is) c.stamp_places.ensures
