use Rattle.std.proofs.Common.{◌∙◌, ap, sym, arith}
use Rattle.std.proofs.lemmas.Result.{on_ok_weaker}
use Rattle.cics_orders.specs.Giving.{is_of, told_more}
use Rattle.cics_orders.proofs.OfPlans.Changed.{within, changed, unchanged}
use Rattle.cics_orders.specs.declared.lanes.Lane.{Lane}
use Rattle.cics_orders.proofs.lanes.tell.Goals as goal

-- the index that was found is in range
pub index_mut-requires : goal.index_mut-requires
index_mut-requires c =
    omega (arith, within (λ x. is_of x c.args.label.now) c.args.lanes.now.items _ c.as_slice.ensures.value c.in-Some.at (sym c.index_of.ensures ∙ c.in-Some.is))

-- the lane there is told
pub returns-in-Some : goal.returns-in-Some
returns-in-Some c =
    let lane : Lane = c.index_mut.result.now in
    on_ok_weaker c.push.result
    (λ told.
    changed (λ x. is_of x c.args.label.now) c.args.lanes.now.items _ c.as_slice.ensures.value (λ x. told_more x c.args.outcome) c.in-Some.at
    lane _ (sym c.index_of.ensures ∙ c.in-Some.is) c.index_mut.ensures.value (ap (λ t. record lane { told = t }) told)) c.push.ensures.ok

-- nobody is told
pub returns-in-None : goal.returns-in-None
returns-in-None c =
    unchanged (λ x. is_of x c.args.label.now) c.args.lanes.now.items _ c.as_slice.ensures.value (λ x. told_more x c.args.outcome) (sym c.index_of.ensures ∙ c.in-None.is)
