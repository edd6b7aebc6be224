use Rattle.std.proofs.Common.{◌≡◌, ◌≤◌, ap, ◌∙◌, subst, true, false}
use Rattle.std.specs.Prelude.{IfOk, option_map}
use Rattle.cics_orders.specs.Search.Levels.{state_count}
use Rattle.cics_orders.specs.Search.Reports.{IsReport}
use Rattle.cics_orders.specs.declared.plans.plans.Plan.{Plan}
use Rattle.cics_orders.specs.Plans.Proper.{is_proper}
use Rattle.cics_orders.specs.Giving.{State, lanes, initial_state, initial_of, line_count}
use Rattle.cics_orders.specs.AsWritten.{as_written}
use Rattle.cics_orders.specs.Endings.Telling.{parts_at}
use Rattle.cics_orders.specs.Stamps.{state_stamp}
use Rattle.cics_orders.specs.Turns.{breaks}
use Rattle.cics_orders.proofs.StampLaws.{proper_stays}
use Rattle.cics_orders.proofs.search.exploring.explore_script.Goals as goal

-- a walk starts in the initial state of its plan
begins : (p : Plan) (s : State) → is_proper p ≡ true → s ≡ initial_state p → initial_of s ≡ initial_state p
unfolding initial_state
begins p s proper is = ap initial_of is ∙ ap initial_state (proper_stays p proper)

pub returns-clause-report : goal.returns-clause-report
unfolding initial_state
returns-clause-report g c =
    subst (λ (s : State). IfOk c.explore.result (λ report. IsReport lanes (parts_at c.args.told.told) breaks (line_count s.plan) s report))
    (begins c.args.told.plan _ c.requires c.in_ok-walk.ensures) c.explore.ensures.report

pub returns-clause-within : goal.returns-clause-within
unfolding initial_state
returns-clause-within g c =
    subst (λ (s : State). IfOk c.explore.result (λ report. state_count lanes breaks (state_stamp c.args.told.told) false s (line_count s.plan) ≤ c.args.limit → report.is_whole ≡ true))
    (begins c.args.told.plan _ c.requires c.in_ok-walk.ensures) c.explore.ensures.within

pub returns-clause-serial_within : goal.returns-clause-serial_within
unfolding initial_state
returns-clause-serial_within g c =
    subst (λ (s : State). IfOk c.explore.result (λ report. state_count lanes breaks (state_stamp c.args.told.told) true s (line_count s.plan) ≤ c.args.limit → report.has_all_serial ≡ true))
    (begins c.args.told.plan _ c.requires c.in_ok-walk.ensures) c.explore.ensures.serial_within

pub returns-clause-written : goal.returns-clause-written
unfolding initial_state
returns-clause-written g c =
    subst (λ (s : State). IfOk c.explore.result (λ report. report.written ≡ option_map (parts_at c.args.told.told) (as_written s)))
    (begins c.args.told.plan _ c.requires c.in_ok-walk.ensures) c.explore.ensures.written
