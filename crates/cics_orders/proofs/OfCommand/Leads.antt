-- The script that is written of an ending leads to that ending.
use Rattle.std.proofs.Common.{◌≡◌, ◌<◌, ◌≤◌, ℕ, zero, suc, ◌-◌, ◌^◌, ◌==◌, Bool, true, false, not, List, [], ◌∷◌, ◌++◌, filter, length, None, Some, option_map, refl, ap, sym, ◌∙◌, arith, subst}
use Rattle.std.proofs.lemmas.Option.{slice_get_within}
use Rattle.std.specs.Prelude.{if◌then◌else◌, slice_get}
use Rattle.cics_orders.specs.Space.Orders.{Order, after, IsWay, orders, is_serial_order}
use Rattle.cics_orders.specs.Space.Endings.{Run, Reported, are_same, firsts, run_of, reported_of_both}
use Rattle.cics_orders.specs.Search.Reports.{runs}
use Rattle.cics_orders.specs.declared.search.exploring.Report.{Report}
use Rattle.cics_orders.proofs.OfSearch.Regrouping.{Each}
use Rattle.cics_orders.proofs.OfSearch.Ways.{each_append, each_mapped, each_on, each_filter, each_among, are_ways, all_followed}
use Rattle.cics_orders.specs.declared.plans.plans.Plan.{Plan}
use Rattle.cics_orders.specs.Giving.{State, lanes, initial_state, line_count}
use Rattle.cics_orders.specs.Turns.{breaks}
use Rattle.cics_orders.specs.Endings.Telling.{is_deadlocked, parts_at}
use Rattle.cics_orders.specs.Report.Parts.{mark_in}
use Rattle.cics_orders.specs.Report.Reporting.{ending_at, script_text}
use Rattle.cics_run.specs.Session.Lines.{all_lines}
use Rattle.cics_run.specs.Session.Running.{start}
use Rattle.cics_run.specs.declared.session.running.Orders.{Orders}
use Rattle.cics_orders.specs.Report.Leads.{IsTitled, LeadsTo}
use Rattle.cics_orders.proofs.OfReport.LedAlong.{scripts_lead}
use Rattle.cics_orders.specs.Command.Surveys.{IsReportOf}
use Rattle.cics_orders.specs.Command.Leads.{EndingScriptsLeadThere}

module _ (p : Plan) (w : Orders) where
  abbrev comes_to : Order → State
  comes_to o = after lanes (initial_state p) o

  -- a run is told by the state after its order
  abbrev IsRun : Run → Type 0
  IsRun x = IsWay lanes (initial_state p) x.order × (x.ending ≡ parts_at w.told (comes_to x.order))

  -- an ending is that of its order, and its numbers are kept
  record IsEnding (e : Reported) : Type 0 where
    way : IsWay lanes (initial_state p) e.order
    told : e.ending ≡ parts_at w.told (comes_to e.order)
    orders : e.orders < 2 ^ 128
    serial : e.serial < 2 ^ 128

  all_ways : Each (IsWay lanes (initial_state p)) (orders lanes (line_count p) (initial_state p))
  all_ways =
      subst (Each (IsWay lanes (initial_state p))) (all_followed lanes (λ s l. false) (line_count p) (initial_state p))
      (are_ways lanes (λ s l. false) false (line_count p) (initial_state p))

  are_runs : (os : List Order) → Each (IsWay lanes (initial_state p)) os → Each IsRun (runs lanes (parts_at w.told) breaks (initial_state p) os)
  are_runs os ways =
      each_mapped IsRun (run_of lanes (parts_at w.told) breaks (initial_state p)) os
      (each_on (IsWay lanes (initial_state p)) (λ o. IsRun (run_of lanes (parts_at w.told) breaks (initial_state p) o)) os (λ o way. (way, refl)) ways)

  are_firsts : (rs : List Run) → Each IsRun rs → Each IsRun (firsts rs)
  are_firsts [] all = tt
  are_firsts (x ∷ rs) (one, all) = (one, each_filter IsRun (λ s. not (are_same s.ending x.ending)) (firsts rs) (are_firsts rs all))

  one_of : (es : List Reported) (k : ℕ) (e : Reported) → Each IsEnding es → slice_get es k ≡ Some e → IsEnding e
  one_of [] k e all at = cc
  one_of (x ∷ es) zero e (one, all) at = let same : x ≡ e = cc in subst IsEnding same one
  one_of (x ∷ es) (suc k) e (one, all) at = one_of es k e all at

  are_endings : (r : Report) → IsReportOf p w r → Each IsEnding r.endings
  are_endings r is =
      let all = orders lanes (line_count p) (initial_state p) in
      let rs = runs lanes (parts_at w.told) breaks (initial_state p) is.report.followed in
      let ss = runs lanes (parts_at w.told) breaks (initial_state p) is.report.serially in
      let serial_ways = each_filter (IsWay lanes (initial_state p)) (is_serial_order lanes breaks (initial_state p)) all all_ways in
      let found = each_append IsRun rs ss
      (are_runs is.report.followed (each_among (IsWay lanes (initial_state p)) is.report.followed all is.report.among all_ways))
      (are_runs is.report.serially (each_among (IsWay lanes (initial_state p)) is.report.serially (filter (is_serial_order lanes breaks (initial_state p)) all) is.report.serially_among serial_ways)) in
      subst (Each IsEnding) (sym is.report.endings)
      (each_mapped IsEnding (reported_of_both rs ss) (firsts (rs ++ ss))
      (each_on IsRun (λ x. IsEnding (reported_of_both rs ss x)) (firsts (rs ++ ss)) (joins rs ss) (are_firsts (rs ++ ss) found)))
    where
      joins : (rs ss : List Run) (x : Run) → IsRun x → IsEnding (reported_of_both rs ss x)
      joins rs ss x is = record { way = is.0; told = is.1; orders = omega arith; serial = omega arith }

  -- the ending of a number
  at_number : (r : Report) (k : ℕ) (e : Reported) → ending_at r.endings k ≡ Some e → (slice_get r.endings (k - 1) ≡ Some e) × (k ≤ length r.endings)
  at_number r k e = by (k == 0)
    where
      by : (b : Bool) → (if b then None else slice_get r.endings (k - 1)) ≡ Some e → (slice_get r.endings (k - 1) ≡ Some e) × (k ≤ length r.endings)
      by true at = cc
      by false at = (at, omega (arith, slice_get_within r.endings (k - 1) e at))

pub endings_lead : EndingScriptsLeadThere
endings_lead script p w r k e text planned is few at written =
    record { told = ending.told; leads = subst (λ t. LeadsTo start (after lanes (initial_state p.plan) e.order).machine (all_lines t)) same leads }
  where
    found : (slice_get r.endings (k - 1) ≡ Some e) × (k ≤ length r.endings)
    found = at_number p.plan w r k e at

    ending : IsEnding p.plan w e
    ending = one_of p.plan w r.endings (k - 1) e (are_endings p.plan w r is) found.0

    titled : IsTitled r k e
    titled = record {
      number = omega (arith, found.1, few);
      endings = few;
      orders = ending.orders;
      serial = ending.serial;
      mark = (is_deadlocked (after lanes (initial_state p.plan) e.order).machine, ap mark_in ending.told);
    }

    leads : LeadsTo start (after lanes (initial_state p.plan) e.order).machine (all_lines (script_text p.plan r k e))
    leads = scripts_lead script p r k e planned ending.way titled

    same : script_text p.plan r k e ≡ text
    same =
        let is_there : Some (script_text p.plan r k e) ≡ Some text = sym (ap (option_map (script_text p.plan r k)) at) ∙ written in
        cc
