-- A plain run of lines: it attaches tasks, and behind each line of a lane it drains as the orders do.
use Rattle.std.proofs.Common.{◌≡◌, Bool, true, false, not, List, [], ◌∷◌, ◌++◌, map, length, Option, None, Some, Result, Ok, Err, refl, ap, sym, ◌∙◌, subst, append_assoc, append-nil}
use Rattle.std.proofs.lemmas.Bool.{and_parts}
use Rattle.std.specs.Prelude.{if◌then◌else◌, is_some}
use Rattle.std.specs.List.{fold}
use Rattle.cics_names.specs.Keyed.{Bytes, is_same}
use Rattle.cics_names.specs.KeyedLaws.{is_same-self, is_same-eq}
use Rattle.cics_dispatch.specs.Machine.Machine.{Machine, RegionValue, Task, task_at}
use Rattle.cics_dispatch.specs.Machine.Events.{Happened, happened, played, drained_within, drained, all_played}
use Rattle.cics_dispatch.specs.Machine.Steps.{new_task, with_new_task, attached, refused_or}
use Rattle.cics_dispatch.specs.Machine.Shutdown.{unless_down}
use Rattle.cics_dispatch.specs.declared.machine.events.Event.TheVariants as event
use Rattle.cics_dispatch.specs.declared.machine.events.Request.{Request}
use Rattle.cics_dispatch.specs.declared.machine.events.Request.TheVariants as request
use Rattle.cics_dispatch.specs.declared.machine.events.Subject.TheVariants as subject
use Rattle.cics_dispatch.specs.declared.machine.outcomes.Refused.TheVariants.{RegionDown, DuplicateLabel}
use Rattle.cics_script.specs.Lines.{line}
use Rattle.cics_script.specs.declared.lines.Line.{Line}
use Rattle.cics_script.specs.declared.lines.Line.TheVariants as says
use Rattle.cics_script.specs.declared.faults.LineFault.{LineFault}
use Rattle.cics_run.specs.Stage.Stages as stages
use Rattle.cics_run.specs.Stage.Stages.{region_at, region_of}
use Rattle.cics_run.specs.declared.stage.stage.Stage.{Stage}
use Rattle.cics_run.specs.Session.Running.{Played, next, stepped}
use Rattle.cics_run.proofs.OfSession.Playing.{not-true}
use Rattle.cics_orders.specs.Plans.Taking.{has_task}
use Rattle.cics_orders.specs.Plans.Proper.{are_distinct}
use Rattle.cics_orders.proofs.OfPlans.ProperLaws.{has_first}
use Rattle.cics_orders.specs.declared.plans.plans.TaskPlan.{TaskPlan}
use Rattle.cics_orders.specs.Accepts.{IsNotRefused}
use Rattle.cics_orders.specs.Giving.{State, asked, happening, after_asked, with_task}
use Rattle.cics_orders.proofs.OfSearch.Regrouping.{Each}
use Rattle.cics_orders.proofs.GivenLanes.{IsRight}
use Rattle.cics_orders.specs.Report.Leads.{machine_of, AcceptsLine, LeadsTo}
use Rattle.cics_orders.proofs.OfReport.Opening.{bytes_of, goes, played_more, accepts_more, IsAttached}

-- a line of a run has no fault, and leaves the region of this machine
abbrev pub Runs : stages.Step → Machine → Type 0
Runs s m = (s.fault ≡ None) × (region_of s.stage ≡ region_at m)

-- a run goes on by a line
pub leads_more : (q : Played) (m n : Machine) (lines : List Bytes) (b : Bytes) → LeadsTo q m lines → AcceptsLine m (line b) →
    ((stage : Stage) → (region_of stage).machine ≡ m → Runs (stages.step stage b) n) → LeadsTo q n (lines ++ b ∷ [])
leads_more q m n lines b leads accepts runs = record {
  fault = ap (λ q. q.fault) more ∙ ran.0;
  accepts = accepts_more lines q b leads.accepts (subst (λ m. AcceptsLine m (line b)) (sym at) accepts);
  region = ap (λ q. region_of q.stage) more ∙ ran.1;
}
  where
    at : machine_of (fold next q lines) ≡ m
    at = ap (λ (r : RegionValue). r.machine) leads.region

    one : stages.Step
    one = stages.step (fold next q lines).stage b

    more : fold next q (lines ++ b ∷ []) ≡ stepped (fold next q lines) b one
    more = played_more q lines b ∙ goes (fold next q lines) b leads.fault

    ran : Runs one n
    ran = runs (fold next q lines).stage at

-- ---- The line of a lane

-- a line that asks nothing is none of a lane
right_asks : (label : Option Bytes) (r : Result Line LineFault) → IsRight label r → (q : Request) × (asked r ≡ Some q)
right_asks label (Ok (says.Issue own command)) right = (request.Issue own command, refl)
right_asks label (Ok (says.Clock seconds)) right = (request.Clock seconds, refl)
right_asks label (Ok says.Shutdown) right = (request.Shutdown, refl)
right_asks None _ right = cc
right_asks (Some own) _ right = cc

-- a request does in a run what it does in an order
asked_runs : (stage : Stage) (m : Machine) (r : Result Line LineFault) (q : Request) → asked r ≡ Some q → (region_of stage).machine ≡ m →
    Runs (stages.followed stage r) (happening m q).machine
unfolding happening
asked_runs stage m (Ok (says.Issue label command)) q is at =
    let same : request.Issue label command ≡ q = cc in
    (refl, (λ i. region_at (all_played (at i) (same i)).machine))
asked_runs stage m (Ok (says.Clock seconds)) q is at =
    let same : request.Clock seconds ≡ q = cc in
    (refl, (λ i. region_at (all_played (at i) (same i)).machine))
asked_runs stage m (Ok says.Shutdown) q is at =
    let same : request.Shutdown ≡ q = cc in
    (refl, (λ i. region_at (all_played (at i) (same i)).machine))
asked_runs stage m _ q is at = cc

-- a line of a lane does in a run what it does in an order
pub right_runs : (stage : Stage) (s : State) (label : Option Bytes) (r : Result Line LineFault) → IsRight label r → (region_of stage).machine ≡ s.machine →
    Runs (stages.followed stage r) (after_asked s (asked r)).machine
right_runs stage s label r right at =
    let found = right_asks label r right in
    subst (λ o. Runs (stages.followed stage r) (after_asked s o).machine) (sym found.1) (asked_runs stage s.machine r found.0 found.1 at)

-- ---- Attaches

-- tasks may be attached: no command waits, and no task has their labels
pub record Begins (m : Machine) (ts : List TaskPlan) : Type 0 where
  pub up : m.is_down ≡ false
  pub idle : m.waiting ≡ []
  pub fresh : Each (λ (t : TaskPlan). task_at m.tasks t.label ≡ None) ts

not_there : (us : List Task) (u : Task) (label : Bytes) → task_at us label ≡ None → is_same u.label label ≡ false → task_at (us ++ u ∷ []) label ≡ None
not_there [] u label none other = ap (λ b. if b then Some u else None) other
not_there (v ∷ us) u label none other = by (λ none. not_there us u label none other) (is_same v.label label) none
  where
    by : (task_at us label ≡ None → task_at (us ++ u ∷ []) label ≡ None) → (b : Bool) →
        (if b then Some v else task_at us label) ≡ None → (if b then Some v else task_at (us ++ u ∷ []) label) ≡ None
    by rest true none = cc
    by rest false none = rest none

-- a task more has none of the other labels
fresh_more : (m : Machine) (t : TaskPlan) (ts : List TaskPlan) → has_task ts t.label ≡ false → Each (λ (u : TaskPlan). task_at m.tasks u.label ≡ None) ts →
    Each (λ (u : TaskPlan). task_at (with_new_task m t.label t.dtimout).tasks u.label ≡ None) ts
fresh_more m t [] none fresh = tt
fresh_more m t (u ∷ ts) none (first, fresh) = by (λ none. fresh_more m t ts none fresh) (is_same u.label t.label) refl (sym (has_first u ts t.label) ∙ none)
  where
    other : is_same u.label t.label ≡ false → (b : Bool) → is_same t.label u.label ≡ b → is_same t.label u.label ≡ false
    other apart false is = is
    other apart true is = let clash : true ≡ false = sym (is_same-self u.label) ∙ ap (is_same u.label) (sym (is_same-eq t.label u.label is)) ∙ apart in cc

    by : (has_task ts t.label ≡ false → Each (λ (u : TaskPlan). task_at (with_new_task m t.label t.dtimout).tasks u.label ≡ None) ts) →
        (b : Bool) → is_same u.label t.label ≡ b → (if b then true else has_task ts t.label) ≡ false →
        Each (λ (u : TaskPlan). task_at (with_new_task m t.label t.dtimout).tasks u.label ≡ None) (u ∷ ts)
    by rest true is none = cc
    by rest false is none = (not_there m.tasks (new_task t.label t.dtimout) u.label first (other is (is_same t.label u.label) refl), rest none)

module _ (m : Machine) (t : TaskPlan) (up : m.is_down ≡ false) (idle : m.waiting ≡ []) (none : task_at m.tasks t.label ≡ None) where
  abbrev new : Machine
  new = with_new_task m t.label t.dtimout

  step_is : unless_down m (attached m t.label t.dtimout) ≡ record { outcome = Ok tt; machine = new }
  step_is =
      ap (λ b. if b then record { outcome = Err RegionDown; machine = m } else attached m t.label t.dtimout) up
      ∙ ap (λ o. refused_or m (if is_some o then Some DuplicateLabel else None) (record { outcome = tt; machine = new })) none

  happens : played m (request.Attach t.label t.transaction t.dtimout) ≡ record { event = event.Attached t.label t.transaction; machine = new }
  happens = ap (λ s. happened m (subject.Task t.label) (λ _. event.Attached t.label t.transaction) s.outcome s.machine) step_is

  task_is : with_task m t ≡ new
  unfolding with_task
  task_is = ap (λ (h : Happened). h.machine) happens

  attach_accepted : (r : Result Line LineFault) → r ≡ Ok (says.Attach t.label t.transaction t.dtimout) → AcceptsLine m r
  attach_accepted r is = subst (AcceptsLine m) (sym is) (subst (λ (h : Happened). IsNotRefused h.event) (sym happens) tt)

  attach_runs : (stage : Stage) (r : Result Line LineFault) → r ≡ Ok (says.Attach t.label t.transaction t.dtimout) → (region_of stage).machine ≡ m →
      Runs (stages.followed stage r) new
  unfolding drained_within
  attach_runs stage r is at =
      subst (λ r. Runs (stages.followed stage r) new) (sym is) (
        refl,
        ap (λ n. region_at (all_played n (request.Attach t.label t.transaction t.dtimout)).machine) at
            ∙ ap (λ (h : Happened). region_at (drained h.machine).machine) happens
            ∙ ap (λ ws. region_at (drained_within (length ws) new).machine) idle,
      )

-- a run attaches tasks as the orders do
pub attaches : (q : Played) (ts : List TaskPlan) (m : Machine) (lines : List Bytes) → are_distinct ts ≡ true → Each IsAttached ts → Begins m ts → LeadsTo q m lines →
    LeadsTo q (fold with_task m ts) (lines ++ bytes_of (map (λ t. t.attach) ts))
attaches q [] m lines distinct attached begins leads = subst (LeadsTo q m) (sym (append-nil lines)) leads
attaches q (t ∷ ts) m lines distinct (own, attached) begins leads =
    let parts = and_parts (not (has_task ts t.label)) (are_distinct ts) distinct in
    let n = with_new_task m t.label t.dtimout in
    let b = t.attach.1 in
    let none = begins.fresh.0 in
    let one : LeadsTo q n (lines ++ b ∷ [])
    = leads_more q m n lines b leads (attach_accepted m t begins.up begins.idle none (line b) own)
    (λ stage at. attach_runs m t begins.up begins.idle none stage (line b) own at) in
    let next : Begins n ts
    = record { up = begins.up; idle = begins.idle; fresh = fresh_more m t ts (not-true (has_task ts t.label) parts.0) begins.fresh.1 } in
    subst (λ k. LeadsTo q (fold with_task k ts) (lines ++ bytes_of (map (λ t. t.attach) (t ∷ ts)))) (sym (task_is m t begins.up begins.idle none))
    (subst (LeadsTo q (fold with_task n ts)) (append_assoc lines (b ∷ []) (bytes_of (map (λ t. t.attach) ts)))
    (attaches q ts n (lines ++ b ∷ []) parts.1 attached next one))
