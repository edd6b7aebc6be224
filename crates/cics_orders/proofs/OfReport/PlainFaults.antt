-- A script is taken apart line by line as its plain run goes.
use Rattle.std.proofs.Common.{◌≡◌, ℕ, ◌+◌, Bool, true, false, List, [], ◌∷◌, ◌++◌, Option, None, Some, Result, Ok, Err, refl, ap, sym, ◌∙◌, subst}
use Rattle.std.specs.Prelude.{if◌then◌else◌, is_some}
use Rattle.std.specs.List.{fold}
use Rattle.cics_names.specs.Keyed.{Bytes, value_at, has_key, is_key_in}
use Rattle.cics_names.specs.declared.commands.Command.{Command}
use Rattle.cics_history.specs.State.{OpeningState}
use Rattle.cics_history.specs.Openings.{with_file, with_record, with_prefix, with_queue, with_td_record}
use Rattle.cics_units.specs.Opening.Faults.{file_fault, load_fault, load_td_fault, fault_if}
use Rattle.cics_units.specs.declared.opening.opening.DefineFault.{DefineFault}
use Rattle.cics_dispatch.specs.Machine.Machine.{RegionValue}
use Rattle.cics_dispatch.specs.declared.machine.events.Request.{Request}
use Rattle.cics_dispatch.specs.declared.machine.events.Request.TheVariants as request
use Rattle.cics_dispatch.specs.declared.machine.outcomes.Refused.TheVariants.{NoTask, DuplicateLabel}
use Rattle.cics_script.specs.Lines.{line}
use Rattle.cics_script.specs.declared.lines.Line.{Line}
use Rattle.cics_script.specs.declared.lines.Line.TheVariants as says
use Rattle.cics_script.specs.declared.faults.LineFault.{LineFault}
use Rattle.cics_run.specs.Session.Running.{Played, next, stepped, start}
use Rattle.cics_run.specs.Stage.Stages as stages
use Rattle.cics_run.specs.declared.stage.stage.Fault.{Fault}
use Rattle.cics_run.specs.declared.stage.stage.Stage.{Stage}
use Rattle.cics_run.specs.declared.stage.stage.Stage.TheVariants.{Opening, Running}
use Rattle.cics_orders.specs.Plans.Defining.{defined_by}
use Rattle.cics_orders.specs.Plans.Taking.{Taken, NumberedLine, initial_taken, accepted, has_task, with_refused, attached, with_command, issued, timed, taken_more, taken_apart, behind}
use Rattle.cics_orders.specs.declared.plans.plans.ScriptFault.{ScriptFault}
use Rattle.cics_orders.specs.declared.plans.plans.TaskPlan.{TaskPlan}
use Rattle.cics_orders.specs.Report.Reporting.{as_fault}
use Rattle.cics_orders.specs.Report.PlainFaults.{HasFaultOf, FaultsAreThoseOfRuns}

-- the lines so far defined the same, or a line of another kind came
abbrev Stands : Taken → Stage → Type 0
Stands t (Opening o) = (t.is_opening ≡ true) × (t.opening ≡ o)
Stands t (Running r) = t.is_opening ≡ false

-- a line has the same fault in both, or the lines so far stand alike after it
abbrev Agree : Option ScriptFault → Taken → stages.Step → Type 0
Agree None t s = (s.fault ≡ None) × Stands t s.stage
Agree (Some f) t s = s.fault ≡ Some (as_fault f)

-- ---- Events have no fault

ran : (t : Taken) → t.is_opening ≡ false → (stage : Stage) (q : Request) → Agree None t (stages.requested stage q)
ran t is stage q = (refl, is)

on_attach : (t : Taken) (task : TaskPlan) (stage : Stage) → Agree None (attached t task) (stages.requested stage (request.Attach task.label task.transaction task.dtimout))
on_attach t task stage = ran (attached t task) (by (has_task t.plan.tasks task.label)) stage (request.Attach task.label task.transaction task.dtimout)
  where
    by : (b : Bool) →
        (if b then with_refused t task.attach.0 task.label DuplicateLabel
        else record t { is_opening = false; plan = record (t.plan) { tasks = t.plan.tasks ++ task ∷ [] } }).is_opening ≡ false
    by true = refl
    by false = refl

on_issue : (t : Taken) (l : NumberedLine) (stage : Stage) (label : Bytes) (command : Command) → Agree None (issued t l label) (stages.requested stage (request.Issue label command))
on_issue t l stage label command = ran (issued t l label) (by (has_task t.plan.tasks label)) stage (request.Issue label command)
  where
    by : (b : Bool) →
        (if b then record t { is_opening = false; plan = with_command t.plan l label }
        else with_refused t l.0 label NoTask).is_opening ≡ false
    by true = refl
    by false = refl

on_clock : (t : Taken) (l : NumberedLine) (stage : Stage) (q : Request) → Agree None (timed t l) (stages.requested stage q)
on_clock t l stage q = ran (timed t l) refl stage q

-- ---- A line more

-- a definition has the same fault, or is accepted alike
defines : (n : ℕ) (b : Bytes) (t : Taken) → t.is_opening ≡ true → (f : Option DefineFault) (o : OpeningState) →
    Agree (accepted t (n, b) f o).fault (accepted t (n, b) f o).taken (stages.defined t.opening f o)
defines n b t is None o = (refl, (is, refl))
defines n b t is (Some f) o = refl

module _ (n : ℕ) (b : Bytes) (t : Taken) where
  abbrev After : Bool → Stage → Result Line LineFault → Type 0
  After is stage r = let step = taken_more (record t { is_opening = is }) (n, b) r in Agree step.fault step.taken (stages.followed stage r)

  opening : (r : Result Line LineFault) → After true (Opening t.opening) r
  unfolding defined_by
  opening (Ok says.Blank) = (refl, (refl, refl))
  opening (Ok (says.DefineFile name d)) = defines n b (record t { is_opening = true }) refl (file_fault t.opening name d) (with_file t.opening name d)
  opening (Ok (says.DefineTsPrefix prefix)) =
      defines n b (record t { is_opening = true }) refl (fault_if (is_key_in prefix t.opening.prefixes)) (with_prefix t.opening prefix)
  opening (Ok (says.DefineTd name recovery)) =
      defines n b (record t { is_opening = true }) refl (fault_if (has_key name t.opening.queues)) (with_queue t.opening name recovery)
  opening (Ok (says.LoadFile name content)) =
      defines n b (record t { is_opening = true }) refl (load_fault (value_at name t.opening.files) content) (with_record t.opening name content)
  opening (Ok (says.LoadTd name content)) =
      defines n b (record t { is_opening = true }) refl (load_td_fault (value_at name t.opening.queues) content) (with_td_record t.opening name content)
  opening (Ok (says.Attach label transaction dtimout)) =
      on_attach (record t { is_opening = true }) (record { label = label; transaction = transaction; dtimout = dtimout; attach = (n, b); lines = [] })
      (Opening t.opening)
  opening (Ok (says.Clock seconds)) = on_clock (record t { is_opening = true }) (n, b) (Opening t.opening) (request.Clock seconds)
  opening (Ok (says.Issue label command)) = on_issue (record t { is_opening = true }) (n, b) (Opening t.opening) label command
  opening (Ok says.Shutdown) = on_clock (record t { is_opening = true }) (n, b) (Opening t.opening) request.Shutdown
  opening (Err f) = refl

  running : (x : RegionValue) (r : Result Line LineFault) → After false (Running x) r
  unfolding defined_by
  running x (Ok says.Blank) = (refl, refl)
  running x (Ok (says.DefineFile name d)) = refl
  running x (Ok (says.DefineTsPrefix prefix)) = refl
  running x (Ok (says.DefineTd name recovery)) = refl
  running x (Ok (says.LoadFile name content)) = refl
  running x (Ok (says.LoadTd name content)) = refl
  running x (Ok (says.Attach label transaction dtimout)) =
      on_attach (record t { is_opening = false }) (record { label = label; transaction = transaction; dtimout = dtimout; attach = (n, b); lines = [] }) (Running x)
  running x (Ok (says.Clock seconds)) = on_clock (record t { is_opening = false }) (n, b) (Running x) (request.Clock seconds)
  running x (Ok (says.Issue label command)) = on_issue (record t { is_opening = false }) (n, b) (Running x) label command
  running x (Ok says.Shutdown) = on_clock (record t { is_opening = false }) (n, b) (Running x) request.Shutdown
  running x (Err f) = refl

  one : (stage : Stage) → Stands t stage → (r : Result Line LineFault) → After t.is_opening stage r
  one (Opening o) (is, same) r = subst (λ o. After t.is_opening (Opening o) r) same (subst (λ b. After b (Opening t.opening) r) (sym is) (opening r))
  one (Running x) is r = subst (λ b. After b (Running x) r) (sym is) (running x r)

-- ---- Whole scripts

-- no line counts after a fault
pub stays : (lines : List Bytes) (p : Played) (f : Fault) → p.fault ≡ Some f → fold next p lines ≡ p
stays [] p f is = refl
stays (b ∷ lines) p f is =
    let same : next p b ≡ p = ap (λ g. if is_some g then p else stepped p b (stages.step p.stage b)) is in
    ap (λ q. fold next q lines) same ∙ stays lines p f is

-- the lines behind one that has no fault, and none behind one that has
behind_one : (lines : List Bytes) (p : Played) (b : Bytes) (s : stages.Step) (t : Taken) (f : Option ScriptFault) →
    ((u : Taken) (q : Played) → q.fault ≡ None → Stands u q.stage → HasFaultOf (fold next q lines) (taken_apart u (q.number + 1) lines)) → Agree f t s →
    HasFaultOf (fold next (stepped p b s) lines) (behind (p.number + 1) f t (λ now. taken_apart now (p.number + 1 + 1) lines))
behind_one lines p b s t None rest agree = rest t (stepped p b s) agree.0 agree.1
behind_one lines p b s t (Some f) rest agree =
    let same = stays lines (stepped p b s) (as_fault f) agree in
    (ap (λ q. q.number) same, ap (λ q. q.fault) same ∙ agree)

both : (lines : List Bytes) (t : Taken) (p : Played) → p.fault ≡ None → Stands t p.stage → HasFaultOf (fold next p lines) (taken_apart t (p.number + 1) lines)
unfolding taken_apart
both [] t p none stands = none
both (b ∷ lines) t p none stands =
    let s = stages.step p.stage b in
    let taken = taken_more t (p.number + 1, b) (line b) in
    let goes : next p b ≡ stepped p b s = ap (λ g. if is_some g then p else stepped p b s) none in
    subst (λ q. HasFaultOf (fold next q lines) (taken_apart t (p.number + 1) (b ∷ lines))) (sym goes)
    (behind_one lines p b s taken.taken taken.fault (both lines) (one (p.number + 1) b t p.stage stands (line b)))

pub faults_are_those : FaultsAreThoseOfRuns
faults_are_those lines = both lines initial_taken start refl (refl, refl)
