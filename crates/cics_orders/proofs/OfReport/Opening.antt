-- What a script is taken apart into: its definitions are accepted one by one, and each task has the
-- line that attaches it.
use Rattle.std.proofs.Common.{◌≡◌, ℕ, ◌+◌, Bool, true, false, List, [], ◌∷◌, ◌++◌, map, Option, None, Some, Result, Ok, Err, refl, ap, sym, ◌∙◌, subst}
use Rattle.std.proofs.lemmas.List.Sums.{fold-append}
use Rattle.std.proofs.lemmas.List.{map-append}
use Rattle.std.specs.Prelude.{if◌then◌else◌, is_some}
use Rattle.std.specs.List.{fold}
use Rattle.cics_names.specs.Keyed.{Bytes}
use Rattle.cics_history.specs.State.{OpeningState}
use Rattle.cics_history.specs.Openings.{initial_opening, with_file, with_record, with_prefix, with_queue, with_td_record}
use Rattle.cics_units.specs.declared.opening.opening.DefineFault.{DefineFault}
use Rattle.cics_dispatch.specs.Machine.Machine.{Machine}
use Rattle.cics_dispatch.specs.declared.machine.outcomes.Refused.TheVariants.{DuplicateLabel, NoTask}
use Rattle.cics_script.specs.Lines.{line}
use Rattle.cics_script.specs.declared.lines.Line.{Line}
use Rattle.cics_script.specs.declared.lines.Line.TheVariants as says
use Rattle.cics_script.specs.declared.faults.LineFault.{LineFault}
use Rattle.cics_script.specs.declared.faults.LineFault.TheVariants.{DefineTooLate}
use Rattle.cics_run.specs.Stage.Stages as stages
use Rattle.cics_run.specs.declared.stage.stage.Stage.TheVariants.{Opening}
use Rattle.cics_run.specs.Session.Running.{Played, next, stepped}
use Rattle.cics_orders.specs.Plans.Defining.{define_fault, defined_by}
use Rattle.cics_orders.specs.Plans.Taking.{Taken, NumberedLine, initial_taken, accepted, defined, faulty, is_task, has_task, with_line, line_added, with_command, with_refused, attached, issued, taken_more, behind, taken_apart, planned}
use Rattle.cics_orders.specs.declared.plans.plans.Plan.{Plan}
use Rattle.cics_orders.specs.declared.plans.plans.Planned.{Planned}
use Rattle.cics_orders.specs.declared.plans.plans.TaskPlan.{TaskPlan}
use Rattle.cics_orders.specs.declared.plans.plans.ScriptFault.{ScriptFault}
use Rattle.cics_orders.specs.declared.plans.plans.ScriptFault.TheVariants as fault
use Rattle.cics_orders.specs.Giving.{opened}
use Rattle.cics_orders.proofs.OfSearch.Regrouping.{Each}
use Rattle.cics_orders.proofs.OfSearch.Ways.{each_append}
use Rattle.cics_orders.specs.Report.Leads.{machine_of, AcceptsLine, AcceptsLines}

-- the bytes of lines that have numbers
abbrev pub bytes_of : List NumberedLine → List Bytes
bytes_of lines = map (λ next. next.1) lines

-- ---- One line more

-- a run that has no fault runs a line
pub goes : (p : Played) (b : Bytes) → p.fault ≡ None → next p b ≡ stepped p b (stages.step p.stage b)
goes p b none = ap (λ g. if is_some g then p else stepped p b (stages.step p.stage b)) none

-- a run with a line more
pub played_more : (q : Played) (lines : List Bytes) (b : Bytes) → fold next q (lines ++ b ∷ []) ≡ next (fold next q lines) b
played_more q lines b = fold-append next q lines (b ∷ [])

-- a run that accepts lines, and behind them a line more
pub accepts_more : (lines : List Bytes) (p : Played) (b : Bytes) → AcceptsLines p lines → AcceptsLine (machine_of (fold next p lines)) (line b) → AcceptsLines p (lines ++ b ∷ [])
accepts_more [] p b all one = (one, tt)
accepts_more (c ∷ lines) p b (first, all) one = (first, accepts_more lines (next p c) b all one)

-- ---- Definitions

-- the run of these lines defines this, and does nothing else
pub record Defines (q : Played) (o : OpeningState) (lines : List Bytes) : Type 0 where
  pub fault : (fold next q lines).fault ≡ None
  pub accepts : AcceptsLines q lines
  pub stage : (fold next q lines).stage ≡ Opening o

-- a definition is accepted by a run
abbrev IsTaken : OpeningState → Result Line LineFault → Type 0
IsTaken o r = stages.followed (Opening o) r ≡ stages.silent (Opening (defined_by o r))

-- a definition more
defines_more : (q : Played) (o : OpeningState) (lines : List Bytes) (b : Bytes) (r : Result Line LineFault) → line b ≡ r → Defines q o lines → ((m : Machine) → AcceptsLine m r) → IsTaken o r →
    Defines q (defined_by o r) (lines ++ b ∷ [])
defines_more q o lines b r is defines accepts taken = record {
  fault = ap (λ q. q.fault) more;
  accepts = accepts_more lines q b defines.accepts (subst (AcceptsLine (machine_of (fold next q lines))) (sym is) (accepts (machine_of (fold next q lines))));
  stage = ap (λ q. q.stage) more;
}
  where
    more : fold next q (lines ++ b ∷ []) ≡ stepped (fold next q lines) b (stages.silent (Opening (defined_by o r)))
    more =
        played_more q lines b ∙ goes (fold next q lines) b defines.fault
        ∙ ap (λ g. stepped (fold next q lines) b (stages.followed g (line b))) defines.stage
        ∙ ap (λ r. stepped (fold next q lines) b (stages.followed (Opening o) r)) is ∙ ap (stepped (fold next q lines) b) taken

-- ---- A line of a script

-- a task has the line that attaches it
abbrev pub IsAttached : TaskPlan → Type 0
IsAttached t = line t.attach.1 ≡ Ok (says.Attach t.label t.transaction t.dtimout)

-- the definitions of a plan define this, and its tasks have the lines that attach them
pub record Sound (q : Played) (o : OpeningState) (p : Plan) : Type 0 where
  pub opening : o ≡ opened p.definitions
  pub defines : Defines q o (bytes_of p.definitions)
  pub attaches : Each IsAttached p.tasks

each_added : (ts : List TaskPlan) (label : Bytes) (next : NumberedLine) → Each IsAttached ts → Each IsAttached (line_added ts label next)
each_added [] label next all = tt
each_added (t ∷ ts) label next (first, all) = by (each_added ts label next all) (is_task t label)
  where
    by : Each IsAttached (line_added ts label next) → (b : Bool) → Each IsAttached (if b then with_line t next ∷ ts else t ∷ line_added ts label next)
    by rest true = (first, all)
    by rest false = (first, rest)

module _ (q : Played) (t : Taken) (next : NumberedLine) (sound : Sound q t.opening t.plan) where
  abbrev IsSound : Taken → Type 0
  IsSound u = Sound q u.opening u.plan

  attach : (task : TaskPlan) → IsAttached task → IsSound (attached t task)
  attach task own = by (has_task t.plan.tasks task.label)
    where
      by : (b : Bool) →
          IsSound (if b then with_refused t task.attach.0 task.label DuplicateLabel else record t { is_opening = false; plan = record (t.plan) { tasks = t.plan.tasks ++ task ∷ [] } })
      by true = record { opening = sound.opening; defines = sound.defines; attaches = sound.attaches }
      by false = record { opening = sound.opening; defines = sound.defines; attaches = each_append IsAttached t.plan.tasks (task ∷ []) sound.attaches (own, tt) }

  issue : (label : Bytes) → IsSound (issued t next label)
  issue label = by (has_task t.plan.tasks label)
    where
      by : (b : Bool) →
          IsSound (if b then record t { is_opening = false; plan = with_command t.plan next label } else with_refused t next.0 label NoTask)
      by true = record { opening = sound.opening; defines = sound.defines; attaches = each_added t.plan.tasks label next sound.attaches }
      by false = record { opening = sound.opening; defines = sound.defines; attaches = sound.attaches }

  define : (d : Line) → line next.1 ≡ Ok d → ((m : Machine) → AcceptsLine m (Ok d)) → (define_fault t.opening d ≡ None → IsTaken t.opening (Ok d)) → IsSound (defined t next d).taken
  define d is accepts taken = by t.is_opening (define_fault t.opening d) refl
    where
      lines : List NumberedLine
      lines = t.plan.definitions

      opens : defined_by t.opening (Ok d) ≡ opened (lines ++ next ∷ [])
      opens =
          ap (λ o. defined_by o (Ok d)) sound.opening ∙ ap (defined_by (opened lines)) (sym is)
          ∙ sym (fold-append (λ o next. defined_by o (line next.1)) initial_opening lines (next ∷ []))

      more : define_fault t.opening d ≡ None → Defines q (defined_by t.opening (Ok d)) (bytes_of (lines ++ next ∷ []))
      more none =
          subst (Defines q (defined_by t.opening (Ok d))) (sym (map-append (λ (l : NumberedLine). l.1) lines (next ∷ [])))
          (defines_more q t.opening (bytes_of lines) next.1 (Ok d) is sound.defines accepts (taken none))

      by : (b : Bool) (f : Option DefineFault) → define_fault t.opening d ≡ f →
          IsSound (if b then accepted t next f (defined_by t.opening (Ok d)) else faulty t (fault.Line DefineTooLate)).taken
      by true None none = record { opening = opens; defines = more none; attaches = sound.attaches }
      by true (Some f) none = sound
      by false f none = sound

  more : (r : Result Line LineFault) → line next.1 ≡ r → IsSound (taken_more t next r).taken
  unfolding defined_by
  more (Ok says.Blank) is = sound
  more (Ok (says.Attach label transaction dtimout)) is =
      attach (record { label = label; transaction = transaction; dtimout = dtimout; attach = next; lines = [] }) is
  more (Ok (says.Issue label command)) is = issue label
  more (Ok (says.Clock seconds)) is = record { opening = sound.opening; defines = sound.defines; attaches = sound.attaches }
  more (Ok says.Shutdown) is = record { opening = sound.opening; defines = sound.defines; attaches = sound.attaches }
  more (Ok (says.DefineFile name d)) is =
      define (says.DefineFile name d) is (λ m. tt) (λ none. ap (λ f. stages.defined t.opening f (with_file t.opening name d)) none)
  more (Ok (says.DefineTsPrefix prefix)) is =
      define (says.DefineTsPrefix prefix) is (λ m. tt) (λ none. ap (λ f. stages.defined t.opening f (with_prefix t.opening prefix)) none)
  more (Ok (says.DefineTd name recovery)) is =
      define (says.DefineTd name recovery) is (λ m. tt) (λ none. ap (λ f. stages.defined t.opening f (with_queue t.opening name recovery)) none)
  more (Ok (says.LoadFile name content)) is =
      define (says.LoadFile name content) is (λ m. tt) (λ none. ap (λ f. stages.defined t.opening f (with_record t.opening name content)) none)
  more (Ok (says.LoadTd name content)) is =
      define (says.LoadTd name content) is (λ m. tt) (λ none. ap (λ f. stages.defined t.opening f (with_td_record t.opening name content)) none)
  more (Err f) is = sound

-- ---- A whole script

apart_sound : (q : Played) (t : Taken) (n : ℕ) (lines : List Bytes) (u : Taken) → Sound q t.opening t.plan → taken_apart t n lines ≡ Ok u → Sound q u.opening u.plan
unfolding taken_apart
apart_sound q t n [] u sound is = let same : t ≡ u = cc in subst (λ (v : Taken). Sound q v.opening v.plan) same sound
apart_sound q t n (bytes ∷ rest) u sound is =
    by (λ v. apart_sound q v (n + 1) rest u) (taken_more t (n, bytes) (line bytes)).fault (taken_more t (n, bytes) (line bytes)).taken (more q t (n, bytes) sound (line bytes) refl) is
  where
    by : ((v : Taken) → Sound q v.opening v.plan → taken_apart v (n + 1) rest ≡ Ok u → Sound q u.opening u.plan) → (f : Option ScriptFault) (v : Taken) → Sound q v.opening v.plan →
        behind n f v (λ now. taken_apart now (n + 1) rest) ≡ Ok u → Sound q u.opening u.plan
    by more None v sound is = more v sound is
    by more (Some f) v sound is = cc

-- what a script defines opens its region, and its tasks are attached
pub planned_sound : (q : Played) → q.fault ≡ None → q.stage ≡ stages.initial_stage → (lines : List Bytes) (p : Planned) → planned (taken_apart initial_taken 1 lines) ≡ Ok p → Sound q (opened p.plan.definitions) p.plan
planned_sound q none at lines p = by (taken_apart initial_taken 1 lines) refl
  where
    first : Sound q initial_opening initial_taken.plan
    first = record { opening = refl; defines = record { fault = none; accepts = tt; stage = at }; attaches = tt }

    by : (r : Result Taken (ℕ × ScriptFault)) → taken_apart initial_taken 1 lines ≡ r → planned r ≡ Ok p → Sound q (opened p.plan.definitions) p.plan
    by (Err f) apart is = cc
    by (Ok u) apart is =
        let same : record { plan = u.plan; refused = u.refused } ≡ p = cc in
        let sound = apart_sound q initial_taken 1 lines u first apart in
        subst (λ (p : Planned). Sound q (opened p.plan.definitions) p.plan) same (subst (λ o. Sound q o u.plan) sound.opening sound)
