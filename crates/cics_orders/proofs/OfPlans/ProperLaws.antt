-- A script is taken apart into a proper plan: no two tasks have the same label, and each lane has
-- lines of its own.
use Rattle.std.proofs.Common.{◌≡◌, ℕ, suc, ◌+◌, Bool, true, false, not, ◌&&◌, List, [], ◌∷◌, ◌++◌, Option, None, Some, option_map, is_some, Result, Ok, Err, refl, ap, sym, ◌∙◌, subst}
use Rattle.std.proofs.lemmas.Bool.{and_parts}
use Rattle.std.proofs.lemmas.List.Folds.{list_all-append}
use Rattle.std.specs.Prelude.{if◌then◌else◌}
use Rattle.std.specs.List.{list_all}
use Rattle.cics_names.specs.Keyed.{Bytes, is_same}
use Rattle.cics_names.specs.KeyedLaws.{is_same-self, is_same-eq}
use Rattle.cics_units.specs.declared.opening.opening.DefineFault.{DefineFault}
use Rattle.cics_dispatch.specs.declared.machine.outcomes.Refused.TheVariants as refused
use Rattle.cics_script.specs.Lines.{line}
use Rattle.cics_script.specs.declared.lines.Line.{Line}
use Rattle.cics_script.specs.declared.lines.Line.TheVariants as says
use Rattle.cics_script.specs.declared.faults.LineFault.{LineFault}
use Rattle.cics_script.specs.declared.faults.LineFault.TheVariants.{DefineTooLate}
use Rattle.cics_orders.specs.Plans.Firsts.{first_index}
use Rattle.cics_orders.specs.Plans.Defining.{define_fault, defined_by}
use Rattle.cics_orders.specs.Plans.Taking.{NumberedLine, Taken, initial_taken, accepted, defined, faulty, is_task, has_task, with_line, line_added, with_command, with_refused, attached, issued, timed, taken_more, behind, taken_apart, planned}
use Rattle.cics_orders.specs.Plans.Proper.{is_command_of, is_timing, has_own_lines, are_distinct, is_proper}
use Rattle.cics_orders.specs.declared.plans.plans.TaskPlan.{TaskPlan}
use Rattle.cics_orders.specs.declared.plans.plans.Plan.{Plan}
use Rattle.cics_orders.specs.declared.plans.plans.Planned.{Planned}
use Rattle.cics_orders.specs.declared.plans.plans.ScriptFault.{ScriptFault}
use Rattle.cics_orders.specs.declared.plans.plans.ScriptFault.TheVariants as fault

-- ---- Both

both : (a b : Bool) → a ≡ true → b ≡ true → a && b ≡ true
both a b p q = λ i. p i && q i

-- what is_proper says, each for itself
pub record Proper (p : Plan) : Type 0 where
  pub distinct : are_distinct p.tasks ≡ true
  pub own : list_all has_own_lines p.tasks ≡ true
  pub clock : list_all (λ next. is_timing (line next.1)) p.clock ≡ true

pub proper_parts : (p : Plan) → is_proper p ≡ true → Proper p
proper_parts p is =
    let outer = and_parts (are_distinct p.tasks && list_all has_own_lines p.tasks) (list_all (λ next. is_timing (line next.1)) p.clock) is in
    let inner = and_parts (are_distinct p.tasks) (list_all has_own_lines p.tasks) outer.0 in
    record { distinct = inner.0; own = inner.1; clock = outer.1 }

proper_whole : (p : Plan) → Proper p → is_proper p ≡ true
proper_whole p proper =
    both (are_distinct p.tasks && list_all has_own_lines p.tasks) (list_all (λ next. is_timing (line next.1)) p.clock)
    (both (are_distinct p.tasks) (list_all has_own_lines p.tasks) proper.distinct proper.own) proper.clock

-- ---- Lists

all_more : {X : Type 0} (test : X → Bool) (xs : List X) (x : X) → list_all test xs ≡ true → test x ≡ true → list_all test (xs ++ x ∷ []) ≡ true
all_more test xs x all one = list_all-append test xs (x ∷ []) ∙ (λ i. all i && (one i && true))

-- ---- Labels

here_or : (b : Bool) (o : Option ℕ) → is_some (if b then Some 0 else option_map suc o) ≡ (if b then true else is_some o)
here_or true o = refl
here_or false None = refl
here_or false (Some n) = refl

-- the first task has the label, or one behind it
pub has_first : (t : TaskPlan) (ts : List TaskPlan) (label : Bytes) → has_task (t ∷ ts) label ≡ (if is_same t.label label then true else has_task ts label)
has_first t ts label = here_or (is_same t.label label) (first_index (λ task. is_task task label) ts)

-- the label of an other task
other_way : (a b : Bytes) → is_same a b ≡ false → is_same b a ≡ false
other_way a b other = by (is_same b a) refl
  where
    by : (c : Bool) → is_same b a ≡ c → is_same b a ≡ false
    by false is = is
    by true is = let clash : true ≡ false = sym (is_same-self a) ∙ ap (is_same a) (sym (is_same-eq b a is)) ∙ other in cc

has_more : (ts : List TaskPlan) (u : TaskPlan) (label : Bytes) → has_task ts label ≡ false → is_same u.label label ≡ false → has_task (ts ++ u ∷ []) label ≡ false
has_more [] u label none other = has_first u [] label ∙ ap (λ b. if b then true else false) other
has_more (t ∷ ts) u label none other = by (λ none. has_more ts u label none other) (is_same t.label label) refl (sym (has_first t ts label) ∙ none)
  where
    by : (has_task ts label ≡ false → has_task (ts ++ u ∷ []) label ≡ false) → (b : Bool) → is_same t.label label ≡ b → (if b then true else has_task ts label) ≡ false →
        has_task (t ∷ (ts ++ u ∷ [])) label ≡ false
    by rest true is none = cc
    by rest false is none = has_first t (ts ++ u ∷ []) label ∙ ap (λ b. if b then true else has_task (ts ++ u ∷ []) label) is ∙ rest none

distinct_more : (ts : List TaskPlan) (u : TaskPlan) → are_distinct ts ≡ true → has_task ts u.label ≡ false → are_distinct (ts ++ u ∷ []) ≡ true
distinct_more [] u distinct none = refl
distinct_more (t ∷ ts) u distinct none = by (distinct_more ts u) (is_same t.label u.label) refl (sym (has_first t ts u.label) ∙ none)
  where
    split : (not (has_task ts t.label) ≡ true) × (are_distinct ts ≡ true)
    split = and_parts (not (has_task ts t.label)) (are_distinct ts) distinct

    off : (b : Bool) → not b ≡ true → b ≡ false
    off true is = cc
    off false is = refl

    by : (are_distinct ts ≡ true → has_task ts u.label ≡ false → are_distinct (ts ++ u ∷ []) ≡ true) → (b : Bool) → is_same t.label u.label ≡ b →
        (if b then true else has_task ts u.label) ≡ false → are_distinct (t ∷ (ts ++ u ∷ [])) ≡ true
    by rest true is none = cc
    by rest false is none =
        both (not (has_task (ts ++ u ∷ []) t.label)) (are_distinct (ts ++ u ∷ []))
        (ap not (has_more ts u t.label (off (has_task ts t.label) split.0) (other_way t.label u.label is))) (rest split.1 none)

-- ---- A line more

has_added : (ts : List TaskPlan) (label : Bytes) (next : NumberedLine) (l : Bytes) → has_task (line_added ts label next) l ≡ has_task ts l
has_added [] label next l = refl
has_added (t ∷ ts) label next l = by (has_added ts label next l) (is_task t label)
  where
    by : has_task (line_added ts label next) l ≡ has_task ts l → (b : Bool) → has_task (if b then with_line t next ∷ ts else t ∷ line_added ts label next) l ≡ has_task (t ∷ ts) l
    by rest true = refl
    by rest false = has_first t (line_added ts label next) l ∙ ap (λ o. if is_same t.label l then true else o) rest ∙ sym (has_first t ts l)

distinct_added : (ts : List TaskPlan) (label : Bytes) (next : NumberedLine) → are_distinct (line_added ts label next) ≡ are_distinct ts
distinct_added [] label next = refl
distinct_added (t ∷ ts) label next = by (distinct_added ts label next) (is_task t label)
  where
    by : are_distinct (line_added ts label next) ≡ are_distinct ts → (b : Bool) → are_distinct (if b then with_line t next ∷ ts else t ∷ line_added ts label next) ≡ are_distinct (t ∷ ts)
    by rest true = refl
    by rest false = ap (λ b. not b && are_distinct (line_added ts label next)) (has_added ts label next t.label) ∙ ap (λ b. not (has_task ts t.label) && b) rest

own_added : (ts : List TaskPlan) (label : Bytes) (next : NumberedLine) → is_command_of label (line next.1) ≡ true → list_all has_own_lines ts ≡ true →
    list_all has_own_lines (line_added ts label next) ≡ true
own_added [] label next one all = refl
own_added (t ∷ ts) label next one all = by (own_added ts label next one (and_parts (has_own_lines t) (list_all has_own_lines ts) all).1) (is_task t label) refl
  where
    split : (has_own_lines t ≡ true) × (list_all has_own_lines ts ≡ true)
    split = and_parts (has_own_lines t) (list_all has_own_lines ts) all

    by : list_all has_own_lines (line_added ts label next) ≡ true → (b : Bool) → is_task t label ≡ b →
        list_all has_own_lines (if b then with_line t next ∷ ts else t ∷ line_added ts label next) ≡ true
    by rest true is =
        both (has_own_lines (with_line t next)) (list_all has_own_lines ts)
        (all_more (λ n. is_command_of t.label (line n.1)) t.lines next split.0 (ap (λ l. is_command_of l (line next.1)) (is_same-eq t.label label is) ∙ one)) split.1
    by rest false is = both (has_own_lines t) (list_all has_own_lines (line_added ts label next)) split.0 rest

-- ---- A line of a script

module _ (t : Taken) (next : NumberedLine) (proper : Proper t.plan) where
  attach : (task : TaskPlan) → has_own_lines task ≡ true → Proper (attached t task).plan
  attach task own = by (has_task t.plan.tasks task.label) refl
    where
      by : (b : Bool) → has_task t.plan.tasks task.label ≡ b →
          Proper (if b then with_refused t task.attach.0 task.label refused.DuplicateLabel else record t { is_opening = false; plan = record (t.plan) { tasks = t.plan.tasks ++ task ∷ [] } }).plan
      by true is = record { distinct = proper.distinct; own = proper.own; clock = proper.clock }
      by false is = record {
        distinct = distinct_more t.plan.tasks task proper.distinct is;
        own = all_more has_own_lines t.plan.tasks task proper.own own;
        clock = proper.clock;
      }

  issue : (label : Bytes) → is_command_of label (line next.1) ≡ true → Proper (issued t next label).plan
  issue label one = by (has_task t.plan.tasks label)
    where
      by : (b : Bool) → Proper (if b then record t { is_opening = false; plan = with_command t.plan next label } else with_refused t next.0 label refused.NoTask).plan
      by true = record {
        distinct = distinct_added t.plan.tasks label next ∙ proper.distinct;
        own = own_added t.plan.tasks label next one proper.own;
        clock = proper.clock;
      }
      by false = record { distinct = proper.distinct; own = proper.own; clock = proper.clock }

  time : is_timing (line next.1) ≡ true → Proper (timed t next).plan
  time one = record { distinct = proper.distinct; own = proper.own; clock = all_more (λ n. is_timing (line n.1)) t.plan.clock next proper.clock one }

  define : (definition : Line) → Proper (defined t next definition).taken.plan
  define definition = by t.is_opening (define_fault t.opening definition)
    where
      same : Proper (record (t.plan) { definitions = t.plan.definitions ++ next ∷ [] })
      same = record { distinct = proper.distinct; own = proper.own; clock = proper.clock }

      by : (b : Bool) (f : Option DefineFault) →
          Proper (if b then accepted t next f (defined_by t.opening (Ok definition)) else faulty t (fault.Line DefineTooLate)).taken.plan
      by true None = same
      by true (Some f) = proper
      by false f = proper

  more : (r : Result Line LineFault) → line next.1 ≡ r → Proper (taken_more t next r).taken.plan
  more (Ok says.Blank) is = proper
  more (Ok (says.Attach label transaction dtimout)) is = attach (record { label = label; transaction = transaction; dtimout = dtimout; attach = next; lines = [] }) refl
  more (Ok (says.Issue label command)) is = issue label (ap (is_command_of label) is ∙ is_same-self label)
  more (Ok (says.Clock seconds)) is = time (ap is_timing is)
  more (Ok says.Shutdown) is = time (ap is_timing is)
  more (Ok (says.DefineFile name d)) is = define (says.DefineFile name d)
  more (Ok (says.DefineTsPrefix prefix)) is = define (says.DefineTsPrefix prefix)
  more (Ok (says.DefineTd name recovery)) is = define (says.DefineTd name recovery)
  more (Ok (says.LoadFile name content)) is = define (says.LoadFile name content)
  more (Ok (says.LoadTd name content)) is = define (says.LoadTd name content)
  more (Err f) is = proper

-- ---- A whole script

apart_proper : (t : Taken) (n : ℕ) (lines : List Bytes) (u : Taken) → Proper t.plan → taken_apart t n lines ≡ Ok u → Proper u.plan
unfolding taken_apart
apart_proper t n [] u proper is = let same : t ≡ u = cc in subst (λ (v : Taken). Proper v.plan) same proper
apart_proper t n (bytes ∷ rest) u proper is =
    by (λ v. apart_proper v (n + 1) rest u) (taken_more t (n, bytes) (line bytes)).fault (taken_more t (n, bytes) (line bytes)).taken (more t (n, bytes) proper (line bytes) refl) is
  where
    by : ((v : Taken) → Proper v.plan → taken_apart v (n + 1) rest ≡ Ok u → Proper u.plan) → (f : Option ScriptFault) (v : Taken) → Proper v.plan →
        behind n f v (λ now. taken_apart now (n + 1) rest) ≡ Ok u → Proper u.plan
    by more None v proper is = more v proper is
    by more (Some f) v proper is = cc

-- a script is taken apart into a proper plan
pub planned_proper : (lines : List Bytes) (p : Planned) → planned (taken_apart initial_taken 1 lines) ≡ Ok p → is_proper p.plan ≡ true
planned_proper lines p = by (taken_apart initial_taken 1 lines) refl
  where
    by : (r : Result Taken (ℕ × ScriptFault)) → taken_apart initial_taken 1 lines ≡ r → planned r ≡ Ok p → is_proper p.plan ≡ true
    by (Err f) at is = cc
    by (Ok u) at is =
        let same : record { plan = u.plan; refused = u.refused } ≡ p = cc in
        ap (λ (p : Planned). is_proper p.plan) (sym same)
        ∙ proper_whole u.plan (apart_proper initial_taken 1 lines u (record { distinct = refl; own = refl; clock = refl }) at)
