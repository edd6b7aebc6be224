-- After every order a command of a task that is ready is not refused.
use Rattle.std.proofs.Common.{◌≡◌, ◌⊎◌, inl, inr, ℕ, Bool, true, false, not, ◌||◌, List, [], ◌∷◌, ◌++◌, map, Option, None, Some, Result, Ok, Err, refl, ap, sym, ◌∙◌, subst}
use Rattle.std.proofs.lemmas.Bool.{true≢false, and_parts, not-true}
use Rattle.std.specs.Prelude.{if◌then◌else◌, is_none, is_some}
use Rattle.std.specs.List.{fold}
use Rattle.cics_names.specs.Keyed.{Bytes, is_same}
use Rattle.cics_names.specs.KeyedLaws.{is_same-self, is_same-eq}
use Rattle.cics_names.specs.declared.commands.Command.{Command}
use Rattle.cics_history.specs.declared.ops.UnitState.TheVariants.{BackedOut}
use Rattle.cics_dispatch.specs.Machine.Machine.{Machine, Task, task_at, replaced, is_waiting, with_waiting, unit_closed, initial_region}
use Rattle.cics_dispatch.specs.Machine.Blockers.{waiting_command}
use Rattle.cics_dispatch.specs.Machine.Checks.{fault_of}
use Rattle.cics_dispatch.specs.Machine.Events.{Happened, happened, issued_event, played, turn, ended, task_ended}
use Rattle.cics_dispatch.specs.Machine.Shutdown.{all_ended, shut_down}
use Rattle.cics_dispatch.specs.Machine.Steps.{Stepped, new_task, attach_refusal, with_new_task, refused_or, issued_by}
use Rattle.cics_dispatch.specs.Machine.Waking.{first_free, woken_first, first_late, expired_task, IsAtRest}
use Rattle.cics_dispatch.specs.declared.machine.events.Request.{Request}
use Rattle.cics_dispatch.specs.declared.machine.events.Request.TheVariants as request
use Rattle.cics_dispatch.specs.declared.machine.events.Subject.TheVariants as subject
use Rattle.cics_dispatch.specs.declared.machine.events.Event.{Event}
use Rattle.cics_dispatch.specs.declared.machine.events.Event.TheVariants as event
use Rattle.cics_dispatch.specs.declared.machine.outcomes.Outcome.{Outcome}
use Rattle.cics_dispatch.specs.declared.machine.outcomes.Refused.{Refused}
use Rattle.cics_dispatch.specs.declared.machine.outcomes.Refused.TheVariants.{RegionDown, TaskEnded, TaskWaiting, DuplicateLabel}
use Rattle.cics_dispatch.proofs.OfMachine.Draining.{rest_has_none}
use Rattle.cics_dispatch.proofs.OfMachine.TaskPlaces.{place_of_task}
use Rattle.cics_script.specs.Lines.{line}
use Rattle.cics_script.specs.declared.lines.Line.{Line}
use Rattle.cics_script.specs.declared.lines.Line.TheVariants as says
use Rattle.cics_script.specs.declared.faults.LineFault.{LineFault}
use Rattle.cics_orders.specs.Space.Orders.{Order, after}
use Rattle.cics_orders.specs.Plans.Taking.{NumberedLine}
use Rattle.cics_orders.specs.declared.plans.plans.Plan.{Plan}
use Rattle.cics_orders.specs.declared.plans.plans.TaskPlan.{TaskPlan}
use Rattle.cics_orders.specs.Accepts.{has_lane, IsNotRefused, AcceptsReady}
use Rattle.cics_orders.specs.Giving.{State, is_of, asked, after_asked, counted, given, lanes, opened, with_task, frame, task_lane, initial_lane, initial_lanes, initial_machine, initial_state}
use Rattle.cics_orders.specs.declared.lanes.Lane.{Lane}
use Rattle.cics_orders.proofs.CommandSteps.{IsKept, Waits, checked_keeps, woken_keeps, expired_keeps}
use Rattle.cics_orders.proofs.EventCases.{step_of, issue_cases, clock_cases, shutdown_cases, attach_cases, turn_cases, happening_keeps}
use Rattle.cics_orders.proofs.Gists.{Gave, gave}
use Rattle.cics_orders.proofs.GivenLanes.{frames_initial, frames_along}
use Rattle.cics_orders.proofs.Ways.{none_waits}

-- ---- Tasks in their places

-- a task of this label is there
abbrev is_there : List Task → Bytes → Bool
is_there ts label = is_some (task_at ts label)

-- to put a task in its place takes none away
there_put : (ts : List Task) (u : Task) (x : Bytes) → is_there (replaced ts u) x ≡ is_there ts x
there_put [] u x = refl
there_put (t ∷ ts) u x = by (there_put ts u x) (is_same t.label u.label) refl
  where
    behind : is_there (replaced ts u) x ≡ is_there ts x → (c : Bool) → is_some (if c then Some t else task_at (replaced ts u) x) ≡ is_some (if c then Some t else task_at ts x)
    behind rest true = refl
    behind rest false = rest

    here : (c : Bool) → is_some (if c then Some u else task_at ts x) ≡ is_some (if c then Some t else task_at ts x)
    here true = refl
    here false = refl

    by : is_there (replaced ts u) x ≡ is_there ts x → (b : Bool) → is_same t.label u.label ≡ b → is_there (if b then u ∷ ts else t ∷ replaced ts u) x ≡ is_there (t ∷ ts) x
    by rest true own = ap (λ l. is_some (if is_same l x then Some u else task_at ts x)) (sym (is_same-eq t.label u.label own)) ∙ here (is_same t.label x)
    by rest false other = behind rest (is_same t.label x)

-- an ended task in its place leaves ended what was
ended_stays : (ts : List Task) (u : Task) (x : Bytes) → u.has_ended ≡ true → ended (task_at ts x) ≡ true → ended (task_at (replaced ts u) x) ≡ true
ended_stays [] u x over is = is
ended_stays (t ∷ ts) u x over is = by (ended_stays ts u x over) (is_same t.label u.label) (is_same t.label x) (is_same u.label x) refl refl refl is
  where
    by : (ended (task_at ts x) ≡ true → ended (task_at (replaced ts u) x) ≡ true) → (b c d : Bool) → is_same t.label u.label ≡ b → is_same t.label x ≡ c → is_same u.label x ≡ d →
        ended (if c then Some t else task_at ts x) ≡ true → ended (task_at (if b then u ∷ ts else t ∷ replaced ts u) x) ≡ true
    by rest true c true own at one is = ap (λ d. ended (if d then Some u else task_at ts x)) one ∙ over
    by rest true true false own at one is =
        let clash : true ≡ false = sym at ∙ ap (λ l. is_same l x) (is_same-eq t.label u.label own) ∙ one in cc
    by rest true false false own at one is = ap (λ d. ended (if d then Some u else task_at ts x)) one ∙ is
    by rest false true d own at one is = ap (λ c. ended (if c then Some t else task_at (replaced ts u) x)) at ∙ is
    by rest false false d own at one is = ap (λ c. ended (if c then Some t else task_at (replaced ts u) x)) at ∙ rest is

-- its own label's task is one
ended_put : (ts : List Task) (u : Task) → u.has_ended ≡ true → is_there ts u.label ≡ true → ended (task_at (replaced ts u) u.label) ≡ true
ended_put [] u over there = cc
ended_put (t ∷ ts) u over there = by (ended_put ts u over) (is_same t.label u.label) refl there
  where
    by : (is_there ts u.label ≡ true → ended (task_at (replaced ts u) u.label) ≡ true) → (b : Bool) → is_same t.label u.label ≡ b →
        is_some (if b then Some t else task_at ts u.label) ≡ true → ended (task_at (if b then u ∷ ts else t ∷ replaced ts u) u.label) ≡ true
    by rest true own there = ap (λ c. ended (if c then Some u else task_at ts u.label)) (is_same-self u.label) ∙ over
    by rest false other there = ap (λ c. ended (if c then Some t else task_at (replaced ts u) u.label)) other ∙ rest there

-- ---- The shutdown

there_ended : (ts : List Task) (m : Machine) (x : Bytes) → is_there (all_ended m ts).tasks x ≡ is_there m.tasks x
there_ended [] m x = refl
there_ended (t ∷ ts) m x =
    there_ended ts (unit_closed m t BackedOut true) x ∙ there_put m.tasks (record t { unit = None; browses = []; has_ended = true }) x

waits_ended : (ts : List Task) (m : Machine) → (all_ended m ts).waiting ≡ m.waiting
waits_ended [] m = refl
waits_ended (t ∷ ts) m = waits_ended ts (unit_closed m t BackedOut true)

stays_over : (ts : List Task) (m : Machine) (x : Bytes) → ended (task_at m.tasks x) ≡ true → ended (task_at (all_ended m ts).tasks x) ≡ true
stays_over [] m x is = is
stays_over (t ∷ ts) m x is = stays_over ts (unit_closed m t BackedOut true) x (ended_stays m.tasks (record t { unit = None; browses = []; has_ended = true }) x refl is)

-- each of these tasks that is there ends
over_ended : (ts : List Task) (m : Machine) (x : Bytes) → is_there ts x ≡ true → is_there m.tasks x ≡ true → ended (task_at (all_ended m ts).tasks x) ≡ true
over_ended [] m x one there = cc
over_ended (t ∷ ts) m x one there = by (over_ended ts n x) (is_same t.label x) refl one
  where
    u : Task
    u = record t { unit = None; browses = []; has_ended = true }

    n : Machine
    n = unit_closed m t BackedOut true

    by : (is_there ts x ≡ true → is_there n.tasks x ≡ true → ended (task_at (all_ended n ts).tasks x) ≡ true) → (b : Bool) → is_same t.label x ≡ b →
        is_some (if b then Some t else task_at ts x) ≡ true → ended (task_at (all_ended n ts).tasks x) ≡ true
    by rest true own one =
        let same : t.label ≡ x = is_same-eq t.label x own in
        stays_over ts n x (subst (λ l. ended (task_at n.tasks l) ≡ true) same (ended_put m.tasks u refl (ap (is_there m.tasks) same ∙ there)))
    by rest false other one = rest one (there_put m.tasks u x ∙ there)

-- ---- What holds after every order

-- The tasks of these labels are there. Once the region is shut down they have ended, and no command
-- waits.
record Stands (has : Bytes → Bool) (m : Machine) : Type 0 where
  there : (x : Bytes) → is_there m.tasks x ≡ has x
  over : m.is_down ≡ true → (x : Bytes) → has x ≡ true → task_ended m x ≡ true
  idle : m.is_down ≡ true → m.waiting ≡ []

module _ (has : Bytes → Bool) where
  -- the same, of a region that is not shut down
  abbrev Up : Machine → Type 0
  Up m = (m.is_down ≡ false) × ((x : Bytes) → is_there m.tasks x ≡ has x)

  up_stands : (m : Machine) → Up m → Stands has m
  up_stands m (up, there) = record {
    there = there;
    over = λ down. absurd (true≢false (sym down ∙ up));
    idle = λ down. absurd (true≢false (sym down ∙ up));
  }

  up_kept : IsKept Up
  up_kept = record {
    units = λ m us same all. all;
    task = λ m t all. (all.0, λ x. there_put m.tasks t x ∙ all.1 x);
    ends = λ m label all. all;
  }

  waits : (label : Bytes) (c : Command) → Waits Up label c
  waits label c m w own command all = all

  -- a turn of a region that is up; one that is down has none
  turn_stands : (m : Machine) (t : Happened) → turn m ≡ Some t → Stands has m → Stands has t.machine
  turn_stands m t is stands = by m.is_down refl
    where
      at_rest : m.waiting ≡ [] → IsAtRest m
      at_rest none = (ap (λ ws. (woken_first m (first_free m ws)).outcome) none, ap (λ ws. (expired_task m (first_late m ws)).outcome) none)

      by : (b : Bool) → m.is_down ≡ b → Stands has t.machine
      by true down = let none : None ≡ Some t = sym (rest_has_none m (at_rest (stands.idle down))) ∙ is in cc
      by false up =
          up_stands t.machine
          (turn_cases Up m t (woken_keeps Up up_kept m (λ w t is at. waits t.label w.command) (up, stands.there)) (expired_keeps Up up_kept m (up, stands.there)) is)

  shut_stands : (m : Machine) → Stands has m → Stands has (shut_down m).machine
  shut_stands m stands = record {
    there = λ x. there_ended m.tasks (with_waiting m []) x ∙ stands.there x;
    over = λ down x one. let there = stands.there x ∙ one in over_ended m.tasks (with_waiting m []) x there there;
    idle = λ down. waits_ended m.tasks (with_waiting m []);
  }

  played_stands : (m : Machine) (r : Result Line LineFault) (q : Request) → asked r ≡ Some q → Stands has m → Stands has (played m q).machine
  played_stands m (Ok (says.Issue label c)) q is stands =
      let same : request.Issue label c ≡ q = cc in
      subst (λ q. Stands has (played m q).machine) same
      (issue_cases (Stands has) m stands label c
      (λ up t at alive awake. up_stands (step_of m t c).machine (checked_keeps Up up_kept m t c (waits t.label c) (up, stands.there) (fault_of m t c.verb))))
  played_stands m (Ok (says.Clock seconds)) q is stands =
      let same : request.Clock seconds ≡ q = cc in
      subst (λ q. Stands has (played m q).machine) same (clock_cases (Stands has) m stands seconds (record { there = stands.there; over = stands.over; idle = stands.idle }))
  played_stands m (Ok says.Shutdown) q is stands =
      let same : request.Shutdown ≡ q = cc in
      subst (λ q. Stands has (played m q).machine) same (shutdown_cases (Stands has) m stands (λ up. shut_stands m stands))
  played_stands m _ q is stands = cc

  asked_stands : (s : State) (r : Result Line LineFault) → Stands has s.machine → Stands has (after_asked s (asked r)).machine
  asked_stands s r stands = by (asked r) refl
    where
      by : (o : Option Request) → asked r ≡ o → Stands has (after_asked s o).machine
      by None is = stands
      by (Some q) is = happening_keeps (Stands has) turn_stands s.machine q (played_stands s.machine r q is stands)

  given_stands : (s : State) (l : ℕ) → Stands has s.machine → Stands has (given s l).machine
  given_stands s l stands = by (gave s l)
    where
      by : (given s l ≡ s) ⊎ ((x : Lane) × (next : NumberedLine) × Gave s l x next) → Stands has (given s l).machine
      by (inl same) = subst (λ (t : State). Stands has t.machine) (sym same) stands
      by (inr (x, next, gave)) = subst (λ (t : State). Stands has t.machine) (sym gave.is) (asked_stands (counted s l x) (line next.1) stands)

  after_stands : (s : State) (o : Order) → Stands has s.machine → Stands has (after lanes s o).machine
  after_stands s [] stands = stands
  after_stands s (l ∷ o) stands = after_stands (given s l) o (given_stands s l stands)

-- ---- The initial state

or_false : (b : Bool) → (b || false) ≡ b
or_false true = refl
or_false false = refl

or_or : (a b c : Bool) → ((a || b) || c) ≡ (a || (b || c))
or_or true b c = refl
or_or false b c = refl

-- a task is attached, or one of its label is there
attach_there : (m : Machine) (t : TaskPlan) (x : Bytes) → m.is_down ≡ false → is_there (with_task m t).tasks x ≡ (is_there m.tasks x || is_same t.label x)
unfolding with_task
attach_there m t x up = ap (λ b. is_there (left b (attach_refusal m t.label)).tasks x) up ∙ by (is_there m.tasks t.label) refl
  where
    left : Bool → Option Refused → Machine
    left down refusal =
        let r : Stepped (Result (Unit {0}) Refused)
        = if down then record { outcome = Err RegionDown; machine = m } else refused_or m refusal (record { outcome = tt; machine = with_new_task m t.label t.dtimout }) in
        (happened m (subject.Task t.label) (λ _. event.Attached t.label t.transaction) r.outcome r.machine).machine

    taken : is_there m.tasks t.label ≡ true → (c : Bool) → is_same t.label x ≡ c → (is_there m.tasks x || c) ≡ is_there m.tasks x
    taken there true own = let here : is_there m.tasks x ≡ true = ap (is_there m.tasks) (sym (is_same-eq t.label x own)) ∙ there in ap (λ b. b || true) here ∙ sym here
    taken there false other = or_false (is_there m.tasks x)

    more : (ts : List Task) → is_there (ts ++ new_task t.label t.dtimout ∷ []) x ≡ (is_there ts x || is_same t.label x)
    more [] = last (is_same t.label x)
      where
        last : (c : Bool) → is_some (if c then Some (new_task t.label t.dtimout) else None) ≡ c
        last true = refl
        last false = refl
    more (v ∷ ts) = behind (more ts) (is_same v.label x)
      where
        behind : is_there (ts ++ new_task t.label t.dtimout ∷ []) x ≡ (is_there ts x || is_same t.label x) → (c : Bool) →
            is_some (if c then Some v else task_at (ts ++ new_task t.label t.dtimout ∷ []) x) ≡ (is_some (if c then Some v else task_at ts x) || is_same t.label x)
        behind rest true = refl
        behind rest false = rest

    by : (b : Bool) → is_there m.tasks t.label ≡ b → is_there (left false (if b then Some DuplicateLabel else None)).tasks x ≡ (is_there m.tasks x || is_same t.label x)
    by true there = sym (taken there (is_same t.label x) refl) ∙ refl
    by false none = more m.tasks

attach_up : (m : Machine) (t : TaskPlan) → m.is_down ≡ false → (with_task m t).is_down ≡ false
attach_up m t up = attach_cases (λ n. n.is_down ≡ false) m up t up

attaches_up : (ts : List TaskPlan) (m : Machine) → m.is_down ≡ false → (fold with_task m ts).is_down ≡ false
attaches_up [] m up = up
attaches_up (t ∷ ts) m up = attaches_up ts (with_task m t) (attach_up m t up)

attaches_there : (clock : List NumberedLine) (ts : List TaskPlan) (m : Machine) (x : Bytes) → m.is_down ≡ false →
    is_there (fold with_task m ts).tasks x ≡ (is_there m.tasks x || has_lane (map task_lane ts ++ initial_lane None clock ∷ []) x)
attaches_there clock [] m x up = sym (or_false (is_there m.tasks x))
attaches_there clock (t ∷ ts) m x up =
    let rest = has_lane (map task_lane ts ++ initial_lane None clock ∷ []) x in
    attaches_there clock ts (with_task m t) x (attach_up m t up) ∙ ap (λ b. b || rest) (attach_there m t x up) ∙ or_or (is_there m.tasks x) (is_same t.label x) rest

initial_stands : (p : Plan) → Stands (has_lane (initial_lanes p)) (initial_machine p)
initial_stands p =
    up_stands (has_lane (initial_lanes p)) (initial_machine p)
    (attaches_up p.tasks (initial_region (opened p.definitions)) refl, λ x. attaches_there p.clock p.tasks (initial_region (opened p.definitions)) x refl)

-- ---- Whoever is ready is not refused

-- there is such a task
task_there : (o : Option Task) → is_some o ≡ true → (t : Task) × (o ≡ Some t)
task_there None is = cc
task_there (Some t) is = (t, refl)

module _ (m : Machine) (has : Bytes → Bool) (stands : Stands has m) (label : Bytes) (c : Command) (own : has label ≡ true) (lives : task_ended m label ≡ false)
    (awake : is_none (waiting_command m label) ≡ true) where
  found : (t : Task) × (task_at m.tasks label ≡ Some t)
  found = task_there (task_at m.tasks label) (stands.there label ∙ own)

  abbrev event_of : Stepped (Result Outcome Refused) → Event
  event_of r = (happened m (subject.Task label) (issued_event m label c) r.outcome r.machine).event

  unless : (t : Task) (b d : Bool) → b ≡ false → d ≡ false → IsNotRefused (event_of (refused_or m (if b then Some TaskEnded else if d then Some TaskWaiting else None) (step_of m t c)))
  unless t true d over wait = cc
  unless t false true over wait = cc
  unless t false false over wait = tt

  accepted : IsNotRefused (played m (request.Issue label c)).event
  accepted = by m.is_down refl
    where
      mine : found.0.label ≡ label
      mine = (place_of_task m.tasks label found.0 found.1).2

      by : (b : Bool) → m.is_down ≡ b → IsNotRefused (event_of (if b then record { outcome = Err RegionDown; machine = m } else issued_by m c (task_at m.tasks label)))
      by true down = absurd (true≢false (sym (stands.over down label own) ∙ lives))
      by false up =
          subst (λ o. IsNotRefused (event_of (issued_by m c o))) (sym found.1)
          (unless found.0 found.0.has_ended (is_waiting m.waiting found.0.label) (sym (ap ended found.1) ∙ lives) (ap (is_waiting m.waiting) mine ∙ none_waits m.waiting label awake))

lanes_frame : (xs : List Lane) (x : Bytes) → has_lane (map frame xs) x ≡ has_lane xs x
lanes_frame [] x = refl
lanes_frame (y ∷ ys) x = ap (λ b. is_of y x || b) (lanes_frame ys x)

-- after every order a command of a task that is ready is not refused
pub orders_accept : (p : Plan) (o : Order) → AcceptsReady (after lanes (initial_state p) o)
unfolding initial_state
orders_accept p o label c own ready =
    let s = after lanes (initial_state p) o in
    let split = and_parts (not (task_ended s.machine label)) (is_none (waiting_command s.machine label)) ready in
    accepted s.machine (has_lane (initial_lanes p)) (after_stands (has_lane (initial_lanes p)) (initial_state p) o (initial_stands p)) label c
    (ap (λ xs. has_lane xs label) (sym (frames_initial p) ∙ sym (frames_along (initial_state p) o)) ∙ lanes_frame s.lanes label ∙ own)
    (not-true (task_ended s.machine label) split.0) split.1
